use Rattle.std.proofs.Common.{List, arith, refl, subst}
use Rattle.std.proofs.lemmas.List.{take_all}
use Rattle.std.proofs.lemmas.List.Elements.{All-more}
use Rattle.std.specs.List.{All}
use Rattle.side_wire.specs.Mount.{HasMountBodyForm}
use Rattle.side_wire.specs.declared.mount.lists.MountBody.{MountBody}
use Rattle.nfs_engine.proofs.forms.mounts_are_formed.Goals as goal

pub loop-mount-preserved : goal.loop-mount-preserved
loop-mount-preserved c = All-more HasMountBodyForm c.args.mounts.now c.loop-mount.mount-index c.mount-item.result
    (omega arith) c.loop-mount.invariant
    (subst HasMountBodyForm c.mount-item.is (c.if-not-mount_body_is_formed.ensures.0 refl))

pub returns : goal.returns
returns c = λ yes. subst (λ (es : List MountBody). All HasMountBodyForm es)
    (take_all c.loop-mount.mount-index c.args.mounts.now (omega arith)) c.loop-mount.invariant
