use Rattle.std.proofs.Common.{take}
use Rattle.std.specs.List.{All}
use Rattle.side_wire.specs.Mount.{HasMountBodyForm}
use Rattle.nfs_engine.proofs.forms.mounts_are_formed.Given as goal

abbrev pub invariant-loop-mount : goal.invariant-loop-mount
invariant-loop-mount l = All HasMountBodyForm (take l.mount-index l.mounts)
