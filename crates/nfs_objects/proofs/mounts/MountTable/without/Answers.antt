use Rattle.std.proofs.Common.{ap, filter, not, subst, sym, ◌∙◌}
use Rattle.std.proofs.lemmas.List.{append-nil}
use Rattle.nfs_objects.proofs.MountTableLemmas.{filter-distinct, filter-few, pieces-listed}
use Rattle.nfs_objects.proofs.mounts.MountTable.without.Goals as goal
use Rattle.nfs_objects.specs.Leaving.{leaves}
use Rattle.nfs_objects.specs.MountTables.{AreDistinct, AreListed, joined, listed}
use Rattle.side_wire.specs.declared.mount.lists.MountBody.{MountBody}

pub invariant_of-result : goal.invariant_of-result
invariant_of-result c =
    let keep = λ (m : MountBody). not (leaves c.args.leaving m) in
    let mounts = c.args.self.now in
    subst (AreListed c.in_ok-without.field-0 0) (sym c.new.ensures)
    (pieces-listed (filter keep mounts)
    (filter-few keep mounts c.in_ok-in_pieces.ensures.held.bounded)
    (filter-distinct keep mounts
    (subst AreDistinct c.in_ok-in_pieces.ensures.joined c.in_ok-in_pieces.ensures.held.distinct))
    c.in_ok-without.field-0 (c.in_ok-without.ensures ∙ ap (filter keep) c.in_ok-in_pieces.ensures.joined))

pub returns : goal.returns
returns c =
    let keep = λ (m : MountBody). not (leaves c.args.leaving m) in
    ap (listed c.in_ok-without.field-0 0) c.new.ensures ∙ append-nil (joined c.in_ok-without.field-0)
    ∙ c.in_ok-without.ensures ∙ ap (filter keep) c.in_ok-in_pieces.ensures.joined
