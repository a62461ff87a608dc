use Rattle.std.proofs.Common.{ap, ◌++◌, ◌∷◌, [], ◌∙◌}
use Rattle.nfs_objects.specs.declared.address.Addr.{Addr}
use Rattle.nfs_objects.specs.declared.modes.Mode.{Mode}
use Rattle.nfs_inodes.proofs.UsageTotalsLemmas.{unread-more, unread-next}
use Rattle.nfs_inodes.proofs.usage.unread.Goals as goal
use Rattle.nfs_inodes.proofs.usage.unread.Goals.{in-Some+in_ok-push, in_default}

pub loop-group-preserved : goal.loop-group-preserved
loop-group-preserved c = elim c.match-missing.branch [
  | in-Some+in_ok-push w ↦
      unread-more c.args.draft.now c.args.export c.loop-group.group c.loop-group.unread.items
      c.match-missing.unread.items c.loop-group.invariant w.in-Some.ensures.0
      (rw w.unread-is (w.in_ok-push.ensures.items
      ∙ ap (λ (a : Addr × Mode). c.loop-group.unread.items ++ a ∷ []) w.in-Some.ensures.1))
  | in_default w ↦
      rw w.unread-is
      (unread-next c.args.draft.now c.args.export c.loop-group.group c.loop-group.unread.items c.loop-group.invariant)
]
