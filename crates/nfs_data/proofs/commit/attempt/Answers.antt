use Rattle.std.proofs.Common.{Ok, Err, refl, subst}
use Rattle.std.proofs.lemmas.Result.{err_from_is_err_and}
use Rattle.nfs_wire.specs.declared.calls.NfsCall.TheVariants as nfs
use Rattle.nfs_machine.specs.declared.calls.Call.TheVariants as calls
use Rattle.nfs_inodes.proofs.NamedHaltLemmas.{means-as, naming}
use Rattle.nfs_data.proofs.CommitLemmas.{Commits, commit-promised, refused-promised}
use Rattle.nfs_data.proofs.commit.attempt.Goals as goal
use Rattle.nfs_data.proofs.commit.attempt.Goals.{in-Ok, in-Err}

pub returns-in_err-known-clause-ends : goal.returns-in_err-known-clause-ends
returns-in_err-known-clause-ends c =
    let p = err_from_is_err_and c.from_residual.result c.from_residual.ensures.1 in
    rw (p.1, p.2)
    (naming c.args.draft (calls.Nfs (nfs.Commit c.args.arguments.now)) _ c.requires c.args.arguments.now.file _
    c.as_slice.ensures refl c.in_err-known.ensures.stops)

pub returns-clause-ends : goal.returns-clause-ends
returns-clause-ends c = elim c.match-branch-2.branch [
  | in-Ok w ↦ rw (c.answer.ensures.value, w.reply-is, w.wcc_of.ensures)
      (commit-promised c.args.draft c.args.arguments.now c.requires c.answer.ensures.held c.answer.ensures.given
      w.in-Ok.known w.committed.result (means-as c.args.draft c.args.arguments.now.file _ _ (Ok w.in-Ok.known)
      c.as_slice.ensures w.in-Ok.is c.in_ok-known.ensures.means)
      (subst (Commits w.in-Ok.known w.committed.result) w.ctx.ensures w.committed.ensures))
  | in-Err w ↦ rw (c.answer.ensures.value, w.reply-is, w.nothing_shown.ensures)
      (refused-promised c.args.draft c.args.arguments.now c.requires c.answer.ensures.held c.answer.ensures.given
      w.in-Err.status (means-as c.args.draft c.args.arguments.now.file _ _
      (Err w.in-Err.status) c.as_slice.ensures w.in-Err.is
      c.in_ok-known.ensures.means))
]
