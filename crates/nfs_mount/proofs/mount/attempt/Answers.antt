use Rattle.std.proofs.Common.{ap, ◌∙◌}
use Rattle.nfs_machine.specs.Shown.{handle_at}
use Rattle.nfs_machine.specs.State.{Socket}
use Rattle.nfs_inodes.specs.Known.{shell}
use Rattle.nfs_mount.proofs.MntLemmas.{mounted-promised, refused-promised}
use Rattle.nfs_mount.proofs.mount.attempt.Goals as goal

pub returns-in-Err-clause-ends : goal.returns-in-Err-clause-ends
returns-in-Err-clause-ends c =
    rw c.answer.ensures.value
    (refused-promised c.args.draft c.requires.none c.requires.quiet c.args.path.now c.in-Err.status
    (rw c.in-Err.is at c.in_ok-directory.ensures.found) c.answer.ensures.held c.answer.ensures.given)

pub returns-clause-ends : goal.returns-clause-ends
returns-clause-ends c =
    rw c.answer-2.ensures.value
    (mounted-promised c.args.draft c.requires.none c.requires.quiet c.args.path.now c.add_mount.new.draft
    c.in-Ok.directory
    c.in_ok-handle.handle (rw c.in-Ok.is at c.in_ok-directory.ensures.found) c.in_ok-add_mount.ensures
    (c.in_ok-handle.ensures ∙ ap (λ x. handle_at x c.in-Ok.directory.number (shell c.in-Ok.directory Socket))
    (c.ctx.ensures ∙ (c.in_ok-add_mount.ensures).turns.ctx)) c.answer-2.ensures.held c.answer-2.ensures.given)
