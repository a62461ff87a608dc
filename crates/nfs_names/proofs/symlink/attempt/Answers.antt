use Rattle.std.proofs.Common.{refl}
use Rattle.std.proofs.lemmas.Result.{err_from_is_err_and}
use Rattle.nfs_wire.specs.declared.calls.NfsCall.TheVariants as nfs
use Rattle.nfs_machine.specs.declared.calls.Call.TheVariants as calls
use Rattle.nfs_objects.proofs.KnowsLemmas.{names-added}
use Rattle.nfs_objects.specs.Calls.{added_at}
use Rattle.nfs_inodes.proofs.NamedHaltLemmas.{making}
use Rattle.nfs_names.proofs.CreationPromiseLemmas.{symlink-promised}
use Rattle.nfs_names.proofs.symlink.attempt.Goals as goal

pub returns-in_err-reply-clause-ends : goal.returns-in_err-reply-clause-ends
returns-in_err-reply-clause-ends c =
    let p = err_from_is_err_and c.from_residual.result c.from_residual.ensures.1 in
    rw (p.1, p.2)
    (making c.args.draft (calls.Nfs (nfs.Symlink c.args.arguments.now)) _ c.requires
    c.args.arguments.now.place.directory _ refl refl (added_at c.args.draft.view c.args.arguments.now.place)
    (names-added (nfs.Symlink c.args.arguments.now) c.args.draft.view) refl c.in_err-reply.ensures.answers)

pub returns-clause-ends : goal.returns-clause-ends
returns-clause-ends c =
    rw c.answer.ensures.value
    (symlink-promised c.args.draft c.make.new.draft c.in_ok-reply.reply c.answer.ensures.held c.answer.ensures.given
    c.args.arguments.now c.requires (rw (c.link_wanted-wanted.ensures, c.as_slice.ensures) at
    c.in_ok-reply.ensures.answers))
