use Rattle.std.proofs.Common.{◌∙◌, ap, sym}
use Rattle.nfs_objects.specs.Stands.{lives_in}
use Rattle.nlm_daemon.proofs.AnsweredGrantLemmas.{dead-none, grant-copied, unlisted-none}
use Rattle.nlm_daemon.proofs.granting.pending_of.Goals as goal

pub returns-then-not-lives : goal.returns-then-not-lives
returns-then-not-lives c =
    dead-none c.args.exports.now c.args.number c.args.file.now
    (ap (lives_in c.args.exports.now) (sym c.export.ensures) ∙ sym c.if-not-lives.ensures)

pub returns-in_default : goal.returns-in_default
returns-in_default c =
    unlisted-none c.args.exports.now c.args.number c.args.file.now
    (rw (c.pending.ensures, c.file.ensures) at c.in_default.ensures.none)

pub returns : goal.returns
returns c =
    grant-copied c.args.exports.now c.args.number c.args.file.now _ _ _ c.in_ok-clone.ensures.cases
    c.in_ok-try_clone.ensures
    (ap (lives_in c.args.exports.now) (sym c.export.ensures) ∙ sym c.if-not-lives.ensures)
    (rw (c.pending.ensures, c.file.ensures) at c.in-Some.ensures.some)
