use Rattle.std.proofs.Common.{Ok, Err, refl, ap}
use Rattle.std.proofs.lemmas.Result.{err_from_is_err_and}
use Rattle.nfs_wire.specs.declared.calls.NfsCall.TheVariants as nfs
use Rattle.nfs_machine.specs.declared.calls.Call.TheVariants as calls
use Rattle.nfs_objects.specs.declared.address.Addr.TheVariants as addresses
use Rattle.nfs_inodes.proofs.ReaderHaltLemmas.{known-ends, known-never_lacking}
use Rattle.nfs_inodes.proofs.NamedHaltLemmas.{means-as, naming, reading-exports}
use Rattle.nfs_data.proofs.AttributeStepLemmas.{access-tells, refused-promised, told-promised}
use Rattle.nfs_data.proofs.access.attempt.Goals as goal
use Rattle.nfs_data.proofs.access.attempt.Goals.{in-Ok+in_ok-rights-in-Ok, in-Err}

pub returns-in_err-known-clause-ends : goal.returns-in_err-known-clause-ends
returns-in_err-known-clause-ends c =
    let p = err_from_is_err_and c.from_residual.result c.from_residual.ensures.1 in
    rw (p.1, p.2)
    (naming c.args.draft (calls.Nfs (nfs.Access c.args.arguments.now)) _ c.requires c.args.arguments.now.object _
    c.as_slice.ensures refl c.in_err-known.ensures.stops)

pub rights_to-requires : goal.rights_to-requires
rights_to-requires c = λ s k w. (means-as c.args.draft _ _ _ (Ok c.in-Ok.known) c.as_slice.ensures c.in-Ok.is
    c.in_ok-known.ensures.means s k w).known

pub returns-in_err-rights-in-Ok-clause-ends : goal.returns-in_err-rights-in-Ok-clause-ends
returns-in_err-rights-in-Ok-clause-ends c =
    let p = err_from_is_err_and c.from_residual-in_err-rights-in-Ok.result
    c.from_residual-in_err-rights-in-Ok.ensures.1 in
    rw (p.1, p.2)
    (reading-exports c.args.draft (calls.Nfs (nfs.Access c.args.arguments.now)) _ c.requires
    c.in_err-rights-in-Ok.ensures.rights)

pub returns-in_err-rights-in-Ok-clause-only : goal.returns-in_err-rights-in-Ok-clause-only
returns-in_err-rights-in-Ok-clause-only c =
    let p = err_from_is_err_and c.from_residual-in_err-rights-in-Ok.result
    c.from_residual-in_err-rights-in-Ok.ensures.1 in
    λ nothing. rw (p.1, p.2)
    (known-never_lacking {A = Unit {0}} c.args.draft addresses.Exports (Err _) c.in_ok-known.ensures.reads.0
    c.in_err-rights-in-Ok.ensures.reads)

pub returns-in_err-rights-in-Ok-clause-at_once : goal.returns-in_err-rights-in-Ok-clause-at_once
returns-in_err-rights-in-Ok-clause-at_once c = λ nothing.
    absurd (known-ends {A = Unit {0}} c.args.draft addresses.Exports (Err _) c.in_ok-known.ensures.reads.0
    c.in_err-rights-in-Ok.ensures.reads)

pub returns-clause-ends : goal.returns-clause-ends
returns-clause-ends c = elim c.match-branch-2.branch [
  | in-Ok+in_ok-rights-in-Ok w ↦ rw (c.answer.ensures.value, w.reply-is)
      (told-promised (access-tells c.args.arguments.now) c.args.draft c.requires c.answer.ensures.held
      c.answer.ensures.given
      w.in-Ok.known _
      (means-as c.args.draft c.args.arguments.now.object _ _ (Ok w.in-Ok.known) c.as_slice.ensures w.in-Ok.is
      c.in_ok-known.ensures.means)
      (λ s k possible. ap (λ rights. Ok rights) (w.in_ok-rights-in-Ok.ensures.rights s k possible)))
  | in-Err w ↦ rw (c.answer.ensures.value, w.reply-is)
      (refused-promised (access-tells c.args.arguments.now) c.args.draft c.requires c.answer.ensures.held
      c.answer.ensures.given
      w.in-Err.status (means-as c.args.draft c.args.arguments.now.object _ _
      (Err w.in-Err.status) c.as_slice.ensures w.in-Err.is
      c.in_ok-known.ensures.means))
]
