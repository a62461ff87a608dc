use Rattle.std.proofs.Common.{◌≡◌, ◌==◌, ℕ, List, true, false, refl, sym, ap, subst, take, arith}
use Rattle.std.proofs.lemmas.Bool.Decides.{nat_tests}
use Rattle.std.proofs.lemmas.Result.{err_from_is_err_and}
use Rattle.nfs_wire.specs.declared.attributes.FileType.TheVariants as types
use Rattle.nfs_wire.specs.declared.calls.NfsCall.TheVariants as nfs
use Rattle.nfs_wire.specs.declared.calls.WriteArguments.{WriteArguments}
use Rattle.nfs_wire.specs.declared.replies.Written.{Written}
use Rattle.nfs_machine.specs.Data.{written}
use Rattle.nfs_machine.specs.DataSteps.{write_count}
use Rattle.nfs_machine.specs.Times.{time_of}
use Rattle.nfs_machine.specs.declared.calls.Call.TheVariants as calls
use Rattle.nfs_objects.proofs.KnowsLemmas.{stops-wider}
use Rattle.nfs_objects.specs.Asks.{IsThere}
use Rattle.nfs_objects.specs.Calls.{named_by}
use Rattle.nfs_objects.specs.Knows.{Turns}
use Rattle.nfs_objects.specs.Values.{DraftValue}
use Rattle.nfs_objects.specs.declared.address.Addr.TheVariants as addresses
use Rattle.nfs_inodes.proofs.UsageChangeLemmas.{usage-lives-first}
use Rattle.nfs_inodes.proofs.StandsLemmas.{known-lives}
use Rattle.nfs_inodes.specs.Blocks.{written_from}
use Rattle.nfs_inodes.specs.Kinds.{IsShown}
use Rattle.nfs_inodes.specs.Known.{HasNumber}
use Rattle.nfs_inodes.specs.Makes.{bytes_changed}
use Rattle.nfs_inodes.specs.declared.found.Known.{Known}
use Rattle.nfs_data.proofs.DataRangeLemmas.{write-covers}
use Rattle.nfs_data.proofs.WriteLemmas.{Checks, nothing-does, refused-does, written-does}
use Rattle.nfs_data.specs.Writes.{bytes_after}
use Rattle.nfs_inodes.proofs.ReaderHaltLemmas.{exports-stop-at}
use Rattle.nfs_data.proofs.write.store.Goals as goal
use Rattle.nfs_data.proofs.write.store.Goals.{then-answer-gt0+in_ok-write, else-answer-gt0}

-- what was written is what the call gave, to the file that its handle names
turned : (d new : DraftValue) (a : WriteArguments) (x y : Known) (more : List ℕ) → y ≡ x
    → more ≡ take (write_count a) a.«data»
    → Turns d new (bytes_changed (time_of d.ctx.moment) y.number (λ old. written old a.offset more))
    → Turns d new (bytes_changed (time_of d.ctx.moment) x.number (bytes_after a))
turned d new a x y more same is turns =
    subst (λ m. Turns d new (bytes_changed (time_of d.ctx.moment) x.number (λ old. written old a.offset m))) is
    (subst (λ (z : Known). Turns d new
    (bytes_changed (time_of d.ctx.moment) z.number (λ old. written old a.offset more))) same turns)

pub write-requires-clause-none : goal.write-requires-clause-none
write-requires-clause-none c = c.requires.begins.none

pub returns-in_err-exports : goal.returns-in_err-exports
returns-in_err-exports c =
    let p = err_from_is_err_and c.from_residual.result c.from_residual.ensures.1 in
    rw (p.1, p.2) (exports-stop-at c.args.draft.now
    (named_by (calls.Nfs (nfs.Write c.args.arguments.now)) c.args.draft.now.view) _ c.in_err-exports.ensures.exports)

pub returns-in_err-write : goal.returns-in_err-write
returns-in_err-write c =
    let p = err_from_is_err_and c.from_residual-in_err-write.result c.from_residual-in_err-write.ensures.1 in
    let d = c.args.draft.now in
    let a = c.args.arguments.now in
    let number = c.in-Ok.file.known.number in
    rw (p.1, p.2) (stops-wider d.modes (written_from d number a.offset)
    (named_by (calls.Nfs (nfs.Write a)) d.view) 0 d.view _
    (write-covers d a number
    (subst (λ (y : Known). HasNumber a.file y.number) (sym c.in-Ok.ensures.known) c.requires.number)
    (subst (λ (y : Known). IsThere d.view (addresses.Inode y.number)) (sym c.in-Ok.ensures.known)
    (known-lives d c.args.known.now c.requires.begins.none (λ s k w. (c.requires.names s k w).known)))
    (usage-lives-first d number c.requires.begins.none)) c.in_err-write.ensures)

pub returns-in-Err : goal.returns-in-Err
returns-in-Err c =
    let exports = c.in_ok-exports.field-0.now in
    refused-does c.args.draft.now c.args.arguments.now c.args.known.now c.requires.names exports
    c.in_ok-exports.ensures.exports c.writable.result
    (subst (Checks exports c.args.arguments.now c.args.known.now c.writable.result) c.ctx.ensures
    c.writable.ensures.checks) c.in-Err.status c.in-Err.is

pub returns : goal.returns
returns c =
    let d = c.args.draft.now in
    let a = c.args.arguments.now in
    let exports = c.in_ok-exports.field-0.now in
    let checks = subst (Checks exports a c.args.known.now c.writable.result) c.ctx.ensures c.writable.ensures.checks in
    let counts : c.answer_to-answer.result.count ≡ write_count a = ap (λ (x : Written). x.count)
    c.answer_to-answer.ensures in
    elim c.if-answer-gt0.branch [
      | then-answer-gt0+in_ok-write w ↦ rw (w.draft-is, c.answer_to-answer.ensures, c.ctx-2.ensures)
          (written-does d a c.args.known.now c.requires.names exports c.in_ok-exports.ensures.exports c.writable.result
          checks c.in-Ok.file c.in-Ok.is w.write.new.draft
          (subst (λ n. (n == 0) ≡ false) counts (let some = w.if-answer-gt0.true in grind (arith, nat_tests)))
          (subst (λ (x : Known). x.attributes.kind ≡ types.Regular) c.in-Ok.ensures.known c.in-Ok.file.kind)
          (turned d w.write.new.draft a c.args.known.now c.in-Ok.file.known _ c.in-Ok.ensures.known
          (rw (w.as_slice.ensures, counts) refl) w.in_ok-write.ensures))
      | else-answer-gt0 w ↦ rw (w.draft-is, c.answer_to-answer.ensures, c.ctx-2.ensures)
          (nothing-does d a c.args.known.now c.requires.names exports c.in_ok-exports.ensures.exports c.writable.result
          checks c.in-Ok.file c.in-Ok.is
          (subst (λ n. (n == 0) ≡ true) counts (let none = w.if-answer-gt0.false in grind (arith, nat_tests))))
    ]

pub write-requires-clause-shown : goal.write-requires-clause-shown
write-requires-clause-shown c =
    subst (λ (y : Known). IsShown c.args.draft.now y) (sym c.in-Ok.ensures.known) c.requires.shown
