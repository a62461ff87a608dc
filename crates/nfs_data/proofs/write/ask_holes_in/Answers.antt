use Rattle.std.proofs.Common.{sym, subst}
use Rattle.std.proofs.lemmas.Result.{err_from_is_err_and}
use Rattle.nfs_wire.specs.declared.calls.NfsCall.TheVariants as nfs
use Rattle.nfs_machine.specs.declared.calls.Call.TheVariants as calls
use Rattle.nfs_objects.proofs.KnowsLemmas.{stops-wider}
use Rattle.nfs_objects.specs.Asks.{IsThere}
use Rattle.nfs_objects.specs.Calls.{named_by}
use Rattle.nfs_objects.specs.declared.address.Addr.TheVariants as addresses
use Rattle.nfs_inodes.proofs.ReaderHaltLemmas.{exports-stop-at}
use Rattle.nfs_inodes.proofs.StandsLemmas.{known-lives}
use Rattle.nfs_inodes.proofs.UsageChangeLemmas.{usage-lives-first}
use Rattle.nfs_inodes.proofs.WriteAsksLemmas.{written-maps}
use Rattle.nfs_inodes.specs.Blocks.{written_from}
use Rattle.nfs_inodes.specs.Known.{HasNumber}
use Rattle.nfs_inodes.specs.declared.found.Known.{Known}
use Rattle.nfs_data.proofs.DataRangeLemmas.{write-covers}
use Rattle.nfs_data.proofs.write.ask_holes_in.Goals as goal

pub returns-in_err-exports : goal.returns-in_err-exports
returns-in_err-exports c =
    let p = err_from_is_err_and c.from_residual.result c.from_residual.ensures.1 in
    rw (p.1, p.2) (exports-stop-at c.args.draft.now
    (named_by (calls.Nfs (nfs.Write c.args.arguments.now)) c.args.draft.now.view) _ c.in_err-exports.ensures.exports)

pub returns-in_err-ask_holes : goal.returns-in_err-ask_holes
returns-in_err-ask_holes c =
    let p = err_from_is_err_and c.from_residual-in_err-ask_holes.result c.from_residual-in_err-ask_holes.ensures.1 in
    let d = c.args.draft.now in
    let a = c.args.arguments.now in
    let number = c.in-Ok.file.known.number in
    rw (p.1, p.2) (stops-wider d.modes (written_from d number a.offset)
    (named_by (calls.Nfs (nfs.Write a)) d.view) 0 d.view _
    (write-covers d a number
    (subst (λ (y : Known). HasNumber a.file y.number) (sym c.in-Ok.ensures.known) c.requires.number)
    (subst (λ (y : Known). IsThere d.view (addresses.Inode y.number)) (sym c.in-Ok.ensures.known)
    (known-lives d c.args.known.now c.requires.begins.none (λ s k w. (c.requires.names s k w).known)))
    (usage-lives-first d number c.requires.begins.none))
    (written-maps d number a.offset _ c.in_err-ask_holes.ensures))
