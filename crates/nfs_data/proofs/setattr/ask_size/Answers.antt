use Rattle.std.proofs.Common.{[], sym, subst}
use Rattle.std.proofs.lemmas.Result.{err_from_is_err_and}
use Rattle.nfs_objects.specs.Asks.{IsThere}
use Rattle.nfs_objects.specs.declared.address.Addr.TheVariants as addresses
use Rattle.nfs_inodes.proofs.MakerChainLemmas.{counted-stops}
use Rattle.nfs_inodes.proofs.ReaderHaltLemmas.{exports-stop-at}
use Rattle.nfs_inodes.proofs.UsageChangeLemmas.{usage-lives-first}
use Rattle.nfs_inodes.specs.Kinds.{IsShown}
use Rattle.nfs_inodes.specs.declared.found.Known.{Known}
use Rattle.nfs_data.proofs.SetattrLemmas.{file-found}
use Rattle.nfs_data.proofs.setattr.ask_size.Goals as goal

pub returns-in_err-exports : goal.returns-in_err-exports
returns-in_err-exports c =
    let p = err_from_is_err_and c.from_residual.result c.from_residual.ensures.1 in
    rw (p.1, p.2) (exports-stop-at c.args.draft.now [] _ c.in_err-exports.ensures.exports)

pub ask_resize-requires-clause-shown : goal.ask_resize-requires-clause-shown
ask_resize-requires-clause-shown c =
    subst (λ (x : Known). IsShown c.args.draft.now x)
    (sym (file-found c.args.known.now c.args.arguments.now.attributes.size c.in-Ok-Some.new
    (rw c.in-Ok-Some.field-0-is at c.in-Ok-Some.ensures.size))) c.requires.shown

pub returns-in_err-ask_resize : goal.returns-in_err-ask_resize
returns-in_err-ask_resize c =
    let p = err_from_is_err_and c.from_residual-in_err-ask_resize.result c.from_residual-in_err-ask_resize.ensures.1 in
    let d = c.args.draft.now in
    let number = c.in-Ok-Some.new.file.known.number in
    rw (p.1, p.2) (counted-stops d number _
    (subst (λ (x : Known). IsThere d.view (addresses.Inode x.number))
    (sym (file-found c.args.known.now c.args.arguments.now.attributes.size c.in-Ok-Some.new
    (rw c.in-Ok-Some.field-0-is at c.in-Ok-Some.ensures.size))) c.requires.lives)
    (usage-lives-first d number c.requires.none) c.in_err-ask_resize.ensures)
