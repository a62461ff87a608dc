use Rattle.std.proofs.Common.{◌≡◌, ◌+◌, [], get_or, length, refl, subst, sym, take}
use Rattle.std.proofs.lemmas.List.{take_all, take_more}
use Rattle.std.proofs.lemmas.Result.{err_from_is_err_and}
use Rattle.nfs_objects.specs.Calls.{addresses_of}
use Rattle.nfs_objects.specs.Directories.{AreBeside}
use Rattle.nfs_objects.specs.declared.address.Addr.TheVariants as addresses
use Rattle.nfs_inodes.proofs.ClearDirectoryLemmas.{emptied-all, emptied-nothing, emptied-other, frees-next, listed-at}
use Rattle.nfs_inodes.proofs.ClearDirectoryLemmas.{listed-lives}
use Rattle.nfs_inodes.proofs.ReaderHaltLemmas.{any-stops, lacking-stops}
use Rattle.nfs_inodes.proofs.AsksAfterWritesLemmas.{lives-on, stops-back}
use Rattle.nfs_inodes.specs.Entered.{Frees}
use Rattle.nfs_inodes.proofs.content.clearing.clear_entries.Goals as goal

pub returns-in_err-find : goal.returns-in_err-find
returns-in_err-find c =
    let p = err_from_is_err_and c.from_residual.result c.from_residual.ensures.1 in
    rw (p.1, p.2) (lacking-stops c.args.draft.now (addresses.Inode c.args.number) _ c.in_err-find.ensures)

pub returns-in_default : goal.returns-in_default
returns-in_default c = emptied-nothing c.args.draft.now c.args.number _ c.in_ok-find.ensures c.in_default.ensures

pub returns-in_default-directory : goal.returns-in_default-directory
returns-in_default-directory c =
    emptied-other c.args.draft.now c.args.number _ c.in_ok-find.ensures c.in-Some.inode.now c.in-Some.ensures
    c.in_default-directory.ensures

pub clear_at-requires-clause-lives : goal.clear_at-requires-clause-lives
clear_at-requires-clause-lives c =
    let d = c.args.draft.now in
    let n = c.args.number in
    let items = c.deref-address-items.result.now in
    let place = c.loop-address.address-index in
    let directory = c.in-Some-directory.directory.now in
    let a = get_or items place addresses.Exports in
    lives-on n d c.loop-address.draft c.loop-address.invariant.enters a c.loop-address.invariant.knows
    (listed-lives d n _ c.in_ok-find.ensures c.in-Some.inode.now directory c.in-Some.ensures
    c.in-Some-directory.ensures items
    (subst (λ l. length directory.entries.counts ≡ 64 → AreBeside directory.entries n l)
    (sym c.deref-address-items.ensures.value) c.in_ok-addresses.ensures)
    c.requires.stands a (listed-at items place a addresses.Exports c.loop-address-test.true refl))

pub returns-in_err-clear_at : goal.returns-in_err-clear_at
returns-in_err-clear_at c =
    let p = err_from_is_err_and c.from_residual-in_err-clear_at.result c.from_residual-in_err-clear_at.ensures.1 in
    rw (p.1, p.2) (any-stops c.args.draft.now (addresses_of c.args.draft.now.view c.args.number) _
    (stops-back c.args.number c.args.draft.now c.loop-address.draft c.loop-address.invariant.enters [] _
    c.in_err-clear_at.ensures))

pub loop-address-preserved : goal.loop-address-preserved
loop-address-preserved c =
    let items = c.deref-address-items.result.now in
    let place = c.loop-address.address-index in
    frees-next c.args.draft.now c.loop-address.draft c.clear_at.new.draft c.args.number (take place items)
    (take (place + 1) items) (get_or items place addresses.Exports)
    (take_more items place addresses.Exports c.loop-address-test.true) c.loop-address.invariant c.in_ok-clear_at.ensures

pub returns : goal.returns
returns c =
    let d = c.args.draft.now in
    let n = c.args.number in
    let items = c.deref-address-items.result.now in
    let directory = c.in-Some-directory.directory.now in
    emptied-all d n _ c.in_ok-find.ensures c.in-Some.inode.now directory c.in-Some.ensures c.in-Some-directory.ensures
    items
    (subst (λ l. length directory.entries.counts ≡ 64 → AreBeside directory.entries n l)
    (sym c.deref-address-items.ensures.value) c.in_ok-addresses.ensures)
    c.loop-address.draft
    (subst (Frees d c.loop-address.draft n) (take_all c.loop-address.address-index items c.loop-address-test.false)
    c.loop-address.invariant)
