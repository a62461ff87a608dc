use Rattle.std.proofs.Common.{ap, sym, ◌∙◌}
use Rattle.std.proofs.lemmas.Result.{err_from_is_err_and}
use Rattle.nfs_objects.proofs.ModesSuitLemmas.{change-each}
use Rattle.nfs_objects.specs.Calls.{addresses_of}
use Rattle.nfs_objects.specs.Stands.{map_in}
use Rattle.nfs_objects.specs.declared.address.Addr.TheVariants as addresses
use Rattle.nfs_objects.specs.declared.object.Content.TheVariants as contents
use Rattle.nfs_objects.specs.declared.object.Inode.{Inode}
use Rattle.nfs_inodes.proofs.FilePutLemmas.{laid-change}
use Rattle.nfs_inodes.proofs.ReadBlocksLemmas.{has-pages, in-set}
use Rattle.nfs_inodes.proofs.ReaderHaltLemmas.{any-stops}
use Rattle.nfs_inodes.proofs.RemainsGoLemmas.{clears-none, clears-page, file-counted, laid-gives, laid-knows}
use Rattle.nfs_inodes.proofs.content.remains.clear_page.Goals as goal

pub returns-in_err-kept : goal.returns-in_err-kept
returns-in_err-kept c =
    let p = err_from_is_err_and c.from_residual.result c.from_residual.ensures.1 in
    rw (p.1, p.2) c.in_err-kept.ensures

pub returns-then-not-has : goal.returns-then-not-has
returns-then-not-has c =
    clears-none c.args.draft.now c.args.file.now.known.number c.args.page
    (file-counted c.args.draft.now c.args.file.now.known.number c.args.page c.in_ok-kept.kept.inode.now
    c.in_ok-kept.kept.map.now c.in_ok-kept.ensures (sym (rw c.remains-remains.ensures at c.if-not-has.ensures)))

pub cut_one-requires-clause-alone : goal.cut_one-requires-clause-alone
cut_one-requires-clause-alone c = change-each c.args.draft.now c.args.file.now.known.number c.requires.alone

pub cut_one-requires-clause-pages : goal.cut_one-requires-clause-pages
cut_one-requires-clause-pages c =
    rw c.pages-pages.ensures (has-pages c.args.draft.now c.args.file.now.known.number c.in_ok-kept.kept.map.now
    (record {
      inode = c.in_ok-kept.kept.inode.now;
      stands = c.in_ok-kept.ensures.inode;
      content = ap map_in c.in_ok-kept.ensures.content;
    }))

pub returns-in_err-pages : goal.returns-in_err-pages
returns-in_err-pages c =
    let p = err_from_is_err_and c.from_residual-in_err-pages.result c.from_residual-in_err-pages.ensures.1 in
    rw (p.1, p.2) (any-stops c.args.draft.now (addresses_of c.args.draft.now.view c.args.file.now.known.number) _
    c.in_err-pages.ensures)

pub without-requires : goal.without-requires
without-requires c = in-set c.remains-remains.result c.args.page (sym c.if-not-has.ensures)

pub put-requires-clause-alone : goal.put-requires-clause-alone
put-requires-clause-alone c =
    laid-change c.args.file.now.known.number c.args.draft.now c.cut_one.new.draft c.in_ok-pages.ensures.lays
    (addresses.Inode c.args.file.now.known.number)
    (change-each c.args.draft.now c.args.file.now.known.number c.requires.alone)

pub put-requires-clause-known : goal.put-requires-clause-known
put-requires-clause-known c =
    laid-knows c.args.draft.now c.cut_one.new.draft c.args.file.now.known.number c.in_ok-kept.kept.inode.now
    c.in_ok-kept.ensures.inode (c.in_ok-pages.ensures.inodes c.args.file.now.known.number)

pub put-requires-clause-given : goal.put-requires-clause-given
put-requires-clause-given c =
    laid-gives c.args.draft.now c.cut_one.new.draft c.args.file.now.known.number c.in_ok-kept.kept.inode.now _
    c.in_ok-kept.ensures.inode (c.in_ok-pages.ensures.inodes c.args.file.now.known.number)
    (ap (λ (x : Inode). x.generation) c.in_ok-inode.ensures.cases)

pub returns : goal.returns
returns c =
    clears-page c.args.draft.now c.cut_one.new.draft c.put.new.self c.args.file.now.known.number c.args.page
    c.in_ok-kept.kept.inode.now _ c.in_ok-kept.kept.map.now
    (record { size = c.size-size.result; pages = c.in_ok-pages.pages; remains = c.without.result })
    c.in_ok-kept.ensures c.in_ok-pages.ensures c.size-size.ensures.value
    (sym (rw c.remains-remains.ensures at c.if-not-has.ensures))
    (λ p. rw c.remains-remains.ensures at (c.without.ensures p))
    (sym (λ p. record (c.in_ok-inode.ensures.cases p) {
      content = contents.Regular
          ((c.with_remains-map.ensures ∙ (λ q. record (c.in_ok-new.ensures.value q) { remains = c.without.result })) p);
    }))
    c.in_ok-put.ensures.ok
