use Rattle.std.proofs.Common.{◌/◌, [], Some, ap, ◌∙◌, inr, option_copied, sym}
use Rattle.std.proofs.lemmas.Result.{err_from_is_err_and}
use Rattle.nfs_objects.specs.declared.address.Addr.TheVariants as addresses
use Rattle.nfs_inodes.proofs.DropNameLemmas.{absent-page, page-lost, rest-none, rest-some, unlisted}
use Rattle.nfs_inodes.proofs.AsksAfterWritesLemmas.{lives-stops}
use Rattle.nfs_inodes.proofs.TakenNameAsksLemmas.{page-beside}
use Rattle.nfs_inodes.proofs.content.taking.take_from_page.Goals as goal

pub returns-then-not-has : goal.returns-then-not-has
returns-then-not-has c =
    unlisted c.args.draft.now c.args.number c.args.map.now.pages c.in_ok-clone.field-0 c.args.leaf c.args.name.now
    c.in_ok-clone.ensures.cases (sym c.if-not-has.ensures)

pub returns-in_err-old : goal.returns-in_err-old
returns-in_err-old c =
    let p = err_from_is_err_and c.from_residual-in_err-old.result c.from_residual-in_err-old.ensures.1 in
    let page = c.args.leaf.cookie / 64 in
    rw (p.1, p.2) (lives-stops c.args.draft.now [] (addresses.Page c.args.number page) _
    (inr (c.requires.lives (addresses.Page c.args.number page)
    (page-beside c.args.map.now c.args.number page (sym c.if-not-has.ensures)))) c.in_err-old.ensures)

pub returns-in_default : goal.returns-in_default
returns-in_default c =
    absent-page c.args.draft.now c.args.number c.args.map.now.pages c.in_ok-clone-2.field-0 c.args.leaf c.args.name.now
    c.in_ok-clone-2.ensures.cases (c.in_ok-old.ensures ∙ ap (λ o. Some (option_copied o)) c.in_default.is)

pub returns-in_ok-without_page : goal.returns-in_ok-without_page
returns-in_ok-without_page c =
    let d = c.args.draft.now in
    let n = c.args.number in
    let before = c.args.map.now.pages in
    let after = c.in_ok-without_page.field-0 in
    let rest = c.in_ok-entries.entries in
    page-lost d n before after c.args.leaf c.args.name.now c.put_page.new.self c.in-Some.old.now rest
    (c.in_ok-old.ensures ∙ ap (λ o. Some (option_copied o)) c.in-Some.is) c.in_ok-entries.ensures
    c.in_ok-put_page.ensures.ok (sym c.if-not-has.ensures)
    (rest-none d n before after c.args.leaf c.args.name.now rest c.if-is_empty.ensures c.in_ok-without_page.ensures)

pub returns-in_ok-clone-3 : goal.returns-in_ok-clone-3
returns-in_ok-clone-3 c =
    let d = c.args.draft.now in
    let n = c.args.number in
    let before = c.args.map.now.pages in
    let after = c.in_ok-clone-3.field-0 in
    let rest = c.in_ok-entries.entries in
    page-lost d n before after c.args.leaf c.args.name.now c.put_page.new.self c.in-Some.old.now rest
    (c.in_ok-old.ensures ∙ ap (λ o. Some (option_copied o)) c.in-Some.is) c.in_ok-entries.ensures
    c.in_ok-put_page.ensures.ok (sym c.if-not-has.ensures)
    (rest-some d n before after c.args.leaf c.args.name.now rest c.if-is_empty.ensures c.in_ok-clone-3.ensures.cases
    (sym c.if-not-has.ensures))
