use Rattle.std.proofs.Common.{ap, min, ◌∙◌}
use Rattle.nfs_inodes.proofs.CutFileLemmas.{sized-so}
use Rattle.nfs_inodes.proofs.OnePageLemmas.{large-cut}
use Rattle.nfs_inodes.proofs.content.cut.cut_large.Goals as goal

pub cut_last-requires-clause-pages : goal.cut_last-requires-clause-pages
cut_last-requires-clause-pages c = rw c.pages-all.ensures c.requires.pages

pub returns : goal.returns
returns c =
    sized-so c.args.draft.now c.cut_last.new.draft c.args.number c.args.map.now c.args.size c.in_ok-pages.pages
    c.with_places-behind.result c.with_remains.result
    (c.with_remains.ensures
    ∙ (λ p. record (c.in_ok-new.ensures.value p) { remains = c.with_places-behind.result }))
    (large-cut c.args.draft.now c.cut_last.new.draft c.args.number c.args.map.now c.args.size c.in_ok-pages.pages
    c.with_places-behind.result c.min-first.result c.requires.pages
    (c.min-first.ensures ∙ ap (λ d. min d 512) c.div_ceil.ensures)
    (rw c.remains-remains.ensures at c.with_places-behind.ensures) c.in_ok-pages.ensures)
