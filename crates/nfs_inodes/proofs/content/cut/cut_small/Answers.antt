use Rattle.std.proofs.Common.{◌∙◌}
use Rattle.nfs_inodes.proofs.CutFileLemmas.{sized-so, smaller}
use Rattle.nfs_inodes.proofs.content.cut.cut_small.Goals as goal

pub cut_off-requires-clause-pages : goal.cut_off-requires-clause-pages
cut_off-requires-clause-pages c = rw c.pages-all.ensures c.requires.pages

pub returns : goal.returns
returns c =
    sized-so c.args.draft.now c.cut_off.new.draft c.args.number c.args.map.now c.args.size c.in_ok-pages.pages
    c.args.map.now.remains c.with_remains.result
    (c.with_remains.ensures
    ∙ (λ p. record (c.in_ok-new.ensures.value p) { remains = c.remains-remains.ensures p }))
    (smaller c.args.draft.now c.cut_off.new.draft c.args.number c.args.map.now c.args.size c.in_ok-pages.pages
    c.in_ok-pages.ensures)
