use Rattle.std.proofs.Common.{◌≡◌, ◌-◌, ◌<◌, ◌/◌, ◌∙◌, length, slice_index_or, ap, sym, subst, arith}
use Rattle.std.proofs.lemmas.List.{get_or_read}
use Rattle.nfs_inodes.proofs.CutFileLemmas.{blank}
use Rattle.nfs_inodes.proofs.OnePageLemmas.{cut-absent, cut-result}
use Rattle.nfs_inodes.proofs.ReadBlocksLemmas.{in-set}
use Rattle.nfs_inodes.specs.Cuts.{KnowsTold, ShowsMap, told_at}
use Rattle.nfs_inodes.proofs.content.cut.cut_one.Goals as goal

pub returns-then-not-has : goal.returns-then-not-has
returns-then-not-has c =
    cut-absent c.args.draft.now c.args.number c.args.page c.args.size c.args.pages c.requires.pages
    (sym c.if-not-has.ensures)

pub read_maps-requires-clause-small : goal.read_maps-requires-clause-small
read_maps-requires-clause-small c =
    let small = in-set c.args.pages c.args.page (sym c.if-not-has.ensures) in omega (arith, small)

pub ask_blocks-requires-clause-small : goal.ask_blocks-requires-clause-small
ask_blocks-requires-clause-small c =
    let small = in-set c.args.pages c.args.page (sym c.if-not-has.ensures) in omega (arith, small)

pub without-requires : goal.without-requires
without-requires c = in-set c.args.pages c.args.page (sym c.if-not-has.ensures)

pub cut_next-requires-clause-small : goal.cut_next-requires-clause-small
cut_next-requires-clause-small c = in-set c.args.pages c.args.page (sym c.if-not-has.ensures)

pub cut_next-requires-clause-known : goal.cut_next-requires-clause-known
cut_next-requires-clause-known c =
    c.in_ok-maps.ensures.known c.args.page (omega arith) (omega arith) (sym c.if-not-has.ensures)

pub cut_next-requires-clause-told : goal.cut_next-requires-clause-told
cut_next-requires-clause-told c =
    let page = c.args.page in
    let maps = c.in_ok-maps.maps.items in
    let counted = c.in_ok-maps.ensures.shows.counted in
    let within : 0 < length maps = omega (arith, counted) in
    let first : 0 ≡ page - page = omega arith in
    let at = get_or_read maps 0 c.index.result.now within c.index.ensures blank
    ∙ ap (λ p. slice_index_or maps p blank) first in
    subst (λ bits. KnowsTold c.args.draft.now c.args.number page bits (c.args.size / 4096)) (sym at)
    (subst (λ l. KnowsTold c.args.draft.now c.args.number page (told_at l page page) (c.args.size / 4096))
    c.deref.ensures.value (c.in_ok-ask_blocks.ensures page (omega arith) (omega arith)))

pub returns : goal.returns
returns c =
    let page = c.args.page in
    let maps = c.in_ok-maps.maps.items in
    let counted = c.in_ok-maps.ensures.shows.counted in
    let within : 0 < length maps = omega (arith, counted) in
    let first : 0 ≡ page - page = omega arith in
    let at = get_or_read maps 0 c.index.result.now within c.index.ensures blank
    ∙ ap (λ p. slice_index_or maps p blank) first in
    cut-result c.args.draft.now c.cut_next.new.draft c.args.number page c.args.size c.args.pages c.without.result
    c.index.result.now c.cut_next.result c.requires.pages (sym c.if-not-has.ensures) c.without.ensures
    (subst (ShowsMap c.args.draft.now c.args.number page) (sym at)
    (c.in_ok-maps.ensures.shows.each page (omega arith) (omega arith))) c.cut_next.ensures
