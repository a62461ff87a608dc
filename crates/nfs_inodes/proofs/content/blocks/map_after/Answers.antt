use Rattle.std.proofs.Common.{◌||◌, ◌&&◌, ◌+◌, ◌-◌, ◌*◌, [], ◌∷◌, max, min, nat_le, nat_lt, arith, ap, ◌∙◌}
use Rattle.std.proofs.lemmas.Result.{err_from_is_err_and}
use Rattle.nfs_objects.specs.Bits.{has}
use Rattle.nfs_objects.specs.declared.address.Addr.TheVariants as addresses
use Rattle.nfs_inodes.proofs.ReaderHaltLemmas.{any-stops, lacking-stops}
use Rattle.nfs_inodes.proofs.WrittenBlocksLemmas.{page-tells}
use Rattle.nfs_inodes.specs.Blocks.{end_of, first_of}
use Rattle.nfs_inodes.proofs.content.blocks.map_after.Goals as goal

pub returns-in_err-are_there : goal.returns-in_err-are_there
returns-in_err-are_there c =
    let p = err_from_is_err_and c.from_residual.result c.from_residual.ensures.1 in
    rw (p.1, p.2) (any-stops c.args.draft.now (addresses.Map c.args.number c.args.page ∷ []) _
    c.in_err-are_there.ensures)

pub returns-in_err-bits : goal.returns-in_err-bits
returns-in_err-bits c =
    let p = err_from_is_err_and c.from_residual-in_err-bits.result c.from_residual-in_err-bits.ensures.1 in
    rw (p.1, p.2) (lacking-stops c.args.draft.now (addresses.Map c.args.number c.args.page) _ c.in_err-bits.ensures)

pub returns : goal.returns
returns c =
    let begin = c.args.page * 512 in
    let from = c.max-first.ensures ∙ ap (λ f. max f begin) c.first.ensures in
    let to = c.min-end.ensures ∙ ap (λ e. min e (begin + 512)) c.end.ensures in
    page-tells c.args.draft.now c.args.number (first_of c.args.range.offset)
    (end_of c.args.range.offset c.args.range.count)
    c.args.page c.in_ok-bits.bits c.with_places.result c.in_ok-bits.ensures
    (λ n. c.with_places.ensures n
    ∙ (λ j. has c.in_ok-bits.bits n || (nat_le (from j - begin) n && nat_lt n (to j - begin))))
    c.requires.behind c.requires.before (omega (arith, c.args.range.some))
