use Rattle.std.proofs.Common.{◌-◌, ◌/◌, IfSome, IsSome, arith, refl, subst, sym}
use Rattle.std.proofs.lemmas.Result.{err_from_is_err_and}
use Rattle.nfs_objects.specs.Calls.{maps_at}
use Rattle.nfs_objects.specs.Values.{known_at}
use Rattle.nfs_objects.specs.declared.address.Addr.TheVariants as addresses
use Rattle.nfs_inodes.proofs.ReaderHaltLemmas.{any-stops}
use Rattle.nfs_inodes.proofs.WriteAsksLemmas.{one-map}
use Rattle.nfs_inodes.proofs.WrittenBlocksLemmas.{back-known, range-written}
use Rattle.nfs_inodes.specs.Blocks.{IsMapAfter, IsMapPut, end_of, first_of}
use Rattle.nfs_inodes.proofs.content.blocks.write_range.Goals as goal

pub returns-in_err-front : goal.returns-in_err-front
returns-in_err-front c =
    let p = err_from_is_err_and c.from_residual.result c.from_residual.ensures.1 in
    rw (p.1, p.2) (one-map c.args.draft.now c.args.number c.args.range.offset c.args.range.count c.first_page.result
    c.args.range.some c.args.range.few (omega (arith, c.first_page.ensures))
    (omega (arith, c.first_page.ensures, c.args.range.some)) _ c.in_err-front.ensures)

pub returns-in_err-back : goal.returns-in_err-back
returns-in_err-back c =
    let p = err_from_is_err_and c.from_residual-in_err-back.result c.from_residual-in_err-back.ensures.1 in
    rw (p.1, p.2) (one-map c.args.draft.now c.args.number c.args.range.offset c.args.range.count
    ((end_of c.args.range.offset c.args.range.count - 1) / 512) c.args.range.some c.args.range.few
    (omega (arith, c.args.range.some)) (omega arith) _ c.in_err-back.ensures)

pub returns-in_err-write_blocks : goal.returns-in_err-write_blocks
returns-in_err-write_blocks c =
    let p = err_from_is_err_and c.from_residual-in_err-write_blocks.result
    c.from_residual-in_err-write_blocks.ensures.1 in
    rw (p.1, p.2) (any-stops c.args.draft.now (maps_at c.args.number c.args.range.offset) _
    c.in_err-write_blocks.ensures)

pub put_map-requires-2-clause-known : goal.put_map-requires-2-clause-known
put_map-requires-2-clause-known c =
    let d = c.args.draft.now in
    let n = c.args.number in
    let first = first_of c.args.range.offset in
    let end = end_of c.args.range.offset c.args.range.count in
    subst (λ p. IfSome c.in_ok-back.back (λ _. IsSome (known_at c.put_map.new.draft (addresses.Map n p))))
    (sym c.last_page.ensures)
    (back-known d c.write_blocks.new.draft c.put_map.new.draft n first end (first / 512) ((end - 1) / 512)
    c.in_ok-front.front c.args.pages c.in_ok-pages.pages
    (λ p. c.in_ok-write_blocks.ensures.leaves.known (addresses.Map n p) (λ i from before. refl))
    (subst (λ p. IsMapPut c.write_blocks.new.draft c.put_map.new.draft n p c.in_ok-front.front c.args.pages
    c.in_ok-pages.pages) c.first_page-2.ensures c.in_ok-pages.ensures)
    c.in_ok-back.back c.in_ok-back.ensures)

pub returns : goal.returns
returns c =
    let d = c.args.draft.now in
    let n = c.args.number in
    let offset = c.args.range.offset in
    let count = c.args.range.count in
    range-written d c.write_blocks.new.draft c.put_map.new.draft c.put_map-2.new.draft n offset c.args.«data».now
    c.args.pages
    c.in_ok-pages.pages c.in_ok-put_map.field-0 c.in_ok-front.front c.in_ok-back.back count c.requires.whole
    c.args.range.few c.args.range.some c.requires.pages c.in_ok-write_blocks.ensures
    (subst (λ p. IsMapPut c.write_blocks.new.draft c.put_map.new.draft n p c.in_ok-front.front c.args.pages
    c.in_ok-pages.pages) c.first_page-2.ensures c.in_ok-pages.ensures)
    (subst (λ p. IsMapPut c.put_map.new.draft c.put_map-2.new.draft n p c.in_ok-back.back c.in_ok-pages.pages
    c.in_ok-put_map.field-0) c.last_page.ensures c.in_ok-put_map.ensures)
    (subst (λ p. IsMapAfter d n (first_of offset) (end_of offset count) p c.in_ok-front.front) c.first_page.ensures
    c.in_ok-front.ensures)
    c.in_ok-back.ensures
