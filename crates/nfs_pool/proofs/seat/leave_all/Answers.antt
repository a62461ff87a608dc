use Rattle.std.proofs.Common.{◌≡◌, ◌+◌, ◌∷◌, ◌∙◌, [], ap, arith, length, length-append, subst, ℕ}
use Rattle.std.specs.Prelude.{reverse}
use Rattle.std.proofs.lemmas.List.{reverse-append}
use Rattle.nfs_pool.specs.Eras.{told_in}
use Rattle.nfs_pool.specs.Seats.{Counts}
use Rattle.nfs_pool.proofs.ReceiptNumberLemmas.{told_in-left, told_in-more}
use Rattle.nfs_pool.proofs.seat.leave_all.Goals as goal

pub seats-preserved : goal.seats-preserved
seats-preserved g c =
    let rest = c.pop.new.self.items in
    let old = c.seats.lists.items in
    let new = c.push_reserved.new.self.items in
    let before : reverse c.seats.rest.items ≡ c.in-Some.seat ∷ reverse rest =
    ap reverse c.in-Some.ensures.items ∙ reverse-append rest (c.in-Some.seat ∷ []) in
    let lists = c.push_reserved.ensures.items in
    let many : length c.seats.rest.items ≡ length rest + 1 =
    ap length c.in-Some.ensures.items ∙ length-append rest (c.in-Some.seat ∷ []) in
    let longer = ap length lists in
    let more = length-append old (c.leave.result ∷ []) in (
      omega (arith, many, c.leave.ensures.parts, c.seats.invariant.0),
      subst (λ (n : ℕ). Counts n c.leave.new.all.amount)
          (told_in-more old new c.leave.result c.in-Some.seat c.leave.ensures.receipts lists)
          (c.leave.ensures.counted (length (told_in old)) c.seats.invariant.1),
      omega (arith, many, longer, more, c.push_reserved.ensures.capacity, c.seats.invariant.2),
      told_in-left old new c.leave.result c.in-Some.seat (reverse rest) (reverse c.seats.rest.items)
          c.leave.ensures.receipts lists before ∙ c.seats.invariant.3,
      omega (arith, c.push_reserved.ensures.capacity, c.seats.invariant.4),
      omega (arith, c.pop.ensures.capacity, c.seats.invariant.5),
    )
