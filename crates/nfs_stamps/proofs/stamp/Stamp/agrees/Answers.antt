use Rattle.std.proofs.Common.{◌≡◌, [], sym, ◌∙◌, ap, subst, arith, slice_get}
use Rattle.std.specs.Prelude.{IsSome, unwrap_or}
use Rattle.std.proofs.lemmas.Bool.Decides.{nat_tests}
use Rattle.nfs_stamps.proofs.PrefixLemmas.{some_same}
use Rattle.nfs_stamps.proofs.stamp.Stamp.agrees.Goals as goal

pub returns : goal.returns
returns g c is =
    let one = c.self.inside in
    let two = c.other.inside in
    let same : one.number ≡ two.number = grind (arith, nat_tests) in
    let there : IsSome (slice_get two.known.seen.log one.number) =
    subst (λ n. IsSome (slice_get two.known.seen.log n)) (sym same) c.other.invariant in
    sym c.self.view_is
    ∙ (ap (λ o. unwrap_or o [])
    (some_same (slice_get one.known.seen.log one.number) (slice_get two.known.seen.log one.number)
    c.self.invariant there
    c.agree.ensures
    ∙ ap (λ n. slice_get two.known.seen.log n) same) ∙ c.other.view_is)
