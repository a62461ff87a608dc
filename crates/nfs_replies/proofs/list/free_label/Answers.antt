use Rattle.std.proofs.Common.{◌<◌, ◌≤◌, ◌+◌, ℕ, Option, Some, None, IsSome, MatchOption, arith, refl, rules}
use Rattle.std.specs.Map.{lookup}
use Rattle.std.proofs.lemmas.Iterator.{first_from_Range}
use Rattle.nfs_replies.specs.Lists.{numbered, same_label}
use Rattle.nfs_replies.proofs.LabelLemmas.{all-taken_fit}
use Rattle.nfs_replies.proofs.list.free_label.Goals as goal

pub unwrap-requires : goal.unwrap-requires
unwrap-requires c = by c.find-number.result (first_from_Range _ _ _ c.find-number.result (λ _. Unit {0}) Taken
    c.find-number.ensures.ran (λ x q k. tt) (λ x q k. search rules))
  where
    Taken : ℕ → Type 0
    Taken number = IsSome (lookup (same_label (numbered c.args.hash number)) c.args.entries.now.entries)

    by : (o : Option ℕ) → MatchOption o ((k : ℕ) → 0 ≤ k → k < c.len.result + 1 → Taken k)
        (λ i. (0 ≤ i) × (i < c.len.result + 1) × Unit {0} × ((k : ℕ) → 0 ≤ k → k < i → Taken k)) → IsSome o
    by None all = absurd (let fit = all-taken_fit c.args.hash (c.len.result + 1) c.args.entries.now.entries
        (λ k below. all k (omega arith) below) in omega (arith, fit, c.len.ensures.len))
    by (Some number) first = refl
