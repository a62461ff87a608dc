-- Shards that a commit lets go, from the last one down.
use Rattle.std.proofs.Common.{◌≡◌, ℕ, zero, suc, ◌+◌, ◌<◌, ◌≤◌, ◌&&◌, inl, inr, Bool, true, false}
use Rattle.std.proofs.Common.{List, [], ◌∷◌, Option, get_or, set, length, replicate, refl, sym, ◌∙◌, ap, arith}
use Rattle.std.specs.Prelude.{nat_le}
use Rattle.std.proofs.lemmas.Bool.{and_from, and_left, and_right, cases_lt, le-leb, lt-leb}
use Rattle.std.proofs.lemmas.List.{get_or-set_other, get_or-set_same, length-set}
use Rattle.nfs_objects.specs.declared.address.Addr.{Addr}
use Rattle.nfs_objects.specs.declared.object.Object.{Object}
use Rattle.nfs_engine.proofs.OneShardOfSixteenLemmas.{alike_or}
use Rattle.nfs_engine.specs.Engine.{ArePlaces, is_written}
use Rattle.nfs_pool.specs.Steps.{LetGoFrom}

-- there is nothing behind the end
past-end : (marks : List Bool) (k : ℕ) → length marks ≤ k → get_or marks k false ≡ false
past-end [] k past = refl
past-end (m ∷ marks) zero past = absurd (omega (arith, past))
past-end (m ∷ marks) (suc k) past = past-end marks k (omega (arith, past))

none-marked : (n k : ℕ) → get_or (replicate n false) k false ≡ false
none-marked zero k = refl
none-marked (suc n) zero = refl
none-marked (suc n) (suc k) = none-marked n k

module _ (writes : List (Addr × Option Object)) (written : List Bool) (places : ArePlaces writes written)
    (from index : ℕ) (reach : from ≤ index)
    (passed : (k : ℕ) → from ≤ k → k < index → get_or written k false ≡ false) where
  unwritten : (k : ℕ) → k < index → nat_le from k && is_written writes k ≡ false
  unwritten k below = elim (cases_lt k from) [
    | inl outside ↦ and_left (nat_le from k) (is_written writes k) (lt-leb from k outside)
    | inr inside ↦ and_right (nat_le from k) (is_written writes k) (sym (places.are k) ∙ passed k inside below)
  ]

  -- none of the others is written
  pub none_let_go : index ≡ 16 → LetGoFrom from writes (replicate 16 false)
  none_let_go last = record {
    sixteen = refl;
    are = λ k. none-marked 16 k ∙ sym (elim (cases_lt k index) [
      | inl below ↦ unwritten k below
      | inr past ↦ and_right (nat_le from k) (is_written writes k)
          (sym (places.are k) ∙ past-end written k (omega (arith, places.sixteen, last, past)))
    ]);
  }

  -- this one is written, and let go behind the others
  pub one_let_go : index < 16 → get_or written index false ≡ true → (done : List Bool) →
      LetGoFrom (index + 1) writes done → LetGoFrom from writes (set done index true)
  one_let_go within found done behind = record {
    sixteen = length-set done index true ∙ behind.sixteen;
    are = λ k. alike_or k index
        (λ same. ap (λ j. get_or (set done index true) j false) same
        ∙ get_or-set_same done index true false (omega (arith, within, behind.sixteen))
        ∙ sym (and_from (nat_le from k) (is_written writes k) (le-leb from k (omega (arith, same, reach)))
        (sym (places.are k) ∙ ap (λ j. get_or written j false) same ∙ found)))
        (λ apart. get_or-set_other done index k true false apart ∙ behind.are k ∙ elim (cases_lt k index) [
          | inl below ↦ and_left (nat_le (index + 1) k) (is_written writes k)
              (lt-leb (index + 1) k (omega (arith, below))) ∙ sym (unwritten k below)
          | inr above ↦ ap (λ t. t && is_written writes k)
              (le-leb (index + 1) k (omega (arith, above, apart)) ∙ sym (le-leb from k (omega (arith, above, reach))))
        ]);
  }

-- from the first one on that is all
pub all_let_go : (writes : List (Addr × Option Object)) (done : List Bool) → LetGoFrom 0 writes done →
    ArePlaces writes done
all_let_go writes done f = record {
  sixteen = f.sixteen;
  are = λ k. f.are k ∙ ap (λ t. t && is_written writes k) (le-leb 0 k (omega arith));
}
