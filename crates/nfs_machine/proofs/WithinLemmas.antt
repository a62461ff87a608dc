-- Whether a directory is within another can be told, so a directory that moves to one that is not within it can be
-- counted deeper with all below it.
use Rattle.std.proofs.Common.{
  ◌≡◌,
  ◌==◌,
  ℕ,
  zero,
  suc,
  ◌+◌,
  ◌≤◌,
  ◌<◌,
  Bool,
  true,
  false,
  cond,
  [],
  Option,
  Some,
  None,
  refl,
  sym,
  ◌∙◌,
  ap,
  subst,
  arith,
}
use Rattle.std.specs.Cmp.{unsigned_Decides}
use Rattle.std.specs.FinMap.{FinMap, get, remove, values}
use Rattle.std.specs.List.{count_by, sum_by}
use Rattle.std.specs.Ordering.{nat_cmp}
use Rattle.nfs_machine.specs.Attributes.{entries_of, is_directory, is_living_directory, names_in, names_of}
use Rattle.nfs_machine.specs.RenameSteps.{IsWithin, TellsWithin, itself, below}
use Rattle.nfs_machine.specs.State.{Entry, Living, State}
use Rattle.nfs_machine.specs.WellFormed.{WellFormed}
use Rattle.nfs_machine.proofs.MapChangeLemmas.{differs-other, differs-remove, part-of_sum, sum-differs, weight}
use Rattle.nfs_machine.proofs.LooseLemmas.{Deepens, Loose, loosened, none_loose}
use Rattle.nfs_machine.proofs.NamesCountedLemmas.{has-directory, passing}
use Rattle.nfs_machine.proofs.MapSumLemmas.{sum-some_part}
use Rattle.nfs_machine.proofs.WellFormedLemmas.{Deep, all_both, all_map, counted}

-- two values at two keys have both their parts in a sum
two-parts : {X : Type 0} (f : X → ℕ) (m : FinMap nat_cmp X) (k j : ℕ) (v u : X) → get m k ≡ Some v → get m j ≡ Some u
    → (j == k) ≡ false → f v + f u ≤ sum_by f (values m)
two-parts f m k j v u at there other =
    let s = sum-differs f m (remove m k) k None (differs-remove m k) in
    let here : weight f (get m k) ≡ f v = ap (weight f) at in
    let rest = part-of_sum f (remove m k) j u (differs-other m (remove m k) k None (differs-remove m k) j other
    ∙ there) in
    omega (arith, s, here, rest)

living-directory : (x : Option Living) → is_living_directory x ≡ true → (o : Living) × (x ≡ Some o)
    × (is_directory o.content ≡ true)
living-directory None e = cc
living-directory (Some o) e = (o, refl, e)

-- what is within another and not that itself has a directory above it that is within it
record Under (m : State) (top n : ℕ) : Type 0 where
  pub middle : ℕ
  pub directory : Living
  pub within : IsWithin m top middle
  pub lives : get m.objects middle ≡ Some directory
  pub named : 1 ≤ names_in n directory

under : (m : State) (top n : ℕ) → IsWithin m top n → (n == top) ≡ false → Under m top n
under m top n (itself k) other = (let same : (k == k) ≡ true = (unsigned_Decides k k).1 refl in let
    no : true ≡ false = sym same ∙ other in cc)
under m top n (below upper middle lower directory within lives named) other = record
    { middle = middle; directory = directory; within = within; lives = lives; named = named }

-- nothing else is within what contains no name
pub within-empty : (m : State) (top : ℕ) (o : Living) → get m.objects top ≡ Some o → entries_of o.content ≡ []
    → (upper lower : ℕ) → IsWithin m upper lower → upper ≡ top → lower ≡ top
within-empty m top o at empty _ _ (itself number) same = same
within-empty m top o at empty _ _ (below upper middle lower directory within lives named) same =
    let both : Some o ≡ Some directory = sym at
    ∙ sym (ap (get m.objects) (within-empty m top o at empty upper middle within same)) ∙ lives in
    let own : o ≡ directory = cc in
    let some : 1 ≤ names_in lower o = subst (λ (d : Living). 1 ≤ names_in lower d) (sym own) named in
    let none : names_in lower o ≡ 0 = ap (count_by (λ (e : Entry). e.number == lower)) empty in
    absurd (omega (arith, some, none))

module _ (m : State) (loose : ℕ → Bool) (l : Loose loose m) where
  one-above : (n p q : ℕ) (d e : Living) → get m.objects p ≡ Some d → get m.objects q ≡ Some e → 1 ≤ names_in n d
      → 1 ≤ names_in n e → names_of m n ≤ 1 → q ≡ p
  one-above n p q d e at there some more most =
      elim (q == p) as (λ b. (q == p) ≡ b → q ≡ p) [
        | true ↦ λ t. (unsigned_Decides q p).0 t
        | false ↦ λ t. (let both = two-parts (names_in n) m.objects p q d e at there t in absurd
            (omega (arith, both, some, more, most)))
      ] refl

  module _ (top : ℕ) where
    record Told (n : ℕ) : Type 0 where
      pub is : Bool
      pub within : is ≡ true → IsWithin m top n
      pub complete : IsWithin m top n → is ≡ true

    -- from the directory above
    raised : (n place : ℕ) (o directory : Living) → get m.objects n ≡ Some o → is_directory o.content ≡ true
        → (n == top) ≡ false → get m.objects place ≡ Some directory → 1 ≤ names_in n directory → Told place → Told n
    raised n place o directory at kind other lives named told = record {
      is = told.is;
      within = λ t. below top place n directory (told.within t) lives named;
      complete = λ w.
          let u = under m top n w other in
          let same : u.middle ≡ place = one-above n place u.middle directory u.directory lives u.lives named u.named
          (l.one_name n o at kind) in
          told.complete (subst (λ k. IsWithin m top k) same u.within);
    }

    topmost : (n : ℕ) → (n == top) ≡ false → names_of m n ≡ 0 → Told n
    topmost n other none = record {
      is = false;
      within = λ t. cc;
      complete = λ w. (let u = under m top n w other in let part = part-of_sum (names_in n) m.objects u.middle
          u.directory u.lives in let some = u.named in absurd (omega (arith, part, some, none)));
    }

    shallower : (n place : ℕ) (o directory : Living) → get m.objects n ≡ Some o → is_directory o.content ≡ true
        → get m.objects place ≡ Some directory → 1 ≤ names_in n directory → l.depth place < l.depth n
    shallower n place o directory at kind lives named =
        let found = passing (Deep m l.depth place) (λ (e : Entry). e.number == n) (entries_of directory.content)
        (l.deeper place directory lives) named in
        let number : found.0.number ≡ n = (unsigned_Decides found.0.number n).0 found.2 in
        subst (λ k. l.depth place < l.depth k) number (found.1 (ap is_living_directory (ap (get m.objects) number ∙ at)
        ∙ kind))

    tell : (fuel n : ℕ) (o : Living) → get m.objects n ≡ Some o → is_directory o.content ≡ true → l.depth n < fuel
        → Told n
    tell zero n o at kind less = absurd (omega (arith, less))
    tell (suc fuel) n o at kind less =
        elim (n == top) as (λ b. (n == top) ≡ b → Told n) [
          | true ↦ λ e. (let same : top ≡ n = sym ((unsigned_Decides n top).0 e) in record
              { is = true; within = λ t. subst (λ k. IsWithin m top k) same (itself top); complete = λ w. refl })
          | false ↦ λ e. elim (names_of m n) as (λ k. names_of m n ≡ k → Told n) [
            | zero ↦ λ none. topmost n e none
            | suc k ↦ λ some.
                let part = sum-some_part (names_in n) m.objects (omega (arith, some)) in
                raised n part.0 o part.1 at kind e part.2 part.3
                (tell fuel part.0 part.1 part.2 (has-directory n part.1 part.3) (let up = shallower n part.0 o part.1 at
                kind part.2 part.3 in omega (arith, up, less)))
          ] refl
        ] refl

    -- for every number, where a directory lives there
    record ToldOf (n : ℕ) : Type 0 where
      pub is : Bool
      pub within : is_living_directory (get m.objects n) ≡ true → is ≡ true → IsWithin m top n
      pub complete : is_living_directory (get m.objects n) ≡ true → IsWithin m top n → is ≡ true

    told : (n : ℕ) → ToldOf n
    told n =
        elim (is_living_directory (get m.objects n)) as (λ b. is_living_directory (get m.objects n) ≡ b → ToldOf n) [
          | true ↦ λ e.
              let o = living-directory (get m.objects n) e in
              let t = tell (l.depth n + 1) n o.0 o.1 o.2 (omega arith) in
              record { is = t.is; within = λ _. t.within; complete = λ _. t.complete }
          | false ↦ λ e. record {
            is = false;
            within = λ d t. cc;
            complete = λ d w. (let no : true ≡ false = sym d
                ∙ e in cc);
          }
        ] refl

    module _ (object : Living) (at : get m.objects top ≡ Some object) (place : ℕ) (directory : Living)
        (lives : get m.objects place ≡ Some directory) (kind : is_directory directory.content ≡ true)
        (out : IsWithin m top place → ⊥) where
      pub depth : ℕ → ℕ
      depth n = cond (told n).is (l.depth n + (l.depth place + 1)) (l.depth n)

      depth-in : (n : ℕ) → (told n).is ≡ true → depth n ≡ l.depth n + (l.depth place + 1)
      unfolding depth
      depth-in n e = ap (λ b. cond b (l.depth n + (l.depth place + 1)) (l.depth n)) e

      depth-out : (n : ℕ) → (told n).is ≡ false → depth n ≡ l.depth n
      unfolding depth
      depth-out n e = ap (λ b. cond b (l.depth n + (l.depth place + 1)) (l.depth n)) e

      at-least : (n : ℕ) → l.depth n ≤ depth n
      at-least n =
          elim (told n).is as (λ b. (told n).is ≡ b → l.depth n ≤ depth n) [
            | true ↦ λ e. omega (arith, depth-in n e)
            | false ↦ λ e. omega (arith, depth-out n e)
          ] refl

      step : (n : ℕ) (o : Living) → get m.objects n ≡ Some o → (e : Entry) → 1 ≤ names_in e.number o
          → Deep m l.depth n e → Deep m depth n e
      step n o there e named deep living =
          let less : l.depth n < l.depth e.number = deep living in
          elim (told n).is as (λ b. (told n).is ≡ b → depth n < depth e.number) [
            | true ↦ λ inside.
                let is-directory : is_living_directory (get m.objects n) ≡ true = ap is_living_directory there
                ∙ has-directory e.number o named in
                let w : IsWithin m top e.number = below top n e.number o ((told n).within is-directory inside) there
                named in
                let also : (told e.number).is ≡ true = (told e.number).complete living w in
                omega (arith, less, depth-in n inside, depth-in e.number also)
            | false ↦ λ outside. omega (arith, less, depth-out n outside, at-least e.number)
          ] refl

      pub deepened : Deepens m depth place top object
      deepened = record {
        deeper = λ n o there.
            all_map (λ (e : Entry). (1 ≤ names_in e.number o) × Deep m l.depth n e) (Deep m depth n)
            (λ e both. step n o there e both.0 both.1)
            (entries_of o.content) (all_both (λ (e : Entry). 1 ≤ names_in e.number o) (Deep m l.depth n)
            (entries_of o.content) (counted (entries_of o.content)) (l.deeper n o there));
        added = λ own.
            let top-in : (told top).is ≡ true = (told top).complete (ap is_living_directory at ∙ own) (itself top) in
            elim (told place).is as (λ b. (told place).is ≡ b → depth place < depth top) [
              | true ↦ λ e. absurd (out ((told place).within (ap is_living_directory lives ∙ kind) e))
              | false ↦ λ e. omega (arith, depth-in top top-in, depth-out place e)
            ] refl;
      }

-- in a well-formed state there is such a test
pub within-told : (m : State) → WellFormed m → (is_within : ℕ → ℕ → Bool) × TellsWithin m is_within
within-told m w =
    let l = loosened none_loose m w in (
      λ upper lower. (told m none_loose l upper lower).is,
      λ upper lower living. (
        λ is. (told m none_loose l upper lower).within living is,
        λ within. (told m none_loose l upper lower).complete living within,
      ),
    )
