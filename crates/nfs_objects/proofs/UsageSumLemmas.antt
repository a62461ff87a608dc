-- What groups of objects use, when one object changes: its share gives way to another, and the sums are right again.
use Rattle.std.proofs.Common.{◌≡◌, ◌==◌, ℕ, ◌+◌, ◌-◌, ◌*◌, ◌<◌, ◌≤◌, ◌^◌, true}
use Rattle.std.proofs.Common.{false, cond, ◌&&◌, ◌||◌, min, nat_lt}
use Rattle.std.proofs.Common.{Option, Some, None, IsSome, refl, sym, ◌∙◌, ap, subst, arith}
use Rattle.std.proofs.Math.Nat.{div-mul-le_self}
use Rattle.std.proofs.lemmas.Bool.{and_parts}
use Rattle.std.specs.Cmp.{unsigned_Decides}
use Rattle.std.specs.FinMap.{FinMap, get, remove}
use Rattle.std.specs.Ordering.{nat_cmp}
use Rattle.nfs_machine.specs.Attributes.{size_of, used_of}
use Rattle.nfs_machine.specs.State.{Living, State}
use Rattle.nfs_objects.proofs.StandsInExportLemmas.{exported-there, inode-lives, living-stands}
use Rattle.nfs_objects.proofs.FileStoreLemmas.{size-stands}
use Rattle.nfs_objects.proofs.TallyLemmas.{part, same-without, split-total, total, total-bound}
use Rattle.nfs_objects.specs.Edits.{counted_anew}
use Rattle.nfs_objects.specs.Knows.{Possible, Turns}
use Rattle.nfs_objects.specs.Sound.{Sound}
use Rattle.nfs_objects.specs.Stands.{StoreMeaning, Represents, beside_at, inode_in, inode_there}
use Rattle.nfs_objects.specs.Store.{Store}
use Rattle.nfs_objects.specs.Sums.{exchanged, group_of, is_counted, is_none, is_same_usage, moved, no_usage}
use Rattle.nfs_objects.specs.Sums.{one_using, shares_of, stored_usage, usage_in}
use Rattle.nfs_objects.specs.Values.{DraftValue}
use Rattle.nfs_objects.specs.declared.address.Addr.TheVariants as addresses
use Rattle.nfs_objects.specs.declared.object.Object.{Object}
use Rattle.nfs_objects.specs.declared.object.Object.TheVariants as objects
use Rattle.nfs_objects.specs.declared.usage.Usage.{Usage}

-- ---- all that lives fits
-- numbers have 64 bits and sizes 63: so no sum of a state reaches 128 bits
abbrev pub AllFit : State → Type 0
AllFit m = (n : ℕ) (o : Living) → get m.objects n ≡ Some o → (n < 2 ^ 64) × (size_of o.content < 2 ^ 63)

pub all-fit : (s : Store) (k : StoreMeaning) → Represents s k → AllFit k.state
all-fit s k stands n o at =
    let found = living-stands k.state.exports (beside_at k.state n) (s.at (addresses.Inode n)) o
    (sym (stands.objects.objects n) ∙ at) in
    let there : inode_there s k.state.exports n ≡ Some found.inode =
    ap (inode_in k.state.exports) found.there.stands ∙ inode-lives k.state.exports found.inode found.there.lives in
    subst (λ (x : Living). (n < 2 ^ 64) × (size_of x.content < 2 ^ 63)) found.is
    (subst (λ z. (n < 2 ^ 64) × (z < 2 ^ 63)) (sym (size-stands s k n found.inode stands there))
    (stands.objects.fits n found.inode found.there.stands))

-- so after a change too
pub turned-fit : (old new : DraftValue) (op : StoreMeaning → StoreMeaning) → Turns old new op
    → (s : Store) (k : StoreMeaning) →
    Possible old s k → AllFit (op k).state
turned-fit old new op turns s k w = all-fit _ (op k) (turns.turns s k w.fits w.stands)

-- ---- the sums of one group
abbrev the-used : Usage → ℕ
the-used u = u.used

abbrev the-objects : Usage → ℕ
the-objects u = u.objects

module _ (e g : ℕ) where
  abbrev pub used-by : ℕ × Living → ℕ
  used-by p = cond (is_counted e g p) (used_of p.1.content) 0

  abbrev pub counted-by : ℕ × Living → ℕ
  counted-by p = cond {A = ℕ} (is_counted e g p) 1 0

  -- what an object of the group gives is its share, and another gives nothing
  used-share : (n : ℕ) (o : Option Living) → (group_of n == g) ≡ true
      → part used-by n o ≡ (shares_of o e).used
  used-share n None in_group = refl
  used-share n (Some o) in_group =
      ap (λ b. cond ((o.export == e) && b) (used_of o.content) 0) in_group
      ∙ elim (o.export == e) as (λ b. cond (b && true) (used_of o.content) 0 ≡
      the-used (cond b (one_using (used_of o.content)) no_usage)) [ true ↦ refl | false ↦ refl ]

  count-share : (n : ℕ) (o : Option Living) → (group_of n == g) ≡ true
      → part counted-by n o ≡ (shares_of o e).objects
  count-share n None in_group = refl
  count-share n (Some o) in_group =
      ap (λ b. cond {A = ℕ} ((o.export == e) && b) 1 0) in_group
      ∙ elim (o.export == e) as (λ b. cond {A = ℕ} (b && true) 1 0 ≡
      the-objects (cond b (one_using (used_of o.content)) no_usage)) [ true ↦ refl | false ↦ refl ]

  none-of : (n : ℕ) (o : Option Living) (value : Living → ℕ) → (group_of n == g) ≡ false →
      part (λ p. cond (is_counted e g p) (value p.1) 0) n o ≡ 0
  none-of n None value other = refl
  none-of n (Some o) value other =
      ap (λ b. cond ((o.export == e) && b) (value o) 0) other
      ∙ elim (o.export == e) as (λ b. cond (b && false) (value o) 0 ≡ 0) [ true ↦ refl | false ↦ refl ]

  used-bound : (m : State) → AllFit m → (usage_in m e g).used < 2 ^ 128
  used-bound m fit = below (total-bound used-by (2 ^ 64) (2 ^ 63 + 4096) m.objects
      (λ n o at. ((fit n o at).0, most n o at)))
    where
      below : (usage_in m e g).used ≤ 2 ^ 64 * (2 ^ 63 + 4096) → (usage_in m e g).used < 2 ^ 128
      below h = omega (arith, h)

      most : (n : ℕ) (o : Living) → get m.objects n ≡ Some o → used-by (n, o) ≤ 2 ^ 63 + 4096
      most n o at =
          let small = (fit n o at).1 in
          let rounded = div-mul-le_self (size_of o.content + 4095) 4096 in
          elim (is_counted e g (n, o)) as (λ b. cond b (used_of o.content) 0 ≤ 2 ^ 63 + 4096)
          [ true ↦ omega (arith, small, rounded) | false ↦ omega arith ]

  count-bound : (m : State) → AllFit m → (usage_in m e g).objects < 2 ^ 128
  count-bound m fit = below (total-bound counted-by (2 ^ 64) 1 m.objects (λ n o at. ((fit n o at).0, most n o)))
    where
      below : (usage_in m e g).objects ≤ 2 ^ 64 * 1 → (usage_in m e g).objects < 2 ^ 128
      below h = omega (arith, h)

      most : (n : ℕ) (o : Living) → counted-by (n, o) ≤ 1
      most n o = elim (is_counted e g (n, o)) as (λ b. cond {A = ℕ} b 1 0 ≤ 1)
          [ true ↦ omega arith | false ↦ omega arith ]

-- a share gives way to another of the same rest
pub both-sums : (u v : Usage) → u.used ≡ v.used → u.objects ≡ v.objects → u ≡ v
both-sums u v used objects = λ i. record { used = used i; objects = objects i }

exchange-is : (before after u v : Usage) (used objects : ℕ) → u.used ≡ used + before.used
    → v.used ≡ used + after.used
    → u.objects ≡ objects + before.objects → v.objects ≡ objects + after.objects
    → v.used < 2 ^ 128 → v.objects < 2 ^ 128 → exchanged before after u ≡ v
exchange-is before after u v used objects was is had has small few =
    elim (is_same_usage before after) as (λ b. is_same_usage before after ≡ b →
    cond b u (moved before after u) ≡ v) [
      | true ↦ λ e.
          let both = and_parts (before.used == after.used) (before.objects == after.objects) e in
          let a = (unsigned_Decides before.used after.used).0 both.0 in
          let b = (unsigned_Decides before.objects after.objects).0 both.1 in
          both-sums u v (omega (arith, was, is, a)) (omega (arith, had, has, b))
      | false ↦ λ e. both-sums (moved before after u) v
          (within u.used before.used after.used used v.used was is small)
          (within u.objects before.objects after.objects objects v.objects had has few)
    ] refl
  where
    within : (u b a r v : ℕ) → u ≡ r + b → v ≡ r + a → v < 2 ^ 128 → min (u - b + a) (2 ^ 128 - 1) ≡ v
    within u b a r v was is small = omega (arith, was, is, small)

module _ (k new : StoreMeaning) (n : ℕ)
    (others : (q : ℕ) → (n == q) ≡ false → get new.state.objects q ≡ get k.state.objects q) where
  rest-same : remove new.state.objects n ≡ remove k.state.objects n
  rest-same = same-without k.state.objects new.state.objects n others

  -- sums of both states, by what stands at the number
  module _ (f : ℕ × Living → ℕ) where
    abbrev rest : ℕ
    rest = total f (remove k.state.objects n)

    sum-was : total f k.state.objects ≡ rest + part f n (get k.state.objects n)
    sum-was = split-total f k.state.objects n

    sum-is : total f new.state.objects ≡ rest + part f n (get new.state.objects n)
    sum-is = split-total f new.state.objects n
        ∙ ap (λ (m : FinMap nat_cmp Living). total f m + part f n (get new.state.objects n)) rest-same

  -- where each share is the same, all sums are
  pub stays-counted : ((e : ℕ) → shares_of (get new.state.objects n) e ≡ shares_of (get k.state.objects n) e)
      → (e g : ℕ) → usage_in new.state e g ≡ usage_in k.state e g
  stays-counted alike e g =
      elim (group_of n == g) as (λ b. (group_of n == g) ≡ b → usage_in new.state e g ≡ usage_in k.state e g) [
        | true ↦ λ in_group. both-sums (usage_in new.state e g) (usage_in k.state e g)
            (same-sum (used-by e g) (used-share e g n (get new.state.objects n) in_group
            ∙ ap (λ (u : Usage). u.used) (alike e) ∙ sym (used-share e g n (get k.state.objects n) in_group)))
            (same-sum (counted-by e g) (count-share e g n (get new.state.objects n) in_group
            ∙ ap (λ (u : Usage). u.objects) (alike e) ∙ sym (count-share e g n (get k.state.objects n) in_group)))
        | false ↦ λ other. apart-sums e g other
      ] refl
    where
      same-sum : (f : ℕ × Living → ℕ)
          → part f n (get new.state.objects n) ≡ part f n (get k.state.objects n) →
          total f new.state.objects ≡ total f k.state.objects
      same-sum f e = omega (arith, sum-was f, sum-is f, e)

      apart-sums : (e g : ℕ) → (group_of n == g) ≡ false → usage_in new.state e g ≡ usage_in k.state e g
      apart-sums e g other = both-sums (usage_in new.state e g) (usage_in k.state e g)
          (same-sum (used-by e g) (none-of e g n (get new.state.objects n) (λ o. used_of o.content) other
          ∙ sym (none-of e g n (get k.state.objects n) (λ o. used_of o.content) other)))
          (same-sum (counted-by e g) (none-of e g n (get new.state.objects n) (λ o. 1) other
          ∙ sym (none-of e g n (get k.state.objects n) (λ o. 1) other)))

  -- and else they are right once the number is counted anew
  pub counted-sums : ((e g : ℕ) → k.usage e g ≡ usage_in k.state e g)
      → ((e g : ℕ) → new.usage e g ≡ k.usage e g)
      → AllFit new.state → (e g : ℕ)
      → (counted_anew n (get k.state.objects n) new).usage e g ≡ usage_in new.state e g
  counted-sums right same fit e g =
      elim (group_of n == g) as (λ b. (group_of n == g) ≡ b
      → cond b (exchanged (shares_of (get k.state.objects n) e)
      (shares_of (get new.state.objects n) e) (new.usage e g)) (new.usage e g) ≡ usage_in new.state e g) [
        | true ↦ λ in_group.
            ap (exchanged (shares_of (get k.state.objects n) e) (shares_of (get new.state.objects n) e))
            (same e g ∙ right e g)
            ∙ exchange-is (shares_of (get k.state.objects n) e) (shares_of (get new.state.objects n) e)
            (usage_in k.state e g) (usage_in new.state e g) (rest (used-by e g)) (rest (counted-by e g))
            (sum-was (used-by e g)
            ∙ ap (λ x. rest (used-by e g) + x) (used-share e g n (get k.state.objects n) in_group))
            (sum-is (used-by e g)
            ∙ ap (λ x. rest (used-by e g) + x) (used-share e g n (get new.state.objects n) in_group))
            (sum-was (counted-by e g)
            ∙ ap (λ x. rest (counted-by e g) + x) (count-share e g n (get k.state.objects n) in_group))
            (sum-is (counted-by e g)
            ∙ ap (λ x. rest (counted-by e g) + x) (count-share e g n (get new.state.objects n) in_group))
            (used-bound e g new.state fit) (count-bound e g new.state fit)
        | false ↦ λ other. same e g ∙ right e g ∙ both-sums (usage_in k.state e g) (usage_in new.state e g)
            (let a = none-of e g n (get k.state.objects n) (λ o. used_of o.content) other in
            let b = none-of e g n (get new.state.objects n) (λ o. used_of o.content) other in
            omega (arith, sum-was (used-by e g), sum-is (used-by e g), a, b))
            (let a = none-of e g n (get k.state.objects n) (λ o. 1) other in
            let b = none-of e g n (get new.state.objects n) (λ o. 1) other in
            omega (arith, sum-was (counted-by e g), sum-is (counted-by e g), a, b))
      ] refl

-- ---- the group of what lives has a usage
pub usage-lives : (s : Store) (k : StoreMeaning) (n : ℕ) (o : Living) → Represents s k → Sound k →
    get k.state.objects n ≡ Some o → IsSome (s.at (addresses.Usage o.export (group_of n)))
usage-lives s k n o stands sound at =
    subst (λ (x : Option Object). IsSome x)
    (sym (stands.usages.usage o.export (group_of n)
    (ap (λ b. b || nat_lt k.state.last_export o.export) (exported-there s k n o stands at))))
    (some (k.usage o.export (group_of n)) one)
  where
    itself : (q : ℕ) → (q == q) ≡ true
    itself q = (unsigned_Decides q q).1 refl

    here : part (counted-by o.export (group_of n)) n (get k.state.objects n) ≡ 1
    here = ap (part (counted-by o.export (group_of n)) n) at
        ∙ ap (λ b. cond {A = ℕ} (b && (group_of n == group_of n)) 1 0) (itself o.export)
        ∙ ap (λ b. cond {A = ℕ} b 1 0) (itself (group_of n))

    one : 1 ≤ (k.usage o.export (group_of n)).objects
    one =
        let sum = split-total (counted-by o.export (group_of n)) k.state.objects n in
        let kept = ap (λ (u : Usage). u.objects) (sound.usage o.export (group_of n)) in
        omega (arith, sum, kept, here)

    some : (u : Usage) → 1 ≤ u.objects → IsSome (stored_usage u)
    some u many =
        elim (is_none u) as (λ b. is_none u ≡ b → IsSome (cond b None (Some (objects.Usage u)))) [
          | true ↦ λ e. absurd (let none = (unsigned_Decides u.objects 0).0
              ((and_parts (u.used == 0) (u.objects == 0) e).1) in omega (arith, many, none))
          | false ↦ λ e. refl
        ] refl
