-- The buckets of all files, asked for at once.
use Rattle.std.proofs.Common.{◌≡◌, ◌==◌, ◌<◌, ◌+◌, ◌⊎◌, ℕ, zero, suc, true, false, List, [], ◌∷◌, inl, inr, refl}
use Rattle.std.proofs.Common.{sym, ◌∙◌}
use Rattle.std.proofs.Common.{ap, arith, subst, IsSome}
use Rattle.std.specs.Cmp.{unsigned_Decides}
use Rattle.nlm_ranges.specs.Buckets.{bucket_count}
use Rattle.nfs_objects.proofs.KnowsLemmas.{covers-among, stops-wider}
use Rattle.nfs_objects.specs.Attempt.{StopsCall}
use Rattle.nfs_objects.specs.Calls.{IsAmong, buckets_below}
use Rattle.nfs_objects.specs.Values.{DraftValue, ModesValue, is_addr, known_at}
use Rattle.nfs_objects.specs.declared.address.Addr.{Addr}
use Rattle.nfs_objects.specs.declared.address.Addr.TheVariants as addresses
use Rattle.nfs_objects.specs.declared.change.Missing.{Missing}
use Rattle.nfs_objects.specs.declared.modes.Mode.{Mode}
use Rattle.nfs_inodes.proofs.WishesLemmas.{asking-all, asks-as, asks-more, asks-none, known-all, not-same}
use Rattle.nfs_inodes.specs.Asking.{AsksFor, IsAsking, with_wish}
use Rattle.nfs_inodes.specs.Stops.{StopsAt}

-- one of so many buckets
abbrev pub IsBelow : (count : ℕ) → Addr → Type 0
IsBelow count a = (index : ℕ) × (index < count) × (a ≡ addresses.Locks index)

pub among-buckets : (count index : ℕ) → index < count → IsAmong (buckets_below count) (addresses.Locks index)
unfolding buckets_below
among-buckets zero index low = absurd (omega (arith, low))
among-buckets (suc n) index low =
    elim (index == n) as
    (λ b. (index == n) ≡ b → IsAmong (addresses.Locks n ∷ buckets_below n) (addresses.Locks index)) [
      | true ↦ λ same. inl (ap addresses.Locks (sym ((unsigned_Decides index n).0 same)))
      | false ↦ λ other.
          inr (among-buckets n index
          (let differ : index ≡ n → ⊥ = λ e.
          (let no : true ≡ false = sym ((unsigned_Decides index n).1 e) ∙ other in cc) in
          omega (arith, low, differ)))
    ] refl

module _ (d : DraftValue) where
  pub below-none : AsksFor d (IsBelow 0) (IsBelow 0) [] []
  below-none = asks-none d (IsBelow 0) (IsBelow 0) [] (λ a below. omega (arith, below.1))

  module _ (count : ℕ) (mid new : List (Addr × Mode)) (asks : AsksFor d (IsBelow count) (IsBelow count) [] mid)
      (is : new ≡ with_wish d (addresses.Locks count) mid) where
    abbrev Either : Addr → Type 0
    Either b = IsBelow count b ⊎ (addresses.Locks count ≡ b)

    apart : (b : Addr) → IsBelow count b → is_addr b (addresses.Locks count) ≡ false
    apart b below =
        ap (λ x. is_addr x (addresses.Locks count)) below.2
        ∙ not-same below.0 count (λ same. (let low = below.1 in omega (arith, low, same)))

    wider : (b : Addr) → Either b → IsBelow (count + 1) b
    wider b (inl below) = (below.0, (let low = below.1 in omega (arith, low)), below.2)
    wider b (inr same) = (count, omega arith, sym same)

    fewer : (b : Addr) → IsBelow (count + 1) b → Either b
    fewer b below =
        elim (below.0 == count) as (λ t. (below.0 == count) ≡ t → Either b) [
          | true ↦ λ same. inr (ap addresses.Locks (sym ((unsigned_Decides below.0 count).0 same)) ∙ sym below.2)
          | false ↦ λ other. inl (
            below.0,
            (let low = below.1 in
                let differ : below.0 ≡ count → ⊥ = λ e.
                (let no : true ≡ false = sym ((unsigned_Decides below.0 count).1 e) ∙ other in cc) in
                omega (arith, low, differ)),
            below.2,
          )
        ] refl

    pub below-more : AsksFor d (IsBelow (count + 1)) (IsBelow (count + 1)) [] new
    below-more =
        asks-as d Either (IsBelow (count + 1)) Either (IsBelow (count + 1)) [] new wider fewer
        (asks-more d (IsBelow count) (IsBelow count) (addresses.Locks count) [] mid asks apart new is)

  module _ (asked : List (Addr × Mode)) (asks : AsksFor d (IsBelow bucket_count) (IsBelow bucket_count) [] asked) where
    pub below-asking : IsAsking d (buckets_below bucket_count) asked
    below-asking =
        asking-all d (IsBelow bucket_count) (IsBelow bucket_count) asked asks (buckets_below bucket_count)
        (λ a below none.
        inl (subst (IsAmong (buckets_below bucket_count)) (sym below.2) (among-buckets bucket_count below.0 below.1)))

    pub below-known : asked ≡ [] → (index : ℕ) → index < bucket_count → IsSome (known_at d (addresses.Locks index))
    below-known none index low =
        known-all d (IsBelow bucket_count) (IsBelow bucket_count) asked asks none (addresses.Locks index)
        (index, low, refl)

-- ---- how FREE_ALL halts
abbrev pub all_places : List Addr
all_places = addresses.Exports ∷ buckets_below bucket_count

pub buckets-stop : (d : DraftValue) (halt : Missing) → StopsAt d (buckets_below bucket_count) halt →
    StopsAt d all_places halt
buckets-stop d halt stops =
    stops-wider d.modes (buckets_below bucket_count) all_places 0 d.view halt
    (covers-among (buckets_below bucket_count) all_places d.view (λ a among. inr among)) stops

pub bucket-stops : (d : DraftValue) (index : ℕ) (halt : Missing) → index < bucket_count →
    StopsAt d (addresses.Locks index ∷ []) halt → StopsAt d all_places halt
bucket-stops d index halt low stops =
    stops-wider d.modes (addresses.Locks index ∷ []) all_places 0 d.view halt
    (covers-among (addresses.Locks index ∷ []) all_places d.view (λ a among. elim among [
      | inl is ↦ inr (subst (IsAmong (buckets_below bucket_count)) is (among-buckets bucket_count index low))
      | inr never ↦ absurd never
    ])) stops

-- also where something was put before
pub put-stops : (old d : DraftValue) → d.view ≡ old.view → d.modes ≡ old.modes → (index : ℕ) (halt : Missing) →
    index < bucket_count → StopsAt d (addresses.Locks index ∷ []) halt → StopsAt old all_places halt
put-stops old d view modes index halt low stops =
    bucket-stops old index halt low
    (subst (λ (m : ModesValue). StopsCall m (addresses.Locks index ∷ []) 0 old.view halt) modes
    (subst (λ v. StopsCall d.modes (addresses.Locks index ∷ []) 0 v halt) view stops))
