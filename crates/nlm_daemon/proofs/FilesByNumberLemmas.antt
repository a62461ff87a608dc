-- The files that are freed, bucket by bucket, and by rising numbers in the end.
use Rattle.std.proofs.Common.{◌≡◌, ◌==◌, ◌%◌, ◌≤◌, ◌<◌, ◌+◌, ℕ, zero, suc, Bool, true, false, cond, List, [], ◌∷◌, ◌++◌}
use Rattle.std.proofs.Common.{Option, Some, None, get_or, inl, inr, take, refl, sym, ◌∙◌, ap, append-nil}
use Rattle.std.proofs.Common.{append_assoc}
use Rattle.std.proofs.Common.{subst, arith, option_map}
use Rattle.std.proofs.lemmas.List.{take_all, take_more}
use Rattle.std.proofs.lemmas.List.Elements.{Contains-append_cases, Contains-append_left, Contains-append_right}
use Rattle.std.proofs.lemmas.List.Sorted.{Contains-permutation, IsPermutation-sym}
use Rattle.std.proofs.lemmas.Map.Keys.{IsDistinct-IsPermutation}
use Rattle.std.specs.Cmp.{nat_eq_equiv, unsigned_Decides}
use Rattle.std.specs.List.{AllByRecursion, Contains, IsDistinct}
use Rattle.std.specs.List.Sorted.{IsNonDecreasingBy, IsPermutation}
use Rattle.nfs_machine.specs.Bytes.{same_bytes}
use Rattle.nfs_machine.specs.Exports.{LivingExport}
use Rattle.nfs_machine.specs.Locks.{Mode}
use Rattle.nfs_machine.specs.State.{State}
use Rattle.nfs_machine.proofs.MapChangeLemmas.{apart}
use Rattle.nfs_machine.proofs.FirmLemmas.{none-listed}
use Rattle.nfs_machine.proofs.ModesLemmas.{all-joined}
use Rattle.nlm_ranges.specs.Buckets.{BucketValue, IsBucket, LockedValue, bucket_count, file_in, same_number}
use Rattle.nlm_ranges.specs.Files.{FileValue, no_file}
use Rattle.nlm_ranges.specs.Granting.{IsFreed}
use Rattle.nfs_objects.specs.Stands.{StandLocks, bucket_at, bucket_there, exported_file, file_there, lives_in}
use Rattle.nfs_objects.specs.Store.{Store}
use Rattle.nfs_objects.specs.Values.{DraftValue, known_at}
use Rattle.nfs_objects.specs.declared.address.Addr.TheVariants as addresses
use Rattle.nfs_inodes.proofs.BucketStoreLemmas.{cons-cases, later}
use Rattle.nfs_inodes.specs.Locks.{IsFileAt}
use Rattle.nlm_daemon.proofs.AnsweredGrantLemmas.{all-has, file-index, found-in, found-of, nothing-in}
use Rattle.nlm_daemon.specs.Freeing.{AddsBucket, AddsFreed, AddsOne, AreFreed, AreFreedOf, AreRising, IsFreedFile}
use Rattle.nlm_daemon.specs.Freeing.{IsFreedOne}

-- ---- lists in which each stands once
all-of : {X : Type 0} (P : X → Type 0) (xs : List X) → ((x : X) → Contains xs x → P x) → AllByRecursion P xs
all-of P [] each = tt
all-of P (x ∷ xs) each = (each x (zero, omega arith, refl), all-of P xs (λ y has. each y (later x xs y has)))

module _ {X : Type 0} (same : X → X → Bool) where
  distinct-none : IsDistinct same []
  unfolding IsDistinct
  distinct-none = tt

  distinct-append : (xs ys : List X) → IsDistinct same xs → IsDistinct same ys →
      ((x y : X) → Contains xs x → Contains ys y → same x y ≡ false) → IsDistinct same (xs ++ ys)
  unfolding IsDistinct
  distinct-append [] ys once others apart = others
  distinct-append (x ∷ xs) ys once others apart = (
    all-joined (λ y. same x y ≡ false) xs ys once.0
        (all-of (λ y. same x y ≡ false) ys (λ y has. apart x y (zero, omega arith, refl) has)),
    distinct-append xs ys once.1 others (λ a b mine theirs. apart a b (later x xs a mine) theirs),
  )

  -- the first, and the others
  distinct-parts : (x : X) (xs : List X) → IsDistinct same (x ∷ xs) →
      AllByRecursion (λ y. same x y ≡ false) xs × IsDistinct same xs
  unfolding IsDistinct
  distinct-parts x xs once = once

  distinct-more : (x : X) (xs : List X) → AllByRecursion (λ y. same x y ≡ false) xs → IsDistinct same xs →
      IsDistinct same (x ∷ xs)
  unfolding IsDistinct
  distinct-more x xs others once = (others, once)

-- ---- the files of one bucket
module _ (exports : List LivingExport) (name : List ℕ) where
  pub freed-none : AreFreedOf exports name [] []
  freed-none = record {
    from = λ new has. absurd (nothing-in new has);
    once = λ once. distinct-none same_number;
    rest = λ old has. absurd (nothing-in old has);
  }

  module _ (file : LockedValue) (files freed : List LockedValue) (are : AreFreedOf exports name files freed) where
    -- the caller had nothing of one before them
    freed-kept : IsFreedOne exports name file None → AreFreedOf exports name (file ∷ files) freed
    freed-kept nothing = record {
      from = λ new has. (let old = are.from new has in (old.0, later file files old.0 old.1, old.2, old.3));
      once = λ once. are.once (distinct-parts same_number file files once).1;
      rest = λ old has lives none. elim (cons-cases file files old has) [
        | inl same ↦ subst (λ (f : LockedValue). IsFreed f.file name f.file) same
            (nothing (ap (λ (f : LockedValue). lives_in exports f.export) same ∙ lives))
        | inr there ↦ are.rest old there lives none
      ];
    }

    -- or it is freed
    freed-more : (new : LockedValue) → IsFreedOne exports name file (Some new) →
        AreFreedOf exports name (file ∷ files) (new ∷ freed)
    freed-more new one = record {
      from = λ f has. elim (cons-cases new freed f has) [
        | inl same ↦ (file, (zero, omega arith, refl), one.0, subst (IsFreedFile name file) same one.1)
        | inr there ↦ (let old = are.from f there in (old.0, later file files old.0 old.1, old.2, old.3))
      ];
      once = λ once.
          let parts = distinct-parts same_number file files once in
          distinct-more same_number new freed
          (all-of (λ f. same_number new f ≡ false) freed (λ f has.
          (let old = are.from f has in
          ap (λ n. n == f.number) one.1.number ∙ ap (λ n. file.number == n) old.3.number
          ∙ all-has (λ g. same_number file g ≡ false) files old.0 parts.0 old.1)))
          (are.once parts.1);
      rest = λ old has lives none. elim (cons-cases file files old has) [
        | inl same ↦ absurd (none new (zero, omega arith, refl)
            (one.1.number ∙ ap (λ (f : LockedValue). f.number) same))
        | inr there ↦ are.rest old there lives (λ f listed is. none f (later new freed f listed) is)
      ];
    }

  -- one file, and then the others
  module _ (file : LockedValue) (files old mid new : List LockedValue) (one : AddsOne exports name file old mid)
      (adds : AddsFreed exports name files mid new) where
    abbrev listed : Option LockedValue → List LockedValue
    listed o = elim o [ None ↦ [] | Some f ↦ f ∷ [] ]

    longer-freed : (o : Option LockedValue) → IsFreedOne exports name file o →
        AreFreedOf exports name (file ∷ files) (listed o ++ adds.more)
    longer-freed None is = freed-kept file files adds.more adds.freed is
    longer-freed (Some f) is = freed-more file files adds.more adds.freed f is

    pub adds-later : AddsFreed exports name (file ∷ files) old new
    adds-later = record {
      more = listed one.left ++ adds.more;
      grown = adds.grown ∙ ap (λ l. l ++ adds.more) one.grown ∙ append_assoc old (listed one.left) adds.more;
      freed = longer-freed one.left one.freed;
    }

  pub adds-first : (old : List LockedValue) → AddsFreed exports name [] old old
  adds-first old = record { more = []; grown = sym (append-nil old); freed = freed-none }

-- ---- bucket by bucket
-- what has nothing has nothing less
nothing-freed : (name : List ℕ) → IsFreed no_file name no_file
nothing-freed name = record {
  locks = record {
    modes_are = λ owner offset. elim (same_bytes owner.caller_name name) as
        (λ b. ◌≡◌ {A = Mode} None (cond b None None)) [ true ↦ refl | false ↦ refl ];
    listed = none-listed;
  };
  shares = refl;
  waiting = refl;
  pending = refl;
}

-- the files of so many buckets are freed
pub record AreFreedBelow (s : Store) (m : State) (name : List ℕ) (count : ℕ) (freed : List LockedValue) : Type 0 where
  pub below : (new : LockedValue) → Contains freed new → new.number % bucket_count < count
  pub frees : (new : LockedValue) → Contains freed new → IsFreed (file_there s m.exports new.number) name new.file
  pub lives : (new : LockedValue) → Contains freed new → IsFileAt m new.number new.export
  pub others : (n : ℕ) → n % bucket_count < count → ((new : LockedValue) → Contains freed new → new.number ≡ n → ⊥) →
      IsFreed (file_there s m.exports n) name (file_there s m.exports n)
  pub once : IsDistinct same_number freed

module _ (s : Store) (m : State) (stand : StandLocks s m) (name : List ℕ) where
  pub below-first : AreFreedBelow s m name 0 []
  below-first = record {
    below = λ new has. absurd (nothing-in new has);
    frees = λ new has. absurd (nothing-in new has);
    lives = λ new has. absurd (nothing-in new has);
    others = λ n low none. absurd (omega (arith, low));
    once = distinct-none same_number;
  }

  module _ (index : ℕ) (b : BucketValue) (there : bucket_there s index ≡ b) (bucket : IsBucket b)
      (files : (f : LockedValue) → Contains b.files f → lives_in m.exports f.export ≡ true →
      IsFileAt m f.number f.export) (freed more : List LockedValue) (are : AreFreedOf m.exports name b.files more)
      (before : AreFreedBelow s m name index freed) where
    abbrev had : ℕ → FileValue
    had n = file_there s m.exports n

    abbrev listed_at : Option LockedValue → FileValue
    listed_at o = exported_file m.exports o

    -- what is had at a number of this bucket
    had-there : (n : ℕ) → n % bucket_count ≡ index → had n ≡ listed_at (file_in b n)
    had-there n is =
        ap (λ i. listed_at (file_in (bucket_there s i) n)) is ∙ ap (λ x. listed_at (file_in x n)) there

    index-of : (f : LockedValue) → Contains b.files f → f.number % bucket_count ≡ index
    index-of = file-index s m stand index b there

    had-is : (f : LockedValue) → Contains b.files f → lives_in m.exports f.export ≡ true → had f.number ≡ f.file
    had-is f has lives =
        had-there f.number (index-of f has) ∙ ap listed_at (found-of s m stand index b there bucket f has)
        ∙ ap (λ t. cond t f.file no_file) lives

    index-new : (new : LockedValue) → Contains more new → new.number % bucket_count ≡ index
    index-new new has =
        let old = are.from new has in ap (λ n. n % bucket_count) old.3.number ∙ index-of old.0 old.1

    frees-new : (new : LockedValue) → Contains more new → IsFreed (had new.number) name new.file
    frees-new new has =
        let old = are.from new has in
        subst (λ n. IsFreed (had n) name new.file) (sym old.3.number)
        (subst (λ f. IsFreed f name new.file) (sym (had-is old.0 old.1 old.2)) old.3.freed)

    lives-new : (new : LockedValue) → Contains more new → IsFileAt m new.number new.export
    lives-new new has =
        let old = are.from new has in
        subst (λ n. IsFileAt m n new.export) (sym old.3.number)
        (subst (λ e. IsFileAt m old.0.number e) (sym old.3.export) (files old.0 old.1 old.2))

    -- of every other file of the bucket the caller had nothing
    rest-of : (n : ℕ) → n % bucket_count ≡ index → ((new : LockedValue) → Contains more new → new.number ≡ n → ⊥) →
        (o : Option LockedValue) → file_in b n ≡ o → IsFreed (listed_at o) name (listed_at o)
    rest-of n is none None at = nothing-freed name
    rest-of n is none (Some f) at =
        let found = found-in (λ (x : LockedValue). x.number == n) b.files f at in
        elim (lives_in m.exports f.export) as (λ t. lives_in m.exports f.export ≡ t →
        IsFreed (cond t f.file no_file) name (cond t f.file no_file)) [
          | true ↦ λ lives. are.rest f found.0 lives
              (λ new has same. none new has (same ∙ (unsigned_Decides f.number n).0 found.1))
          | false ↦ λ dead. nothing-freed name
        ] refl

    pub below-next : AreFreedBelow s m name (index + 1) (freed ++ more)
    below-next = record {
      below = λ new has. elim (Contains-append_cases freed more new has) [
        | inl old ↦ (let low = before.below new old in omega (arith, low))
        | inr now ↦ (let here = index-new new now in omega (arith, here))
      ];
      frees = λ new has. elim (Contains-append_cases freed more new has) [
        | inl old ↦ before.frees new old
        | inr now ↦ frees-new new now
      ];
      lives = λ new has. elim (Contains-append_cases freed more new has) [
        | inl old ↦ before.lives new old
        | inr now ↦ lives-new new now
      ];
      others = λ n low none.
          elim (n % bucket_count == index) as (λ t. (n % bucket_count == index) ≡ t → IsFreed (had n) name (had n)) [
            | true ↦ λ same.
                (let is : n % bucket_count ≡ index = (unsigned_Decides (n % bucket_count) index).0 same in
                subst (λ f. IsFreed f name f) (sym (had-there n is))
                (rest-of n is (λ new has. none new (Contains-append_right freed more new has)) (file_in b n) refl))
            | false ↦ λ other.
                before.others n
                (let differ : n % bucket_count ≡ index → ⊥ = λ e.
                (let no : true ≡ false = sym ((unsigned_Decides (n % bucket_count) index).1 e) ∙ other in cc) in
                omega (arith, low, differ))
                (λ new has. none new (Contains-append_left freed more new has))
          ] refl;
      once = distinct-append same_number freed more before.once (are.once bucket.once) (λ x y mine theirs.
          apart x.number y.number (λ same.
          (let low = before.below x mine in
          let here = index-new y theirs in
          let one : x.number % bucket_count ≡ y.number % bucket_count = ap (λ n. n % bucket_count) same in
          omega (arith, low, here, one))));
    }

  -- ---- in the end
  rising-sorted : (below : ℕ) (xs : List LockedValue) → IsNonDecreasingBy (λ (f : LockedValue). f.number) xs →
      IsDistinct same_number xs → ((f : LockedValue) → Contains xs f → below ≤ f.number) → AreRising below xs
  unfolding IsDistinct
  rising-sorted below [] sorted once low = tt
  rising-sorted below (x ∷ xs) sorted once low = (
    low x (zero, omega arith, refl),
    rising-sorted (x.number + 1) xs
        (λ i j d rises within. sorted (suc i) (suc j) d (omega (arith, rises)) (omega (arith, within))) once.1
        (λ y (k, within, at).
        (let above : x.number ≤ (get_or xs k y).number = sorted zero (suc k) y (omega arith) (omega (arith, within)) in
        let its : (get_or xs k y).number ≡ y.number = ap (λ (f : LockedValue). f.number) at in
        let other = all-has (λ f. same_number x f ≡ false) xs y once.0 (k, within, at) in
        let differ : x.number ≡ y.number → ⊥ = λ e.
        (let no : true ≡ false = sym ((unsigned_Decides x.number y.number).1 e) ∙ other in cc) in
        omega (arith, above, its, differ))),
  )

  pub freed-all : (freed sorted : List LockedValue) → AreFreedBelow s m name bucket_count freed →
      IsPermutation freed sorted → IsNonDecreasingBy (λ (f : LockedValue). f.number) sorted → AreFreed m name sorted
  freed-all freed sorted all moved rises =
      let back : (f : LockedValue) → Contains sorted f → Contains freed f =
      λ f has. Contains-permutation sorted freed f (IsPermutation-sym freed sorted moved) has in record {
        rising = rising-sorted 0 sorted rises
            (IsDistinct-IsPermutation same_number (λ x y. nat_eq_equiv.symm x.number y.number) freed sorted moved
            all.once)
            (λ f has. omega arith);
        had = file_there s m.exports;
        has = λ n. record { held = stand.held n; pending = λ grant r. stand.pending grant n r };
        each = λ f has. all.frees f (back f has);
        lives = λ f has. all.lives f (back f has);
        others = λ n none. all.others n (omega arith)
            (λ f has. none f (Contains-permutation freed sorted f moved has));
      }

  -- a bucket more
  pub below-step : (d : DraftValue) (exports : List LivingExport) (index : ℕ) (old new : List LockedValue) →
      m.exports ≡ exports → ((b : BucketValue) →
      option_map bucket_at (known_at d (addresses.Locks index)) ≡ Some b → bucket_there s index ≡ b) →
      ((f : LockedValue) → Contains (bucket_there s index).files f → lives_in m.exports f.export ≡ true →
      IsFileAt m f.number f.export) → AddsBucket d exports name index old new → AreFreedBelow s m name index old →
      AreFreedBelow s m name (index + 1) new
  below-step d exports index old new lists known files adds before =
      let there = known adds.bucket adds.known in
      subst (AreFreedBelow s m name (index + 1)) (sym adds.adds.grown)
      (below-next index adds.bucket there adds.is_bucket
      (subst (λ (b : BucketValue). (f : LockedValue) → Contains b.files f → lives_in m.exports f.export ≡ true →
      IsFileAt m f.number f.export) there files) old adds.adds.more
      (subst (λ es. AreFreedOf es name adds.bucket.files adds.adds.more) (sym lists) adds.adds.freed) before)
