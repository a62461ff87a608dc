-- What a store stands for where a bucket is put: a file has other locks, or a number is given.
use Rattle.std.proofs.Common.{◌≡◌, ◌==◌, ◌+◌, ◌/◌, ◌%◌, ◌<◌, ◌||◌, ◌⊎◌, ℕ, true, false, cond, not}
use Rattle.std.proofs.Common.{List, [], ◌∷◌, Option, Some, None, find, inl, inr, length, suc, zero}
use Rattle.std.proofs.Common.{refl, sym, ◌∙◌, ap, subst, arith}
use Rattle.std.proofs.lemmas.Bool.{and_parts}
use Rattle.std.proofs.lemmas.Bool.Decides.{nat_tests}
use Rattle.std.proofs.lemmas.List.{nil_from_length}
use Rattle.std.specs.Cmp.{nat_eq_equiv, unsigned_Decides}
use Rattle.std.specs.FinMap.{FinMap, get, insert}
use Rattle.std.specs.List.{AllByRecursion, Contains, IsDistinct}
use Rattle.std.specs.Option.{option_map_or}
use Rattle.std.specs.Ordering.{nat_cmp}
use Rattle.std.specs.Prelude.{◌↔◌, nat_lt}
use Rattle.nfs_machine.specs.FileLists.{grants_but, of_file}
use Rattle.nfs_machine.specs.Grants.{at_file, with_grants}
use Rattle.nfs_machine.specs.State.{PendingGrant, Request, State}
use Rattle.nfs_machine.proofs.FileMapLemmas.{get-grants_but, grants-left, of-with}
use Rattle.nfs_machine.proofs.ModesLemmas.{all-mapped}
use Rattle.nfs_machine.proofs.MapSumLemmas.{get-inserted}
use Rattle.nlm_ranges.specs.Files.{FileValue, has_nothing, no_file}
use Rattle.nfs_objects.proofs.LocksStandLemmas.{found-has, of-both}
use Rattle.nlm_ranges.specs.Buckets.{BucketValue, IsBucket, IsInserted, LockedValue, bucket_count, file_in, has_none}
use Rattle.nlm_ranges.specs.Buckets.{no_bucket, number_given, same_number}
use Rattle.nfs_objects.specs.Stands.{IsPendingIn, IsPlaced, StandLocks, bucket_at, bucket_there, exported_file}
use Rattle.nfs_objects.specs.Stands.{file_there, lives_in, stored_bucket}
use Rattle.nfs_objects.specs.Store.{Store, with_write}
use Rattle.nfs_objects.specs.declared.address.Addr.TheVariants as addresses
use Rattle.nfs_objects.specs.declared.object.Object.TheVariants as stored
use Rattle.nfs_inodes.specs.Locks.{AreOwnNumbers, with_file}

-- ---- lists
pub cons-cases : {X : Type 0} (y : X) (ys : List X) (x : X) → Contains (y ∷ ys) x → (y ≡ x) ⊎ Contains ys x
cons-cases y ys x (zero, within, at) = inl at
cons-cases y ys x (suc k, within, at) = inr (k, omega (arith, within), at)

pub later : {X : Type 0} (y : X) (ys : List X) (x : X) → Contains ys x → Contains (y ∷ ys) x
later y ys x (k, within, at) = (suc k, omega (arith, within), at)

-- ---- grants that are put
-- the grant with a number is of one of these requests, or of none of them, as it was
abbrev pub IsOf : FinMap nat_cmp PendingGrant → (file : ℕ) → List Request → (number : ℕ) → PendingGrant → Type 0
IsOf base file rs number g =
    ((r : Request) × Contains rs r × (r.number ≡ number) × (g ≡ record { file = file; request = r }))
    ⊎ (get base number ≡ Some g)

pub granted-of : (base : FinMap nat_cmp PendingGrant) (file : ℕ) (rs : List Request) (number : ℕ) (g : PendingGrant) →
    get (with_grants base file rs) number ≡ Some g → IsOf base file rs number g
granted-of base file [] number g at = inr at
granted-of base file (r ∷ rs) number g at =
    elim (granted-of (insert base r.number (record { file = file; request = r })) file rs number g at) [
      | inl (q, there, is, same) ↦ inl (q, later r rs q there, is, same)
      | inr was ↦
          elim (number == r.number) as (λ b. (number == r.number) ≡ b →
          cond b (Some (record { file = file; request = r })) (get base number) ≡ Some g →
          IsOf base file (r ∷ rs) number g) [
            | true ↦ λ same e. inl (
              r,
              (zero, omega arith, refl),
              sym ((unsigned_Decides number r.number).0 same),
              (let one : record { file = file; request = r } ≡ g = cc in sym one),
            )
            | false ↦ λ other e. inr e
          ] refl (sym (get-inserted base r.number (record { file = file; request = r }) number) ∙ was)
    ]

-- what stands under a number stands still, or another in its place
pub stands-still : (base : FinMap nat_cmp PendingGrant) (file : ℕ) (rs : List Request) (number : ℕ) →
    (get base number ≡ None → ⊥) → get (with_grants base file rs) number ≡ None → ⊥
stands-still base file [] number some none = some none
stands-still base file (r ∷ rs) number some none =
    stands-still (insert base r.number (record { file = file; request = r })) file rs number (λ gone.
    elim (number == r.number) as (λ b. cond b (Some (record { file = file; request = r })) (get base number) ≡
    None → ⊥) [
      | true ↦ λ e. absurd cc
      | false ↦ λ e. some e
    ] (sym (get-inserted base r.number (record { file = file; request = r }) number) ∙ gone)) none

pub one-stands : (base : FinMap nat_cmp PendingGrant) (file : ℕ) (rs : List Request) (r : Request) → Contains rs r →
    get (with_grants base file rs) r.number ≡ None → ⊥
one-stands base file [] r (k, within, at) none = absurd (omega (arith, within))
one-stands base file (q ∷ rs) r there none = elim (cons-cases q rs r there) [
  | inl same ↦
      stands-still (insert base q.number (record { file = file; request = q })) file rs r.number (λ gone.
      let here : get (insert base q.number (record { file = file; request = q })) r.number ≡
      Some (record { file = file; request = q }) =
      get-inserted base q.number (record { file = file; request = q }) r.number
      ∙ ap (λ b. cond b (Some (record { file = file; request = q })) (get base r.number))
      ((unsigned_Decides r.number q.number).1 (ap (λ (x : Request). x.number) (sym same))) in
      let both : None ≡ Some (record { file = file; request = q }) = sym gone ∙ here in absurd cc) none
  | inr rest ↦ one-stands (insert base q.number (record { file = file; request = q })) file rs r rest none
]

-- ---- a bucket that is put
empty-bucket : (b : BucketValue) → has_none b ≡ true → no_bucket ≡ b
empty-bucket b is =
    let both = and_parts (b.given == 0) (length b.files == 0) is in
    λ i. record {
      given = sym ((unsigned_Decides b.given 0).0 both.0) i;
      files = sym (nil_from_length b.files ((unsigned_Decides (length b.files) 0).0 both.1)) i;
    }

pub bucket-stored : (b : BucketValue) → bucket_at (stored_bucket b) ≡ b
bucket-stored b =
    elim (has_none b) as (λ e. has_none b ≡ e → bucket_at (cond e None (Some (stored.Locks b))) ≡ b) [
      | true ↦ λ is. empty-bucket b is
      | false ↦ λ is. refl
    ] refl

nothing-is : (f : FileValue) → has_nothing f ≡ true → f ≡ no_file
nothing-is f is =
    let locks = and_parts (length f.held.locks == 0) _ is in
    let shares = and_parts (length f.held.shares == 0) _ locks.1 in
    let rest = and_parts (length f.held.waiting == 0) (length f.pending == 0) shares.1 in
    λ i. record {
      held = record {
        locks = nil_from_length f.held.locks ((unsigned_Decides (length f.held.locks) 0).0 locks.0) i;
        shares = nil_from_length f.held.shares ((unsigned_Decides (length f.held.shares) 0).0 shares.0) i;
        waiting = nil_from_length f.held.waiting ((unsigned_Decides (length f.held.waiting) 0).0 rest.0) i;
      };
      pending = nil_from_length f.pending ((unsigned_Decides (length f.pending) 0).0 rest.1) i;
    }

-- each file of a list in which each stands once is found by its number
abbrev pub IsFound : List LockedValue → LockedValue → Type 0
IsFound fs f = find (λ (g : LockedValue). g.number == f.number) fs ≡ Some f

pub once-found : (fs : List LockedValue) → IsDistinct same_number fs → AllByRecursion (IsFound fs) fs
unfolding IsDistinct
once-found [] once = tt
once-found (f ∷ fs) once = (
  ap (λ b. cond b (Some f) (find (λ (g : LockedValue). g.number == f.number) fs))
      ((unsigned_Decides f.number f.number).1 refl),
  of-both (λ (g : LockedValue). (f.number == g.number) ≡ false) (IsFound fs) (IsFound (f ∷ fs)) fs
      (λ g other is. ap (λ b. cond b (Some f) (find (λ (h : LockedValue). h.number == g.number) fs)) other ∙ is)
      once.0 (once-found fs once.1),
)

module _ (s : Store) (m : State) (index : ℕ) (bucket : BucketValue) (stand : StandLocks s m) where
  -- the store with the bucket
  abbrev pub after : Store
  after = with_write s (addresses.Locks index) (stored_bucket bucket)

  pub here : bucket_there after index ≡ bucket
  here =
      ap (λ b. bucket_at (cond b (stored_bucket bucket) (s.at (addresses.Locks index))))
      ((unsigned_Decides index index).1 refl) ∙ bucket-stored bucket

  pub elsewhere : (i : ℕ) → (index == i) ≡ false → bucket_there after i ≡ bucket_there s i
  elsewhere i other = ap (λ b. bucket_at (cond b (stored_bucket bucket) (s.at (addresses.Locks i)))) other

  -- no empty bucket stands
  pub stored-after : (i : ℕ) → after.at (addresses.Locks i) ≡ stored_bucket (bucket_there after i)
  stored-after i = elim (index == i) as (λ b. (index == i) ≡ b →
      cond b (stored_bucket bucket) (s.at (addresses.Locks i)) ≡
      stored_bucket (bucket_at (cond b (stored_bucket bucket) (s.at (addresses.Locks i))))) [
        | true ↦ λ is. ap stored_bucket (sym (bucket-stored bucket))
        | false ↦ λ is. stand.stored i
      ] refl

-- ---- a file has this
module _ (s : Store) (m : State) (file : LockedValue) (bucket : BucketValue) (stand : StandLocks s m)
    (inserted : IsInserted (bucket_there s (file.number % bucket_count)) file bucket)
    (lives : has_nothing file.file ≡ false → lives_in m.exports file.export ≡ true) where
  abbrev index : ℕ
  index = file.number % bucket_count

  abbrev put : Store
  put = after s m index bucket stand

  abbrev kept : Option LockedValue
  kept = cond (has_nothing file.file) None (Some file)

  kept-is : exported_file m.exports kept ≡ file.file
  kept-is =
      elim (has_nothing file.file) as (λ b. has_nothing file.file ≡ b →
      exported_file m.exports (cond b None (Some file)) ≡ file.file) [
        | true ↦ λ is. sym (nothing-is file.file is)
        | false ↦ λ is. ap (λ b. cond b file.file no_file) (lives is)
      ] refl

  found-after : (q : ℕ) → file_in (bucket_there put (q % bucket_count)) q ≡
      cond (file.number == q) kept (file_in (bucket_there s (q % bucket_count)) q)
  found-after q = elim (index == q % bucket_count) as (λ b. (index == q % bucket_count) ≡ b →
      file_in (bucket_there put (q % bucket_count)) q ≡
      cond (file.number == q) kept (file_in (bucket_there s (q % bucket_count)) q)) [
        | true ↦ λ is.
            (let same : index ≡ q % bucket_count = (unsigned_Decides index (q % bucket_count)).0 is in
            ap (λ i. file_in (bucket_there put i) q) (sym same)
            ∙ ap (λ b. file_in b q) (here s m index bucket stand)
            ∙ inserted.files q
            ∙ ap (λ i. cond (file.number == q) kept (file_in (bucket_there s i) q)) same)
        | false ↦ λ is.
            ap (λ b. file_in b q) (elsewhere s m index bucket stand (q % bucket_count) is)
            ∙ sym (ap (λ b. cond b kept (file_in (bucket_there s (q % bucket_count)) q)) (apart q is))
      ] refl
    where
      apart : (q : ℕ) → (index == q % bucket_count) ≡ false → (file.number == q) ≡ false
      apart q is = elim (file.number == q) as (λ b. (file.number == q) ≡ b → b ≡ false) [
        | true ↦ λ same.
            (let equal = (unsigned_Decides index (q % bucket_count)).1
            (ap (λ x. x % bucket_count) ((unsigned_Decides file.number q).0 same)) in cc)
        | false ↦ λ other. refl
      ] refl

  there-after : (q : ℕ) → file_there put m.exports q ≡ cond (file.number == q) file.file (file_there s m.exports q)
  there-after q =
      ap (exported_file m.exports) (found-after q)
      ∙ elim (file.number == q) as (λ b.
      exported_file m.exports (cond b kept (file_in (bucket_there s (q % bucket_count)) q)) ≡
      cond b file.file (file_there s m.exports q)) [ true ↦ kept-is | false ↦ refl ]

  held-after : (q : ℕ) → at_file (with_file m file.number file.file) q ≡ (file_there put m.exports q).held
  held-after q =
      (λ i. record {
        locks = of-with m.locks file.number file.file.held.locks q i;
        shares = of-with m.shares file.number file.file.held.shares q i;
        waiting = of-with m.waiting file.number file.file.held.waiting q i;
      })
      ∙ elim (q == file.number) as (λ b. (q == file.number) ≡ b → record {
        locks = cond b file.file.held.locks (of_file m.locks q);
        shares = cond b file.file.held.shares (of_file m.shares q);
        waiting = cond b file.file.held.waiting (of_file m.waiting q);
      } ≡ (cond b file.file (file_there s m.exports q)).held) [
        | true ↦ λ same. refl
        | false ↦ λ other. stand.held q
      ] refl
      ∙ ap (λ b. (cond b file.file (file_there s m.exports q)).held) (nat_eq_equiv.symm q file.number)
      ∙ ap (λ (f : FileValue). f.held) (sym (there-after q))

  -- the grants of other files, and of this one those that are put
  module _ (own : AreOwnNumbers m file.number file.file.pending) where
    abbrev others : FinMap nat_cmp PendingGrant
    others = grants_but (λ (g : PendingGrant). g.file == file.number) m.granted

    now : (number : ℕ) (q : ℕ) (r : Request) →
        get (with_grants others file.number file.file.pending) number ≡ Some (record { file = q; request = r }) →
        Contains (cond (file.number == q) file.file (file_there s m.exports q)).pending r × (r.number ≡ number)
    now number q r at =
        elim (granted-of others file.number file.file.pending number (record { file = q; request = r }) at) [
          | inl (p, there, is, same) ↦
              let one : r ≡ p = ap (λ (g : PendingGrant). g.request) same in
              let here : q ≡ file.number = ap (λ (g : PendingGrant). g.file) same in (
                subst (λ b. Contains (cond b file.file (file_there s m.exports q)).pending r)
                    (sym ((unsigned_Decides file.number q).1 (sym here)))
                    (subst (Contains file.file.pending) (sym one) there),
                ap (λ (x : Request). x.number) one ∙ is,
              )
          | inr was ↦
              let left = grants-left (λ (g : PendingGrant). g.file == file.number) m.granted number
              (record { file = q; request = r }) was in
              let before = (stand.pending number q r).0 left.0 in (
                subst (λ b. Contains (cond b file.file (file_there s m.exports q)).pending r)
                    (sym (nat_eq_equiv.symm file.number q ∙ left.1)) before.0,
                before.1,
              )
        ]

    back : (number : ℕ) (q : ℕ) (r : Request) →
        Contains (cond (file.number == q) file.file (file_there s m.exports q)).pending r × (r.number ≡ number) →
        get (with_grants others file.number file.file.pending) number ≡ Some (record { file = q; request = r })
    back number q r there =
        elim (file.number == q) as (λ b. (file.number == q) ≡ b →
        Contains (cond b file.file (file_there s m.exports q)).pending r →
        get (with_grants others file.number file.file.pending) number ≡ Some (record { file = q; request = r })) [
          | true ↦ λ same mine.
              (let q-is : file.number ≡ q = (unsigned_Decides file.number q).0 same in
              by-own q r mine q-is (get (with_grants others file.number file.file.pending) number) refl)
          | false ↦ λ other theirs.
              by-other q r other theirs (get (with_grants others file.number file.file.pending) number) refl there.1
        ] refl there.0
      where
        number-is : r.number ≡ number
        number-is = there.1

        stays : (x : ℕ) (p : Request) → (file.number == x) ≡ false → Contains (file_there s m.exports x).pending p →
            p.number ≡ number → get others number ≡ Some (record { file = x; request = p })
        stays x p other theirs is =
            let at = (stand.pending number x p).1 (theirs, is) in
            get-grants_but (λ (g : PendingGrant). g.file == file.number) m.granted number
            ∙ (λ i. cond (not (option_map_or (λ (g : PendingGrant). g.file == file.number) (at i) false)) (at i) None)
            ∙ ap (λ b. cond (not b) (Some (record { file = x; request = p })) None)
            (nat_eq_equiv.symm x file.number ∙ other)

        by-own : (x : ℕ) (p : Request) → Contains file.file.pending r → file.number ≡ x →
            (o : Option PendingGrant) → get (with_grants others file.number file.file.pending) number ≡ o →
            get (with_grants others file.number file.file.pending) number ≡ Some (record { file = x; request = r })
        by-own x p mine x-is None is =
            absurd (one-stands others file.number file.file.pending r mine
            (ap (get (with_grants others file.number file.file.pending)) number-is ∙ is))
        by-own x p mine x-is (Some g) is =
            elim (granted-of others file.number file.file.pending number g is) [
              | inl (z, there, z-is, same) ↦
                  let one : r ≡ z = own.once r z mine there (number-is ∙ sym z-is) in
                  is ∙ ap Some (same ∙ (λ i. record { file = x-is i; request = sym one i }))
              | inr was ↦
                  let left = grants-left (λ (h : PendingGrant). h.file == file.number) m.granted number g was in
                  let mine-too : g.file ≡ file.number = own.own r mine g.file g.request
                  (ap (get m.granted) number-is ∙ left.0) in
                  let equal = (unsigned_Decides g.file file.number).1 mine-too in
                  let both : true ≡ false = sym equal ∙ left.1 in absurd cc
            ]

        by-other : (x : ℕ) (p : Request) → (file.number == x) ≡ false → Contains (file_there s m.exports x).pending p →
            (o : Option PendingGrant) → get (with_grants others file.number file.file.pending) number ≡ o →
            p.number ≡ number →
            get (with_grants others file.number file.file.pending) number ≡ Some (record { file = x; request = p })
        by-other x p other theirs None is p-is =
            absurd (stands-still others file.number file.file.pending number
            (λ none. (let both : None ≡ Some (record { file = x; request = p }) =
            sym none ∙ stays x p other theirs p-is in absurd cc)) is)
        by-other x p other theirs (Some g) is p-is =
            elim (granted-of others file.number file.file.pending number g is) [
              | inl (z, there, z-is, same) ↦
                  let at = (stand.pending number x p).1 (theirs, p-is) in
                  let here : x ≡ file.number = own.own z there x p (ap (get m.granted) z-is ∙ at) in
                  let equal = (unsigned_Decides file.number x).1 (sym here) in
                  let both : true ≡ false = sym equal ∙ other in absurd cc
              | inr was ↦ is ∙ (sym was ∙ stays x p other theirs p-is)
            ]

    pending-after : (number : ℕ) (q : ℕ) (r : Request) →
        IsPendingIn (with_file m file.number file.file) number q r ↔
        (Contains (file_there put m.exports q).pending r × (r.number ≡ number))
    pending-after number q r = (
      λ at. (let is = now number q r at in
          (subst (λ (f : FileValue). Contains f.pending r) (sym (there-after q)) is.0, is.1)),
      λ there. back number q r
          (subst (λ (f : FileValue). Contains f.pending r) (there-after q) there.0, there.1),
    )

  -- what stands at numbers stays
  on : (i : ℕ) (f : LockedValue) → IsPlaced s i f → IsPlaced put i f
  on i f placed = record {
    bucket = placed.bucket;
    inode = placed.inode;
    stands = placed.stands;
    regular = placed.regular;
    export = placed.export;
  }

  module _ (is-bucket : IsBucket bucket) (placed : has_nothing file.file ≡ false → IsPlaced s index file) where
    one-placed : (f : LockedValue) → file_in bucket f.number ≡ Some f → IsPlaced s index f
    one-placed f found =
        elim (file.number == f.number) as (λ b. cond b kept (file_in (bucket_there s index) f.number) ≡ Some f →
        IsPlaced s index f) [
          | true ↦ λ e. elim (has_nothing file.file) as (λ b. has_nothing file.file ≡ b →
              cond b None (Some file) ≡ Some f → IsPlaced s index f) [
                | true ↦ λ is none. cc
                | false ↦ λ is some. (let same : file ≡ f = cc in subst (IsPlaced s index) same (placed is))
              ] refl e
          | false ↦ λ e. (found-has (IsPlaced s index) (λ (g : LockedValue). g.number == f.number)
              (bucket_there s index).files f e (stand.placed index)).0
        ] (sym (inserted.files f.number) ∙ found)

    placed-after : (i : ℕ) → AllByRecursion (IsPlaced put i) (bucket_there put i).files
    placed-after i = elim (index == i) as (λ b. (index == i) ≡ b →
        AllByRecursion (IsPlaced put i) (bucket_there put i).files) [
          | true ↦ λ same.
              subst (λ x. AllByRecursion (IsPlaced put x) (bucket_there put x).files)
              ((unsigned_Decides index i).0 same)
              (subst (λ (b : BucketValue). AllByRecursion (IsPlaced put index) b.files)
              (sym (here s m index bucket stand))
              (all-mapped (IsFound bucket.files) (IsPlaced put index) bucket.files
              (λ f is. on index f (one-placed f is)) (once-found bucket.files is-bucket.once)))
          | false ↦ λ other.
              subst (λ (b : BucketValue). AllByRecursion (IsPlaced put i) b.files)
              (sym (elsewhere s m index bucket stand i other))
              (all-mapped (IsPlaced s i) (IsPlaced put i) (bucket_there s i).files (on i) (stand.placed i))
        ] refl

    given-after : (i : ℕ) → (bucket_there put i).given ≡ (bucket_there s i).given
    given-after i = elim (index == i) as (λ b. (index == i) ≡ b →
        (bucket_there put i).given ≡ (bucket_there s i).given) [
          | true ↦ λ same.
              subst (λ x. (bucket_there put x).given ≡ (bucket_there s x).given) ((unsigned_Decides index i).0 same)
              (ap (λ (b : BucketValue). b.given) (here s m index bucket stand) ∙ inserted.given)
          | false ↦ λ other. ap (λ (b : BucketValue). b.given) (elsewhere s m index bucket stand i other)
        ] refl

    pub set-stands : AreOwnNumbers m file.number file.file.pending →
        StandLocks put (with_file m file.number file.file)
    set-stands own = record {
      held = held-after;
      pending = pending-after own;
      spent = λ number.
          stand.spent number
          ∙ ap (nat_lt (number / bucket_count)) (sym (given-after (number % bucket_count)));
      stored = stored-after s m index bucket stand;
      placed = placed-after;
    }

-- ---- a number is given
module _ (s : Store) (m : State) (index : ℕ) (stand : StandLocks s m) (within : index < bucket_count) where
  abbrev old : BucketValue
  old = bucket_there s index

  abbrev more : BucketValue
  more = record old { given = old.given + 1 }

  abbrev spent : Store
  spent = after s m index more stand

  abbrev number : ℕ
  number = number_given index old.given

  files-stay : (i : ℕ) → (bucket_there spent i).files ≡ (bucket_there s i).files
  files-stay i = elim (index == i) as (λ b. (index == i) ≡ b →
      (bucket_there spent i).files ≡ (bucket_there s i).files) [
        | true ↦ λ same.
            subst (λ x. (bucket_there spent x).files ≡ (bucket_there s x).files) ((unsigned_Decides index i).0 same)
            (ap (λ (b : BucketValue). b.files) (here s m index more stand))
        | false ↦ λ other. ap (λ (b : BucketValue). b.files) (elsewhere s m index more stand i other)
      ] refl

  there-still : (q : ℕ) → file_there spent m.exports q ≡ file_there s m.exports q
  there-still q =
      ap (λ fs. exported_file m.exports (find (λ (f : LockedValue). f.number == q) fs)) (files-stay (q % bucket_count))

  -- a number of the bucket is this one, or it was given where it is smaller
  one-more : (n given : ℕ) → n % bucket_count ≡ index
      → ((n == number_given index given) || nat_lt (n / bucket_count) given)
      ≡ nat_lt (n / bucket_count) (given + 1)
  one-more n given is = grind (arith, nat_tests)

  other-number : (n : ℕ) → (index == n % bucket_count) ≡ false → (n == number) ≡ false
  other-number n other = grind (arith, nat_tests)

  spent-after : (n : ℕ) → ((n == number) || m.spent_grants n) ≡
      nat_lt (n / bucket_count) (bucket_there spent (n % bucket_count)).given
  spent-after n =
      ap (λ b. (n == number) || b) (stand.spent n)
      ∙ elim (index == n % bucket_count) as (λ b. (index == n % bucket_count) ≡ b →
      ((n == number) || nat_lt (n / bucket_count) (bucket_there s (n % bucket_count)).given) ≡
      nat_lt (n / bucket_count) (bucket_there spent (n % bucket_count)).given) [
        | true ↦ λ is.
            (let same : index ≡ n % bucket_count = (unsigned_Decides index (n % bucket_count)).0 is in
            ap (λ i. (n == number) || nat_lt (n / bucket_count) (bucket_there s i).given) (sym same)
            ∙ one-more n old.given (sym same)
            ∙ ap (λ (b : BucketValue). nat_lt (n / bucket_count) b.given) (sym (here s m index more stand))
            ∙ ap (λ i. nat_lt (n / bucket_count) (bucket_there spent i).given) same)
        | false ↦ λ is.
            ap (λ b. b || nat_lt (n / bucket_count) (bucket_there s (n % bucket_count)).given) (other-number n is)
            ∙ ap (λ (b : BucketValue). nat_lt (n / bucket_count) b.given)
            (sym (elsewhere s m index more stand (n % bucket_count) is))
      ] refl

  pub spend-stands : StandLocks spent (record m { spent_grants = λ n. (n == number) || m.spent_grants n })
  spend-stands = record {
    held = λ q. stand.held q ∙ ap (λ (f : FileValue). f.held) (sym (there-still q));
    pending = λ n q r. subst (λ (f : FileValue). IsPendingIn m n q r ↔ (Contains f.pending r × (r.number ≡ n)))
        (sym (there-still q)) (stand.pending n q r);
    spent = spent-after;
    stored = stored-after s m index more stand;
    placed = λ i. subst (AllByRecursion (IsPlaced spent i)) (sym (files-stay i))
        (all-mapped (IsPlaced s i) (IsPlaced spent i) (bucket_there s i).files (λ f placed. record {
          bucket = placed.bucket;
          inode = placed.inode;
          stands = placed.stands;
          regular = placed.regular;
          export = placed.export;
        }) (stand.placed i));
  }
