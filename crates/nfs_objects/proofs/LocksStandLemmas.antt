-- What files have of locks stands as it stood, where a store changes elsewhere; and where a file goes that has nothing.
use Rattle.std.proofs.Common.{◌≡◌, ◌==◌, ◌/◌, ◌%◌, ℕ, Bool, true, false, not, cond, List, [], ◌∷◌, Option, Some, None}
use Rattle.std.proofs.Common.{IsSome, find, refl, sym, unwrap_or, ◌∙◌, ap, subst, arith}
use Rattle.std.proofs.lemmas.Bool.{le-ltb}
use Rattle.std.specs.Cmp.{unsigned_Decides}
use Rattle.std.specs.FinMap.{FinMap, empty, get, get-empty, remove}
use Rattle.std.specs.List.{AllByRecursion, Contains}
use Rattle.std.specs.Option.{option_map_or}
use Rattle.std.specs.Ordering.{nat_cmp}
use Rattle.std.specs.Prelude.{◌↔◌, nat_lt}
use Rattle.nfs_machine.specs.Exports.{LivingExport}
use Rattle.nfs_machine.specs.FileLists.{grants_but, of_file}
use Rattle.nfs_machine.specs.OneFile.{FileLocks}
use Rattle.nfs_machine.specs.State.{Lock, PendingGrant, Request, Share, State}
use Rattle.nfs_machine.proofs.FileMapLemmas.{get-grants_but, grants-left, of-with}
use Rattle.nfs_machine.proofs.ModesLemmas.{all-mapped}
use Rattle.nlm_ranges.specs.Files.{FileValue, no_file}
use Rattle.nlm_ranges.specs.Buckets.{LockedValue, bucket_count, file_in}
use Rattle.nfs_objects.specs.Stands.{IsPlaced, StandLocks, bucket_at, bucket_there, exported_file, file_of, file_there}
use Rattle.nfs_objects.specs.Stands.{map_in, stored_bucket}
use Rattle.nfs_objects.specs.Store.{Store, put_at}
use Rattle.nfs_objects.specs.declared.address.Addr.TheVariants as addresses
use Rattle.nfs_objects.specs.declared.object.Inode.{Inode}
use Rattle.nfs_objects.specs.declared.object.Object.{Object}
use Rattle.nfs_objects.specs.declared.object.Object.TheVariants as objects

-- ---- lists of files
every : {X : Type 0} (P : X → Type 0) (xs : List X) → ((x : X) → P x) → AllByRecursion P xs
every P [] f = tt
every P (x ∷ xs) f = (f x, every P xs f)

pub of-both : {X : Type 0} (P Q R : X → Type 0) (xs : List X) → ((x : X) → P x → Q x → R x) → AllByRecursion P xs →
    AllByRecursion Q xs → AllByRecursion R xs
of-both P Q R [] f p q = tt
of-both P Q R (x ∷ xs) f p q = (f x p.0 q.0, of-both P Q R xs f p.1 q.1)

-- what is found passes, and has what all have
pub found-has : {X : Type 0} (P : X → Type 0) (test : X → Bool) (xs : List X) (x : X) → find test xs ≡ Some x →
    AllByRecursion P xs → P x × (test x ≡ true)
found-has P test [] x e all = cc
found-has P test (y ∷ xs) x e all =
    elim (test y) as (λ b. test y ≡ b → cond b (Some y) (find test xs) ≡ Some x → P x × (test x ≡ true)) [
      | true ↦ λ is e. (let same : y ≡ x = cc in (subst P same all.0, ap test (sym same) ∙ is))
      | false ↦ λ is e. found-has P test xs x e all.1
    ] refl e

-- where none is found, none passes
none-found : {X : Type 0} (test : X → Bool) (xs : List X) → find test xs ≡ None →
    AllByRecursion (λ x. test x ≡ false) xs
none-found test [] e = tt
none-found test (x ∷ xs) e =
    elim (test x) as (λ b. test x ≡ b → cond b (Some x) (find test xs) ≡ None →
    (test x ≡ false) × AllByRecursion (λ y. test y ≡ false) xs) [
      | true ↦ λ is e. cc
      | false ↦ λ is e. (is, none-found test xs e)
    ] refl e

-- ---- what a change leaves
-- a regular file of the same export stands there
pub record KeptFile (o : Option Object) (was : Inode) : Type 0 where
  pub inode : Inode
  pub stands : o ≡ Some (objects.Inode inode)
  pub regular : IsSome (map_in inode.content)
  pub export : inode.export ≡ was.export

-- each regular file is one still, of its export
abbrev pub KeepsFiles : Store → Store → Type 0
KeepsFiles s t = (n : ℕ) (i : Inode) → s.at (addresses.Inode n) ≡ Some (objects.Inode i) → IsSome (map_in i.content) →
    KeptFile (t.at (addresses.Inode n)) i

-- an inode is put in the place of what stands there: a regular file stays one, of its export
abbrev pub KeepsFile : Store → (n : ℕ) → Inode → Type 0
KeepsFile s n i = (was : Inode) → s.at (addresses.Inode n) ≡ Some (objects.Inode was) → IsSome (map_in was.content) →
    IsSome (map_in i.content) × (i.export ≡ was.export)

pub keeps-put : (s : Store) (n : ℕ) (i : Inode) (last : ℕ → ℕ) → KeepsFile s n i →
    KeepsFiles s (record { at = put_at s.at (addresses.Inode n) (Some (objects.Inode i)); last = last })
keeps-put s n i last keeps q was at regular =
    elim (n == q) as (λ b. (n == q) ≡ b →
    KeptFile (cond b (Some (objects.Inode i)) (s.at (addresses.Inode q))) was) [
      | true ↦ λ same.
          (let here : s.at (addresses.Inode n) ≡ Some (objects.Inode was) =
          ap (λ x. s.at (addresses.Inode x)) ((unsigned_Decides n q).0 same) ∙ at in
          let kept = keeps was here regular in
          record { inode = i; stands = refl; regular = kept.0; export = kept.1 })
      | false ↦ λ other. record { inode = was; stands = at; regular = regular; export = refl }
    ] refl

-- so it does where what stood there is told, and has the same export
pub keeps-same : (s : Store) (n : ℕ) (i j : Inode) → s.at (addresses.Inode n) ≡ Some (objects.Inode i) →
    j.export ≡ i.export → (IsSome (map_in i.content) → IsSome (map_in j.content)) → KeepsFile s n j
keeps-same s n i j at export file was there regular =
    let same : i ≡ was = (let both : Some (objects.Inode i) ≡ Some (objects.Inode was) = sym at ∙ there in cc) in (
      file (subst (λ (x : Inode). IsSome (map_in x.content)) (sym same) regular),
      export ∙ ap (λ (x : Inode). x.export) same,
    )

-- what stands somewhere stays
pub files-same : (s : Store) (n : ℕ) (i : Inode) → s.at (addresses.Inode n) ≡ Some (objects.Inode i) →
    IsSome (map_in i.content) → KeptFile (s.at (addresses.Inode n)) i
files-same s n i at regular = record { inode = i; stands = at; regular = regular; export = refl }

-- what a store has of locks, and what the state has
abbrev pub locks_in : Store → State → (ℕ → Option Object) × List LivingExport × FinMap nat_cmp (List Lock) ×
    FinMap nat_cmp (List Share) × FinMap nat_cmp (List Request) × FinMap nat_cmp PendingGrant × (ℕ → Bool)
locks_in s m = (
  λ b. s.at (addresses.Locks b),
  m.exports,
  m.locks,
  m.shares,
  m.waiting,
  m.granted,
  m.spent_grants,
)

abbrev Parts : Type 0
Parts = (ℕ → Option Object) × List LivingExport × FinMap nat_cmp (List Lock) × FinMap nat_cmp (List Share) ×
    FinMap nat_cmp (List Request) × FinMap nat_cmp PendingGrant × (ℕ → Bool)

abbrev held_of : Parts → ℕ → FileLocks
held_of x n = record { locks = of_file x.2 n; shares = of_file x.3 n; waiting = of_file x.4 n }

abbrev there_of : Parts → ℕ → FileValue
there_of x n = exported_file x.1 (file_in (bucket_at (x.0 (n % bucket_count))) n)

-- the file goes on where it is
placed-on : (s t : Store) (index : ℕ) (f : LockedValue) → KeepsFiles s t → IsPlaced s index f → IsPlaced t index f
placed-on s t index f keeps placed =
    let kept = keeps f.number placed.inode placed.stands placed.regular in record {
      bucket = placed.bucket;
      inode = kept.inode;
      stands = kept.stands;
      regular = kept.regular;
      export = kept.export ∙ placed.export;
    }

pub locks-stay : (s t : Store) (m n : State) → locks_in t n ≡ locks_in s m → KeepsFiles s t → StandLocks s m →
    StandLocks t n
locks-stay s t m n same keeps stand = record {
  held = λ q. ap (λ x. held_of x q) same ∙ stand.held q ∙ ap (λ x. (there_of x q).held) (sym same);
  pending = λ number file r. subst (λ (x : Parts). (get x.5 number ≡ Some (record { file = file; request = r })) ↔
      (Contains (there_of x file).pending r × (r.number ≡ number))) (sym same) (stand.pending number file r);
  spent = λ number.
      ap (λ x. x.6 number) same ∙ stand.spent number
      ∙ ap (λ x. nat_lt (number / bucket_count) (bucket_at (x.0 (number % bucket_count))).given) (sym same);
  stored = λ index. subst (λ o. o ≡ stored_bucket (bucket_at o)) (sym (ap (λ x. x.0 index) same)) (stand.stored index);
  placed = λ index. subst (λ o. AllByRecursion (IsPlaced t index) (bucket_at o).files) (sym (ap (λ x. x.0 index) same))
      (all-mapped (IsPlaced s index) (IsPlaced t index) (bucket_there s index).files
      (λ f placed. placed-on s t index f keeps placed) (stand.placed index));
}

-- ---- a file goes
-- what is no file has nothing
pub none-listed : (s : Store) (m : State) (n : ℕ) (o : Option Object) → StandLocks s m →
    s.at (addresses.Inode n) ≡ o → file_of o ≡ None → file_in (bucket_there s (n % bucket_count)) n ≡ None
none-listed s m n o stand at none = by (file_in (bucket_there s (n % bucket_count)) n) refl
  where
    by : (found : Option LockedValue) → file_in (bucket_there s (n % bucket_count)) n ≡ found →
        file_in (bucket_there s (n % bucket_count)) n ≡ None
    by None is = is
    by (Some f) is =
        let found = found-has (IsPlaced s (n % bucket_count)) (λ (g : LockedValue). g.number == n)
        (bucket_there s (n % bucket_count)).files f is (stand.placed (n % bucket_count)) in
        let same : f.number ≡ n = (unsigned_Decides f.number n).0 found.1 in
        let gone : map_in found.0.inode.content ≡ None =
        ap file_of (sym found.0.stands) ∙ ap (λ q. file_of (s.at (addresses.Inode q))) same ∙ ap file_of at ∙ none in
        let no = subst IsSome gone found.0.regular in absurd cc

module _ (s t : Store) (m l : State) (n : ℕ) (none : file_in (bucket_there s (n % bucket_count)) n ≡ None)
    (stand : StandLocks s m) where
  -- what is left
  abbrev pub left : Parts
  left = (
    λ b. s.at (addresses.Locks b),
    m.exports,
    remove m.locks n,
    remove m.shares n,
    remove m.waiting n,
    grants_but (λ (g : PendingGrant). g.file == n) m.granted,
    m.spent_grants,
  )

  nothing : file_there s m.exports n ≡ no_file
  nothing = ap (exported_file m.exports) none

  held-left : (q : ℕ) → held_of left q ≡ (file_there s m.exports q).held
  held-left q =
      (λ i. record {
        locks = of-with m.locks n [] q i;
        shares = of-with m.shares n [] q i;
        waiting = of-with m.waiting n [] q i;
      })
      ∙ elim (q == n) as (λ b. (q == n) ≡ b → record {
        locks = cond b [] (of_file m.locks q);
        shares = cond b [] (of_file m.shares q);
        waiting = cond b [] (of_file m.waiting q);
      } ≡ (file_there s m.exports q).held) [
        | true ↦ λ same. ap (λ (f : FileValue). f.held) (sym nothing)
            ∙ ap (λ x. (file_there s m.exports x).held) (sym ((unsigned_Decides q n).0 same))
        | false ↦ λ other. stand.held q
      ] refl

  pending-left : (number file : ℕ) (r : Request) →
      (get (grants_but (λ (g : PendingGrant). g.file == n) m.granted) number ≡ Some (record
      { file = file; request = r })) ↔ (Contains (file_there s m.exports file).pending r × (r.number ≡ number))
  pending-left number file r = (
    λ at. (stand.pending number file r).0
        (grants-left (λ (g : PendingGrant). g.file == n) m.granted number (record { file = file; request = r }) at).0,
    λ there. (let at = (stand.pending number file r).1 there in
        get-grants_but (λ (g : PendingGrant). g.file == n) m.granted number
        ∙ (λ i. cond (not (option_map_or (λ (g : PendingGrant). g.file == n) (at i) false)) (at i) None)
        ∙ ap (λ b. cond (not b) (Some (record { file = file; request = r })) None) (other there.0)),
  )
    where
      other : Contains (file_there s m.exports file).pending r → (file == n) ≡ false
      other there = elim (file == n) as (λ b. (file == n) ≡ b → b ≡ false) [
        | true ↦ λ same.
            (let here : Contains [] r = subst (λ (f : FileValue). Contains f.pending r) nothing
            (subst (λ x. Contains (file_there s m.exports x).pending r) ((unsigned_Decides file n).0 same) there) in
            let within = here.1 in absurd (omega (arith, within)))
        | false ↦ λ apart. refl
      ] refl

  -- no file of a bucket is at this number
  apart-from : (index : ℕ) → AllByRecursion (λ (f : LockedValue). index ≡ n % bucket_count → (f.number == n) ≡ false)
      (bucket_there s index).files
  apart-from index =
      elim (index == n % bucket_count) as (λ b. (index == n % bucket_count) ≡ b →
      AllByRecursion (λ (f : LockedValue). index ≡ n % bucket_count → (f.number == n) ≡ false)
      (bucket_there s index).files) [
        | true ↦ λ is.
            (let same : index ≡ n % bucket_count = (unsigned_Decides index (n % bucket_count)).0 is in
            all-mapped (λ (f : LockedValue). (f.number == n) ≡ false)
            (λ (f : LockedValue). index ≡ n % bucket_count → (f.number == n) ≡ false) (bucket_there s index).files
            (λ f apart here. apart)
            (subst (λ i. AllByRecursion (λ (f : LockedValue). (f.number == n) ≡ false) (bucket_there s i).files)
            (sym same)
            (none-found (λ (f : LockedValue). f.number == n) (bucket_there s (n % bucket_count)).files none)))
        | false ↦ λ is. every (λ (f : LockedValue). index ≡ n % bucket_count → (f.number == n) ≡ false)
            (bucket_there s index).files
            (λ f same. (let here = (unsigned_Decides index (n % bucket_count)).1 same in cc))
      ] refl

  pub locks-gone : locks_in t l ≡ left →
      ((q : ℕ) (i : Inode) → (q == n) ≡ false → s.at (addresses.Inode q) ≡ Some (objects.Inode i) →
      t.at (addresses.Inode q) ≡ Some (objects.Inode i)) → StandLocks t l
  locks-gone same others = record {
    held = λ q. ap (λ x. held_of x q) same ∙ held-left q ∙ ap (λ x. (there_of x q).held) (sym same);
    pending = λ number file r. subst (λ (x : Parts). (get x.5 number ≡ Some (record { file = file; request = r })) ↔
        (Contains (there_of x file).pending r × (r.number ≡ number))) (sym same) (pending-left number file r);
    spent = λ number.
        ap (λ x. x.6 number) same ∙ stand.spent number
        ∙ ap (λ x. nat_lt (number / bucket_count) (bucket_at (x.0 (number % bucket_count))).given) (sym same);
    stored = λ index.
        subst (λ o. o ≡ stored_bucket (bucket_at o)) (sym (ap (λ x. x.0 index) same)) (stand.stored index);
    placed = λ index. subst (λ o. AllByRecursion (IsPlaced t index) (bucket_at o).files)
        (sym (ap (λ x. x.0 index) same))
        (of-both (IsPlaced s index) (λ (f : LockedValue). index ≡ n % bucket_count → (f.number == n) ≡ false)
        (IsPlaced t index) (bucket_there s index).files (λ f placed apart. record {
          bucket = placed.bucket;
          inode = placed.inode;
          stands = others f.number placed.inode (elsewhere index f placed apart) placed.stands;
          regular = placed.regular;
          export = placed.export;
        }) (stand.placed index) (apart-from index));
  }
    where
      elsewhere : (index : ℕ) (f : LockedValue) → IsPlaced s index f →
          (index ≡ n % bucket_count → (f.number == n) ≡ false) → (f.number == n) ≡ false
      elsewhere index f placed apart = elim (f.number == n) as (λ b. (f.number == n) ≡ b → b ≡ false) [
        | true ↦ λ same.
            (let here = apart (sym placed.bucket ∙ ap (λ q. q % bucket_count) ((unsigned_Decides f.number n).0 same)) in
            cc)
        | false ↦ λ other. refl
      ] refl

-- ---- nothing is locked
pub none-locked : (s : Store) (m : State) → ((b : ℕ) → s.at (addresses.Locks b) ≡ None) → m.locks ≡ empty →
    m.shares ≡ empty → m.waiting ≡ empty → m.granted ≡ empty → ((n : ℕ) → m.spent_grants n ≡ false) → StandLocks s m
none-locked s m none locks shares waiting granted spent = record {
  held = λ q.
      (λ i. record { locks = of_file (locks i) q; shares = of_file (shares i) q; waiting = of_file (waiting i) q })
      ∙ (λ i. record {
        locks = unwrap_or (get-empty nat_cmp q i) [];
        shares = unwrap_or (get-empty nat_cmp q i) [];
        waiting = unwrap_or (get-empty nat_cmp q i) [];
      })
      ∙ ap (λ o. (exported_file m.exports (file_in (bucket_at o) q)).held) (sym (none (q % bucket_count)));
  pending = λ number file r. (
    λ at. (let both : None ≡ Some (record { file = file; request = r }) =
        sym (ap (λ (g : FinMap nat_cmp PendingGrant). get g number) granted ∙ get-empty nat_cmp number) ∙ at in
        absurd cc),
    λ there. (let here : Contains [] r =
        subst (λ o. Contains (exported_file m.exports (file_in (bucket_at o) file)).pending r)
        (none (file % bucket_count)) there.0 in
        let within = here.1 in absurd (omega (arith, within))),
  );
  spent = λ number.
      spent number
      ∙ sym (ap (λ o. nat_lt (number / bucket_count) (bucket_at o).given) (none (number % bucket_count))
      ∙ le-ltb (number / bucket_count) 0 (omega arith));
  stored = λ index. none index ∙ sym (ap (λ o. stored_bucket (bucket_at o)) (none index));
  placed = λ index.
      subst (λ o. AllByRecursion (IsPlaced s index) (bucket_at o).files) (sym (none index)) tt;
}
