-- What files have of locks, shares, requests and grants, as a draft knows it, and what makers do to it (RFC 1813,
-- appendix II).
use Rattle.std.specs.Prelude.{◌≡◌, ◌<◌, ◌%◌, ◌||◌, ◌==◌, ◌↔◌, ℕ, true, false, Contains}
use Rattle.std.specs.Prelude.{List, [], ◌∷◌, Option, Some, None, is_ok, option_map}
use Rattle.std.specs.Borrow.{Bor}
use Rattle.std.specs.FinMap.{get, remove}
use Rattle.std.specs.List.{AllByRecursion}
use Rattle.nfs_machine.specs.Checks.{bytes_in}
use Rattle.nfs_machine.specs.FileLists.{grants_but, with_list}
use Rattle.nfs_machine.specs.Grants.{at_file, with_grants}
use Rattle.nfs_machine.specs.LockSteps.{NoneLeft, is_grant_number}
use Rattle.nfs_machine.specs.State.{Living, PendingGrant, Request, State}
use Rattle.nlm_ranges.specs.Files.{FileValue, no_file}
use Rattle.nlm_ranges.specs.Buckets.{BucketValue, IsBucket, IsInserted, LockedValue, bucket_count, file_in, given_most}
use Rattle.nlm_ranges.specs.Buckets.{number_given}
use Rattle.nfs_objects.specs.Fits.{Fits}
use Rattle.nfs_objects.specs.Stands.{IsPendingIn, StoreMeaning, Represents, bucket_at, bucket_there}
use Rattle.nfs_objects.specs.Store.{Store, with_writes}
use Rattle.nfs_objects.specs.Values.{DraftValue, known_at}
use Rattle.nfs_objects.specs.declared.address.Addr.TheVariants as addresses
use Rattle.nfs_objects.specs.declared.object.Object.{Object}

-- ---- what is known
-- what is behind a loan of a file; where there is none, it has nothing
abbrev pub file_known : Option (Bor FileValue) → FileValue
file_known None = no_file
file_known (Some file) = file.now

-- the file at a number has this, and no other grants are waited for
pub record HasLocks (m : State) (number : ℕ) (file : FileValue) : Type 0 where
  pub held : at_file m number ≡ file.held
  pub pending : (grant : ℕ) (r : Request) → IsPendingIn m grant number r ↔
      (Contains file.pending r × (r.number ≡ grant))

-- every number for a grant on a file was given
abbrev pub NoNumberIsLeft : State → (file : ℕ) → Type 0
NoNumberIsLeft = NoneLeft

-- this one may be given next: it is the file's, and was never given
pub record IsNextNumber (m : State) (file number : ℕ) : Type 0 where
  pub suits : is_grant_number file number ≡ true
  pub unspent : m.spent_grants number ≡ false

-- the file at a number has nothing in any store that the draft may be written to
abbrev pub HasNone : DraftValue → (number : ℕ) → Type 0
HasNone d number = (s : Store) (k : StoreMeaning) → Fits d.view s → Represents (with_writes s d.writes) k →
    file_in (bucket_there (with_writes s d.writes) (number % bucket_count)) number ≡ None

-- the draft shows that this is the next number of a file's bucket
pub record ShowsNext (d : DraftValue) (file number : ℕ) : Type 0 where
  pub object : Option Object
  pub known : known_at d (addresses.Locks (file % bucket_count)) ≡ Some object
  pub next : number ≡ number_given (file % bucket_count) (bucket_at object).given
  pub left : (bucket_at object).given < given_most

-- The numbers of a file's grants tell them apart: no two of these requests have the same, and no grant of another file
-- has one of theirs.
pub record AreOwnNumbers (m : State) (file : ℕ) (pending : List Request) : Type 0 where
  pub once : (r q : Request) → Contains pending r → Contains pending q → r.number ≡ q.number → r ≡ q
  pub own : (r : Request) → Contains pending r → (other : ℕ) (q : Request) → IsPendingIn m r.number other q →
      other ≡ file

-- ---- what may be put
-- a regular file of this export lives at a number
pub record IsFileAt (m : State) (number export : ℕ) : Type 0 where
  pub object : Living
  pub lives : get m.objects number ≡ Some object
  pub regular : is_ok (bytes_in object.content) ≡ true
  pub exported : object.export ≡ export

-- a file may have this: it lives, and the numbers of its grants are its own
pub record MayHave (m : State) (file : LockedValue) : Type 0 where
  pub lives : IsFileAt m file.number file.export
  pub own : AreOwnNumbers m file.number file.file.pending

-- ---- buckets
-- each of these files is of the bucket with this index
abbrev pub AreOf : (index : ℕ) → List LockedValue → Type 0
AreOf index files = AllByRecursion (λ (f : LockedValue). f.number % bucket_count ≡ index) files

-- the bucket with this index, as the draft knows it, where a file has this
pub record IsBucketWith (d : DraftValue) (index : ℕ) (file : LockedValue) (new : BucketValue) : Type 0 where
  pub old : BucketValue
  pub known : option_map bucket_at (known_at d (addresses.Locks index)) ≡ Some old
  pub inserted : IsInserted old file new
  pub bucket : IsBucket new

-- each of these files has this, put one after the other
abbrev pub AreInserted : BucketValue → List LockedValue → BucketValue → Type 0
AreInserted old [] new = new ≡ old
AreInserted old (file ∷ files) new =
    (mid : BucketValue) × IsInserted old file mid × IsBucket mid × AreInserted mid files new

-- ---- changes
-- the file at a number has this
abbrev pub with_file : State → (number : ℕ) → FileValue → State
with_file m number file = record m {
  locks = with_list m.locks number file.held.locks;
  shares = with_list m.shares number file.held.shares;
  waiting = with_list m.waiting number file.held.waiting;
  granted = with_grants (grants_but (λ (g : PendingGrant). g.file == number) m.granted) number file.pending;
}

abbrev pub locks_set : (number : ℕ) → FileValue → StoreMeaning → StoreMeaning
locks_set number file k = record k { state = with_file k.state number file }

-- each of these files has this
abbrev pub with_files : State → List LockedValue → State
with_files m [] = m
with_files m (file ∷ files) = with_files (with_file m file.number file.file) files

abbrev pub all_set : List LockedValue → StoreMeaning → StoreMeaning
all_set files k = record k { state = with_files k.state files }

-- each of them may have it, once those before it have it
abbrev pub MayAllHave : State → List LockedValue → Type 0
MayAllHave m [] = Unit {0}
MayAllHave m (file ∷ files) = MayHave m file × MayAllHave (with_file m file.number file.file) files

-- it has nothing
abbrev pub without_locks : State → (number : ℕ) → State
without_locks m number = record m {
  locks = remove m.locks number;
  shares = remove m.shares number;
  waiting = remove m.waiting number;
  granted = grants_but (λ (g : PendingGrant). g.file == number) m.granted;
}

abbrev pub locks_freed : (number : ℕ) → StoreMeaning → StoreMeaning
locks_freed number k = record k { state = without_locks k.state number }

-- the number of a grant is never given again
abbrev pub number_spent : (number : ℕ) → StoreMeaning → StoreMeaning
number_spent number k = record k
    { state = record k.state { spent_grants = λ n. (n == number) || k.state.spent_grants n } }
