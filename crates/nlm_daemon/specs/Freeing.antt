-- What is freed where a caller has nothing more (RFC 1813, appendix II, 6.2: procedure 23).
use Rattle.std.specs.Prelude.{◌≡◌, ◌≤◌, ◌+◌, ℕ, Contains, List, [], ◌∷◌, ◌++◌, Option, Some}
use Rattle.std.specs.Prelude.{None, option_map, map, filter}
use Rattle.std.specs.Prelude.{true, ◌==◌, ◌%◌}
use Rattle.std.specs.List.{IsDistinct}
use Rattle.nfs_machine.specs.Exports.{LivingExport}
use Rattle.nfs_machine.specs.Grants.{grant_message}
use Rattle.nfs_machine.specs.State.{Request, State}
use Rattle.nlm_ranges.specs.Files.{FileValue}
use Rattle.nlm_ranges.specs.Granting.{IsFreed, IsSettled, granted_in}
use Rattle.nlm_ranges.specs.declared.file.Settled.{Settled}
use Rattle.nlm_ranges.specs.Buckets.{BucketValue, IsBucket, LockedValue, bucket_count, same_number}
use Rattle.nfs_objects.specs.Stands.{bucket_at, lives_in}
use Rattle.nfs_objects.specs.Values.{DraftValue, known_at}
use Rattle.nfs_objects.specs.declared.address.Addr.TheVariants as addresses
use Rattle.nfs_inodes.specs.Locks.{HasLocks, IsFileAt}
use Rattle.nlm_daemon.specs.Comes.{Sends}

-- the files stand by rising numbers, from above the first
abbrev pub AreRising : ℕ → List LockedValue → Type 0
AreRising below [] = Unit {0}
AreRising below (f ∷ files) = (below ≤ f.number) × AreRising (f.number + 1) files

-- the caller has nothing more of a file, of which it had something
pub record IsFreedFile (caller_name : List ℕ) (old new : LockedValue) : Type 0 where
  pub number : new.number ≡ old.number
  pub export : new.export ≡ old.export
  pub freed : IsFreed old.file caller_name new.file

-- a file that lives is freed, if the caller had anything of it
abbrev pub IsFreedOne : List LivingExport → (caller_name : List ℕ) → LockedValue → Option LockedValue → Type 0
IsFreedOne exports caller_name old None = lives_in exports old.export ≡ true → IsFreed old.file caller_name old.file
IsFreedOne exports caller_name old (Some new) =
    (lives_in exports old.export ≡ true) × IsFreedFile caller_name old new

-- of the files of a bucket, these are freed, in their order: each that lives and of which the caller had anything
pub record AreFreedOf (exports : List LivingExport) (caller_name : List ℕ) (files freed : List LockedValue) :
    Type 0 where
  -- each is one of the files, and lives
  pub from : (new : LockedValue) → Contains freed new → (old : LockedValue) × Contains files old ×
      (lives_in exports old.export ≡ true) × IsFreedFile caller_name old new
  -- each stands once, where each of the files does
  pub once : IsDistinct same_number files → IsDistinct same_number freed
  -- of every other one that lives the caller had nothing
  pub rest : (old : LockedValue) → Contains files old → lives_in exports old.export ≡ true →
      ((new : LockedValue) → Contains freed new → new.number ≡ old.number → ⊥) → IsFreed old.file caller_name old.file

-- of one file more
pub record AddsOne (exports : List LivingExport) (caller_name : List ℕ) (file : LockedValue)
    (old new : List LockedValue) : Type 0 where
  pub left : Option LockedValue
  pub freed : IsFreedOne exports caller_name file left
  pub grown : new ≡ old ++ elim left [ None ↦ [] | Some f ↦ f ∷ [] ]

-- of all these
pub record AddsFreed (exports : List LivingExport) (caller_name : List ℕ) (files old new : List LockedValue) :
    Type 0 where
  pub more : List LockedValue
  pub grown : new ≡ old ++ more
  pub freed : AreFreedOf exports caller_name files more

-- of those that the bucket with this index lists, as the draft knows it
pub record AddsBucket (d : DraftValue) (exports : List LivingExport) (caller_name : List ℕ) (index : ℕ)
    (old new : List LockedValue) : Type 0 where
  pub bucket : BucketValue
  pub known : option_map bucket_at (known_at d (addresses.Locks index)) ≡ Some bucket
  pub is_bucket : IsBucket bucket
  pub adds : AddsFreed exports caller_name bucket.files old new

-- These files are freed, by rising numbers, and of all others the caller has nothing.
pub record AreFreed (m : State) (caller_name : List ℕ) (freed : List LockedValue) : Type 0 where
  pub rising : AreRising 0 freed
  -- what each file had
  pub had : ℕ → FileValue
  pub has : (number : ℕ) → HasLocks m number (had number)
  pub each : (new : LockedValue) → Contains freed new → IsFreed (had new.number) caller_name new.file
  pub lives : (new : LockedValue) → Contains freed new → IsFileAt m new.number new.export
  pub others : (number : ℕ) → ((new : LockedValue) → Contains freed new → new.number ≡ number → ⊥) →
      IsFreed (had number) caller_name (had number)

-- these files come of freed ones, what waits for each was tried, one after the other, and these requests were granted
abbrev pub AreSettled : (freed files : List LockedValue) → (granted : List Request) → Type 0
AreSettled [] files granted = (files ≡ []) × (granted ≡ [])
AreSettled (f ∷ freed) files granted =
    (settled : Settled) × IsSettled f.file settled × (rest : List LockedValue) × (more : List Request) ×
    (files ≡ record f { file = settled.file } ∷ rest) × (granted ≡ granted_in settled ++ more) ×
    AreSettled freed rest more

-- and the draft puts a message for each
pub record SettlesAll (old new : DraftValue) (freed files : List LockedValue) : Type 0 where
  pub granted : List Request
  pub settled : AreSettled freed files granted
  pub sends : Sends old new (map grant_message granted)

-- those of these files that are in the bucket with this index
abbrev pub of_bucket : (index : ℕ) → List LockedValue → List LockedValue
of_bucket index files = filter (λ (f : LockedValue). f.number % bucket_count == index) files
