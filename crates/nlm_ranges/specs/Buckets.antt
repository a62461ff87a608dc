-- Buckets of locks: the files whose numbers are the same modulo 64, with what each has of locks, shares, requests and
-- grants.
use Rattle.std.specs.Prelude.{◌≡◌, ◌≤◌, ◌*◌, ◌+◌, ◌^◌, ℕ, Bool, false, not, List, [], Option}
use Rattle.std.specs.Prelude.{None, Some, filter, find}
use Rattle.std.specs.Prelude.{length, if◌then◌else◌, ◌==◌, ◌&&◌}
use Rattle.std.specs.List.{AllByRecursion, IsDistinct}
use Rattle.nlm_ranges.specs.Files.{FileValue, has_nothing}

-- how many buckets there are
abbrev pub bucket_count : ℕ
bucket_count = 64

-- how many numbers each gives to grants at most
abbrev pub given_most : ℕ
given_most = 2 ^ 58

-- a file with the number of its export and with what it has
pub record LockedValue : Type 0 where
  pub number : ℕ
  pub export : ℕ
  pub file : FileValue

pub record BucketValue : Type 0 where
  -- how many numbers it gave to grants
  pub given : ℕ
  -- the files that have anything
  pub files : List LockedValue

abbrev pub same_number : LockedValue → LockedValue → Bool
same_number a b = a.number == b.number

-- what is true of every bucket: each file stands once, and has something
pub record IsBucket (b : BucketValue) : Type 0 where
  pub given : b.given ≤ given_most
  pub once : IsDistinct same_number b.files
  pub some : AllByRecursion (λ (f : LockedValue). has_nothing f.file ≡ false) b.files

abbrev pub no_bucket : BucketValue
no_bucket = record { given = 0; files = [] }

-- no file has anything, and no number was given
abbrev pub has_none : BucketValue → Bool
has_none b = b.given == 0 && length b.files == 0

-- the file with this number, if it has anything
abbrev pub file_in : BucketValue → (number : ℕ) → Option LockedValue
file_in b number = find (λ (f : LockedValue). f.number == number) b.files

-- the number that a bucket gives next, where it gave so many
abbrev pub number_given : (index given : ℕ) → ℕ
number_given index given = given * bucket_count + index

-- the file with this number has nothing
abbrev pub without_file : (number : ℕ) → BucketValue → BucketValue
without_file number b = record b { files = filter (λ (f : LockedValue). not (f.number == number)) b.files }

-- a file has this, if it is anything, and all others have what they had
pub record IsInserted (old : BucketValue) (file : LockedValue) (new : BucketValue) : Type 0 where
  pub given : new.given ≡ old.given
  pub files : (number : ℕ) → file_in new number ≡
      (if file.number == number then (if has_nothing file.file then None else Some file) else file_in old number)
