-- The parts of a bucket: of its files those whose numbers are the same modulo 4,096.
use Rattle.std.specs.Prelude.{◌≡◌, ◌==◌, ◌/◌, ◌%◌, ℕ, Bool, false, List, [], ◌∷◌, ◌++◌, None, Some, find}
use Rattle.std.specs.Prelude.{length, if◌then◌else◌}
use Rattle.std.specs.List.{AllByRecursion, IsDistinct, flat_map}
use Rattle.nlm_ranges.specs.Buckets.{LockedValue, bucket_count, same_number}
use Rattle.nlm_ranges.specs.Files.{has_nothing}

-- how many parts a bucket has at most
abbrev pub part_count : ℕ
part_count = 64

-- the index of the part, in its bucket, that the file with this number stands in
abbrev pub part_index : (number : ℕ) → ℕ
part_index number = (number / bucket_count) % part_count

pub record PartValue : Type 0 where
  pub index : ℕ
  pub files : List LockedValue

-- the files of parts, one part behind the other
abbrev pub files_of : List PartValue → List LockedValue
files_of parts = flat_map (λ (p : PartValue). p.files) parts

abbrev pub same_index : PartValue → PartValue → Bool
same_index a b = a.index == b.index

-- what is true of every part: each file is of its index, stands once, and has something
pub record IsPart (p : PartValue) : Type 0 where
  pub own : AllByRecursion (λ (f : LockedValue). part_index f.number ≡ p.index) p.files
  pub once : IsDistinct same_number p.files
  pub some : AllByRecursion (λ (f : LockedValue). has_nothing f.file ≡ false) p.files

-- the parts of a bucket: no index stands twice, and each part has a file
pub record AreParts (parts : List PartValue) : Type 0 where
  pub once : IsDistinct same_index parts
  pub each : AllByRecursion IsPart parts
  pub filled : AllByRecursion (λ (p : PartValue). (length p.files == 0) ≡ false) parts

-- the files of the part with this index, if there is one
abbrev pub files_at : (index : ℕ) → List PartValue → List LockedValue
files_at index parts = elim (find (λ (p : PartValue). p.index == index) parts) [ None ↦ [] | Some p ↦ p.files ]

-- a part of these files, if there are any
abbrev pub part_of : (index : ℕ) (files : List LockedValue) → List PartValue
part_of index files = if length files == 0 then [] else record { index = index; files = files } ∷ []

-- that with this index has these files
abbrev pub with_part : (index : ℕ) (files : List LockedValue) → List PartValue → List PartValue
with_part index files [] = part_of index files
with_part index files (p ∷ parts) =
    if p.index == index then part_of index files ++ parts else p ∷ with_part index files parts
