-- Pages of directories worked through by hand (RFC 1813, 3.3.16 and 3.3.17).
use Rattle.std.specs.Prelude.{◌≡◌, ℕ, Bool, true, false, List, [], ◌∷◌, replicate, Ok, Err, codes}
use Rattle.nfs_wire.specs.declared.calls.Verifier.{Verifier}
use Rattle.nfs_wire.specs.declared.status.NfsStatus.TheVariants as status
use Rattle.nfs_machine.specs.Pages.{Pages, all_entries, behind, entry_size, fits, fits_full, full_entry_size}
use Rattle.nfs_machine.specs.State.{Entry}

abbrev pub entry : List ℕ → ℕ → ℕ → Entry
entry name number cookie = record { name = name; number = number; cookie = cookie }

abbrev pub dot : Entry
dot = entry (codes ".") 2 1

abbrev pub dots : Entry
dots = entry (codes "..") 1 2

abbrev pub a : Entry
a = entry (codes "a") 3 3

abbrev pub b : Entry
b = entry (codes "b") 4 4

abbrev pub c : Entry
c = entry (codes "c") 5 5

abbrev pub d : Entry
d = entry (codes "d") 6 6

abbrev pub e : Entry
e = entry (codes "e") 7 7

-- the directory 2 in the root, when a to e were made in it
abbrev pub full : List Entry
full = all_entries 2 1 (a ∷ b ∷ c ∷ d ∷ e ∷ [])

-- then a and c were removed, and f was made
abbrev pub f : Entry
f = entry (codes "f") 3 8

abbrev pub later : List Entry
later = all_entries 2 1 (b ∷ d ∷ e ∷ f ∷ [])

abbrev pub empty : List Entry
empty = all_entries 2 1 []

-- the page of these entries, and whether it is the last
abbrev pub IsPageOf : (List Entry → Bool) → (entries page : List Entry) → (eof : Bool) → Type 0
IsPageOf fit entries page eof = Pages fit entries (Ok (record { entries = page; eof = eof }))

-- there is none
abbrev pub HasNoPage : (List Entry → Bool) → List Entry → Type 0
HasNoPage fit entries = Pages fit entries (Err status.TooSmall)

-- READDIR
pub record WorkedPages : Type 0 where
  pub no_room : HasNoPage (fits 103) (behind 0 full)
  pub room_for_none : HasNoPage (fits 104) (behind 0 full)
  pub one : IsPageOf (fits 159) (behind 0 full) (dot ∷ []) false
  pub two : IsPageOf (fits 160) (behind 0 full) (dot ∷ dots ∷ []) false
  pub next : IsPageOf (fits 160) (behind 2 full) (a ∷ b ∷ []) false
  pub after_changes : IsPageOf (fits 65536) (behind 4 later) (d ∷ e ∷ f ∷ []) true
  pub past_end : IsPageOf (fits 104) (behind 8 later) [] true
  pub no_room_past_end : HasNoPage (fits 103) (behind 8 later)
  pub gone : IsPageOf (fits 160) (behind 3 later) (b ∷ d ∷ []) false

-- READDIRPLUS
pub record WorkedFullPages : Type 0 where
  pub no_room : HasNoPage (fits_full 65536 259) (behind 0 empty)
  pub one : IsPageOf (fits_full 65536 260) (behind 0 empty) (dot ∷ []) false
  pub almost_two : IsPageOf (fits_full 65536 415) (behind 0 empty) (dot ∷ []) false
  pub two : IsPageOf (fits_full 65536 416) (behind 0 empty) (dot ∷ dots ∷ []) true
  pub no_names : HasNoPage (fits_full 27 65536) (behind 0 empty)
  pub one_name : IsPageOf (fits_full 28 65536) (behind 0 empty) (dot ∷ []) false
  pub two_names : IsPageOf (fits_full 56 65536) (behind 0 empty) (dot ∷ dots ∷ []) true

abbrev pub zeros : Verifier
zeros = record { bytes = replicate 8 0 }

abbrev pub seven : Verifier
seven = record { bytes = 0 ∷ 0 ∷ 0 ∷ 0 ∷ 0 ∷ 0 ∷ 0 ∷ 7 ∷ [] }

-- what entries take, and the most that a page has
pub record WorkedSizes : Type 0 where
  pub short_name : entry_size a ≡ 28
  pub four : entry_size (entry (codes "abcd") 3 3) ≡ 28
  pub five : entry_size (entry (codes "abcde") 3 3) ≡ 32
  pub longest : full_entry_size (entry (replicate 255 97) 3 3) ≡ 408
  pub most : fits 4294967295 (replicate 2336 a) ≡ true
  pub more : fits 4294967295 (replicate 2337 a) ≡ false
