-- Pages of a directory: as many of the entries that are left as fit (RFC 1813, 3.3.16 and 3.3.17).
use Rattle.std.specs.Prelude.{◌≡◌, ℕ, ◌+◌, ◌*◌, ◌/◌, ◌≤◌, Bool, true, ◌&&◌, List, []}
use Rattle.std.specs.Prelude.{◌∷◌, ◌++◌, length, filter, sum_by, min, Result, Ok, Err, ◌==◌, nat_le}
use Rattle.std.specs.Prelude.{nat_lt, codes}
use Rattle.nfs_wire.specs.declared.status.NfsStatus.{NfsStatus}
use Rattle.nfs_wire.specs.declared.status.NfsStatus.TheVariants as status
use Rattle.nfs_machine.specs.Data.{transfer_limit}
use Rattle.nfs_machine.specs.State.{Entry}

-- the entries of a directory in order of cookie, "." and ".." among them
abbrev pub all_entries : (number parent : ℕ) → List Entry → List Entry
all_entries number parent entries = record { name = codes "."; number = number; cookie = 1 } ∷
    record { name = codes ".."; number = parent; cookie = 2 } ∷ entries

-- those that stand behind a cookie
abbrev pub behind : ℕ → List Entry → List Entry
behind cookie entries = filter (λ (e : Entry). nat_lt cookie e.cookie) entries

-- the bytes of an entry in the list of READDIR (entry3), its name with padding (RFC 4506, 4.11)
abbrev pub entry_size : Entry → ℕ
entry_size e = 24 + (length e.name + 3) / 4 * 4

-- and in that of READDIRPLUS (entryplus3), with attributes (88) and a handle (40)
abbrev pub full_entry_size : Entry → ℕ
full_entry_size e = 128 + entry_size e

-- whether READDIR3resok with these entries has at most so many bytes, and at most those of one transfer. It is the
-- result without its status (4); the directory's attributes (88), the verifier (8), the end of the list (4) and eof
-- (4) are in it
abbrev pub fits : (count : ℕ) → List Entry → Bool
fits count front = nat_le (104 + sum_by entry_size front) (min count transfer_limit)

-- the same of READDIRPLUS3resok, where numbers, names and cookies have a bound of their own besides
abbrev pub fits_full : (directory_count most : ℕ) → List Entry → Bool
fits_full directory_count most front = nat_le (104 + sum_by full_entry_size front) (min most transfer_limit) && nat_le
    (sum_by entry_size front) directory_count

-- a page: a front that fits, which is empty only where no entry is left
abbrev pub IsPage : (fit : List Entry → Bool) → (entries front rest : List Entry) → Type 0
IsPage fit entries front rest = (entries ≡ front ++ rest) × (fit front ≡ true) × (front ≡ [] → rest ≡ [])

-- the entries that a reply lists, and whether no entry is left behind them
pub record DirectoryPage : Type 0 where
  pub entries : List Entry
  pub eof : Bool

-- the longest page, with its eof; TOOSMALL where there is no page
abbrev pub Pages : (fit : List Entry → Bool) → List Entry → Result DirectoryPage NfsStatus → Type 0
Pages fit entries (Ok page) =
    (rest : List Entry) × IsPage fit entries page.entries rest ×
    ((other more : List Entry) → IsPage fit entries other more → length other ≤ length page.entries)
    × (page.eof ≡ (length rest == 0))
Pages fit entries (Err e) = ((front rest : List Entry) → IsPage fit entries front rest → ⊥) ×
    (e ≡ status.TooSmall)
