-- How the entries of a directory are kept: in pages by their cookies (RFC 1813, 3.3.16), and once more in parts by
-- their names (3.3.3). The map in the inode tells which pages and which parts are there.
use Rattle.std.specs.Prelude.{◌≡◌, ◌⊎◌, ◌<◌, ℕ, ◌+◌, ◌-◌, ◌*◌, ◌/◌, ◌%◌, ◌^◌}
use Rattle.std.specs.Prelude.{◌==◌, ◌&&◌, ◌||◌, Bool, true, false}
use Rattle.std.specs.Prelude.{List, [], ◌∷◌, Option, Some, None, filter, nat_lt, replicate}
use Rattle.std.specs.Prelude.{if◌then◌else◌, slice_index_or, slice_set, sum_by}
use Rattle.std.specs.Hash.DefaultHasher as sip
use Rattle.std.specs.Int.{leading_zeros, w32}
use Rattle.std.specs.List.{list_any}
use Rattle.nfs_machine.specs.Checks.{entry_of}
use Rattle.nfs_machine.specs.State.{Entry}
use Rattle.nfs_objects.specs.PageRuns.{lists}
use Rattle.nfs_objects.specs.Values.{is_addr}
use Rattle.nfs_objects.specs.declared.address.Addr.{Addr}
use Rattle.nfs_objects.specs.declared.address.Addr.TheVariants as addresses
use Rattle.nfs_objects.specs.declared.directory.Directory.{Directory}
use Rattle.nfs_objects.specs.declared.entry_map.EntryMap.{EntryMap}
use Rattle.nfs_objects.specs.declared.entry_map.NamePlace.{NamePlace}
use Rattle.nfs_objects.specs.declared.page_list.PageRun.{PageRun}

-- ---- pages
-- the entries of a page, in their order: those with 64 cookies that follow each other
abbrev pub in_page : (page : ℕ) → List Entry → List Entry
in_page page entries = filter (λ (e : Entry). e.cookie / 64 == page) entries

-- whether there is any
abbrev pub has_some : List Entry → Bool
has_some [] = false
has_some (e ∷ entries) = true

-- ---- buckets
-- the bucket of a name, of 64: by the sum of its bytes
abbrev pub bucket_of : List ℕ → ℕ
bucket_of name = sum_by (λ byte. byte) name % 64

-- how many names are counted in a bucket, and so many there
abbrev pub count_in : List ℕ → (bucket : ℕ) → ℕ
count_in counts bucket = slice_index_or counts bucket 0

abbrev pub with_count : List ℕ → (bucket count : ℕ) → List ℕ
with_count counts bucket count = slice_set counts bucket count

-- the greatest count says no more than that there are many
abbrev pub many : ℕ
many = 2 ^ 32 - 1

abbrev pub IsCount : (count names : ℕ) → Type 0
IsCount count names = (count ≡ names) ⊎ (count ≡ many)

-- with one name more, and with one less
abbrev pub counted_up : ℕ → ℕ
counted_up count = if nat_lt count many then count + 1 else many

abbrev pub counted_down : ℕ → ℕ
counted_down count = if count == many then many else count - 1

-- how many parts a bucket of so many names has: one for each 8
abbrev pub width_of : (count : ℕ) → ℕ
width_of count = (count + 7) / 8

abbrev pub width_in : List ℕ → (bucket : ℕ) → ℕ
width_in counts bucket = width_of (count_in counts bucket)

-- ---- parts
-- the hash of a name under a key: SipHash-1-3 of the bytes of both, one after the other
unfoldable pub digest : (key name : List ℕ) → ℕ
digest key name = sip.finish (sip.write (sip.write sip.initial key) name)

-- the greatest power of two up to a width
abbrev pub top_of : (width : ℕ) → ℕ
top_of width = 2 ^ (31 - leading_zeros w32 width)

-- The part of a name with this hash, of so many: its place among twice the greatest power of two up to the width, or
-- among that power, where the width does not go so far. With one part more only names of one part have another one,
-- which is the new one (linear hashing).
abbrev pub part_hashed : (width hash : ℕ) → ℕ
part_hashed width hash =
    let place = hash % (top_of width * 2) in if nat_lt place width then place else hash % top_of width

abbrev pub part_among : (key : List ℕ) → (width : ℕ) → List ℕ → ℕ
part_among key width name = part_hashed width (digest key name)

-- that one part
abbrev pub source_of : (width : ℕ) → ℕ
source_of width = width - top_of width

-- whether a name is in this part of a bucket of so many
abbrev pub is_in_part : (key : List ℕ) → (width bucket part : ℕ) → List ℕ → Bool
is_in_part key width bucket part name =
    (bucket_of name == bucket) && (nat_lt part width && (part_among key width name == part))

-- what a name leads to among these, where it is in the part
abbrev pub led_in_part : (key : List ℕ) → (width bucket part : ℕ) → List Entry → List ℕ → Option Entry
led_in_part key width bucket part entries name =
    if is_in_part key width bucket part name then entry_of entries name else None

-- no name of the one list is in the other
abbrev pub AreApart : List Entry → List Entry → Type 0
AreApart entries others = (name : List ℕ) → (entry_of entries name ≡ None) ⊎ (entry_of others name ≡ None)

-- ---- maps
-- that of no entry, where names are placed under this key
abbrev pub no_entries : (key : List ℕ) → EntryMap
no_entries key = record { key = key; pages = []; counts = replicate 64 0 }

-- a directory with no entry, in this one
abbrev pub bare_directory : (parent : ℕ) → (key : List ℕ) → Directory
bare_directory parent key = record { parent = parent; last_cookie = 2; entries = no_entries key }

-- the address of the part that a name is in, if its bucket has parts
abbrev pub part_place : EntryMap → (directory : ℕ) → List ℕ → Option Addr
part_place m directory name =
    let width = width_in m.counts (bucket_of name) in
    if width == 0 then None else Some (addresses.Part directory (bucket_of name) (part_among m.key width name))

-- the same as its bucket and its part
abbrev pub IsPlace : EntryMap → List ℕ → Option NamePlace → Type 0
IsPlace m name None = width_in m.counts (bucket_of name) ≡ 0
IsPlace m name (Some place) = (place.bucket ≡ bucket_of name) ×
    (place.part ≡ part_among m.key (width_in m.counts (bucket_of name)) name) ×
    (place.part < width_in m.counts (bucket_of name))

-- ---- addresses
-- whether an address is one of these
abbrev pub is_listed : List Addr → Addr → Bool
is_listed listed a = list_any (λ b. is_addr b a) listed

-- of a page of the directory at a number that is listed
abbrev pub is_page_of : List PageRun → (directory : ℕ) → Addr → Bool
is_page_of pages directory (addresses.Page n page) = (directory == n) && lists pages page
is_page_of pages directory address = false

-- of one of the first so many parts of a bucket
abbrev pub is_part_of : (directory bucket width : ℕ) → Addr → Bool
is_part_of directory bucket width (addresses.Part n b part) = (directory == n) && ((bucket == b) && nat_lt part width)
is_part_of directory bucket width address = false

-- the map tells of what is at an address: a page or a part of the directory at a number
abbrev pub is_beside : EntryMap → (directory : ℕ) → Addr → Bool
is_beside m directory (addresses.Page n page) = (directory == n) && lists m.pages page
is_beside m directory (addresses.Part n bucket part) = (directory == n) && nat_lt part (width_in m.counts bucket)
is_beside m directory address = false

-- a list has others besides
abbrev pub HasBesides : (others : Addr → Bool) → (old new : List Addr) → Type 0
HasBesides others old new = (a : Addr) → is_listed new a ≡ (is_listed old a || others a)

-- these are all the addresses that the map tells of
abbrev pub AreBeside : EntryMap → (directory : ℕ) → List Addr → Type 0
AreBeside m directory listed = (a : Addr) → is_listed listed a ≡ is_beside m directory a
