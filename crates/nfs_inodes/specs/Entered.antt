-- Entries of directories in their pages and parts: what a draft shows of them, and what makers do to them (RFC 1813,
-- 3.3.8 to 3.3.16).
use Rattle.std.specs.Prelude.{◌≡◌, ◌⊎◌, ℕ, suc, ◌==◌, ◌/◌, ◌<◌, length, Bool, true, false}
use Rattle.std.specs.Prelude.{List, [], ◌∷◌, ◌++◌}
use Rattle.std.specs.Prelude.{Option, Some, None, IsSome, filter, if◌then◌else◌, is_some, nat_lt, not, option_map}
use Rattle.nfs_machine.specs.Checks.{entry_of}
use Rattle.nfs_machine.specs.RemoveSteps.{without}
use Rattle.nfs_machine.specs.State.{Entry}
use Rattle.nfs_machine.specs.WellFormed.{NamesOnce}
use Rattle.nfs_objects.specs.Asks.{IsThere}
use Rattle.nfs_objects.specs.Calls.{IsAmong, addresses_of, places_for}
use Rattle.nfs_objects.specs.Directories.{bucket_of, count_in, counted_down, counted_up, has_some, in_page}
use Rattle.nfs_objects.specs.Directories.{IsPlace, is_beside, is_listed, led_in_part, width_in}
use Rattle.nfs_objects.specs.PageRuns.{TellsEmpty, lists}
use Rattle.nfs_objects.specs.Directories.{with_count}
use Rattle.nfs_objects.specs.Entries.{leaf_of}
use Rattle.nfs_objects.specs.Fits.{Fits}
use Rattle.nfs_objects.specs.Stands.{HoldsEntries, IsPart, StoreMeaning, Represents, StandEntries, header_in, page_of}
use Rattle.nfs_objects.specs.Stands.{part_of}
use Rattle.nfs_objects.specs.Stands.{stored_page}
use Rattle.nfs_objects.specs.Store.{Store, with_writes}
use Rattle.nfs_objects.specs.Unfiled.{Enters}
use Rattle.nfs_objects.specs.Values.{DraftValue, known_at}
use Rattle.nfs_objects.specs.declared.address.Addr.{Addr}
use Rattle.nfs_objects.specs.declared.address.Addr.TheVariants as addresses
use Rattle.nfs_objects.specs.declared.directory.Directory.{Directory}
use Rattle.nfs_objects.specs.declared.directory.Leaf.{Leaf}
use Rattle.nfs_objects.specs.declared.entry_map.EntryMap.{EntryMap}
use Rattle.nfs_objects.specs.declared.entry_map.NamePlace.{NamePlace}
use Rattle.nfs_objects.specs.declared.modes.Mode.{Mode}
use Rattle.nfs_objects.specs.declared.page_list.PageRun.{PageRun}
use Rattle.nfs_inodes.specs.Asking.{AsksFor}
use Rattle.nfs_inodes.specs.Stops.{inode_at}

-- ---- what is shown
-- All that the map tells of is known to the draft, or stands in every store that its view fits.
abbrev pub DirectoryLives : DraftValue → (number : ℕ) → EntryMap → Type 0
DirectoryLives d number m = (a : Addr) → is_beside m number a ≡ true → IsSome (known_at d a) ⊎ IsThere d.view a

-- the same of the first so many parts of a bucket
abbrev pub PartsLive : DraftValue → (number bucket width : ℕ) → Type 0
PartsLive d number bucket width = (part : ℕ) → part < width →
    IsSome (known_at d (addresses.Part number bucket part)) ⊎ IsThere d.view (addresses.Part number bucket part)

-- what a name leads to in the part at a place, as the draft knows it; where there is no such place, it is not there
abbrev pub LeadsFrom : DraftValue → (number : ℕ) → List ℕ → Option Leaf → Option NamePlace → Type 0
LeadsFrom d number name leaf None = leaf ≡ None
LeadsFrom d number name leaf (Some p) = (part : Option (List Entry)) ×
    (option_map part_of (known_at d (addresses.Part number p.bucket p.part)) ≡ Some part) ×
    (leaf ≡ elim part [ None ↦ None | Some entries ↦ option_map leaf_of (entry_of entries name) ])

-- the same of the place that it has by a directory's map
pub record ShowsLeaf (d : DraftValue) (number : ℕ) (m : EntryMap) (name : List ℕ) (leaf : Option Leaf) : Type 0 where
  pub place : Option NamePlace
  pub is : IsPlace m name place
  pub leads : LeadsFrom d number name leaf place

-- whether a directory with this map has no entry; what is no directory has none
abbrev pub TellsBare : Option EntryMap → (empty : Bool) → Type 0
TellsBare None empty = empty ≡ true
TellsBare (Some m) empty = TellsEmpty m.pages empty

-- this is what stands in a page of a directory, as the draft knows it
abbrev pub ShowsPage : DraftValue → (number page : ℕ) → Option (List Entry) → Type 0
ShowsPage d number page entries = option_map page_of (known_at d (addresses.Page number page)) ≡ Some entries

-- the directory at a number, but for its entries, as the draft shows it
abbrev pub header_at : DraftValue → (number : ℕ) → Option Directory
header_at d number = elim (inode_at d number) [ None ↦ None | Some i ↦ header_in i.content ]

-- this is the greatest cookie that the directory at a number ever used, as the draft shows it
abbrev pub IsLastCookie : DraftValue → (number cookie : ℕ) → Type 0
IsLastCookie d number cookie = (h : Directory) → header_at d number ≡ Some h → cookie ≡ h.last_cookie

-- and this the one that comes next there
abbrev pub IsNextCookie : DraftValue → (number cookie : ℕ) → Type 0
IsNextCookie d number cookie = (h : Directory) → header_at d number ≡ Some h → cookie ≡ suc h.last_cookie

-- ---- what may be asked for
-- the addresses of a directory that gets an entry with this cookie
abbrev pub grown_at : DraftValue → (number : ℕ) → List ℕ → (cookie : ℕ) → List Addr
grown_at d number name cookie = addresses_of d.view number ++ elim (header_at d number) [
  | None ↦ []
  | Some h ↦ places_for h.entries number name cookie
]

-- it is that of a page or of a part
abbrev pub is_entries : Addr → Bool
is_entries (addresses.Page n page) = true
is_entries (addresses.Part n bucket part) = true
is_entries address = false

-- a page or a part that is among these, or that stands there
pub record MayEnter (d : DraftValue) (named : List Addr) (a : Addr) : Type 0 where
  pub entries : is_entries a ≡ true
  pub bounded : IsAmong named a ⊎ IsThere d.view a

-- what an entry more has to hold may be asked for, and is where nothing is: its page, its part, and the part that
-- divides
abbrev pub AsksToAdd : DraftValue → (number : ℕ) → EntryMap → List ℕ → (cookie : ℕ) → (old new : List (Addr × Mode)) →
    Type 0
AsksToAdd d number m name cookie old new =
    AsksFor d (λ a. (is_beside m number a ≡ true) ⊎ IsAmong (places_for m number name cookie) a)
    (λ a. a ≡ addresses.Page number (cookie / 64)) old new

-- and what a name that goes has to hold besides
abbrev pub AsksToTake : DraftValue → (number : ℕ) → EntryMap → (old new : List (Addr × Mode)) → Type 0
AsksToTake d number m old new = AsksFor d (λ a. is_beside m number a ≡ true) (λ a. ⊥) old new

-- ---- what is known
-- what one draft knows something of, the other one does; and of inodes and the exports it knows the same
pub record KeepsKnown (old new : DraftValue) : Type 0 where
  pub known : (a : Addr) → IsSome (known_at old a) → IsSome (known_at new a)
  pub inodes : (n : ℕ) → known_at new (addresses.Inode n) ≡ known_at old (addresses.Inode n)
  pub exports : known_at new addresses.Exports ≡ known_at old addresses.Exports

-- those of some addresses that a draft does not know
abbrev pub lacked_of : DraftValue → List Addr → List Addr
lacked_of d asked = filter (λ a. not (is_some (known_at d a))) asked

-- one map tells of nothing that the other one does not tell of
abbrev pub TellsLess : (less more : EntryMap) → Type 0
TellsLess less more = (n : ℕ) (a : Addr) → is_beside less n a ≡ true → is_beside more n a ≡ true

-- ---- pages
-- what pages with these entries are, as a list tells of them
pub record HasPages (s : Store) (n : ℕ) (pages : List PageRun) (entries : List Entry) : Type 0 where
  pub listed : (page : ℕ) → lists pages page ≡ has_some (in_page page entries)
  pub stand : (page : ℕ) → s.at (addresses.Page n page) ≡ stored_page (in_page page entries)

-- an entry came to its page, last
pub record PagesGain (old new : DraftValue) (n : ℕ) (before after : List PageRun) (e : Entry) : Type 0 where
  pub enters : Enters n old new
  pub knows : KeepsKnown old new
  pub pages : (s : Store) (entries : List Entry) → Fits old.view s →
      HasPages (with_writes s old.writes) n before entries →
      HasPages (with_writes s new.writes) n after (entries ++ e ∷ [])
  pub parts : (s : Store) (bucket part : ℕ) → (with_writes s new.writes).at (addresses.Part n bucket part) ≡
      (with_writes s old.writes).at (addresses.Part n bucket part)

-- a name that leads to this went from its page
pub record PagesLose (old new : DraftValue) (n : ℕ) (before after : List PageRun) (leaf : Leaf) (name : List ℕ) :
    Type 0 where
  pub enters : Enters n old new
  pub knows : KeepsKnown old new
  pub less : (page : ℕ) → lists after page ≡ true → lists before page ≡ true
  pub pages : (s : Store) (entries : List Entry) → Fits old.view s → NamesOnce entries →
      option_map leaf_of (entry_of entries name) ≡ Some leaf →
      HasPages (with_writes s old.writes) n before entries →
      HasPages (with_writes s new.writes) n after (without entries name)
  pub parts : (s : Store) (bucket part : ℕ) → (with_writes s new.writes).at (addresses.Part n bucket part) ≡
      (with_writes s old.writes).at (addresses.Part n bucket part)

-- ---- parts
-- a bucket has so many parts, and in them its names, placed by this key, lead so
abbrev pub HasParts : (key : List ℕ) → Store → (n bucket width : ℕ) → List Entry → Type 0
HasParts key s n bucket width entries = (part : ℕ) → IsPart (nat_lt part width)
    (led_in_part key width bucket part entries) (s.at (addresses.Part n bucket part))

-- all else of a directory is as before
pub record KeepsButBucket (old new : DraftValue) (n bucket : ℕ) : Type 0 where
  pub enters : Enters n old new
  pub knows : KeepsKnown old new
  pub pages : (s : Store) (page : ℕ) → (with_writes s new.writes).at (addresses.Page n page) ≡
      (with_writes s old.writes).at (addresses.Page n page)
  pub others : (s : Store) (other part : ℕ) → (bucket == other) ≡ false →
      (with_writes s new.writes).at (addresses.Part n other part) ≡
      (with_writes s old.writes).at (addresses.Part n other part)

-- a bucket of so many parts has one more; and one that has one more has so many
pub record Divides (key : List ℕ) (old new : DraftValue) (n bucket width : ℕ) : Type 0 where
  pub keeps : KeepsButBucket old new n bucket
  pub divides : (s : Store) (entries : List Entry) → Fits old.view s →
      HasParts key (with_writes s old.writes) n bucket width entries →
      HasParts key (with_writes s new.writes) n bucket (suc width) entries

pub record Joins (old new : DraftValue) (n bucket width : ℕ) : Type 0 where
  pub keeps : KeepsButBucket old new n bucket
  pub joins : (key : List ℕ) (s : Store) (entries : List Entry) → Fits old.view s →
      HasParts key (with_writes s old.writes) n bucket (suc width) entries →
      HasParts key (with_writes s new.writes) n bucket width entries

-- an entry came to its part, whose name was not there; nor was any other one of its bucket, if that had no part
pub record PartsGain (key : List ℕ) (old new : DraftValue) (n : ℕ) (before after : List ℕ) (e : Entry) : Type 0 where
  pub keeps : KeepsButBucket old new n (bucket_of e.name)
  pub counts : after ≡ with_count before (bucket_of e.name) (counted_up (count_in before (bucket_of e.name)))
  pub parts : (s : Store) (entries : List Entry) → Fits old.view s → length before ≡ 64 →
      entry_of entries e.name ≡ None →
      (width_in before (bucket_of e.name) ≡ 0 → (other : List ℕ) → bucket_of other ≡ bucket_of e.name →
      entry_of entries other ≡ None) →
      HasParts key (with_writes s old.writes) n (bucket_of e.name) (width_in before (bucket_of e.name)) entries →
      HasParts key (with_writes s new.writes) n (bucket_of e.name) (width_in after (bucket_of e.name))
      (entries ++ e ∷ [])

-- a name went from its part
pub record PartsLose (key : List ℕ) (old new : DraftValue) (n : ℕ) (before after name : List ℕ) : Type 0 where
  pub keeps : KeepsButBucket old new n (bucket_of name)
  pub counts : after ≡ with_count before (bucket_of name) (counted_down (count_in before (bucket_of name)))
  pub parts : (s : Store) (entries : List Entry) → Fits old.view s →
      HasParts key (with_writes s old.writes) n (bucket_of name) (width_in before (bucket_of name)) entries →
      HasParts key (with_writes s new.writes) n (bucket_of name) (width_in after (bucket_of name))
      (without entries name)

-- ---- what is asked of entries before a change
-- nothing
abbrev pub always : List Entry → Type 0
always entries = Unit {0}

-- ---- where all of it goes
-- in each store that the draft's view fits, and that stands for something, the pages and parts at a number stand for
-- entries, once the draft is written
abbrev pub EntriesStand : DraftValue → (number : ℕ) → Type 0
EntriesStand d number = (s : Store) (k : StoreMeaning) → Fits d.view s → Represents s k →
    (new : StoreMeaning) × StandEntries (with_writes s d.writes) new number

-- whether an address is that of a page or a part of what is at a number
abbrev pub is_entries_of : (number : ℕ) → Addr → Bool
is_entries_of number (addresses.Page n page) = n == number
is_entries_of number (addresses.Part n bucket part) = n == number
is_entries_of number address = false

-- nothing stands any more where a page or a part at a number is of these; the other ones stay
pub record Frees (old new : DraftValue) (number : ℕ) (listed : List Addr) : Type 0 where
  pub enters : Enters number old new
  pub knows : KeepsKnown old new
  pub pages : (s : Store) (page : ℕ) → (with_writes s new.writes).at (addresses.Page number page) ≡
      (if is_listed listed (addresses.Page number page) then None else
      (with_writes s old.writes).at (addresses.Page number page))
  pub parts : (s : Store) (bucket part : ℕ) → (with_writes s new.writes).at (addresses.Part number bucket part) ≡
      (if is_listed listed (addresses.Part number bucket part) then None else
      (with_writes s old.writes).at (addresses.Part number bucket part))

-- no page and no part of what stands at a number is there any more
pub record IsEmptied (old new : DraftValue) (number : ℕ) : Type 0 where
  pub enters : Enters number old new
  pub knows : KeepsKnown old new
  pub emptied : (s : Store) (k : StoreMeaning) → Fits old.view s → StandEntries (with_writes s old.writes) k number →
      HoldsEntries (with_writes s new.writes) number None []
