-- What a draft shows of the blocks and maps of a file, and what is read of them.
use Rattle.std.proofs.Common.{◌≡◌, ◌+◌, ◌-◌, ◌*◌, ◌/◌, ◌%◌, ◌<◌, ◌≤◌, ◌&&◌, ℕ, true, false, Bool, min, not}
use Rattle.std.proofs.Common.{List, [], ◌∷◌, ◌++◌, Option, Some, None, IsSome, Result, Ok, Err, inl, inr, refl, sym}
use Rattle.std.proofs.Common.{◌∙◌, ap, subst, arith}
use Rattle.std.proofs.Common.{nat_lt, slice_index_or, ◌==◌}
use Rattle.std.proofs.lemmas.Bool.{and_parts, cases_lt, ltb-true}
use Rattle.std.specs.Int.{bit_at}
use Rattle.std.specs.FinMap.{get}
use Rattle.nfs_wire.specs.declared.replies.ReadData.{ReadData}
use Rattle.std.proofs.Common.{Bor, is_some, nat_le, option_copied}
use Rattle.std.proofs.Common.{cond, length, length-append, take, drop, option_map, unwrap_or}
use Rattle.std.proofs.Math.Seq.{take-add}
use Rattle.std.proofs.lemmas.List.{drop-drop, length-drop, length-take, take_all}
use Rattle.std.specs.Prelude.{MatchResult}
use Rattle.nfs_machine.specs.Data.{read_at, resized}
use Rattle.nfs_machine.specs.State.{Living, Socket, State}
use Rattle.nfs_objects.proofs.BitSetLemmas.{has-none}
use Rattle.nfs_objects.proofs.ContentLemmas.{part-length}
use Rattle.nfs_objects.proofs.FilePartLemmas.{drop-resized, read-one, resized-length, take-grown}
use Rattle.nfs_objects.proofs.SeenLemmas.{known-stands}
use Rattle.nfs_objects.specs.Asks.{IsThere, Lacks}
use Rattle.nfs_objects.specs.Bits.{has, no_bits}
use Rattle.nfs_objects.specs.FileMaps.{FileMapValue, IsContent, block_size, counts, part_at}
use Rattle.nfs_objects.specs.Fits.{Fits}
use Rattle.nfs_objects.specs.Knows.{Knows}
use Rattle.nfs_objects.specs.Stands.{HasBlocks, IsMapped, IsStored, StoreMeaning, Represents, block_of, bytes_at}
use Rattle.nfs_objects.specs.Stands.{inode_of}
use Rattle.nfs_objects.specs.Stands.{map_in, map_of, pages_of}
use Rattle.nfs_objects.specs.Stands.{beside_at, content_of, file_bytes, filed_in, filled, stored_in}
use Rattle.nfs_objects.specs.Store.{Store, with_writes, with_write}
use Rattle.nfs_objects.specs.Values.{DraftValue, is_addr, known_at, shown_at, written_at}
use Rattle.nfs_objects.specs.declared.address.Addr.{Addr}
use Rattle.nfs_objects.specs.declared.address.Addr.TheVariants as addresses
use Rattle.nfs_objects.specs.declared.bits.Bits.{Bits}
use Rattle.nfs_objects.specs.declared.change.Missing.{Missing}
use Rattle.nfs_objects.specs.declared.object.Content.{Content}
use Rattle.nfs_objects.specs.declared.object.Content.TheVariants as contents
use Rattle.nfs_objects.specs.declared.object.Inode.{Inode}
use Rattle.nfs_objects.specs.declared.object.Object.{Object}
use Rattle.nfs_objects.specs.declared.object.Object.TheVariants as objects
use Rattle.nfs_inodes.proofs.PutObjectLemmas.{known-inode}
use Rattle.nfs_inodes.proofs.StandsLemmas.{contains, stands-there}
use Rattle.nfs_inodes.specs.Blocks.{HasBlock, HasMap, HasPages, ShowsBlock}
use Rattle.nfs_inodes.specs.Cuts.{ShowsMap}
use Rattle.nfs_inodes.specs.Known.{HasInode, bytes_of, content_at}
use Rattle.nfs_inodes.specs.Stops.{StillStands, StopsAt}

-- ---- what stands where nothing was written
over-some : (ws : List (Addr × Option Object)) (x : Option Object) (a : Addr) → written_at (Some x) ws a ≡ None → ⊥
over-some [] x a e = cc
over-some (w ∷ ws) x a e =
    elim (is_addr w.0 a) as (λ b. written_at (cond b (Some w.1) (Some x)) ws a ≡ None → ⊥)
    [ true ↦ over-some ws w.1 a | false ↦ over-some ws x a ] e

unwritten : (ws : List (Addr × Option Object)) (s : Store) (known : Option (Option Object)) (a : Addr) →
    written_at known ws a ≡ None → (with_writes s ws).at a ≡ s.at a
unwritten [] s known a none = refl
unwritten (w ∷ ws) s known a none =
    elim (is_addr w.0 a) as (λ b. is_addr w.0 a ≡ b → written_at (cond b (Some w.1) known) ws a ≡ None →
    (with_writes (with_write s w.0 w.1) ws).at a ≡ s.at a) [
      | true ↦ λ is e. absurd (over-some ws w.1 a e)
      | false ↦ λ is e. unwritten ws (with_write s w.0 w.1) known a e ∙ ap (λ b. cond b w.1 (s.at a)) is
    ] refl none

pub unknown-stays : (d : DraftValue) (s : Store) (a : Addr) → known_at d a ≡ None →
    (with_writes s d.writes).at a ≡ s.at a
unknown-stays d s a unknown = unwritten d.writes s (shown_at d.view.entries a) a unknown

-- what stands in a store that the draft was written to stood there before, where the draft does not know it
pub was-there : (d : DraftValue) (a : Addr) → StillStands d → known_at d a ≡ None →
    ((s : Store) (k : StoreMeaning) → Fits d.view s → Represents (with_writes s d.writes) k →
    IsSome ((with_writes s d.writes).at a)) → IsThere d.view a
was-there d a still unknown there s k fits stands sound formed =
    let new = still s k fits stands in
    subst (λ o. IsSome o) (unknown-stays d s a unknown) (there s new.0 fits new.1)

-- what is known is not lacking
pub never-lacking : (d : DraftValue) (a : Addr) (halt : Missing) → IsSome (known_at d a) → Lacks d a halt → ⊥
never-lacking d a halt some lacks = by (known_at d a) lacks.unknown some
  where
    by : (o : Option (Option Object)) → o ≡ None → IsSome o → ⊥
    by None none e = cc
    by (Some x) none e = cc

-- what is in a set is below 512
pub in-set : (set : Bits) (p : ℕ) → has set p ≡ true → p < 512
in-set set p is = ltb-true p 512
    (and_parts (nat_lt p 512) (bit_at (slice_index_or set.words (p / 64) 0) (p % 64) == 1) is).0

-- ---- maps and blocks
pub has-pages : (d : DraftValue) (n : ℕ) (map : FileMapValue) → HasMap d n map → HasPages d n map.pages
has-pages d n map has s fits =
    ap pages_of (known-stands d s (addresses.Inode n) (Some (objects.Inode has.inode)) fits
    (known-inode d n has.inode has.stands))
    ∙ ap (λ f. elim f [ None ↦ no_bits | Some map ↦ map.pages ]) has.content

-- of what is known there: of what is no file no page
abbrev pub map_pages : Option FileMapValue → Bits
map_pages m = elim m [ None ↦ no_bits | Some map ↦ map.pages ]

abbrev pub inode_pages : Option Inode → Bits
inode_pages i = elim i [ None ↦ no_bits | Some i ↦ map_pages (map_in i.content) ]

pub known-pages : (d : DraftValue) (n : ℕ) (o : Option Object) (i : Option Inode) (pages : Bits) →
    known_at d (addresses.Inode n) ≡ Some o → i ≡ inode_of o → pages ≡ inode_pages i → HasPages d n pages
known-pages d n o i pages known is are s fits =
    ap pages_of (known-stands d s (addresses.Inode n) o fits known) ∙ by (inode_of o) ∙ sym (are ∙ ap inode_pages is)
  where
    by : (j : Option Inode) → map_pages (elim j [ None ↦ None | Some j ↦ map_in j.content ]) ≡ inode_pages j
    by None = refl
    by (Some j) = refl

some-map : (o : Option Object) → IsMapped true o → IsSome o
some-map o is = subst (λ x. IsSome x) (sym is.1) refl

some-block : (o : Option Object) → IsStored true o → IsSome o
some-block o is = subst (λ x. IsSome x) (sym is.1) refl

module _ (s : Store) (n : ℕ) (pages : Bits) (filed : HasBlocks s n pages) where
  pub no-map : (page : ℕ) → has pages page ≡ false → s.at (addresses.Map n page) ≡ None
  no-map page none = subst (λ b. IsMapped b (s.at (addresses.Map n page))) none (filed.maps page)

  pub no-block : (i : ℕ) → has (map_of (s.at (addresses.Map n (i / 512)))) (i % 512) ≡ false →
      s.at (addresses.Block n i) ≡ None
  no-block i none = subst (λ b. IsStored b (s.at (addresses.Block n i))) none (filed.blocks i)

  pub no-page : (i : ℕ) → has pages (i / 512) ≡ false → s.at (addresses.Block n i) ≡ None
  no-page i none = no-block i (ap (λ o. has (map_of o) (i % 512)) (no-map (i / 512) none) ∙ has-none (i % 512))

module _ (d : DraftValue) (n : ℕ) (pages : Bits) (shows : HasPages d n pages) (s : Store) (k : StoreMeaning)
    (fits : Fits d.view s)
    (stands : Represents (with_writes s d.writes) k) where
  pub has-blocks : HasBlocks (with_writes s d.writes) n pages
  has-blocks = subst (HasBlocks (with_writes s d.writes) n) (shows s fits) (stands.files.blocks n)

-- a map page that is there stands there, and a block that its map tells of
pub page-stands : (d : DraftValue) (n : ℕ) (pages : Bits) (page : ℕ) → HasPages d n pages → has pages page ≡ true →
    (s : Store) (k : StoreMeaning) → Fits d.view s → Represents (with_writes s d.writes) k →
    IsSome ((with_writes s d.writes).at (addresses.Map n page))
page-stands d n pages page shows there s k fits stands =
    some-map _ (subst (λ b. IsMapped b ((with_writes s d.writes).at (addresses.Map n page))) there
    ((has-blocks d n pages shows s k fits stands).maps page))

pub told-stands : (d : DraftValue) (n page : ℕ) (bits : Bits) (place : ℕ) → place < 512 → ShowsMap d n page bits →
    has bits place ≡ true → (s : Store) (k : StoreMeaning) → Fits d.view s → Represents (with_writes s d.writes) k →
    IsSome ((with_writes s d.writes).at (addresses.Block n (page * 512 + place)))
told-stands d n page bits place below shows told s k fits stands =
    some-block (t.at (addresses.Block n i)) (subst (λ b. IsStored b (t.at (addresses.Block n i))) tells
    ((stands.files.blocks n).blocks i))
  where
    t : Store
    t = with_writes s d.writes

    i : ℕ
    i = page * 512 + place

    row : i / 512 ≡ page
    row = omega (arith, below)

    column : i % 512 ≡ place
    column = omega (arith, below)

    tells : has (map_of (t.at (addresses.Map n (i / 512)))) (i % 512) ≡ true
    tells = (λ j. has (map_of (t.at (addresses.Map n (row j)))) (column j))
        ∙ ap (λ b. has b place) (shows s k fits stands) ∙ told

-- ---- blocks that are shown
-- what counts is no remains, and of what is none a file has what stands there
counts-stored : (r p : Bool) → (p && not r) ≡ true → r ≡ false
counts-stored true true counted = cc
counts-stored true false counted = cc
counts-stored false p counted = refl

pub filed-stored : (map : FileMapValue) (i : ℕ) (o : Option Object) → has map.remains (i / 512) ≡ false →
    filed_in map i o ≡ stored_in o
filed-stored map i o off = ap (λ t. cond t [] (stored_in o)) off

pub shows-absent : (d : DraftValue) (n : ℕ) (map : FileMapValue) (i : ℕ) → HasPages d n map.pages →
    counts map (i / 512) ≡ false → ShowsBlock d n map i []
shows-absent d n map i shows none s k fits stands =
    by (has map.remains (i / 512)) (has map.pages (i / 512)) refl none
  where
    o : Option Object
    o = (with_writes s d.writes).at (addresses.Block n i)

    by : (r p : Bool) → has map.pages (i / 512) ≡ p → (p && not r) ≡ false → cond r [] (stored_in o) ≡ []
    by true p is off = refl
    by false true is off = cc
    by false false is off =
        ap stored_in (no-page (with_writes s d.writes) n map.pages (has-blocks d n map.pages shows s k fits
        stands) i is)

pub shows-known : (d : DraftValue) (n : ℕ) (map : FileMapValue) (i : ℕ) (found : Option (List ℕ)) →
    counts map (i / 512) ≡ true → option_map block_of (known_at d (addresses.Block n i)) ≡ Some found →
    ShowsBlock d n map i (unwrap_or found [])
shows-known d n map i found counted known = by (known_at d (addresses.Block n i)) refl known
  where
    by : (o : Option (Option Object)) → known_at d (addresses.Block n i) ≡ o → option_map block_of o ≡ Some found →
        ShowsBlock d n map i (unwrap_or found [])
    by None is e = cc
    by (Some o) is e = λ s k fits stands.
        let same : block_of o ≡ found = cc in
        filed-stored map i ((with_writes s d.writes).at (addresses.Block n i))
        (counts-stored (has map.remains (i / 512)) (has map.pages (i / 512)) counted)
        ∙ ap stored_in (known-stands d s (addresses.Block n i) o fits is) ∙ ap (λ b. unwrap_or b []) same

is-block : (o : Option Object) (bytes : List ℕ) → block_of o ≡ Some bytes → o ≡ Some (objects.Block bytes)
is-block None bytes e = cc
is-block (Some (objects.Block own)) bytes e = ap (λ b. Some (objects.Block b)) (let same : own ≡ bytes = cc in same)
is-block (Some (objects.Exports table)) bytes e = cc
is-block (Some (objects.Inode i)) bytes e = cc
is-block (Some (objects.Map bits)) bytes e = cc
is-block (Some (objects.Page page)) bytes e = cc
is-block (Some (objects.Part part)) bytes e = cc
is-block (Some (objects.Mounts table)) bytes e = cc
is-block (Some (objects.Usage u)) bytes e = cc
is-block (Some (objects.Locks locks)) bytes e = cc

-- a block that is known to be there
pub block-there : (d : DraftValue) (n i : ℕ) (r : Option (Bor (List ℕ))) →
    option_map block_of (known_at d (addresses.Block n i)) ≡ Some (option_copied r) → is_some r ≡ true → HasBlock d n i
block-there d n i None known some = cc
block-there d n i (Some bytes) known some = by (known_at d (addresses.Block n i)) refl known
  where
    by : (o : Option (Option Object)) → known_at d (addresses.Block n i) ≡ o → option_map block_of o ≡ Some
        (Some bytes.now) →
        HasBlock d n i
    by None is e = cc
    by (Some o) is e =
        let same : block_of o ≡ Some bytes.now = cc in
        (bytes.now, is ∙ ap Some (is-block o bytes.now same))

-- what was asked for is not lacking
pub known-block : (d : DraftValue) (n : ℕ) (map : FileMapValue) (i : ℕ) (r : Result (Option (Bor (List ℕ))) Missing) →
    counts map (i / 512) ≡ true → IsSome (known_at d (addresses.Block n i)) →
    MatchResult r (λ block. option_map block_of (known_at d (addresses.Block n i)) ≡ Some (option_copied block))
    (Lacks d (addresses.Block n i)) →
    MatchResult r (λ block. ShowsBlock d n map i (unwrap_or (option_copied block) [])) (StopsAt d [])
known-block d n map i (Ok block) counted some is = shows-known d n map i (option_copied block) counted is
known-block d n map i (Err halt) counted some lacks =
    absurd (never-lacking d (addresses.Block n i) halt some lacks)

-- and a map
pub known-map : (d : DraftValue) (s : Store) (n page : ℕ) (was : Bits) → Fits d.view s →
    option_map map_of (known_at d (addresses.Map n page)) ≡ Some was →
    map_of ((with_writes s d.writes).at (addresses.Map n page)) ≡ was
known-map d s n page was fits known = by (known_at d (addresses.Map n page)) refl known
  where
    by : (o : Option (Option Object)) → known_at d (addresses.Map n page) ≡ o → option_map map_of o ≡ Some was →
        map_of ((with_writes s d.writes).at (addresses.Map n page)) ≡ was
    by None is e = cc
    by (Some o) is e =
        let same : map_of o ≡ was = cc in ap map_of (known-stands d s (addresses.Map n page) o fits is) ∙ same

pub known-told : (d : DraftValue) (n page : ℕ) (r : Result Bits Missing) → IsSome (known_at d (addresses.Map n page)) →
    MatchResult r (λ bits. option_map map_of (known_at d (addresses.Map n page)) ≡ Some bits)
    (Lacks d (addresses.Map n page)) → MatchResult r (ShowsMap d n page) (StopsAt d [])
known-told d n page (Ok bits) some is = λ s k fits stands. known-map d s n page bits fits is
known-told d n page (Err halt) some lacks = absurd (never-lacking d (addresses.Map n page) halt some lacks)

-- a page that is not there tells of no block
pub absent-told : (d : DraftValue) (n page : ℕ) (pages bits : Bits) → HasPages d n pages → has pages page ≡ false →
    bits ≡ no_bits → ShowsMap d n page bits
absent-told d n page pages bits shows none is s k fits stands =
    ap map_of (no-map (with_writes s d.writes) n pages (has-blocks d n pages shows s k fits stands) page none) ∙ sym is

-- the bytes of a file are what its blocks tell
pub content-there : (d : DraftValue) (n : ℕ) (map : FileMapValue) → HasMap d n map → (s : Store) (k : StoreMeaning) →
    Fits d.view s → Represents (with_writes s d.writes) k →
    IsContent map.size (λ b. filed_in map b ((with_writes s d.writes).at (addresses.Block n b))) (bytes_at k.state n)
content-there d n map has s k fits stands =
    stands.files.bytes n has.inode map (stands-there d n (Some has.inode) has.stands s k fits stands) has.content

-- ---- what is read
-- of one block: so many bytes from a place on, with zeros where it has fewer
module _ (size : ℕ) (stored : ℕ → List ℕ) (bytes : List ℕ) (is : IsContent size stored bytes) (i start count place : ℕ)
    (at : place ≡ i * block_size + start) (one : start + count ≤ block_size) (within : place + count ≤ size) where
  pub read-part : resized (drop start (stored i)) count ≡ take count (drop place bytes)
  read-part =
      let whole = part-length bytes i in
      let counted = is.counted in
      let room : start + count ≤ length (part_at bytes i) = omega (arith, whole, counted, at, one, within) in
      let long : length (part_at bytes i) ≡ start + (length (part_at bytes i) - start) = omega (arith, room) in
      let rest : count ≤ length (part_at bytes i) - start = omega (arith, room) in
      let wanted : start + count - start ≡ count = omega arith in
      sym (take-grown count (length (part_at bytes i) - start) (drop start (stored i)) rest)
      ∙ ap (take count) (sym (drop-resized start (length (part_at bytes i) - start) (stored i)))
      ∙ ap (λ m. take count (drop start (resized (stored i) m))) (sym long)
      ∙ ap (λ p. take count (drop start p)) (sym (is.filled i))
      ∙ ap (λ m. take m (drop start (part_at bytes i))) (sym wanted)
      ∙ read-one bytes place i start count at (part_at bytes i) refl room

-- the bytes so far, of those before a block
pub record IsGathered (d : DraftValue) (n offset count index : ℕ) (found : List ℕ) : Type 0 where
  pub counted : length found ≡ min count (index * block_size - offset)
  pub is : Knows d (λ k. found ≡ take (length found) (drop offset (bytes_at k.state n)))

module _ (d : DraftValue) (n : ℕ) (map : FileMapValue) (has : HasMap d n map) (offset count : ℕ) (some : 0 < count)
    (within : offset + count ≤ map.size) where
  pub gathered-none : IsGathered d n offset count (offset / block_size) []
  gathered-none = record { counted = omega arith; is = λ s k w. refl }

  pub gathered-more : (index : ℕ) (found bytes more : List ℕ) → offset / block_size ≤ index →
      index * block_size < offset + count → IsGathered d n offset count index found → ShowsBlock d n map index bytes →
      more ≡ found ++ resized (drop (offset - index * block_size) bytes)
      (min (block_size - (offset - index * block_size)) (count - length found)) → IsGathered d n offset count
      (index + 1) more
  gathered-more index found bytes more behind before so shows is = record {
    counted = ap length is ∙ long ∙ next;
    is = λ s k w.
        let all = bytes_at k.state n in
        let content = content-there d n map has s k w.fits w.stands in
        is ∙ ap (λ b. found ++ resized (drop start b) c) (sym (shows s k w.fits w.stands))
        ∙ (λ j. so.is s k w j ++ part all (λ b. filed_in map b ((with_writes s d.writes).at (addresses.Block n b)))
        content
        j)
        ∙ sym (take-add (length found) c (drop offset all))
        ∙ ap (λ m. take m (drop offset all)) (sym (ap length is ∙ long));
  }
    where
      start : ℕ
      start = offset - index * block_size

      c : ℕ
      c = min (block_size - start) (count - length found)

      long : length (found ++ resized (drop start bytes) c) ≡ length found + c
      long = length-append found (resized (drop start bytes) c)
          ∙ ap (λ m. length found + m) (resized-length (drop start bytes) c)

      next : length found + c ≡ min count ((index + 1) * block_size - offset)
      next = let l = so.counted in omega (arith, l, behind, before)

      part : (all : List ℕ) (stored : ℕ → List ℕ) → IsContent map.size stored all →
          resized (drop start (stored index)) c ≡ take c (drop (length found) (drop offset all))
      part all stored content =
          let l = so.counted in
          let at : offset + length found ≡ index * block_size + start = omega (arith, l, behind, before) in
          read-part map.size stored all content index start c (offset + length found) at
          (omega (arith, l, behind, before)) (omega (arith, l, within, behind, before))
          ∙ ap (take c) (sym (drop-drop (length found) offset all))

  pub gathered-all : (index : ℕ) (found : List ℕ) → offset + count ≤ index * block_size → IsGathered d n offset count
      index found →
      Knows d (λ k. found ≡ take count (drop offset (bytes_at k.state n)))
  gathered-all index found behind so s k w =
      let l = so.counted in
      let whole : length found ≡ count = omega (arith, l, behind) in
      so.is s k w ∙ ap (λ m. take m (drop offset (bytes_at k.state n))) whole

-- ---- what READ answers
-- at most so many of a list are at most so many as it has
take-most : (m : ℕ) (xs : List ℕ) → take m xs ≡ take (min (length xs) m) xs
take-most m xs = elim (cases_lt m (length xs)) [
  | inl less ↦ (let least : min (length xs) m ≡ m = omega (arith, less) in ap (λ k. take k xs) (sym least))
  | inr all ↦
      let least : min (length xs) m ≡ length xs = omega (arith, all) in
      take_all m xs all ∙ sym (take_all (length xs) xs (omega arith)) ∙ ap (λ k. take k xs) (sym least)
]

pub read-is : (bytes found : List ℕ) (size offset count some : ℕ) (eof : Bool) → length bytes ≡ size →
    some ≡ min (size - offset) (min count 65536) → found ≡ take some (drop offset bytes) → eof ≡ nat_le size
    (offset + some) →
    (let read : ReadData = record { count = some; eof = eof; «data» = found } in read ≡ read_at bytes offset count)
read-is bytes found size offset count some eof counted is taken ends = λ i. record {
  count = long i;
  eof = (ends ∙ (λ j. nat_le (sym counted j) (offset + long j))) i;
  «data» = same i;
}
  where
    rest : length (drop offset bytes) ≡ size - offset
    rest = length-drop offset bytes ∙ ap (λ n. n - offset) counted

    same : found ≡ take (min count 65536) (drop offset bytes)
    same = taken ∙ ap (λ k. take k (drop offset bytes)) (is ∙ ap (λ n. min n (min count 65536)) (sym rest))
        ∙ sym (take-most (min count 65536) (drop offset bytes))

    long : some ≡ length (take (min count 65536) (drop offset bytes))
    long = sym (ap length (sym same ∙ taken) ∙ length-take some (drop offset bytes) ∙ short)
      where
        short : min some (length (drop offset bytes)) ≡ some
        short = omega (arith, rest, is)

-- of what is no file
pub bytes-there : (m : State) (n : ℕ) → bytes_of (content_at m n) ≡ bytes_at m n
bytes-there m n = by (get m.objects n)
  where
    by : (o : Option Living) → bytes_of (elim o [ None ↦ Socket | Some l ↦ l.content ]) ≡
        elim o [ None ↦ [] | Some l ↦ file_bytes l.content ]
    by None = refl
    by (Some l) = refl

pub no-bytes-none : (d : DraftValue) (n : ℕ) → HasInode d n None → Knows d (λ k. bytes_of (content_at k.state n) ≡ [])
no-bytes-none d n has s k w = ap bytes_of (contains d n None has s k w.fits w.stands)

pub no-bytes-other : (d : DraftValue) (n : ℕ) (i : Inode) → HasInode d n (Some i) →
    ((map : FileMapValue) → i.content ≡ contents.Regular map → ⊥) → Knows d (λ k. bytes_of (content_at k.state n) ≡ [])
no-bytes-other d n i has other s k w =
    ap bytes_of (contains d n (Some i) has s k w.fits w.stands) ∙ by i.content refl
  where
    by : (c : Content) → i.content ≡ c → bytes_of (filled (beside_at k.state n) (content_of c)) ≡ []
    by (contents.Regular map) is = absurd (other map is)
    by (contents.Directory directory) is = refl
    by (contents.Link text) is = refl
    by (contents.BlockDevice device) is = refl
    by (contents.CharacterDevice device) is = refl
    by contents.Socket is = refl
    by contents.Fifo is = refl
