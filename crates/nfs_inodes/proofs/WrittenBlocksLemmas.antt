-- Blocks and maps of a file that are written: what stands then, and what stays.
use Rattle.std.proofs.Common.{◌≡◌, ◌≢◌, ◌+◌, ◌-◌, ◌*◌, ◌/◌, ◌%◌, ◌<◌, ◌≤◌, ◌==◌, ◌&&◌, ◌||◌, ◌⊎◌, ℕ, true, false}
use Rattle.std.proofs.Common.{Bool, max, min, nat_le, nat_lt}
use Rattle.std.proofs.Common.{List, [], Option, Some, None, inl, inr, refl, sym, ◌∙◌, ap, subst, arith}
use Rattle.std.proofs.Common.{IfSome, IsSome, cond, drop, is_some, length, option_map, unwrap_or}
use Rattle.std.proofs.lemmas.Bool.{cases_lt, le-leb, lt-leb, lt-ltb, le-ltb}
use Rattle.std.proofs.lemmas.List.{length-drop, length-take}
use Rattle.std.specs.Cmp.{unsigned_Decides}
use Rattle.nfs_machine.specs.Data.{written}
use Rattle.nfs_objects.proofs.BitSetLemmas.{has-none}
use Rattle.nfs_objects.proofs.FilePartLemmas.{written-length}
use Rattle.nfs_objects.proofs.OtherObjectsLemmas.{lays-block, lays-both, lays-map, lays-none}
use Rattle.nfs_objects.proofs.SeenLemmas.{is_addr-refl, known-stands, writes-append, written-append}
use Rattle.nfs_objects.specs.Bits.{has, no_bits, same_bits}
use Rattle.nfs_objects.specs.FileMaps.{block_size}
use Rattle.nfs_objects.specs.Fits.{Fits}
use Rattle.nfs_objects.specs.Stands.{HasBlocks, IsMapped, IsStored, block_of, map_of, stored_in, stored_map}
use Rattle.nfs_objects.specs.SameLaws.{bits_decides}
use Rattle.nfs_objects.specs.Store.{Store, with_writes}
use Rattle.nfs_objects.specs.Unfiled.{Lays}
use Rattle.nfs_objects.specs.Values.{DraftValue, is_addr, known_at, with_written}
use Rattle.nfs_objects.specs.declared.address.Addr.{Addr}
use Rattle.nfs_objects.specs.declared.address.Addr.TheVariants as addresses
use Rattle.nfs_objects.specs.declared.bits.Bits.{Bits}
use Rattle.nfs_objects.specs.declared.object.Object.{Object}
use Rattle.nfs_objects.specs.declared.object.Object.TheVariants as objects
use Rattle.nfs_inodes.proofs.ReadBlocksLemmas.{has-blocks, known-map}
use Rattle.nfs_inodes.proofs.WishesLemmas.{differs, not-same, other-block, other-map, same-number}
use Rattle.nfs_inodes.specs.Blocks.{HasBlock, HasPages, IsBackAfter, IsMapAfter, IsMapPut, IsNoBlockIn, Leaves}
use Rattle.nfs_inodes.specs.Blocks.{WritesBlock, WritesBlocks, WritesRange}
use Rattle.nfs_inodes.specs.Blocks.{end_of, first_of, part_in, place_in}

-- ---- one write
pub stands-written : (d : DraftValue) (s : Store) (b : Addr) (o : Option Object) (a : Addr) →
    (with_writes s (with_written d b o).writes).at a ≡ cond (is_addr b a) o ((with_writes s d.writes).at a)
stands-written d s b o a = ap (λ (x : Store). x.at a) (writes-append d.writes s b o)

pub known-written : (d : DraftValue) (b : Addr) (o : Option Object) (a : Addr) →
    known_at (with_written d b o) a ≡ cond (is_addr b a) (Some o) (known_at d a)
known-written d b o a = written-append d.writes _ b o a

-- of another inode
pub known-other : (d new : DraftValue) (n m : ℕ) (o : Option Object) → new ≡ with_written d (addresses.Inode n) o →
    (n == m) ≡ false → known_at new (addresses.Inode m) ≡ known_at d (addresses.Inode m)
known-other d new n m o is other =
    ap (λ (x : DraftValue). known_at x (addresses.Inode m)) is ∙ known-written d (addresses.Inode n) o
    (addresses.Inode m)
    ∙ ap (λ b. cond b (Some o) (known_at d (addresses.Inode m))) other

pub stands-here : (d : DraftValue) (s : Store) (b : Addr) (o : Option Object) →
    (with_writes s (with_written d b o).writes).at b ≡ o
stands-here d s b o = stands-written d s b o b ∙ ap (λ t. cond t o ((with_writes s d.writes).at b)) (is_addr-refl b)

-- ---- what stays
pub leaves-none : (d : DraftValue) (Is : Addr → Type 0) → Leaves d d Is
leaves-none d Is = record { known = λ a is. refl; stands = λ s a is. refl }

pub leaves-one : (d : DraftValue) (b : Addr) (o : Option Object) → Leaves d (with_written d b o)
    (λ a. is_addr b a ≡ false)
leaves-one d b o = record {
  known = λ a other. known-written d b o a ∙ ap (λ t. cond t (Some o) (known_at d a)) other;
  stands = λ s a other. stands-written d s b o a ∙ ap (λ t. cond t o ((with_writes s d.writes).at a)) other;
}

pub leaves-both : (d mid new : DraftValue) (Is Was Will : Addr → Type 0) → Leaves d mid Was → Leaves mid new Will →
    ((a : Addr) → Is a → Was a × Will a) → Leaves d new Is
leaves-both d mid new Is Was Will first second both = record {
  known = λ a is. (let x = both a is in second.known a x.1 ∙ first.known a x.0);
  stands = λ s a is. (let x = both a is in second.stands s a x.1 ∙ first.stands s a x.0);
}

pub leaves-as : (d new : DraftValue) (Is Was : Addr → Type 0) → Leaves d new Was → ((a : Addr) → Is a → Was a) →
    Leaves d new Is
leaves-as d new Is Was leaves wider = record {
  known = λ a is. leaves.known a (wider a is);
  stands = λ s a is. leaves.stands s a (wider a is);
}

-- ---- a block with more bytes
pub block-written : (d new : DraftValue) (n i at : ℕ) (old part block : List ℕ) (found : Option (List ℕ)) →
    option_map block_of (known_at d (addresses.Block n i)) ≡ Some found → old ≡ unwrap_or found [] →
    block ≡ written old at part → new ≡ with_written d (addresses.Block n i) (Some (objects.Block block)) →
    WritesBlock d new n i at part
block-written d new n i at old part block found known was is put =
    subst (λ (x : DraftValue). WritesBlock d x n i at part) (sym put) (record {
      lays = lays-block n d i (Some (objects.Block block));
      leaves = leaves-one d (addresses.Block n i) (Some (objects.Block block));
      written_is = λ s fits. stands-here d s (addresses.Block n i) (Some (objects.Block block))
          ∙ ap (λ b. Some (objects.Block b)) (is ∙ ap (λ x. written x at part) (was ∙ sym (stored s fits)));
    })
  where
    by : (s : Store) → Fits d.view s → (o : Option (Option Object)) → known_at d (addresses.Block n i) ≡ o →
        option_map block_of o ≡ Some found →
        stored_in ((with_writes s d.writes).at (addresses.Block n i)) ≡ unwrap_or found []
    by s fits None is e = cc
    by s fits (Some o) is e =
        let same : block_of o ≡ found = cc in
        ap stored_in (known-stands d s (addresses.Block n i) o fits is) ∙ ap (λ b. unwrap_or b []) same

    stored : (s : Store) → Fits d.view s → stored_in ((with_writes s d.writes).at (addresses.Block n i)) ≡ unwrap_or
        found []
    stored s fits = by s fits (known_at d (addresses.Block n i)) refl known

-- ---- blocks, one after another
module _ (old : DraftValue) (n offset : ℕ) (bytes : List ℕ) where
  pub blocks-none : WritesBlocks old old n offset bytes (first_of offset)
  blocks-none = record {
    lays = lays-none n old;
    leaves = leaves-none old (IsNoBlockIn n (first_of offset) (first_of offset));
    blocks = λ s i fits behind before. absurd (omega (arith, behind, before));
  }

  pub blocks-next : (mid new : DraftValue) (index at : ℕ) (part : List ℕ) → first_of offset ≤ index →
      at ≡ place_in offset index → part ≡ part_in offset bytes index → WritesBlocks old mid n offset bytes index →
      WritesBlock mid new n index at part → WritesBlocks old new n offset bytes (index + 1)
  blocks-next mid new index at part behind place is so next = record {
    lays = lays-both n old mid new so.lays next.lays;
    leaves = leaves-both old mid new (IsNoBlockIn n first (index + 1)) (IsNoBlockIn n first index)
        (λ a. is_addr (addresses.Block n index) a ≡ false) so.leaves next.leaves (λ a none. (
          λ i from before. none i from (omega (arith, before)),
          none index behind (omega arith),
        ));
    blocks = λ s i fits from before. by s fits i from before (i == index) refl;
  }
    where
      first : ℕ
      first = first_of offset

      has : (s : Store) (d : DraftValue) (i : ℕ) → Option Object
      has s d i = (with_writes s d.writes).at (addresses.Block n i)

      after : (s : Store) (i : ℕ) → Option Object
      after s i = Some (objects.Block (written (stored_in ((with_writes s old.writes).at (addresses.Block n i)))
          (place_in offset i) (part_in offset bytes i)))

      here : (s : Store) → Fits old.view s → (with_writes s new.writes).at (addresses.Block n index) ≡ after s index
      here s fits =
          next.written_is s (subst (λ v. Fits v s) (sym so.lays.view) fits)
          ∙ (λ j. Some (objects.Block (written (stored_in (so.leaves.stands s (addresses.Block n index)
          (λ i from before. other-block n i index (λ e. absurd (omega (arith, before, e)))) j)) (place j) (is j))))

      by : (s : Store) → Fits old.view s → (i : ℕ) → first ≤ i → i < index + 1 → (t : Bool) → (i == index) ≡ t →
          (with_writes s new.writes).at (addresses.Block n i) ≡ after s i
      by s fits i from before true same =
          subst (λ q. (with_writes s new.writes).at (addresses.Block n q) ≡ after s q)
          (sym ((unsigned_Decides i index).0 same)) (here s fits)
      by s fits i from before false other =
          let apart = differs i index other in
          next.leaves.stands s (addresses.Block n i) (other-block n index i (λ e. apart (sym e)))
          ∙ so.blocks s i fits from (omega (arith, before, apart))

  -- what is known of later blocks is as before
  pub blocks-known : (mid : DraftValue) (index i : ℕ) → WritesBlocks old mid n offset bytes index → index ≤ i →
      known_at mid (addresses.Block n i) ≡ known_at old (addresses.Block n i)
  blocks-known mid index i so behind =
      so.leaves.known (addresses.Block n i) (λ j from before. other-block n j i
      (λ e. absurd (omega (arith, before, e, behind))))

-- ---- maps
-- a map that tells of a block is not that of none
pub tells-some : (bits : Bits) (place : ℕ) → has bits place ≡ true → same_bits bits no_bits ≡ false
tells-some bits place there = by (same_bits bits no_bits) refl
  where
    by : (b : Bool) → same_bits bits no_bits ≡ b → b ≡ false
    by true is =
        let e : bits ≡ no_bits = (bits_decides bits no_bits).0 is in
        let no : true ≡ false = sym there ∙ ap (λ x. has x place) e ∙ has-none place in cc
    by false is = refl

-- a map that tells of a block stands there
pub map-stands : (bits : Bits) (place : ℕ) → has bits place ≡ true → stored_map bits ≡ Some (objects.Map bits)
map-stands bits place there = by (same_bits bits no_bits) refl
  where
    by : (b : Bool) → same_bits bits no_bits ≡ b → cond b None (Some (objects.Map bits)) ≡ Some (objects.Map bits)
    by true is =
        let e : bits ≡ no_bits = (bits_decides bits no_bits).0 is in
        let no : true ≡ false = sym there ∙ ap (λ x. has x place) e ∙ has-none place in cc
    by false is = refl

-- the map of one page once the range is written
pub record IsPageAfter (s t : Store) (n first end : ℕ) (after : Bits) (page : ℕ) : Type 0 where
  pub mapped : IsMapped (has after page) (t.at (addresses.Map n page))
  pub tells : (place : ℕ) → place < 512 → has (map_of (t.at (addresses.Map n page))) place ≡
      (has (map_of (s.at (addresses.Map n page))) place ||
      (nat_le first (page * 512 + place) && nat_lt (page * 512 + place) end))

or-none : (b : Bool) → (b || false) ≡ b
or-none true = refl
or-none false = refl

or-all : (b : Bool) → (b || true) ≡ true
or-all true = refl
or-all false = refl

abbrev is_within : (first end i : ℕ) → Bool
is_within first end i = nat_le first i && nat_lt i end

within-true : (first end i : ℕ) → first ≤ i → i < end → is_within first end i ≡ true
within-true first end i from before = (λ j. le-leb first i from j && lt-ltb i end before j)

within-tells : (first end i : ℕ) → is_within first end i ≡ true → (first ≤ i) × (i < end)
within-tells first end i is = elim (cases_lt i first) [
  | inl less ↦ absurd (let no : true ≡ false = sym is ∙ ap (λ b. b && nat_lt i end) (lt-leb first i less) in cc)
  | inr from ↦ elim (cases_lt i end) [
    | inl before ↦ (from, before)
    | inr past ↦ absurd (let no : true ≡ false = sym is ∙ (λ j. le-leb first i from j && le-ltb i end past j) in cc)
  ]
]

within-false : (first end i : ℕ) → (i < first) ⊎ (end ≤ i) → is_within first end i ≡ false
within-false first end i out = by (is_within first end i) refl
  where
    by : (b : Bool) → is_within first end i ≡ b → b ≡ false
    by true is =
        let both = within-tells first end i is in
        elim out [ inl less ↦ absurd (omega (arith, less, both)) | inr past ↦ absurd (omega (arith, past, both)) ]
    by false is = refl

-- places of a page, as numbers of blocks
pub places-are : (first end begin n : ℕ) → n < 512 →
    (nat_le (max first begin - begin) n && nat_lt n (min end (begin + 512) - begin)) ≡ is_within first end (begin + n)
places-are first end begin n below = elim (cases_lt (begin + n) first) [
  | inl less ↦
      ap (λ b. b && nat_lt n (min end (begin + 512) - begin)) (lt-leb (max first begin - begin) n (omega (arith, less)))
      ∙ sym (within-false first end (begin + n) (inl less))
  | inr from ↦ elim (cases_lt (begin + n) end) [
    | inl before ↦
        (λ j. le-leb (max first begin - begin) n (omega (arith, from)) j
        && lt-ltb n (min end (begin + 512) - begin) (omega (arith, before, below)) j)
        ∙ sym (within-true first end (begin + n) from before)
    | inr past ↦
        (λ j. le-leb (max first begin - begin) n (omega (arith, from)) j
        && le-ltb n (min end (begin + 512) - begin) (omega (arith, past)) j)
        ∙ sym (within-false first end (begin + n) (inr past))
  ]
]

-- what a page's map tells then, where one of its blocks is in the range
pub page-tells : (d : DraftValue) (file first end page : ℕ) (was bits : Bits) →
    option_map map_of (known_at d (addresses.Map file page)) ≡ Some was →
    ((n : ℕ) → has bits n ≡ (has was n || (nat_le (max first (page * 512) - page * 512) n
    && nat_lt n (min end (page * 512 + 512) - page * 512)))) →
    first < page * 512 + 512 → page * 512 < end → first < end → IsMapAfter d file first end page (Some bits)
page-tells d file first end page was bits known is behind before some = (
  was,
  known,
  tells,
  (
    place,
    tells place (omega (arith, behind))
        ∙ ap (λ b. has was place || b) (within-true first end (page * 512 + place) (omega arith)
        (omega (arith, before, some)))
        ∙ or-all (has was place),
  ),
)
  where
    place : ℕ
    place = max first (page * 512) - page * 512

    tells : (n : ℕ) → n < 512 → has bits n ≡ (has was n || is_within first end (page * 512 + n))
    tells n below = is n ∙ ap (λ b. has was n || b) (places-are first end (page * 512) n below)

-- the blocks of a page in a range are there
pub page-there : (d : DraftValue) (file first end page : ℕ) →
    ((i : ℕ) → max first (page * 512) ≤ i → i < min end (page * 512 + 512) → HasBlock d file i) →
    IsMapAfter d file first end page None
page-there d file first end page there i from before row = there i (omega (arith, from, row))
    (omega (arith, before, row))

module _ (s t : Store) (n first end : ℕ) (before after : Bits) (filed : HasBlocks s n before) (page : ℕ) where
  -- its map stays, since all of its blocks in the range were there
  pub page-stays : t.at (addresses.Map n page) ≡ s.at (addresses.Map n page) → has after page ≡ has before page
      → ((place : ℕ) → place < 512 → first ≤ page * 512 + place → page * 512 + place < end →
      has (map_of (s.at (addresses.Map n page))) place ≡ true)
      → IsPageAfter s t n first end after page
  page-stays same kept there = record {
    mapped = subst (IsMapped (has after page)) (sym same)
        (subst (λ b. IsMapped b (s.at (addresses.Map n page))) (sym kept) (filed.maps page));
    tells = λ place below. ap (λ o. has (map_of o) place) same ∙ tells place below;
  }
    where
      tells : (place : ℕ) → place < 512 → has (map_of (s.at (addresses.Map n page))) place ≡
          (has (map_of (s.at (addresses.Map n page))) place || is_within first end (page * 512 + place))
      tells place below = by (is_within first end (page * 512 + place)) refl
        where
          by : (b : Bool) → is_within first end (page * 512 + place) ≡ b →
              has (map_of (s.at (addresses.Map n page))) place ≡ (has (map_of (s.at (addresses.Map n page))) place || b)
          by true is =
              let both = within-tells first end (page * 512 + place) is in
              there place below both.0 both.1 ∙ sym (or-all (has (map_of (s.at (addresses.Map n page))) place))
          by false is = sym (or-none (has (map_of (s.at (addresses.Map n page))) place))

  -- it is another
  pub page-put : (was bits : Bits) (some : ℕ) → t.at (addresses.Map n page) ≡ stored_map bits → has after page ≡ true
      → map_of (s.at (addresses.Map n page)) ≡ was → has bits some ≡ true
      → ((place : ℕ) → place < 512 → has bits place ≡ (has was place || is_within first end (page * 512 + place)))
      → IsPageAfter s t n first end after page
  page-put was bits some put there told one tells =
      let stands : t.at (addresses.Map n page) ≡ Some (objects.Map bits) = put ∙ map-stands bits some one in
      record {
        mapped = subst (λ b. IsMapped b (t.at (addresses.Map n page))) (sym there)
            (bits, stands, tells-some bits some one);
        tells = λ place below. ap (λ o. has (map_of o) place) stands ∙ tells place below
            ∙ ap (λ b. has b place || is_within first end (page * 512 + place)) (sym told);
      }

-- a block of the range has a byte then
pub some-written : (old bytes : List ℕ) (offset i : ℕ) → 0 < length bytes → first_of offset ≤ i →
    i < end_of offset (length bytes) → 0 < length (written old (place_in offset i) (part_in offset bytes i))
some-written old bytes offset i some from before =
    let long = written-length old (place_in offset i) (part_in offset bytes i) in
    let part = length-take (block_size - place_in offset i) (drop (i * block_size - offset) bytes) in
    let left = length-drop (i * block_size - offset) bytes in
    omega (arith, long, part, left, some, from, before)

-- so the maps tell of all blocks that are there
pub filed-after : (s t : Store) (n first end : ℕ) (before after : Bits) → HasBlocks s n before
    → ((p : ℕ) → IsPageAfter s t n first end after p)
    → ((i : ℕ) → (i < first) ⊎ (end ≤ i) → t.at (addresses.Block n i) ≡ s.at (addresses.Block n i))
    → ((i : ℕ) → first ≤ i → i < end → (bytes : List ℕ) × (t.at (addresses.Block n i) ≡ Some (objects.Block bytes)) ×
    (0 < length bytes))
    → HasBlocks t n after
filed-after s t n first end before after filed pages stays there = record {
  maps = λ p. (pages p).mapped;
  blocks = λ i. subst (λ b. IsStored b (t.at (addresses.Block n i))) (sym (told i)) (elim (cases_lt i first) [
    | inl less ↦ outside i (inl less)
    | inr from ↦ elim (cases_lt i end) [
      | inl before ↦ subst (λ b. IsStored b (t.at (addresses.Block n i)))
          (sym (ap (λ b. was i || b) (within-true first end i from before) ∙ or-all (was i))) (there i from before)
      | inr past ↦ outside i (inr past)
    ]
  ]);
}
  where
    was : ℕ → Bool
    was i = has (map_of (s.at (addresses.Map n (i / 512)))) (i % 512)

    told : (i : ℕ) → has (map_of (t.at (addresses.Map n (i / 512)))) (i % 512) ≡ (was i || is_within first end i)
    told i =
        let whole : i / 512 * 512 + i % 512 ≡ i = omega arith in
        (pages (i / 512)).tells (i % 512) (omega arith) ∙ ap (λ k. was i || is_within first end k) whole

    outside : (i : ℕ) → (i < first) ⊎ (end ≤ i) → IsStored (was i || is_within first end i) (t.at (addresses.Block n i))
    outside i out =
        subst (λ b. IsStored b (t.at (addresses.Block n i)))
        (sym (ap (λ b. was i || b) (within-false first end i out) ∙ or-none (was i)))
        (subst (IsStored (was i)) (sym (stays i out)) (filed.blocks i))

-- ---- a map that is put, if it is another
module _ (x y : DraftValue) (n q : ℕ) (pages after : Bits) where
  pub put-lays : (o : Option Bits) → IsMapPut x y n q o pages after → Lays n x y
  put-lays None put = subst (λ (d : DraftValue). Lays n x d) (sym put.0) (lays-none n x)
  put-lays (Some bits) put = subst (λ (d : DraftValue). Lays n x d) (sym put.0) (lays-map n x q (stored_map bits))

  pub put-leaves : (o : Option Bits) → IsMapPut x y n q o pages after → Leaves x y
      (λ a. is_addr (addresses.Map n q) a ≡ false)
  put-leaves None put = subst (λ (d : DraftValue). Leaves x d (λ a. is_addr (addresses.Map n q) a ≡ false)) (sym put.0)
      (leaves-none x (λ a. is_addr (addresses.Map n q) a ≡ false))
  put-leaves (Some bits) put = subst (λ (d : DraftValue). Leaves x d (λ a. is_addr (addresses.Map n q) a ≡ false))
      (sym put.0) (leaves-one x (addresses.Map n q) (stored_map bits))

  pub put-kept : (o : Option Bits) → IsMapPut x y n q o pages after → (p : ℕ) → p ≢ q → has after p ≡ has pages p
  put-kept None put p apart = ap (λ b. has b p) put.1
  put-kept (Some bits) put p apart = put.1 p ∙ ap (λ b. has pages p || b) (not-same p q apart) ∙ or-none (has pages p)

  pub put-here : (bits : Bits) → IsMapPut x y n q (Some bits) pages after → (s : Store) →
      (with_writes s y.writes).at (addresses.Map n q) ≡ stored_map bits
  put-here bits put s = ap (λ (d : DraftValue). (with_writes s d.writes).at (addresses.Map n q)) put.0
      ∙ stands-here x s (addresses.Map n q) (stored_map bits)

  pub put-there : (bits : Bits) → IsMapPut x y n q (Some bits) pages after → has after q ≡ true
  put-there bits put = put.1 q ∙ ap (λ b. has pages q || b) (same-number q) ∙ or-all (has pages q)

  -- a page that is put nothing stays
  pub put-none : IsMapPut x y n q None pages after → (s : Store) → ((with_writes s y.writes).at (addresses.Map n q) ≡
      (with_writes s x.writes).at (addresses.Map n q)) × (has after q ≡ has pages q)
  put-none put s = (
    ap (λ (d : DraftValue). (with_writes s d.writes).at (addresses.Map n q)) put.0,
    ap (λ b. has b q)
        put.1,
  )

-- ---- the whole range
module _ (old mid late new : DraftValue) (n offset : ℕ) (bytes : List ℕ) (pages between after : Bits)
    (front back : Option Bits) (count : ℕ) (is-count : count ≡ length bytes) (few : count ≤ 65536) (some : 0 < count)
    (shows : HasPages old n pages) where
  abbrev first : ℕ
  first = first_of offset

  abbrev end : ℕ
  end = end_of offset count

  abbrev low : ℕ
  low = first / 512

  abbrev high : ℕ
  high = (end - 1) / 512

  module _ (blocks : WritesBlocks old mid n offset bytes end) (first-put : IsMapPut mid late n low front pages between)
      (second-put : IsMapPut late new n high back between after) where
    abbrev at-old : Store → Addr → Option Object
    at-old s a = (with_writes s old.writes).at a

    abbrev at-late : Store → Addr → Option Object
    at-late s a = (with_writes s late.writes).at a

    abbrev at-new : Store → Addr → Option Object
    at-new s a = (with_writes s new.writes).at a

    -- the writes of blocks leave maps
    maps-stay : (s : Store) (p : ℕ) → (with_writes s mid.writes).at (addresses.Map n p) ≡ at-old s (addresses.Map n p)
    maps-stay s p = blocks.leaves.stands s (addresses.Map n p) (λ i from before. refl)

    module _ (s : Store) (fits : Fits old.view s) (filed : HasBlocks (with_writes s old.writes) n pages) where
      -- where its blocks were there, the map of a page tells of them
      was-told : (page : ℕ) → ((i : ℕ) → first ≤ i → i < end → i / 512 ≡ page → HasBlock old n i) →
          (place : ℕ) → place < 512 → first ≤ page * 512 + place → page * 512 + place < end →
          has (map_of (at-old s (addresses.Map n page))) place ≡ true
      was-told page there place below from before = by (has (map_of (at-old s (addresses.Map n page))) place) refl
        where
          i : ℕ
          i = page * 512 + place

          row : i / 512 ≡ page
          row = omega (arith, below)

          column : i % 512 ≡ place
          column = omega (arith, below)

          block : HasBlock old n i
          block = there i from before row

          stands : at-old s (addresses.Block n i) ≡ Some (objects.Block block.0)
          stands = known-stands old s (addresses.Block n i) (Some (objects.Block block.0)) fits block.1

          by : (b : Bool) → has (map_of (at-old s (addresses.Map n page))) place ≡ b → b ≡ true
          by true is = refl
          by false is = absurd (
              let told : has (map_of (at-old s (addresses.Map n (i / 512)))) (i % 512) ≡ false =
              (λ j. has (map_of (at-old s (addresses.Map n (row j)))) (column j)) ∙ is in
              let none : at-old s (addresses.Block n i) ≡ None =
              subst (λ b. IsStored b (at-old s (addresses.Block n i))) told (filed.blocks i) in
              let no : Some (objects.Block block.0) ≡ None = sym stands ∙ none in cc)

      abbrev After : ℕ → Type 0
      After p = IsPageAfter (with_writes s old.writes) (with_writes s new.writes) n first end after p

      front-page : (o : Option Bits) → IsMapAfter old n first end low o → IsMapPut mid late n low o pages between →
          at-new s (addresses.Map n low) ≡ at-late s (addresses.Map n low) → has after low ≡ has between low → After low
      front-page None there put same kept =
          let none = put-none mid late n low pages between put s in
          page-stays (with_writes s old.writes) (with_writes s new.writes) n first end pages after filed low
          (same ∙ none.0 ∙ maps-stay s low) (kept ∙ none.1) (was-told low there)
      front-page (Some bits) is put same kept =
          page-put (with_writes s old.writes) (with_writes s new.writes) n first end pages after filed low is.0 bits
          is.3.0
          (same ∙ put-here mid late n low pages between bits put s)
          (kept ∙ put-there mid late n low pages between bits put)
          (known-map old s n low is.0 fits is.1) is.3.1 is.2

      back-page : (o : Option Bits) → low ≢ high → IsMapAfter old n first end high o →
          IsMapPut late new n high o between after → After high
      back-page None apart there put =
          let none = put-none late new n high between after put s in
          page-stays (with_writes s old.writes) (with_writes s new.writes) n first end pages after filed high
          (none.0 ∙ before-back apart) (none.1 ∙ kept-back apart) (was-told high there)
        where
          before-back : low ≢ high → at-late s (addresses.Map n high) ≡ at-old s (addresses.Map n high)
          before-back apart = (put-leaves mid late n low pages between front first-put).stands s (addresses.Map n high)
              (other-map n low high apart) ∙ maps-stay s high

          kept-back : low ≢ high → has between high ≡ has pages high
          kept-back apart = put-kept mid late n low pages between front first-put high (λ e. apart (sym e))
      back-page (Some bits) apart is put =
          page-put (with_writes s old.writes) (with_writes s new.writes) n first end pages after filed high is.0 bits
          is.3.0
          (put-here late new n high between after bits put s) (put-there late new n high between after bits put)
          (known-map old s n high is.0 fits is.1) is.3.1 is.2

      other-page : (p : ℕ) → p ≢ low → p ≢ high → After p
      other-page p apart far =
          page-stays (with_writes s old.writes) (with_writes s new.writes) n first end pages after filed p
          ((put-leaves late new n high between after back second-put).stands s (addresses.Map n p)
          (other-map n high p (λ e. far (sym e)))
          ∙ (put-leaves mid late n low pages between front first-put).stands s (addresses.Map n p)
          (other-map n low p (λ e. apart (sym e)))
          ∙ maps-stay s p)
          (put-kept late new n high between after back second-put p far
          ∙ put-kept mid late n low pages between front first-put p apart)
          (λ place below from before. absurd (omega (arith, below, from, before, apart, far, few, some)))

      -- behind the first page the second may be put
      module _ (is-back : IsBackAfter old n first end low high back) where
        back-is : low ≡ high → IsMapPut late new n high None between after
        back-is same = subst (λ o. IsMapPut late new n high o between after) (is-back.same same) second-put

        front-stays : (at-new s (addresses.Map n low) ≡ at-late s (addresses.Map n low)) ×
            (has after low ≡ has between low)
        front-stays = by (low == high) refl
          where
            by : (b : Bool) → (low == high) ≡ b →
                (at-new s (addresses.Map n low) ≡ at-late s (addresses.Map n low)) × (has after low ≡ has between low)
            by true is =
                let same : low ≡ high = (unsigned_Decides low high).0 is in
                subst (λ q. (at-new s (addresses.Map n q) ≡ at-late s (addresses.Map n q)) ×
                (has after q ≡ has between q))
                (sym same) (put-none late new n high between after (back-is same) s)
            by false is =
                let apart = differs low high is in (
                  (put-leaves late new n high between after back second-put).stands s (addresses.Map n low)
                      (other-map n high low (λ e. apart (sym e))),
                  put-kept late new n high between after back second-put low apart,
                )

        pub each-page : IsMapAfter old n first end low front → (p : ℕ) → After p
        each-page is-front p = by (p == low) refl (p == high) refl
          where
            by : (t : Bool) → (p == low) ≡ t → (u : Bool) → (p == high) ≡ u → After p
            by true is u other =
                subst After (sym ((unsigned_Decides p low).0 is))
                (front-page front is-front first-put front-stays.0 front-stays.1)
            by false is true other =
                let same : p ≡ high = (unsigned_Decides p high).0 other in
                let apart : low ≢ high = λ e. differs p low is (same ∙ sym e) in
                subst After (sym same) (back-page back apart (is-back.other apart) second-put)
            by false is false other = other-page p (differs p low is) (differs p high other)

    pub range-written : IsMapAfter old n first end low front → IsBackAfter old n first end low high back →
        WritesRange old new n offset bytes after
    range-written is-front is-back = record {
      lays = lays-both n old mid new blocks.lays (lays-both n mid late new
          (put-lays mid late n low pages between front first-put)
          (put-lays late new n high between after back second-put));
      inodes = λ q. known (addresses.Inode q) refl refl (λ i from before. refl);
      others = λ s i out. stays s (addresses.Block n i) refl refl (λ j from before.
          other-block n j i (λ e. elim out [
            | inl less ↦ absurd (omega (arith, less, from, e))
            | inr past ↦ absurd (omega (arith, past, before, e, is-count))
          ]));
      blocks = λ s i fits from before.
          puts s (addresses.Block n i) refl refl ∙ blocks.blocks s i fits from (omega (arith, before, is-count));
      maps = λ s k fits stands.
          let filed = has-blocks old n pages shows s k fits stands in
          filed-after (with_writes s old.writes) (with_writes s new.writes) n first end pages after filed
          (each-page s fits filed is-back is-front)
          (λ i out. stays s (addresses.Block n i) refl refl (λ j from before.
          other-block n j i (λ e. elim out [
            | inl less ↦ absurd (omega (arith, less, from, e))
            | inr past ↦ absurd (omega (arith, past, before, e))
          ])))
          (λ i from before. (
            written (stored_in (at-old s (addresses.Block n i))) (place_in offset i) (part_in offset bytes i),
            puts s (addresses.Block n i) refl refl ∙ blocks.blocks s i fits from before,
            some-written (stored_in (at-old s (addresses.Block n i))) bytes offset i
                (omega (arith, some, is-count)) from
                (omega (arith, before, is-count)),
          ));
    }
      where
        puts : (s : Store) (a : Addr) → is_addr (addresses.Map n low) a ≡ false → is_addr (addresses.Map n high) a ≡
            false →
            at-new s a ≡ (with_writes s mid.writes).at a
        puts s a one two =
            (put-leaves late new n high between after back second-put).stands s a two
            ∙ (put-leaves mid late n low pages between front first-put).stands s a one

        stays : (s : Store) (a : Addr) → is_addr (addresses.Map n low) a ≡ false → is_addr (addresses.Map n high) a ≡
            false →
            IsNoBlockIn n first end a → at-new s a ≡ at-old s a
        stays s a one two none = puts s a one two ∙ blocks.leaves.stands s a none

        known : (a : Addr) → is_addr (addresses.Map n low) a ≡ false → is_addr (addresses.Map n high) a ≡ false →
            IsNoBlockIn n first end a → known_at new a ≡ known_at old a
        known a one two none =
            (put-leaves late new n high between after back second-put).known a two
            ∙ (put-leaves mid late n low pages between front first-put).known a one ∙ blocks.leaves.known a none

-- ---- a map page that is put is known
told-known : (o : Option (Option Object)) (was : Bits) → option_map map_of o ≡ Some was → IsSome o
told-known None was is = ap is_some is
told-known (Some o) was is = refl

-- the last one too, where blocks were written and the first one was put before
pub back-known : (old mid late : DraftValue) (n first end low high : ℕ) (front : Option Bits) (pages between : Bits) →
    ((p : ℕ) → known_at mid (addresses.Map n p) ≡ known_at old (addresses.Map n p)) →
    IsMapPut mid late n low front pages between → (back : Option Bits) →
    IsBackAfter old n first end low high back → IfSome back (λ _. IsSome (known_at late (addresses.Map n high)))
back-known old mid late n first end low high front pages between stay put None is = tt
back-known old mid late n first end low high front pages between stay put (Some bits) is =
    let apart : low ≢ high = λ same. (let no : Some bits ≡ None = is.same same in cc) in
    subst (λ o. IsSome o)
    (sym ((put-leaves mid late n low pages between front put).known (addresses.Map n high)
    (other-map n low high apart) ∙ stay high))
    (told-known (known_at old (addresses.Map n high)) (is.other apart).0 (is.other apart).1)
