-- One map page of a file is cut off, and all others stay.
use Rattle.std.proofs.Common.{◌≡◌, ◌≢◌, ◌+◌, ◌-◌, ◌*◌, ◌/◌, ◌%◌, ◌<◌, ◌≤◌, ◌==◌, ◌&&◌, ◌||◌, ◌⊎◌, ℕ, true, false, Bool}
use Rattle.std.specs.Int.{bit_at}
use Rattle.std.specs.Prelude.{MatchResult}
use Rattle.std.proofs.Common.{Result, Ok, Err, []}
use Rattle.std.proofs.Common.{slice_index_or, min, not, nat_lt, nat_le, [], Option, Some, None, inl, inr, refl, sym}
use Rattle.std.proofs.Common.{◌∙◌}
use Rattle.std.proofs.Common.{ap, subst, arith, cond, length, take}
use Rattle.std.proofs.lemmas.Bool.{cases_eq, cases_lt, le-leb, le-ltb, lt-leb, lt-ltb, ltb-false, ltb-true}
use Rattle.std.proofs.lemmas.List.{take_all}
use Rattle.nfs_objects.proofs.ContentLemmas.{content-resized, part-length}
use Rattle.nfs_objects.proofs.OtherObjectsLemmas.{lays-none}
use Rattle.nfs_objects.specs.Bits.{has}
use Rattle.nfs_objects.specs.FileMaps.{FileMapValue, block_size}
use Rattle.nfs_objects.specs.Fits.{Fits}
use Rattle.nfs_objects.specs.Stands.{HasBlocks, IsMapped, IsStored, StoreMeaning, Represents, filed_in, map_of}
use Rattle.nfs_objects.specs.Stands.{stored_in}
use Rattle.nfs_objects.specs.Store.{Store, with_writes}
use Rattle.nfs_objects.specs.Values.{DraftValue}
use Rattle.nfs_objects.specs.declared.address.Addr.{Addr}
use Rattle.nfs_objects.specs.declared.address.Addr.TheVariants as addresses
use Rattle.nfs_objects.specs.declared.bits.Bits.{Bits}
use Rattle.nfs_objects.specs.declared.change.Missing.{Missing}
use Rattle.nfs_objects.specs.declared.object.Object.{Object}
use Rattle.nfs_objects.specs.declared.object.Object.TheVariants as objects
use Rattle.nfs_inodes.proofs.CutFileLemmas.{cut-bytes, cut-stands, left-stands, map-left, same-numbers, sized}
use Rattle.nfs_inodes.proofs.ReadBlocksLemmas.{has-blocks, no-page}
use Rattle.nfs_inodes.proofs.WishesLemmas.{not-same, other-map, same-number}
use Rattle.nfs_inodes.specs.Blocks.{HasPages}
use Rattle.nfs_inodes.specs.Cuts.{CutsNext, CutsPage, IsResized, IsTold, ShowsMap}
use Rattle.nfs_inodes.specs.Remains.{IsCutIn, IsCutLast, page_size}
use Rattle.nfs_inodes.specs.Stops.{StopsAt}

block-number : {n a b : ℕ} → addresses.Block n a ≡ addresses.Block n b → a ≡ b
block-number e = cc

module _ (old new : DraftValue) (n page size : ℕ) (pages rest bits after : Bits) (shows : HasPages old n pages)
    (there : has pages page ≡ true) (less : (p : ℕ) → has rest p ≡ (has pages p && not (page == p)))
    (told : ShowsMap old n page bits) (next : CutsNext old new n page bits size rest after) where
  abbrev at-old : Store → Addr → Option Object
  at-old s a = (with_writes s old.writes).at a

  abbrev at-new : Store → Addr → Option Object
  at-new s a = (with_writes s new.writes).at a

  abbrev cut : CutsPage old new n page bits size next.stays
  cut = next.cut

  -- what is no block of the page and not its map stays
  map-told : (p : ℕ) → IsTold n page bits (size / block_size) 512 (addresses.Map n p) → ⊥
  map-told p x = (let e = x.is in cc)

  map-away : (s : Store) (p : ℕ) → p ≢ page → at-new s (addresses.Map n p) ≡ at-old s (addresses.Map n p)
  map-away s p apart = cut.leaves.stands s (addresses.Map n p)
      (λ x. map-told p x, other-map n page p (λ e. apart (sym e)))

  block-away : (s : Store) (i : ℕ) → (IsTold n page bits (size / block_size) 512 (addresses.Block n i) → ⊥) →
      at-new s (addresses.Block n i) ≡ at-old s (addresses.Block n i)
  block-away s i none = cut.leaves.stands s (addresses.Block n i) (none, refl)

  -- a block of another page, or before the end
  not-here : (i : ℕ) → (i / 512 ≢ page) ⊎ (i < size / block_size) →
      IsTold n page bits (size / block_size) 512 (addresses.Block n i) → ⊥
  not-here i away x = (
      let e = x.is in
      let same : page * 512 + x.place ≡ i = block-number e in
      let below = x.below in
      let behind = x.behind in
      elim away [
        | inl other ↦ other (omega (arith, same, below))
        | inr before ↦ absurd (omega (arith, same, before, behind))
      ])

  not-told : (place : ℕ) → has bits place ≡ false →
      IsTold n page bits (size / block_size) 512 (addresses.Block n (page * 512 + place)) → ⊥
  not-told place off x = (
      let e = x.is in
      let numbers : page * 512 + x.place ≡ page * 512 + place = block-number e in
      let same : x.place ≡ place = omega (arith, numbers) in
      let no : true ≡ false = sym x.told ∙ ap (has bits) same ∙ off in cc)

  -- of a block of the page: what stands there, and what has
  record IsLeft (s : Store) (place : ℕ) : Type 0 where
    bytes : size / block_size ≤ page * 512 + place →
        stored_in (at-new s (addresses.Block n (page * 512 + place))) ≡
        take (size - (page * 512 + place) * block_size) (stored_in (at-old s (addresses.Block n (page * 512 + place))))
    stands : IsStored (has cut.left place) (at-new s (addresses.Block n (page * 512 + place)))

  module _ (s : Store) (k : StoreMeaning) (fits : Fits old.view s) (stands : Represents (with_writes s old.writes)
      k) where
    filed : HasBlocks (with_writes s old.writes) n pages
    filed = has-blocks old n pages shows s k fits stands

    block-was : (place : ℕ) → place < 512 → IsStored (has bits place)
        (at-old s (addresses.Block n (page * 512 + place)))
    block-was place below =
        let numbers = same-numbers page place below in
        subst (λ b. IsStored b (at-old s (addresses.Block n (page * 512 + place))))
        ((λ j. has (map_of (at-old s (addresses.Map n (numbers.0 j)))) (numbers.1 j))
        ∙ ap (λ b. has b place) (told s k fits stands))
        (filed.blocks (page * 512 + place))

    is-left : (place : ℕ) → place < 512 → IsLeft s place
    is-left place below = by (has bits place) refl (block-was place below)
      where
        i : ℕ
        i = page * 512 + place

        by : (b : Bool) → has bits place ≡ b → IsStored b (at-old s (addresses.Block n i)) → IsLeft s place
        by false off none =
            let absent : at-new s (addresses.Block n i) ≡ None =
            block-away s i (not-told place off) ∙ none in record {
              bytes = λ behind. ap stored_in absent ∙ sym (take_all (size - i * block_size) [] (omega arith))
                  ∙ ap (λ o. take (size - i * block_size) (stored_in o)) (sym none);
              stands = subst (λ b. IsStored b (at-new s (addresses.Block n i)))
                  (sym (cut.tells place ∙ ap (λ b. b && nat_lt (i * block_size) size) off)) absent;
            }
        by true on some = elim (cases_lt i (size / block_size)) [
          | inl before ↦
              let stays : at-new s (addresses.Block n i) ≡ Some (objects.Block some.0) =
              block-away s i (not-here i (inr before)) ∙ some.1 in
              let inside : i * block_size < size = omega (arith, before) in record {
                bytes = λ behind. absurd (omega (arith, before, behind));
                stands = subst (λ b. IsStored b (at-new s (addresses.Block n i)))
                    (sym (cut.tells place ∙ (λ j. on j && lt-ltb (i * block_size) size inside j)))
                    (some.0, stays, some.2);
              }
          | inr behind ↦
              let is = cut.cut s place some.0 fits below on behind some.1 in record {
                bytes = λ b. ap stored_in is ∙ cut-bytes (size - i * block_size) some.0
                    ∙ ap (λ o. take (size - i * block_size) (stored_in o)) (sym some.1);
                stands = subst (λ b. IsStored b (at-new s (addresses.Block n i)))
                    (sym (cut.tells place ∙ ap (λ b. b && nat_lt (i * block_size) size) on))
                    (subst (IsStored (nat_lt (i * block_size) size)) (sym is)
                    (cut-stands (size - i * block_size) some.0 (nat_lt (i * block_size) size) some.2
                    (λ e. (let l = ltb-true (i * block_size) size e in omega (arith, l)))
                    (λ e. (let l = ltb-false (i * block_size) size e in omega (arith, l)))));
              }
        ]

    page-kept : (p : ℕ) → p ≢ page → has after p ≡ has pages p
    page-kept p apart = next.pages p ∙ ap (λ b. has rest p || (next.stays && b)) (not-same p page apart)
        ∙ off next.stays (has rest p) ∙ less p ∙ ap (λ b. has pages p && not b) (not-same page p (λ e. apart (sym e)))
        ∙ on (has pages p)
      where
        off : (a b : Bool) → (b || (a && false)) ≡ b
        off true true = refl
        off true false = refl
        off false true = refl
        off false false = refl

        on : (b : Bool) → (b && true) ≡ b
        on true = refl
        on false = refl

    at-page : has after page ≡ next.stays
    at-page = next.pages page
        ∙ (λ j. (less page ∙ ap (λ b. has pages page && not b) (same-number page) ∙ off (has pages page)) j
        || (next.stays && same-number page j)) ∙ on next.stays
      where
        off : (b : Bool) → (b && false) ≡ false
        off true = refl
        off false = refl

        on : (a : Bool) → (false || (a && true)) ≡ a
        on true = refl
        on false = refl

    page-blocks : HasBlocks (with_writes s new.writes) n after
    page-blocks = record {
      maps = λ p. elim (cases_eq p page) [
        | inl same ↦ subst (λ q. IsMapped (has after q) (at-new s (addresses.Map n q))) (sym same)
            (subst (λ b. IsMapped b (at-new s (addresses.Map n page))) (sym at-page)
            (left-stands cut.left next.stays cut.stays_is (at-new s (addresses.Map n page)) (cut.map s)))
        | inr apart ↦ subst (λ b. IsMapped b (at-new s (addresses.Map n p))) (sym (page-kept p apart))
            (subst (IsMapped (has pages p)) (sym (map-away s p apart)) (filed.maps p))
      ];
      blocks = λ i. elim (cases_eq (i / 512) page) [
        | inl row ↦
            let place = i - page * 512 in
            let whole : page * 512 + place ≡ i = omega (arith, row) in
            let column : i % 512 ≡ place = omega (arith, row) in
            subst (λ b. IsStored b (at-new s (addresses.Block n i)))
            (sym ((λ j. has (map_of (at-new s (addresses.Map n (row j)))) (column j))
            ∙ map-left cut.left (at-new s (addresses.Map n page)) (cut.map s) place))
            (subst (λ q. IsStored (has cut.left place) (at-new s (addresses.Block n q))) whole
            (is-left place (omega (arith, row))).stands)
        | inr apart ↦
            subst (λ o. IsStored (has (map_of (at-new s (addresses.Map n (i / 512)))) (i % 512)) o)
            (sym (block-away s i (not-here i (inl apart))))
            (subst (λ m. IsStored (has (map_of m) (i % 512)) (at-old s (addresses.Block n i)))
            (sym (map-away s (i / 512) apart)) (filed.blocks i))
      ];
    }

    page-bytes : (i : ℕ) → i / 512 ≡ page → size / block_size ≤ i →
        stored_in (at-new s (addresses.Block n i)) ≡
        take (size - i * block_size) (stored_in (at-old s (addresses.Block n i)))
    page-bytes i row behind =
        let place = i - page * 512 in
        let whole : page * 512 + place ≡ i = omega (arith, row) in
        subst (λ q. stored_in (at-new s (addresses.Block n q)) ≡
        take (size - q * block_size) (stored_in (at-old s (addresses.Block n q)))) whole
        ((is-left place (omega (arith, row))).bytes (omega (arith, whole, behind)))

  pub cut-one : IsCutIn old new n page size after
  cut-one = record {
    lays = cut.lays;
    exports = cut.leaves.known addresses.Exports (exports-told, refl);
    inodes = λ q. cut.leaves.known (addresses.Inode q) (λ x. inode-told q x, refl);
    others = λ s i away. block-away s i (not-here i away);
    blocks = λ s k i fits stands row behind. page-bytes s k fits stands i row behind;
    maps = λ s k fits stands. page-blocks s k fits stands;
  }
    where
      exports-told : IsTold n page bits (size / block_size) 512 addresses.Exports → ⊥
      exports-told x = (let e = x.is in cc)

      inode-told : (q : ℕ) → IsTold n page bits (size / block_size) 512 (addresses.Inode q) → ⊥
      inode-told q x = (let e = x.is in cc)

pub cut-result : (old new : DraftValue) (n page size : ℕ) (pages rest bits : Bits) (r : Result Bits Missing) →
    HasPages old n pages → has pages page ≡ true → ((p : ℕ) → has rest p ≡ (has pages p && not (page == p))) →
    ShowsMap old n page bits → MatchResult r (CutsNext old new n page bits size rest) (StopsAt old []) →
    MatchResult r (IsCutIn old new n page size) (StopsAt old [])
cut-result old new n page size pages rest bits (Ok after) shows there less told next =
    cut-one old new n page size pages rest bits after shows there less told next
cut-result old new n page size pages rest bits (Err halt) shows there less told stops = stops

-- a page that is not there has nothing to be cut off
pub cut-absent : (d : DraftValue) (n page size : ℕ) (pages : Bits) → HasPages d n pages → has pages page ≡ false →
    IsCutIn d d n page size pages
cut-absent d n page size pages shows none = record {
  lays = lays-none n d;
  exports = refl;
  inodes = λ q. refl;
  others = λ s i away. refl;
  blocks = λ s k i fits stands row behind.
      let absent = no-page (with_writes s d.writes) n pages (has-blocks d n pages shows s k fits stands) i
      (ap (has pages) row ∙ none) in
      ap stored_in absent ∙ sym (take_all (size - i * block_size) [] (omega arith))
      ∙ ap (λ o. take (size - i * block_size) (stored_in o)) (sym absent);
  maps = λ s k fits stands. has-blocks d n pages shows s k fits stands;
}

-- ---- the page in which the file ends
-- there is none where it ends with one
pub last-none : (d : DraftValue) (n size : ℕ) (pages : Bits) → HasPages d n pages → size % page_size ≡ 0 →
    IsCutLast d d n size pages
last-none d n size pages shows whole = record {
  lays = lays-none n d;
  inodes = λ q. refl;
  front = λ s i before. refl;
  blocks = λ s k i fits stands behind before. absurd (omega (arith, whole, behind, before));
  maps = λ s k fits stands. has-blocks d n pages shows s k fits stands;
}

pub last-one : (old new : DraftValue) (n size : ℕ) (left : Bits) → IsCutIn old new n (size / page_size) size left →
    IsCutLast old new n size left
last-one old new n size left cut = record {
  lays = cut.lays;
  inodes = cut.inodes;
  front = λ s i before. cut.others s i (inr before);
  blocks = λ s k i fits stands behind before.
      cut.blocks s k i fits stands (omega (arith, behind, before)) behind;
  maps = cut.maps;
}

pub last-result : (old new : DraftValue) (n size : ℕ) (r : Result Bits Missing) →
    MatchResult r (IsCutIn old new n (size / page_size) size) (StopsAt old []) →
    MatchResult r (IsCutLast old new n size) (StopsAt old [])
last-result old new n size (Ok left) cut = last-one old new n size left cut
last-result old new n size (Err halt) stops = stops

-- ---- a large file gets less
module _ (old new : DraftValue) (n : ℕ) (before : FileMapValue) (size : ℕ) (left remains : Bits) (first : ℕ)
    (shows : HasPages old n before.pages)
    (place : first ≡ min (size / page_size + min 1 (size % page_size)) 512)
    (are : (p : ℕ) → has remains p ≡ (has before.remains p || (nat_le first p && nat_lt p 512))) where
  abbrev map-after : FileMapValue
  map-after = sized size left remains

  -- of each block: nothing where it is of the remains, and else what it had before the end
  block-cut : IsCutLast old new n size left → (s : Store) (k : StoreMeaning) (i : ℕ) → Fits old.view s →
      Represents (with_writes s old.writes) k →
      length (filed_in before i ((with_writes s old.writes).at (addresses.Block n i))) ≤ 4096 →
      filed_in map-after i ((with_writes s new.writes).at (addresses.Block n i)) ≡
      take (size - i * block_size) (filed_in before i ((with_writes s old.writes).at (addresses.Block n i)))
  block-cut cut s k i fits stands short =
      by (has before.remains (i / 512)) (has remains (i / 512)) refl refl
    where
      was : Option Object
      was = (with_writes s old.writes).at (addresses.Block n i)

      now : Option Object
      now = (with_writes s new.writes).at (addresses.Block n i)

      nothing : (m : ℕ) → take {A = ℕ} m [] ≡ []
      nothing m = take_all m [] (omega arith)

      -- no set has a page behind all
      none-far : (pages : Bits) → 512 ≤ i / 512 → has pages (i / 512) ≡ false
      none-far pages far =
          ap (λ b. b && (bit_at (slice_index_or pages.words (i / 512 / 64) 0) (i / 512 % 64) == 1))
          (le-ltb (i / 512) 512 far)

      by : (r q : Bool) → has before.remains (i / 512) ≡ r → has remains (i / 512) ≡ q →
          filed_in map-after i now ≡ take (size - i * block_size) (filed_in before i was)
      by true true was-so is = ap (λ b. cond b [] (stored_in now)) is ∙ sym (nothing (size - i * block_size))
          ∙ ap (λ b. take (size - i * block_size) (cond b [] (stored_in was))) (sym was-so)
      by true false was-so is =
          absurd (let no : false ≡ true = sym is ∙ are (i / 512)
          ∙ ap (λ b. b || (nat_le first (i / 512) && nat_lt (i / 512) 512)) was-so in cc)
      by false q was-so is = elim (cases_lt (i / 512) 512) [
        | inl near ↦ elim (cases_lt (i / 512) first) [
          | inl front ↦
              let off : has remains (i / 512) ≡ false = are (i / 512)
              ∙ (λ j. was-so j || (lt-leb first (i / 512) front j && lt-ltb (i / 512) 512 near j)) in
              ap (λ b. cond b [] (stored_in now)) off
              ∙ (elim (cases_lt i (size / block_size)) [
                | inl whole ↦ ap stored_in (cut.front s i whole)
                    ∙ sym (take_all (size - i * block_size) (stored_in was)
                    (let l : length (stored_in was) ≤ 4096 =
                    subst (λ b. length (cond b [] (stored_in was)) ≤ 4096) was-so short in omega (arith, l, whole)))
                | inr behind ↦ cut.blocks s k i fits stands behind (omega (arith, front, place))
              ])
              ∙ ap (λ b. take (size - i * block_size) (cond b [] (stored_in was))) (sym was-so)
          | inr back ↦
              let on : has remains (i / 512) ≡ true = are (i / 512)
              ∙ (λ j. was-so j || (le-leb first (i / 512) back j && lt-ltb (i / 512) 512 near j)) in
              let end : size - i * block_size ≡ 0 = omega (arith, back, near, place) in
              ap (λ b. cond b [] (stored_in now)) on
              ∙ sym (ap (λ m. take m (filed_in before i was)) end)
        ]
        | inr far ↦
            let off : has remains (i / 512) ≡ false = none-far remains far in
            let gone = no-page (with_writes s new.writes) n left (cut.maps s k fits stands) i (none-far left far) in
            let stood = no-page (with_writes s old.writes) n before.pages
            (has-blocks old n before.pages shows s k fits stands) i (none-far before.pages far) in
            ap (λ b. cond b [] (stored_in now)) off ∙ ap stored_in gone ∙ sym (nothing (size - i * block_size))
            ∙ ap (λ o. take (size - i * block_size) (stored_in o)) (sym stood)
            ∙ ap (λ b. take (size - i * block_size) (cond b [] (stored_in was))) (sym was-so)
      ]

  pub large-cut : IsCutLast old new n size left → IsResized old new n before size map-after
  large-cut cut = record {
    sized = refl;
    lays = cut.lays;
    inodes = cut.inodes;
    content = λ s k bytes fits stands is.
        content-resized before.size (λ b. filed_in before b ((with_writes s old.writes).at (addresses.Block n b))) bytes
        is size (λ b. filed_in map-after b ((with_writes s new.writes).at (addresses.Block n b)))
        (λ i. block-cut cut s k i fits stands
        (let short = is.short i in let part = part-length bytes i in omega (arith, short, part)));
    maps = cut.maps;
  }
