-- Files that are cut off: page by page the blocks behind the place go, and the maps tell of those that stay.
use Rattle.std.proofs.Common.{◌≡◌, ◌≢◌, ◌+◌, ◌-◌, ◌*◌, ◌/◌, ◌%◌, ◌<◌, ◌≤◌, ◌==◌, ◌&&◌, ◌||◌, ◌⊎◌, ℕ, true, false}
use Rattle.std.proofs.Common.{Bool, max, min, not, nat_lt}
use Rattle.std.proofs.Common.{List, [], ◌∷◌, ◌++◌, Option, Some, None, IsSome, inl, inr, refl, sym, ◌∙◌, ap, subst}
use Rattle.std.proofs.Common.{arith}
use Rattle.std.proofs.Common.{cond, length, take, option_map, slice_index_or}
use Rattle.std.proofs.lemmas.Bool.{and_parts, cases_lt, le-ltb, lt-ltb, ltb-false, ltb-true}
use Rattle.std.proofs.Common.{Result, Ok, Err, get_or, length-append}
use Rattle.std.specs.Prelude.{OnOk}
use Rattle.std.proofs.lemmas.List.{get_or_append_left, get_or_push, length-take, take_all}
use Rattle.nfs_objects.specs.Attempt.{StopsCall}
use Rattle.nfs_objects.specs.declared.change.Missing.{Missing}
use Rattle.std.specs.Cmp.{unsigned_Decides}
use Rattle.std.specs.Int.{bit_at}
use Rattle.nfs_objects.proofs.BitSetLemmas.{has-none}
use Rattle.nfs_objects.proofs.ContentLemmas.{content-resized, part-length}
use Rattle.nfs_objects.proofs.OtherObjectsLemmas.{lays-block, lays-both, lays-map, lays-none}
use Rattle.nfs_objects.proofs.SeenLemmas.{is_addr-refl, is_addr-same, known-stands}
use Rattle.nfs_objects.specs.Asks.{IsThere}
use Rattle.nfs_objects.specs.Bits.{has, no_bits, same_bits}
use Rattle.nfs_objects.specs.Calls.{IsAmong}
use Rattle.nfs_objects.specs.FileMaps.{FileMapValue, block_size}
use Rattle.nfs_objects.specs.Fits.{Fits}
use Rattle.nfs_objects.specs.SameLaws.{bits_decides}
use Rattle.nfs_objects.specs.Stands.{HasBlocks, IsMapped, IsStored, StoreMeaning, Represents, block_of, map_of}
use Rattle.nfs_objects.specs.Stands.{stored_in}
use Rattle.nfs_objects.specs.Stands.{filed_in, stored_map}
use Rattle.nfs_objects.specs.Store.{Store, with_writes}
use Rattle.nfs_objects.specs.Unfiled.{Lays}
use Rattle.nfs_objects.specs.Values.{DraftValue, is_addr, known_at, with_written}
use Rattle.nfs_objects.specs.declared.address.Addr.{Addr}
use Rattle.nfs_objects.specs.declared.address.Addr.TheVariants as addresses
use Rattle.nfs_objects.specs.declared.bits.Bits.{Bits}
use Rattle.nfs_objects.specs.declared.object.Object.{Object}
use Rattle.nfs_objects.specs.declared.object.Object.TheVariants as objects
use Rattle.nfs_inodes.proofs.ReadBlocksLemmas.{has-blocks, no-map, no-page, page-stands, told-stands, was-there}
use Rattle.nfs_inodes.proofs.WishesLemmas.{asks-as, asks-both, asks-more, differs, not-same, other-block, other-map}
use Rattle.nfs_inodes.proofs.WishesLemmas.{same-number}
use Rattle.nfs_inodes.proofs.WrittenBlocksLemmas.{leaves-as, leaves-both, leaves-none, leaves-one, stands-here}
use Rattle.nfs_objects.specs.declared.modes.Mode.{Mode}
use Rattle.nfs_inodes.specs.Asking.{AsksFor, with_wish}
use Rattle.nfs_inodes.specs.Blocks.{HasPages}
use Rattle.nfs_inodes.specs.Cuts.{CutsBlock, CutsBlocks, CutsNext, CutsPage, IsBehind, IsCleared, IsCutAt}
use Rattle.nfs_inodes.specs.Cuts.{IsCutTo}
use Rattle.nfs_inodes.specs.Cuts.{IsResized}
use Rattle.nfs_inodes.specs.Cuts.{IsPageIn, IsTold, IsToldIn, KnowsMaps, KnowsTold, ShowsMap, ShowsMaps, cut_to}
use Rattle.nfs_inodes.specs.Cuts.{told_at}
use Rattle.nfs_inodes.specs.Stops.{StillStands, StopsAt}

-- ---- which map pages may be asked for
module _ (file : ℕ) (pages : Bits) (first : ℕ) where
  pub no-pages : (end : ℕ) → end ≤ first → (a : Addr) → IsPageIn file pages first end a → ⊥
  no-pages end none a is = absurd (omega (arith, none, is.behind, is.before))

  pub pages-apart : (end : ℕ) (b : Addr) → IsPageIn file pages first end b → is_addr b (addresses.Map file end) ≡ false
  pages-apart end b is =
      subst (λ c. is_addr c (addresses.Map file end) ≡ false) is.is
      (other-map file is.page end (λ e. absurd (omega (arith, is.before, e))))

  wider : (end : ℕ) (b : Addr) → IsPageIn file pages first end b → IsPageIn file pages first (end + 1) b
  wider end b is = record {
    page = is.page;
    behind = is.behind;
    before = omega (arith, is.before);
    there = is.there;
    is = is.is;
  }

  pub pages-wider : (end : ℕ) → first ≤ end → has pages end ≡ true → (b : Addr) →
      IsPageIn file pages first end b ⊎ (addresses.Map file end ≡ b) → IsPageIn file pages first (end + 1) b
  pages-wider end within there b (inl is) = wider end b is
  pages-wider end within there b (inr same) =
      record { page = end; behind = within; before = omega arith; there = there; is = same }

  pub pages-last : (end : ℕ) (b : Addr) → IsPageIn file pages first (end + 1) b →
      IsPageIn file pages first end b ⊎ (addresses.Map file end ≡ b)
  pages-last end b is = by (is.page == end) refl
    where
      by : (t : Bool) → (is.page == end) ≡ t → IsPageIn file pages first end b ⊎ (addresses.Map file end ≡ b)
      by true same = inr (ap (addresses.Map file) (sym ((unsigned_Decides is.page end).0 same)) ∙ is.is)
      by false other =
          let apart = differs is.page end other in
          inl (record {
            page = is.page;
            behind = is.behind;
            before = omega (arith, is.before, apart);
            there = is.there;
            is = is.is;
          })

  pub pages-same : (end : ℕ) → has pages end ≡ false → (b : Addr) → IsPageIn file pages first (end + 1) b →
      IsPageIn file pages first end b
  pages-same end none b is = by (is.page == end) refl
    where
      by : (t : Bool) → (is.page == end) ≡ t → IsPageIn file pages first end b
      by true same = absurd (
          let no : true ≡ false = sym is.there ∙ ap (has pages) ((unsigned_Decides is.page end).0 same) ∙ none in cc)
      by false other =
          let apart = differs is.page end other in record {
            page = is.page;
            behind = is.behind;
            before = omega (arith, is.before, apart);
            there = is.there;
            is = is.is;
          }

  pub pages-less : (end : ℕ) (b : Addr) → IsPageIn file pages first end b → IsPageIn file pages first (end + 1) b
  pages-less = wider

  pub pages-whole : (page end : ℕ) → page ≤ max first end → (b : Addr) → IsPageIn file pages first page b →
      IsPageIn file pages first end b
  pages-whole page end within b is =
      let behind = is.behind in
      let before = is.before in record {
        page = is.page;
        behind = behind;
        before = omega (arith, behind, before, within);
        there = is.there;
        is = is.is;
      }

  pub pages-all : (page end : ℕ) → end ≤ page → (b : Addr) → IsPageIn file pages first end b →
      IsPageIn file pages first page b
  pages-all page end over b is =
      let before = is.before in record {
        page = is.page;
        behind = is.behind;
        before = omega (arith, before, over);
        there = is.there;
        is = is.is;
      }

-- one page more is asked for, or not
module _ (d : DraftValue) (file : ℕ) (pages : Bits) (first : ℕ) (old mid : List (Addr × Mode)) where
  abbrev Pages : ℕ → Addr → Type 0
  Pages = IsPageIn file pages first

  pub pages-more : (end : ℕ) (new : List (Addr × Mode)) → first ≤ end → has pages end ≡ true →
      new ≡ with_wish d (addresses.Map file end) mid → AsksFor d (Pages end) (Pages end) old mid →
      AsksFor d (Pages (end + 1)) (Pages (end + 1)) old new
  pages-more end new within there is asks =
      asks-as d (λ b. Pages end b ⊎ (addresses.Map file end ≡ b)) (Pages (end + 1))
      (λ b. Pages end b ⊎ (addresses.Map file end ≡ b)) (Pages (end + 1)) old new
      (pages-wider file pages first end within there) (pages-last file pages first end)
      (asks-more d (Pages end) (Pages end) (addresses.Map file end) old mid asks (pages-apart file pages first end) new
      is)

  pub pages-skip : (end : ℕ) → has pages end ≡ false → AsksFor d (Pages end) (Pages end) old mid →
      AsksFor d (Pages (end + 1)) (Pages (end + 1)) old mid
  pages-skip end none asks =
      asks-as d (Pages end) (Pages (end + 1)) (Pages end) (Pages (end + 1)) old mid (pages-less file pages first end)
      (pages-same file pages first end none) asks

  -- so it is once none is left
  pub pages-end : (page end : ℕ) → page ≤ max first end → end ≤ page → AsksFor d (Pages page) (Pages page) old mid →
      AsksFor d (Pages end) (Pages end) old mid
  pages-end page end within over asks =
      asks-as d (Pages page) (Pages end) (Pages page) (Pages end) old mid (pages-whole file pages first page end within)
      (pages-all file pages first page end over) asks

  -- none of them has to be known
  pub cut-pages : (end : ℕ) → end ≤ 512 → AsksFor d (Pages end) (Pages end) old mid →
      AsksFor d (IsPageIn file pages 0 512) (λ a. ⊥) old mid
  cut-pages end small asks =
      asks-as d (Pages end) (IsPageIn file pages 0 512) (Pages end) (λ a. ⊥) old mid (λ b is.
      (let before = is.before in record {
        page = is.page;
        behind = omega arith;
        before = omega (arith, before, small);
        there = is.there;
        is = is.is;
      })) (λ a none. absurd none) asks

  pub cut-result : {A E : Type 0} (r : Result A E) (end : ℕ) → end ≤ 512 →
      OnOk r (AsksFor d (Pages end) (Pages end) old mid)
      → OnOk r (AsksFor d (IsPageIn file pages 0 512) (λ a. ⊥) old mid)
  cut-result (Ok x) end small asks = cut-pages end small asks
  cut-result (Err e) end small asks = tt

-- each of them stands in every store that the draft's view fits
pub page-there : (d : DraftValue) (file : ℕ) (pages : Bits) (first end : ℕ) → HasPages d file pages → StillStands d →
    (a : Addr) → IsPageIn file pages first end a → known_at d a ≡ None → IsAmong [] a ⊎ IsThere d.view a
page-there d file pages first end shows still a is unknown =
    inr (was-there d a still unknown (λ s k fits stands. subst (λ b. IsSome ((with_writes s d.writes).at b)) is.is
    (page-stands d file pages is.page shows is.there s k fits stands)))

pub pages-known : (d : DraftValue) (file : ℕ) (pages : Bits) (first end : ℕ) →
    ((a : Addr) → IsPageIn file pages first end a → IsSome (known_at d a)) → KnowsMaps d file pages first end
pages-known d file pages first end known page behind before there =
    known (addresses.Map file page) (record { page = page; behind = behind; before = before; there = there; is = refl })

-- ---- which blocks may be
module _ (file page : ℕ) (bits : Bits) (from : ℕ) where
  pub none-told : (a : Addr) → IsTold file page bits from 0 a → ⊥
  none-told a is = absurd (omega (arith, is.below))

  pub told-apart : (places : ℕ) (b : Addr) → IsTold file page bits from places b →
      is_addr b (addresses.Block file (page * 512 + places)) ≡ false
  told-apart places b is =
      subst (λ c. is_addr c (addresses.Block file (page * 512 + places)) ≡ false) is.is
      (other-block file (page * 512 + is.place) (page * 512 + places) (λ e. absurd (omega (arith, is.below, e))))

  pub told-less : (places : ℕ) (b : Addr) → IsTold file page bits from places b → IsTold file page bits from
      (places + 1) b
  told-less places b is =
      record { place = is.place; below = omega (arith, is.below); told = is.told; behind = is.behind; is = is.is }

  pub told-wider : (places : ℕ) → has bits places ≡ true → from ≤ page * 512 + places → (b : Addr) →
      IsTold file page bits from places b ⊎ (addresses.Block file (page * 512 + places) ≡ b) →
      IsTold file page bits from (places + 1) b
  told-wider places told behind b (inl is) = told-less places b is
  told-wider places told behind b (inr same) =
      record { place = places; below = omega arith; told = told; behind = behind; is = same }

  pub told-last : (places : ℕ) (b : Addr) → IsTold file page bits from (places + 1) b →
      IsTold file page bits from places b ⊎ (addresses.Block file (page * 512 + places) ≡ b)
  told-last places b is = by (is.place == places) refl
    where
      by : (t : Bool) → (is.place == places) ≡ t →
          IsTold file page bits from places b ⊎ (addresses.Block file (page * 512 + places) ≡ b)
      by true same =
          inr (ap (λ p. addresses.Block file (page * 512 + p)) (sym ((unsigned_Decides is.place places).0 same)) ∙
          is.is)
      by false other =
          let apart = differs is.place places other in inl (record {
            place = is.place;
            below = omega (arith, is.below, apart);
            told = is.told;
            behind = is.behind;
            is = is.is;
          })

  -- where the last place has none, or one before the first that is wanted
  pub told-same : (places : ℕ) → (has bits places ≡ false) ⊎ (page * 512 + places < from) → (b : Addr) →
      IsTold file page bits from (places + 1) b → IsTold file page bits from places b
  told-same places none b is = by (is.place == places) refl
    where
      by : (t : Bool) → (is.place == places) ≡ t → IsTold file page bits from places b
      by true same =
          let e = (unsigned_Decides is.place places).0 same in
          elim none [
            | inl off ↦ absurd (let no : true ≡ false = sym is.told ∙ ap (has bits) e ∙ off in cc)
            | inr before ↦ absurd (omega (arith, before, e, is.behind))
          ]
      by false other =
          let apart = differs is.place places other in record {
            place = is.place;
            below = omega (arith, is.below, apart);
            told = is.told;
            behind = is.behind;
            is = is.is;
          }

  -- those up to the end of the map are all
  pub told-within : (places : ℕ) → places ≤ 512 → (b : Addr) → IsTold file page bits from places b →
      IsTold file page bits from 512 b
  told-within places within b is =
      let below : is.place < 512 = omega (arith, within, is.below) in
      record { place = is.place; below = below; told = is.told; behind = is.behind; is = is.is }

  pub told-end : (places : ℕ) → ((p : ℕ) → has bits p ≡ true → p < places) → (b : Addr) →
      IsTold file page bits from 512 b → IsTold file page bits from places b
  told-end places ends b is =
      record { place = is.place; below = ends is.place is.told; told = is.told; behind = is.behind; is = is.is }

-- one place more is asked for, or not
module _ (d : DraftValue) (file page : ℕ) (bits : Bits) (from : ℕ) (old mid : List (Addr × Mode)) where
  abbrev Told : ℕ → Addr → Type 0
  Told = IsTold file page bits from

  pub told-more : (places : ℕ) (new : List (Addr × Mode)) → has bits places ≡ true → from ≤ page * 512 + places →
      new ≡ with_wish d (addresses.Block file (page * 512 + places)) mid → AsksFor d (Told places) (Told places) old
      mid →
      AsksFor d (Told (places + 1)) (Told (places + 1)) old new
  told-more places new told behind is asks =
      let a : Addr = addresses.Block file (page * 512 + places) in
      asks-as d (λ b. Told places b ⊎ (a ≡ b)) (Told (places + 1)) (λ b. Told places b ⊎ (a ≡ b)) (Told (places + 1))
      old new
      (told-wider file page bits from places told behind) (told-last file page bits from places)
      (asks-more d (Told places) (Told places) a old mid asks (told-apart file page bits from places) new is)

  pub told-skip : (places : ℕ) → (has bits places ≡ false) ⊎ (page * 512 + places < from) →
      AsksFor d (Told places) (Told places) old mid → AsksFor d (Told (places + 1)) (Told (places + 1)) old mid
  told-skip places none asks =
      asks-as d (Told places) (Told (places + 1)) (Told places) (Told (places + 1)) old mid
      (told-less file page bits from places) (told-same file page bits from places none) asks

  pub told-all : (places : ℕ) → places ≤ 512 → ((p : ℕ) → has bits p ≡ true → p < places) →
      AsksFor d (Told places) (Told places) old mid → AsksFor d (Told 512) (Told 512) old mid
  told-all places within ends asks =
      asks-as d (Told places) (Told 512) (Told places) (Told 512) old mid
      (told-within file page bits from places within) (told-end file page bits from places ends) asks

-- ---- of all pages
module _ (file first : ℕ) (maps : List Bits) (from : ℕ) where
  pub none-told-in : (end : ℕ) → end ≤ first → (a : Addr) → IsToldIn file first maps from end a → ⊥
  none-told-in end none a is = absurd (omega (arith, none, is.behind, is.before))

  pub in-apart : (end : ℕ) (b c : Addr) → IsToldIn file first maps from end b →
      IsTold file end (told_at maps first end) from 512 c → is_addr b c ≡ false
  in-apart end b c is other =
      subst (λ x. is_addr x c ≡ false) is.told.is (subst (λ y. is_addr
      (addresses.Block file (is.page * 512 + is.told.place)) y ≡ false)
      other.is (other-block file (is.page * 512 + is.told.place) (end * 512 + other.place)
      (λ e. (let p = is.before in let q = is.told.below in let r = other.below in absurd (omega (arith, p, q, r, e))))))

  pub in-wider : (end : ℕ) → first ≤ end → (b : Addr) →
      IsToldIn file first maps from end b ⊎ IsTold file end (told_at maps first end) from 512 b →
      IsToldIn file first maps from (end + 1) b
  in-wider end within b (inl is) =
      record { page = is.page; behind = is.behind; before = omega (arith, is.before); told = is.told }
  in-wider end within b (inr told) = record { page = end; behind = within; before = omega arith; told = told }

  pub in-last : (end : ℕ) (b : Addr) → IsToldIn file first maps from (end + 1) b →
      IsToldIn file first maps from end b ⊎ IsTold file end (told_at maps first end) from 512 b
  in-last end b is = by (is.page == end) refl
    where
      by : (t : Bool) → (is.page == end) ≡ t →
          IsToldIn file first maps from end b ⊎ IsTold file end (told_at maps first end) from 512 b
      by true same =
          inr (subst (λ p. IsTold file p (told_at maps first p) from 512 b) ((unsigned_Decides is.page end).0 same)
          is.told)
      by false other =
          let apart = differs is.page end other in
          inl (record { page = is.page; behind = is.behind; before = omega (arith, is.before, apart); told = is.told })

-- one page more
pub in-more : (d : DraftValue) (file first : ℕ) (maps : List Bits) (from page : ℕ) (mid new : List (Addr × Mode)) →
    first ≤ page → AsksFor d (IsToldIn file first maps from page) (IsToldIn file first maps from page) [] mid →
    AsksFor d (IsTold file page (told_at maps first page) from 512)
    (IsTold file page (told_at maps first page) from 512) mid
    new → AsksFor d (IsToldIn file first maps from (page + 1)) (IsToldIn file first maps from (page + 1)) [] new
in-more d file first maps from page mid new within before asks =
    asks-as d (λ b. In page b ⊎ Here b) (In (page + 1)) (λ b. In page b ⊎ Here b) (In (page + 1)) [] new
    (in-wider file first maps from page within) (in-last file first maps from page)
    (asks-both d (In page) (In page) Here Here [] mid new before asks (in-apart file first maps from page))
  where
    In : ℕ → Addr → Type 0
    In = IsToldIn file first maps from

    Here : Addr → Type 0
    Here = IsTold file page (told_at maps first page) from 512

pub in-less : (file first : ℕ) (maps : List Bits) (from page end : ℕ) → page ≤ max first end → (a : Addr) →
    IsToldIn file first maps from page a → IsToldIn file first maps from end a
in-less file first maps from page end within a is =
    record {
      page = is.page;
      behind = is.behind;
      before = (let p = is.before in let q = is.behind in omega
          (arith, p, q, within));
      told = is.told;
    }

-- each of them stands in every store that the draft's view fits
pub told-there : (d : DraftValue) (file first end : ℕ) (maps : List Bits) (from : ℕ) → ShowsMaps d file first end maps →
    StillStands d → (a : Addr) → IsToldIn file first maps from end a → known_at d a ≡ None → IsAmong [] a ⊎ IsThere
    d.view a
told-there d file first end maps from shows still a is unknown =
    inr (was-there d a still unknown (λ s k fits stands. subst (λ b. IsSome ((with_writes s d.writes).at b)) is.told.is
    (told-stands d file is.page (told_at maps first is.page) is.told.place is.told.below
    (shows.each is.page is.behind is.before) is.told.told s k fits stands)))

-- ---- one block is cut
-- what is known of a block that stands
found-block : (d : DraftValue) (s : Store) (n i : ℕ) (found : Option (List ℕ)) (was : List ℕ) → Fits d.view s →
    option_map block_of (known_at d (addresses.Block n i)) ≡ Some found →
    (with_writes s d.writes).at (addresses.Block n i) ≡ Some (objects.Block was) → found ≡ Some was
found-block d s n i found was fits known there = by (known_at d (addresses.Block n i)) refl known
  where
    by : (o : Option (Option Object)) → known_at d (addresses.Block n i) ≡ o → option_map block_of o ≡ Some found →
        found ≡ Some was
    by None is e = cc
    by (Some o) is e =
        let same : block_of o ≡ found = cc in
        sym same ∙ ap block_of (sym (known-stands d s (addresses.Block n i) o fits is) ∙ there)

known-block : (d : DraftValue) (s : Store) (n i : ℕ) (bytes was : List ℕ) → Fits d.view s →
    option_map block_of (known_at d (addresses.Block n i)) ≡ Some (Some bytes) →
    (with_writes s d.writes).at (addresses.Block n i) ≡ Some (objects.Block was) → bytes ≡ was
known-block d s n i bytes was fits known there =
    let e = found-block d s n i (Some bytes) was fits known there in cc

pub cut-none : (d new : DraftValue) (n i left : ℕ) → left ≡ 0 → new ≡ with_written d (addresses.Block n i) None →
    CutsBlock d new n i left
cut-none d new n i left zero put = subst (λ (x : DraftValue). CutsBlock d x n i left) (sym put) (record {
  lays = lays-block n d i None;
  leaves = leaves-one d (addresses.Block n i) None;
  cut = λ s bytes fits there. stands-here d s (addresses.Block n i) None
      ∙ ap (λ l. cut_to l bytes) (sym zero);
})

-- so many bytes stay, of a block that has more
pub cut-some : (d new : DraftValue) (n i left : ℕ) (bytes front : List ℕ) → (left == 0) ≡ false →
    option_map block_of (known_at d (addresses.Block n i)) ≡ Some (Some bytes) → front ≡ take left bytes →
    new ≡ with_written d (addresses.Block n i) (Some (objects.Block front)) → CutsBlock d new n i left
cut-some d new n i left bytes front some known is put =
    subst (λ (x : DraftValue). CutsBlock d x n i left) (sym put) (record {
      lays = lays-block n d i (Some (objects.Block front));
      leaves = leaves-one d (addresses.Block n i) (Some (objects.Block front));
      cut = λ s was fits there. stands-here d s (addresses.Block n i) (Some (objects.Block front))
          ∙ ap (λ b. Some (objects.Block b)) (is ∙ ap (take left) (known-block d s n i bytes was fits known there))
          ∙ sym (ap (λ b. cond b None (Some (objects.Block (take left was)))) some);
    })

-- all of them stay, of a block that has no more, or of none
pub cut-same : (d : DraftValue) (n i left : ℕ) (found : Option (List ℕ)) → (left == 0) ≡ false →
    option_map block_of (known_at d (addresses.Block n i)) ≡ Some found →
    ((bytes : List ℕ) → found ≡ Some bytes → length bytes ≤ left) → CutsBlock d d n i left
cut-same d n i left found some known few = record {
  lays = lays-none n d;
  leaves = leaves-none d (λ a. is_addr (addresses.Block n i) a ≡ false);
  cut = λ s was fits there. there
      ∙ ap (λ b. Some (objects.Block b)) (sym (take_all left was
      (few was (found-block d s n i found was fits known there))))
      ∙ sym (ap (λ b. cond b None (Some (objects.Block (take left was)))) some);
}

pub few-none : (left : ℕ) (bytes : List ℕ) → None ≡ Some bytes → length bytes ≤ left
few-none left bytes is = cc

pub few-some : (left : ℕ) (own : List ℕ) → length own ≤ left → (bytes : List ℕ) → Some own ≡ Some bytes →
    length bytes ≤ left
few-some left own few bytes is = subst (λ b. length b ≤ left) (let same : own ≡ bytes = cc in same) few

-- ---- the blocks of a page, one after another
module _ (old : DraftValue) (n page : ℕ) (bits : Bits) (size : ℕ) where
  abbrev from : ℕ
  from = size / block_size

  pub cuts-none : CutsBlocks old old n page bits size 0
  cuts-none = record {
    lays = lays-none n old;
    leaves = leaves-none old (λ a. IsTold n page bits from 0 a → ⊥);
    cut = λ s place bytes fits below. absurd (omega (arith, below));
  }

  module _ (mid : DraftValue) (places : ℕ) (so : CutsBlocks old mid n page bits size places) where
    -- a place with none, or one before the end
    pub cuts-skip : (has bits places ≡ false) ⊎ (page * 512 + places < from) →
        CutsBlocks old mid n page bits size (places + 1)
    cuts-skip none = record {
      lays = so.lays;
      leaves = leaves-as old mid (λ a. IsTold n page bits from (places + 1) a → ⊥)
          (λ a. IsTold n page bits from places a → ⊥)
          so.leaves (λ a none told. none (told-less n page bits from places a told));
      cut = λ s place bytes fits below told behind there. by s place bytes fits below told behind there
          (place == places) refl;
    }
      where
        by : (s : Store) (place : ℕ) (bytes : List ℕ) → Fits old.view s → place < places + 1 → has bits place ≡ true →
            from ≤ page * 512 + place →
            (with_writes s old.writes).at (addresses.Block n (page * 512 + place)) ≡ Some (objects.Block bytes) →
            (b : Bool) → (place == places) ≡ b →
            (with_writes s mid.writes).at (addresses.Block n (page * 512 + place)) ≡
            cut_to (size - (page * 512 + place) * block_size) bytes
        by s place bytes fits below told behind there true is =
            let same = (unsigned_Decides place places).0 is in
            elim none [
              | inl off ↦ absurd (let no : true ≡ false = sym told ∙ ap (has bits) same ∙ off in cc)
              | inr before ↦ absurd (omega (arith, before, behind, same))
            ]
        by s place bytes fits below told behind there false is =
            let apart = differs place places is in
            so.cut s place bytes fits (omega (arith, below, apart)) told behind there

    pub cuts-next : (new : DraftValue) (left : ℕ) → has bits places ≡ true → from ≤ page * 512 + places →
        left ≡ size - (page * 512 + places) * block_size → CutsBlock mid new n (page * 512 + places) left →
        CutsBlocks old new n page bits size (places + 1)
    cuts-next new left told-here behind-here is next = record {
      lays = lays-both n old mid new so.lays next.lays;
      leaves = leaves-both old mid new (λ a. IsTold n page bits from (places + 1) a → ⊥)
          (λ a. IsTold n page bits from places a → ⊥) (λ a. is_addr (addresses.Block n here) a ≡ false) so.leaves
          next.leaves
          (λ a none. (λ told. none (told-less n page bits from places a told), away a none));
      cut = λ s place bytes fits below told behind there. by s place bytes fits below told behind there
          (place == places) refl;
    }
      where
        here : ℕ
        here = page * 512 + places

        away : (a : Addr) → (IsTold n page bits from (places + 1) a → ⊥) → is_addr (addresses.Block n here) a ≡ false
        away a none = test (is_addr (addresses.Block n here) a) refl
          where
            test : (b : Bool) → is_addr (addresses.Block n here) a ≡ b → b ≡ false
            test true same = absurd (none (record {
              place = places;
              below = omega arith;
              told = told-here;
              behind = behind-here;
              is = is_addr-same (addresses.Block n here) a same;
            }))
            test false other = refl

        by : (s : Store) (place : ℕ) (bytes : List ℕ) → Fits old.view s → place < places + 1 → has bits place ≡ true →
            from ≤ page * 512 + place →
            (with_writes s old.writes).at (addresses.Block n (page * 512 + place)) ≡ Some (objects.Block bytes) →
            (b : Bool) → (place == places) ≡ b →
            (with_writes s new.writes).at (addresses.Block n (page * 512 + place)) ≡
            cut_to (size - (page * 512 + place) * block_size) bytes
        by s place bytes fits below told behind there true same =
            let e = (unsigned_Decides place places).0 same in
            let before : Fits mid.view s = subst (λ v. Fits v s) (sym so.lays.view) fits in
            let stood : (with_writes s mid.writes).at (addresses.Block n here) ≡ Some (objects.Block bytes) =
            so.leaves.stands s (addresses.Block n here) (λ x.
            (let t = told-apart n page bits from places (addresses.Block n here) x in
            let own = is_addr-refl (addresses.Block n here) in let no : true ≡ false = sym own ∙ t in cc))
            ∙ ap (λ p. (with_writes s old.writes).at (addresses.Block n (page * 512 + p))) (sym e) ∙ there in
            ap (λ p. (with_writes s new.writes).at (addresses.Block n (page * 512 + p))) e
            ∙ next.cut s bytes before stood
            ∙ ap (λ l. cut_to l bytes) (is ∙ ap (λ p. size - (page * 512 + p) * block_size) (sym e))
        by s place bytes fits below told behind there false other =
            let apart = differs place places other in
            next.leaves.stands s (addresses.Block n (page * 512 + place))
            (other-block n here (page * 512 + place) (λ e. absurd (omega (arith, e, apart))))
            ∙ so.cut s place bytes fits (omega (arith, below, apart)) told behind there

    -- up to the end of the map, all are
    pub cuts-all : places ≤ 512 → ((p : ℕ) → has bits p ≡ true → p < places) → CutsBlocks old mid n page bits size 512
    cuts-all within ends = record {
      lays = so.lays;
      leaves = leaves-as old mid (λ a. IsTold n page bits from 512 a → ⊥) (λ a. IsTold n page bits from places a → ⊥)
          so.leaves (λ a none told. none (told-within n page bits from places within a told));
      cut = λ s place bytes fits below told. so.cut s place bytes fits (ends place told) told;
    }

    -- what is known of the block at the next place is as before
    pub cuts-known : known_at mid (addresses.Block n (page * 512 + places)) ≡
        known_at old (addresses.Block n (page * 512 + places))
    cuts-known = so.leaves.known (addresses.Block n (page * 512 + places)) (λ x.
        (let t = told-apart n page bits from places (addresses.Block n (page * 512 + places)) x in
        let own = is_addr-refl (addresses.Block n (page * 512 + places)) in
        let no : true ≡ false = sym own ∙ t in cc))

-- ---- a page
-- the blocks of a page that have something left are those before the end
pub count-left : (size page place : ℕ) →
    nat_lt place (size / 4096 + min 1 (size % 4096) - page * 512) ≡ nat_lt ((page * 512 + place) * 4096) size
count-left size page place = elim (cases_lt ((page * 512 + place) * 4096) size) [
  | inl before ↦ lt-ltb place (size / 4096 + min 1 (size % 4096) - page * 512) (omega (arith, before))
      ∙ sym (lt-ltb ((page * 512 + place) * 4096) size before)
  | inr past ↦ le-ltb place (size / 4096 + min 1 (size % 4096) - page * 512) (omega (arith, past))
      ∙ sym (le-ltb ((page * 512 + place) * 4096) size past)
]

pub page-cut : (old mid new : DraftValue) (n page : ℕ) (bits left : Bits) (size count : ℕ) (none : Bool) →
    CutsBlocks old mid n page bits size 512 → count ≡ size / 4096 + min 1 (size % 4096) - page * 512 →
    ((p : ℕ) → has left p ≡ (has bits p && nat_lt p count)) → (count ≡ 0 → left ≡ no_bits) →
    new ≡ with_written mid (addresses.Map n page) (stored_map left) → none ≡ same_bits left no_bits →
    CutsPage old new n page bits size (not none)
page-cut old mid new n page bits left size count none so is tells gone put test =
    subst (λ (x : DraftValue). CutsPage old x n page bits size (not none)) (sym put) (record {
      lays = lays-both n old mid (with_written mid (addresses.Map n page) (stored_map left)) so.lays
          (lays-map n mid page (stored_map left));
      leaves = leaves-both old mid (with_written mid (addresses.Map n page) (stored_map left))
          (λ a. (IsTold n page bits (size / block_size) 512 a → ⊥) × (is_addr (addresses.Map n page) a ≡ false))
          (λ a. IsTold n page bits (size / block_size) 512 a → ⊥) (λ a. is_addr (addresses.Map n page) a ≡ false)
          so.leaves
          (leaves-one mid (addresses.Map n page) (stored_map left)) (λ a both. both);
      cut = λ s place bytes fits below told behind there.
          (leaves-one mid (addresses.Map n page) (stored_map left)).stands s (addresses.Block n (page * 512 + place))
          refl
          ∙ so.cut s place bytes fits below told behind there;
      left = left;
      tells = λ p. tells p ∙ ap (λ c. has bits p && nat_lt p c) is ∙ ap (λ b. has bits p && b) (count-left size page p);
      map = λ s. stands-here mid s (addresses.Map n page) (stored_map left);
      stays_is = ap not test;
      gone = λ zero. gone (is ∙ omega (arith, zero));
    })

-- ---- all pages, one after another
pub same-numbers : (page place : ℕ) → place < 512 → ((page * 512 + place) / 512 ≡ page) ×
    ((page * 512 + place) % 512 ≡ place)
same-numbers page place below = (omega (arith, below), omega (arith, below))

pub cut-bytes : (left : ℕ) (bytes : List ℕ) → stored_in (cut_to left bytes) ≡ take left bytes
cut-bytes left bytes = by (left == 0) refl
  where
    by : (b : Bool) → (left == 0) ≡ b → stored_in (cond b None (Some (objects.Block (take left bytes)))) ≡ take left
        bytes
    by true zero = ap (λ l. take l bytes) (sym ((unsigned_Decides left 0).0 zero))
    by false some = refl

-- a block is there if it has something left
pub cut-stands : (left : ℕ) (bytes : List ℕ) (stays : Bool) → 0 < length bytes → (stays ≡ true → 0 < left) →
    (stays ≡ false → left ≡ 0) → IsStored stays (cut_to left bytes)
cut-stands left bytes true has some none =
    let more : (left == 0) ≡ false = not-same left 0 (λ e. (let s = some refl in absurd (omega (arith, s, e)))) in (
      take left bytes,
      ap (λ b. cond b None (Some (objects.Block (take left bytes)))) more,
      (let s = some refl in let long = length-take left bytes in omega (arith, s, long, has)),
    )
cut-stands left bytes false has some none =
    ap (λ l. cut_to l bytes) (none refl)

pub left-stands : (left : Bits) (stays : Bool) → stays ≡ not (same_bits left no_bits) → (o : Option Object) →
    o ≡ stored_map left → IsMapped stays o
left-stands left stays is o at = subst (λ b. IsMapped b o) (sym is)
    (subst (IsMapped (not (same_bits left no_bits))) (sym at)
    (by (same_bits left no_bits) refl))
  where
    by : (b : Bool) → same_bits left no_bits ≡ b → IsMapped (not b) (cond b None (Some (objects.Map left)))
    by true is = refl
    by false is = (left, refl, is)

-- so the map tells of just the blocks that are left of the page, and where there is none it stands for none
pub map-left : (left : Bits) (o : Option Object) → o ≡ stored_map left → (n : ℕ) → has (map_of o) n ≡ has left n
map-left left o at n = ap (λ x. has (map_of x) n) at ∙ by (same_bits left no_bits) refl
  where
    by : (b : Bool) → same_bits left no_bits ≡ b → has (map_of (cond b None (Some (objects.Map left)))) n ≡ has left n
    by true is = ap (λ x. has x n) (sym ((bits_decides left no_bits).0 is))
    by false is = refl

module _ (old : DraftValue) (n : ℕ) (pages : Bits) (size : ℕ) (shows : HasPages old n pages) where
  abbrev at-old : Store → Addr → Option Object
  at-old s a = (with_writes s old.writes).at a

  -- nothing is cut before the page that the place lies in
  pub cut-start : (left : Bits) → ((p : ℕ) → has left p ≡ (has pages p && nat_lt p (size / block_size / 512))) →
      IsCutTo old old n size (size / block_size / 512) left
  cut-start left is = record {
    lays = lays-none n old;
    leaves = leaves-none old (IsBehind n (size / block_size / 512));
    front = λ s i before. refl;
    blocks = λ s k i fits stands behind before. absurd (omega (arith, behind, before));
    stored = λ s k i fits stands before. (has-blocks old n pages shows s k fits stands).blocks i;
    maps = λ s k p fits stands before.
        subst (λ b. IsMapped b (at-old s (addresses.Map n p)))
        (sym (is p ∙ ap (λ b. has pages p && b) (lt-ltb p (size / block_size / 512) before) ∙ and_true (has pages p)))
        ((has-blocks old n pages shows s k fits stands).maps p);
    later = λ p behind. is p ∙ ap (λ b. has pages p && b) (le-ltb p (size / block_size / 512) behind) ∙ and_false
        (has pages p);
    gone = λ zero p. is p ∙ ap (λ b. has pages p && b) (le-ltb p (size / block_size / 512) (omega (arith, zero))) ∙
        and_false (has pages p);
  }
    where
      and_true : (b : Bool) → (b && true) ≡ b
      and_true true = refl
      and_true false = refl

      and_false : (b : Bool) → (b && false) ≡ false
      and_false true = refl
      and_false false = refl

  module _ (mid : DraftValue) (page : ℕ) (left : Bits) (so : IsCutTo old mid n size page left) where
    abbrev at-mid : Store → Addr → Option Object
    at-mid s a = (with_writes s mid.writes).at a

    map-behind : (p : ℕ) → page ≤ p → IsBehind n page (addresses.Map n p)
    map-behind p behind = record {
      map = λ q before. other-map n q p (λ e. absurd (omega (arith, before, e, behind)));
      block = λ i before. refl;
    }

    block-behind : (i : ℕ) → page * 512 ≤ i → IsBehind n page (addresses.Block n i)
    block-behind i behind = record {
      map = λ q before. refl;
      block = λ j before. other-block n j i (λ e. absurd (omega (arith, before, e, behind)));
    }

    -- what is behind stands as it did
    pub map-same : (s : Store) (p : ℕ) → page ≤ p → at-mid s (addresses.Map n p) ≡ at-old s (addresses.Map n p)
    map-same s p behind = so.leaves.stands s (addresses.Map n p) (map-behind p behind)

    pub block-same : (s : Store) (i : ℕ) → page * 512 ≤ i → at-mid s (addresses.Block n i) ≡ at-old s
        (addresses.Block n i)
    block-same s i behind = so.leaves.stands s (addresses.Block n i) (block-behind i behind)

    pub map-known : known_at mid (addresses.Map n page) ≡ known_at old (addresses.Map n page)
    map-known = so.leaves.known (addresses.Map n page) (map-behind page (omega arith))

    pub block-known : (i : ℕ) → page * 512 ≤ i → known_at mid (addresses.Block n i) ≡ known_at old (addresses.Block n i)
    block-known i behind = so.leaves.known (addresses.Block n i) (block-behind i behind)

    behind-less : (a : Addr) → IsBehind n (page + 1) a → IsBehind n page a
    behind-less a is = record {
      map = λ p before. is.map p (omega (arith, before));
      block = λ i before. is.block i (omega (arith, before));
    }

    -- the next page, where it is not there
    pub cut-skip : has pages page ≡ false → IsCutTo old mid n size (page + 1) left
    cut-skip none = record {
      lays = so.lays;
      leaves = leaves-as old mid (IsBehind n (page + 1)) (IsBehind n page) so.leaves behind-less;
      front = so.front;
      blocks = λ s k i fits stands behind before. elim (cases_lt i (page * 512)) [
        | inl less ↦ so.blocks s k i fits stands behind less
        | inr here ↦
            let absent = nothing s k i fits stands here before in
            ap stored_in (block-same s i here) ∙ ap stored_in absent ∙ sym (empty (size - i * block_size))
            ∙ ap (λ o. take (size - i * block_size) (stored_in o)) (sym absent)
      ];
      stored = λ s k i fits stands before. elim (cases_lt i (page * 512)) [
        | inl less ↦ so.stored s k i fits stands less
        | inr here ↦ subst (λ o. IsStored (has (map_of (at-mid s (addresses.Map n (i / 512)))) (i % 512)) o)
            (sym (block-same s i here))
            (subst (λ m. IsStored (has (map_of m) (i % 512)) (at-old s (addresses.Block n i)))
            (sym (map-same s (i / 512) (omega (arith, here))))
            ((has-blocks old n pages shows s k fits stands).blocks i))
      ];
      maps = λ s k p fits stands before. elim (cases_lt p page) [
        | inl less ↦ so.maps s k p fits stands less
        | inr here ↦
            let same : page ≡ p = omega (arith, here, before) in
            subst (λ q. IsMapped (has left q) (at-mid s (addresses.Map n q))) same
            (subst (λ b. IsMapped b (at-mid s (addresses.Map n page))) (sym (so.later page (omega arith)))
            (map-same s page (omega arith)
            ∙ no-map (with_writes s old.writes) n pages (has-blocks old n pages shows s k fits stands) page none))
      ];
      later = λ p behind. so.later p (omega (arith, behind));
      gone = so.gone;
    }
      where
        empty : (m : ℕ) → take {A = ℕ} m [] ≡ []
        empty m = take_all m [] (omega arith)

        nothing : (s : Store) (k : StoreMeaning) (i : ℕ) → Fits old.view s → Represents (with_writes s old.writes) k →
            page * 512 ≤ i → i < (page + 1) * 512 → at-old s (addresses.Block n i) ≡ None
        nothing s k i fits stands here before =
            let row : page ≡ i / 512 = omega (arith, here, before) in
            no-page (with_writes s old.writes) n pages (has-blocks old n pages shows s k fits stands) i
            (ap (has pages) (sym row) ∙ none)

    -- and where it is
    module _ (new : DraftValue) (bits after : Bits) (told : ShowsMap old n page bits)
        (next : CutsNext mid new n page bits size left after) where
      abbrev at-new : Store → Addr → Option Object
      at-new s a = (with_writes s new.writes).at a

      abbrev cut : CutsPage mid new n page bits size next.stays
      cut = next.cut

      -- what is no block of the page and not its map stays
      map-away : (s : Store) (p : ℕ) → p ≢ page → at-new s (addresses.Map n p) ≡ at-mid s (addresses.Map n p)
      map-away s p apart = cut.leaves.stands s (addresses.Map n p)
          (λ x. map-told x, other-map n page p (λ e. apart (sym e)))
        where
          map-told : IsTold n page bits (size / block_size) 512 (addresses.Map n p) → ⊥
          map-told x = (let e = x.is in cc)

      block-away : (s : Store) (i : ℕ) → (IsTold n page bits (size / block_size) 512 (addresses.Block n i) → ⊥) →
          at-new s (addresses.Block n i) ≡ at-mid s (addresses.Block n i)
      block-away s i none = cut.leaves.stands s (addresses.Block n i) (none, refl)

      -- a block of another page, of none that the map tells of, or before the end
      not-page : (i : ℕ) → i < page * 512 → IsTold n page bits (size / block_size) 512 (addresses.Block n i) → ⊥
      not-page i less x = (let e = x.is in let same : page * 512 + x.place ≡ i = block-number e in absurd
          (omega (arith, less, same)))
        where
          block-number : {a b : ℕ} → addresses.Block n a ≡ addresses.Block n b → a ≡ b
          block-number e = cc

      not-told : (place : ℕ) → (has bits place ≡ false) ⊎ (page * 512 + place < (size / block_size)) →
          IsTold n page bits (size / block_size) 512 (addresses.Block n (page * 512 + place)) → ⊥
      not-told place none x =
          let e = x.is in
          let numbers : page * 512 + x.place ≡ page * 512 + place = block-number e in
          let same : x.place ≡ place = omega (arith, numbers) in
          elim none [
            | inl off ↦ (let no : true ≡ false = sym x.told ∙ ap (has bits) same ∙ off in cc)
            | inr before ↦ (let b = x.behind in absurd (omega (arith, before, b, same)))
          ]
        where
          block-number : {a b : ℕ} → addresses.Block n a ≡ addresses.Block n b → a ≡ b
          block-number e = cc

      -- of a block of the page: what stands there, and what has
      pub record IsLeft (s : Store) (place : ℕ) : Type 0 where
        pub bytes : stored_in (at-new s (addresses.Block n (page * 512 + place))) ≡
            take (size - (page * 512 + place) * block_size) (stored_in
            (at-old s (addresses.Block n (page * 512 + place))))
            ⊎ (page * 512 + place < (size / block_size))
        pub stands : IsStored (has cut.left place) (at-new s (addresses.Block n (page * 512 + place)))

      module _ (s : Store) (k : StoreMeaning) (fits : Fits old.view s) (stands : Represents (with_writes s old.writes)
          k) where
        filed : HasBlocks (with_writes s old.writes) n pages
        filed = has-blocks old n pages shows s k fits stands

        fits-mid : Fits mid.view s
        fits-mid = subst (λ v. Fits v s) (sym so.lays.view) fits

        block-was : (place : ℕ) → place < 512 → IsStored (has bits place)
            (at-old s (addresses.Block n (page * 512 + place)))
        block-was place below =
            let numbers = same-numbers page place below in
            subst (λ b. IsStored b (at-old s (addresses.Block n (page * 512 + place))))
            ((λ j. has (map_of (at-old s (addresses.Map n (numbers.0 j)))) (numbers.1 j))
            ∙ ap (λ b. has b place) (told s k fits stands))
            (filed.blocks (page * 512 + place))

        is-left : (place : ℕ) → place < 512 → IsLeft s place
        is-left place below = by (has bits place) refl (block-was place below)
          where
            i : ℕ
            i = page * 512 + place

            mid-was : at-mid s (addresses.Block n i) ≡ at-old s (addresses.Block n i)
            mid-was = block-same s i (omega arith)

            by : (b : Bool) → has bits place ≡ b → IsStored b (at-old s (addresses.Block n i)) → IsLeft s place
            by false off none =
                let absent : at-new s (addresses.Block n i) ≡ None =
                block-away s i (not-told place (inl off)) ∙ mid-was ∙ none in record {
                  bytes = inl (ap stored_in absent ∙ sym (take_all (size - i * block_size) [] (omega arith))
                      ∙ ap (λ o. take (size - i * block_size) (stored_in o)) (sym none));
                  stands = subst (λ b. IsStored b (at-new s (addresses.Block n i)))
                      (sym (cut.tells place ∙ ap (λ b. b && nat_lt (i * block_size) size) off)) absent;
                }
            by true on some = elim (cases_lt i (size / block_size)) [
              | inl before ↦
                  let stays : at-new s (addresses.Block n i) ≡ Some (objects.Block some.0) =
                  block-away s i (not-told place (inr before)) ∙ mid-was ∙ some.1 in record {
                    bytes = inr before;
                    stands = subst (λ b. IsStored b (at-new s (addresses.Block n i)))
                        (sym (cut.tells place ∙ (λ j. on j && lt-ltb (i * block_size) size (inside before) j)))
                        (some.0, stays, some.2);
                  }
              | inr behind ↦
                  let is = cut.cut s place some.0 fits-mid below on behind (mid-was ∙ some.1) in record {
                    bytes = inl (ap stored_in is ∙ cut-bytes (size - i * block_size) some.0
                        ∙ ap (λ o. take (size - i * block_size) (stored_in o)) (sym some.1));
                    stands = subst (λ b. IsStored b (at-new s (addresses.Block n i)))
                        (sym (cut.tells place ∙ ap (λ b. b && nat_lt (i * block_size) size) on))
                        (subst (IsStored (nat_lt (i * block_size) size)) (sym is)
                        (cut-stands (size - i * block_size) some.0 (nat_lt (i * block_size) size) some.2
                        (λ e. (let l = ltb-true (i * block_size) size e in omega (arith, l)))
                        (λ e. (let l = ltb-false (i * block_size) size e in omega (arith, l)))));
                  }
            ]
              where
                inside : i < (size / block_size) → i * block_size < size
                inside before = omega (arith, before)

      pub cut-step : IsCutTo old new n size (page + 1) after
      cut-step = record {
        lays = lays-both n old mid new so.lays cut.lays;
        leaves = leaves-both old mid new (IsBehind n (page + 1)) (IsBehind n page)
            (λ a. (IsTold n page bits (size / block_size) 512 a → ⊥) × (is_addr (addresses.Map n page) a ≡ false))
            so.leaves cut.leaves
            (λ a is. (behind-less a is, (λ x. away a is x, is.map page (omega arith))));
        front = λ s i before. block-away s i (λ x. front-told i before x) ∙ so.front s i before;
        blocks = λ s k i fits stands behind before. elim (cases_lt i (page * 512)) [
          | inl less ↦ ap stored_in (block-away s i (not-page i less)) ∙ so.blocks s k i fits stands behind less
          | inr here ↦
              let place = i - page * 512 in
              let whole : page * 512 + place ≡ i = omega (arith, here) in
              subst (λ q. stored_in (at-new s (addresses.Block n q)) ≡
              take (size - q * block_size) (stored_in (at-old s (addresses.Block n q)))) whole
              (elim (is-left s k fits stands place (omega (arith, here, before))).bytes [
                | inl same ↦ same
                | inr less ↦ absurd (omega (arith, less, whole, behind))
              ])
        ];
        stored = λ s k i fits stands before. elim (cases_lt i (page * 512)) [
          | inl less ↦
              subst (λ o. IsStored (has (map_of (at-new s (addresses.Map n (i / 512)))) (i % 512)) o)
              (sym (block-away s i (not-page i less)))
              (subst (λ m. IsStored (has (map_of m) (i % 512)) (at-mid s (addresses.Block n i)))
              (sym (map-away s (i / 512) (λ e. absurd (omega (arith, less, e)))))
              (so.stored s k i fits stands less))
          | inr here ↦
              let place = i - page * 512 in
              let whole : page * 512 + place ≡ i = omega (arith, here) in
              let row : i / 512 ≡ page = omega (arith, here, before) in
              let column : i % 512 ≡ place = omega (arith, here, before) in
              subst (λ b. IsStored b (at-new s (addresses.Block n i)))
              (sym ((λ j. has (map_of (at-new s (addresses.Map n (row j)))) (column j))
              ∙ map-left cut.left (at-new s (addresses.Map n page)) (cut.map s) place))
              (subst (λ q. IsStored (has cut.left place) (at-new s (addresses.Block n q))) whole
              (is-left s k fits stands place (omega (arith, here, before))).stands)
        ];
        maps = λ s k p fits stands before. elim (cases_lt p page) [
          | inl less ↦
              let apart : p ≢ page = λ e. absurd (omega (arith, less, e)) in
              subst (λ o. IsMapped (has after p) o) (sym (map-away s p apart))
              (subst (λ b. IsMapped b (at-mid s (addresses.Map n p))) (sym (kept p apart))
              (so.maps s k p fits stands less))
          | inr here ↦
              let same : page ≡ p = omega (arith, here, before) in
              subst (λ q. IsMapped (has after q) (at-new s (addresses.Map n q))) same
              (subst (λ b. IsMapped b (at-new s (addresses.Map n page))) (sym at-page)
              (left-stands cut.left next.stays cut.stays_is (at-new s (addresses.Map n page)) (cut.map s)))
        ];
        later = λ p behind. kept p (λ e. absurd (omega (arith, behind, e))) ∙ so.later p (omega (arith, behind));
        gone = λ zero p. by zero p (p == page) refl;
      }
        where
          kept : (p : ℕ) → p ≢ page → has after p ≡ has left p
          kept p apart = next.pages p ∙ ap (λ b. has left p || (next.stays && b)) (not-same p page apart) ∙ off
              next.stays (has left p)
            where
              off : (a b : Bool) → (b || (a && false)) ≡ b
              off true true = refl
              off true false = refl
              off false true = refl
              off false false = refl

          at-page : has after page ≡ next.stays
          at-page = next.pages page
              ∙ (λ j. so.later page (omega arith) j || (next.stays && same-number page j)) ∙ on next.stays
            where
              on : (a : Bool) → (false || (a && true)) ≡ a
              on true = refl
              on false = refl

          by : size ≡ 0 → (p : ℕ) → (b : Bool) → (p == page) ≡ b → has after p ≡ false
          by zero p true is =
              ap (has after) ((unsigned_Decides p page).0 is) ∙ at-page ∙ cut.stays_is
              ∙ ap (λ x. not (same_bits x no_bits)) (cut.gone zero) ∙ ap not ((bits_decides no_bits no_bits).1 refl)
          by zero p false is = kept p (differs p page is) ∙ so.gone zero p

          away : (a : Addr) → IsBehind n (page + 1) a → IsTold n page bits (size / block_size) 512 a → ⊥
          away a is x =
              let own = is_addr-refl (addresses.Block n (page * 512 + x.place)) in
              let other = is.block (page * 512 + x.place) (let b = x.below in omega (arith, b)) in
              let no : true ≡ false = sym own ∙ ap (is_addr (addresses.Block n (page * 512 + x.place))) x.is ∙ other
              in cc

          front-told : (i : ℕ) → i < (size / block_size) → IsTold n page bits (size / block_size) 512
              (addresses.Block n i) → ⊥
          front-told i before x = (let e = x.is in let same : page * 512 + x.place ≡ i = block-number e in
              let b = x.behind in absurd (omega (arith, before, same, b)))
            where
              block-number : {a b : ℕ} → addresses.Block n a ≡ addresses.Block n b → a ≡ b
              block-number e = cc

    -- behind the last page nothing stands
    pub cut-end : size / block_size / 512 ≤ page → ((p : ℕ) → has pages p ≡ true → p < page) →
        IsCutAt old mid n size left
    cut-end first ends = record {
      lays = so.lays;
      inodes = λ q. so.leaves.known (addresses.Inode q) (record { map = λ p before. refl; block = λ i before. refl });
      front = so.front;
      blocks = λ s k i fits stands behind. elim (cases_lt i (page * 512)) [
        | inl less ↦ so.blocks s k i fits stands behind less
        | inr here ↦
            let absent = no-page (with_writes s old.writes) n pages (has-blocks old n pages shows s k fits stands) i
            (none (i / 512) (omega (arith, here))) in
            ap stored_in (block-same s i here) ∙ ap stored_in absent
            ∙ sym (take_all (size - i * block_size) [] (omega arith))
            ∙ ap (λ o. take (size - i * block_size) (stored_in o)) (sym absent)
      ];
      maps = λ s k fits stands. record {
        maps = λ p. elim (cases_lt p page) [
          | inl less ↦ so.maps s k p fits stands less
          | inr here ↦ subst (λ b. IsMapped b (at-mid s (addresses.Map n p))) (sym (so.later p here))
              (map-same s p here
              ∙ no-map (with_writes s old.writes) n pages (has-blocks old n pages shows s k fits stands) p
              (none p here))
        ];
        blocks = λ i. elim (cases_lt i (page * 512)) [
          | inl less ↦ so.stored s k i fits stands less
          | inr here ↦ subst (λ o. IsStored (has (map_of (at-mid s (addresses.Map n (i / 512)))) (i % 512)) o)
              (sym (block-same s i here))
              (subst (λ m. IsStored (has (map_of m) (i % 512)) (at-old s (addresses.Block n i)))
              (sym (map-same s (i / 512) (omega (arith, here))))
              ((has-blocks old n pages shows s k fits stands).blocks i))
        ];
      };
      gone = so.gone;
    }
      where
        none : (p : ℕ) → page ≤ p → has pages p ≡ false
        none p here = by (has pages p) refl
          where
            by : (b : Bool) → has pages p ≡ b → b ≡ false
            by true there = (let e = ends p there in absurd (omega (arith, e, here)))
            by false there = refl

-- ---- all goes
pub cleared-all : (old new : DraftValue) (n size : ℕ) (left : Bits) → size ≡ 0 → IsCutAt old new n size left →
    IsCleared old new n
cleared-all old new n size left zero cut = record {
  lays = cut.lays;
  inodes = cut.inodes;
  maps = λ s k fits stands. record {
    maps = λ p. subst (λ b. IsMapped b ((with_writes s new.writes).at (addresses.Map n p)))
        (cut.gone zero p ∙ sym (has-none p)) ((cut.maps s k fits stands).maps p);
    blocks = (cut.maps s k fits stands).blocks;
  };
}

-- ---- another size
-- a map of this size, with these pages, and with these remains
abbrev pub sized : (size : ℕ) → (pages remains : Bits) → FileMapValue
sized size pages remains = record { size = size; pages = pages; remains = remains }

-- blocks that are cut off are so for a file with the same remains too
pub cut-filed : (before after : FileMapValue) (i left : ℕ) (was is : Option Object) → before.remains ≡ after.remains →
    stored_in is ≡ take left (stored_in was) → filed_in after i is ≡ take left (filed_in before i was)
cut-filed before after i left was is same cut =
    ap (λ (r : Bits). cond (has r (i / 512)) [] (stored_in is)) (sym same) ∙ by (has before.remains (i / 512))
  where
    by : (r : Bool) → cond r [] (stored_in is) ≡ take left (cond r [] (stored_in was))
    by true = sym (take_all left [] (omega arith))
    by false = cut

module _ (old new : DraftValue) (n : ℕ) (before : FileMapValue) (size : ℕ) (left : Bits) where
  pub smaller : IsCutAt old new n size left → IsResized old new n before size (sized size left before.remains)
  smaller cut = record {
    sized = refl;
    lays = cut.lays;
    inodes = cut.inodes;
    content = λ s k bytes fits stands is.
        content-resized before.size (λ b. filed_in before b ((with_writes s old.writes).at (addresses.Block n b))) bytes
        is size
        (λ b. filed_in (sized size left before.remains) b ((with_writes s new.writes).at (addresses.Block n b)))
        (λ i. elim (cases_lt i (size / block_size)) [
          | inl less ↦
              let short = is.short i in
              let part = part-length bytes i in
              let stored = filed_in before i ((with_writes s old.writes).at (addresses.Block n i)) in
              ap (filed_in before i) (cut.front s i less)
              ∙ sym (take_all (size - i * block_size) stored (omega (arith, short, part, less)))
          | inr behind ↦ cut-filed before (sized size left before.remains) i (size - i * block_size)
              ((with_writes s old.writes).at (addresses.Block n i))
              ((with_writes s new.writes).at (addresses.Block n i))
              refl (cut.blocks s k i fits stands behind)
        ]);
    maps = cut.maps;
  }

-- no smaller one: nothing changes
pub larger : (d : DraftValue) (n : ℕ) (before : FileMapValue) (size : ℕ) → before.size ≤ size →
    HasPages d n before.pages → IsResized d d n before size (sized size before.pages before.remains)
larger d n before size within shows = record {
  sized = refl;
  lays = lays-none n d;
  inodes = λ q. refl;
  content = λ s k bytes fits stands is.
      content-resized before.size (λ b. filed_in before b ((with_writes s d.writes).at (addresses.Block n b))) bytes is
      size
      (λ b. filed_in before b ((with_writes s d.writes).at (addresses.Block n b))) (λ i.
      let short = is.short i in
      let part = part-length bytes i in
      let counted = is.counted in
      let stored = filed_in before i ((with_writes s d.writes).at (addresses.Block n i)) in
      sym (take_all (size - i * block_size) stored (omega (arith, short, part, counted, within))));
  maps = λ s k fits stands. has-blocks d n before.pages shows s k fits stands;
}

-- what the code makes is the map
pub sized-so : (old new : DraftValue) (n : ℕ) (before : FileMapValue) (size : ℕ) (pages remains : Bits)
    (made : FileMapValue) → made ≡ sized size pages remains →
    IsResized old new n before size (sized size pages remains) → IsResized old new n before size made
sized-so old new n before size pages remains made is = subst (IsResized old new n before size) (sym is)

-- ---- how pages are read
abbrev pub blank : Bits
blank = record { words = [] }

-- one map more
pub maps-none : (d : DraftValue) (n first : ℕ) (maps : List Bits) → maps ≡ [] → ShowsMaps d n first first maps
maps-none d n first maps none = record {
  counted = ap length none ∙ omega arith;
  each = λ page behind before. absurd (omega (arith, behind, before));
}

pub maps-next : (d : DraftValue) (n first page : ℕ) (maps new : List Bits) (bits : Bits) → first ≤ page →
    ShowsMaps d n first page maps → ShowsMap d n page bits → new ≡ maps ++ bits ∷ [] → ShowsMaps d n first (page + 1)
    new
maps-next d n first page maps new bits within so here is = record {
  counted = ap length is ∙ length-append maps (bits ∷ []) ∙ (let c = so.counted in omega (arith, c, within));
  each = λ p behind before. elim (p == page) as (λ b. (p == page) ≡ b → ShowsMap d n p (told_at new first p)) [
    | true ↦ λ same.
        let e = (unsigned_Decides p page).0 same in
        let at : length maps ≡ p - first = (let c = so.counted in omega (arith, c, e)) in
        subst (λ q. ShowsMap d n q (told_at new first p)) (sym e)
        (subst (ShowsMap d n page) (sym (ap (λ l. get_or l (p - first) blank) is
        ∙ get_or_push maps bits blank (p - first) at)) here)
    | false ↦ λ other.
        let apart = differs p page other in
        let c = so.counted in
        subst (ShowsMap d n p) (sym (ap (λ l. get_or l (p - first) blank) is
        ∙ get_or_append_left maps (bits ∷ []) blank (p - first) (omega (arith, c, before, apart, behind))))
        (so.each p behind (omega (arith, before, apart)))
  ] refl;
}

pub maps-end : (d : DraftValue) (n first page end : ℕ) (maps : List Bits) → first ≤ page → end ≤ page → page ≤ max
    first end →
    ShowsMaps d n first page maps → ShowsMaps d n first end maps
maps-end d n first page end maps within past most so = record {
  counted = so.counted ∙ omega (arith, within, past, most);
  each = λ p behind before. so.each p behind (omega (arith, before, past));
}

-- all that is asked for of blocks
pub in-end : (d : DraftValue) (file first : ℕ) (maps : List Bits) (from page end : ℕ) (asked : List (Addr × Mode)) →
    page ≤ max first end → end ≤ page →
    AsksFor d (IsToldIn file first maps from page) (IsToldIn file first maps from page) [] asked →
    AsksFor d (IsToldIn file first maps from end) (IsToldIn file first maps from end) [] asked
in-end d file first maps from page end asked most past asks =
    asks-as d (IsToldIn file first maps from page) (IsToldIn file first maps from end)
    (IsToldIn file first maps from page)
    (IsToldIn file first maps from end) [] asked (in-less file first maps from page end most)
    (λ a is. record {
      page = is.page;
      behind = is.behind;
      before = (let p = is.before in omega (arith, p, past));
      told = is.told;
    }) asks

-- what halts a draft whose blocks and maps were written halts the one before
pub laid-stops : (n : ℕ) (d mid : DraftValue) (named : List Addr) (halt : Missing) → Lays n d mid → StopsAt mid named
    halt →
    StopsAt d named halt
laid-stops n d mid named halt lays stops =
    subst (λ view. StopsCall d.modes named 0 view halt) lays.view
    (subst (λ modes. StopsCall modes named 0 mid.view halt) lays.modes stops)

-- what is known of a page that was not reached
pub told-known : (old mid : DraftValue) (n size page : ℕ) (left bits : Bits) → IsCutTo old mid n size page left →
    KnowsTold old n page bits (size / block_size) → KnowsTold mid n page bits (size / block_size)
told-known old mid n size page left bits so known a told =
    subst (λ x. IsSome x) (sym (so.leaves.known a (subst (IsBehind n page) told.is (record {
      map = λ p before. refl;
      block = λ i before. other-block n i (page * 512 + told.place) (λ e. absurd (omega (arith, before, e)));
    })))) (known a told)
