-- The addresses of the pages and parts of a directory, one after the other.
use Rattle.std.proofs.Common.{◌≡◌, ◌⊎◌, ℕ, suc, ◌+◌, ◌-◌, ◌^◌, ◌<◌, ◌≤◌, ◌==◌, ◌&&◌, ◌||◌, Bool, true, false, List, []}
use Rattle.std.proofs.Common.{◌∷◌, ◌++◌}
use Rattle.std.proofs.Common.{Option, Some, None, length, refl, sym, ◌∙◌, ap, subst, arith, inl, inr}
use Rattle.std.proofs.Math.ListN.{get_or-eq_default}
use Rattle.std.proofs.lemmas.Bool.{and_from, cases_order, eq-eqb, le-ltb, lt-ltb, ltb-false, ltb-true, ne_eqb, or_left}
use Rattle.std.proofs.lemmas.List.Folds.{list_any-append}
use Rattle.std.specs.Prelude.{nat_lt}
use Rattle.nfs_objects.specs.Directories.{HasBesides, count_in, is_beside, is_listed, is_page_of, is_part_of, width_in}
use Rattle.nfs_objects.specs.Directories.{width_of}
use Rattle.nfs_objects.specs.PageRuns.{IsNextPage, lists}
use Rattle.nfs_objects.specs.Values.{is_addr}
use Rattle.nfs_objects.specs.declared.address.Addr.{Addr}
use Rattle.nfs_objects.specs.declared.address.Addr.TheVariants.{Exports, Inode, Map, Block, Page, Part, Mounts, Usage}
use Rattle.nfs_objects.specs.declared.address.Addr.TheVariants.{Locks}
use Rattle.nfs_objects.specs.declared.entry_map.EntryMap.{EntryMap}
use Rattle.nfs_objects.specs.declared.page_list.PageRun.{PageRun}

-- ---- lists
or-false : (b : Bool) → (b || false) ≡ b
or-false true = refl
or-false false = refl

or-assoc : (a b c : Bool) → ((a || b) || c) ≡ (a || (b || c))
or-assoc true b c = refl
or-assoc false b c = refl

-- an address more
pub listed-last : (listed : List Addr) (b a : Addr)
    → is_listed (listed ++ b ∷ []) a ≡ (is_listed listed a || is_addr b a)
listed-last listed b a =
    list_any-append (λ (x : Addr). is_addr x a) listed (b ∷ [])
    ∙ ap (λ t. is_listed listed a || t) (or-false (is_addr b a))

pub besides-none : (others : Addr → Bool) (listed : List Addr) → ((a : Addr) → others a ≡ false)
    → HasBesides others listed listed
besides-none others listed none a = sym (ap (λ b. is_listed listed a || b) (none a) ∙ or-false (is_listed listed a))

pub besides-last : (others more : Addr → Bool) (old mid : List Addr) (b : Addr) → HasBesides others old mid
    → ((a : Addr) → more a ≡ (others a || is_addr b a)) → HasBesides more old (mid ++ b ∷ [])
besides-last others more old mid b has is a =
    listed-last mid b a ∙ ap (λ t. t || is_addr b a) (has a) ∙ or-assoc (is_listed old a) (others a) (is_addr b a)
    ∙ ap (λ t. is_listed old a || t) (sym (is a))

pub besides-both : (first second all : Addr → Bool) (old mid new : List Addr) → HasBesides first old mid
    → HasBesides second mid new → ((a : Addr) → all a ≡ (first a || second a)) → HasBesides all old new
besides-both first second all old mid new one two is a =
    two a ∙ ap (λ t. t || second a) (one a) ∙ or-assoc (is_listed old a) (first a) (second a)
    ∙ ap (λ t. is_listed old a || t) (sym (is a))

-- ---- pages
-- a page lies before the next one, if there is one
abbrev pub is_before : (next : Option ℕ) → (page : ℕ) → Bool
is_before None page = true
is_before (Some next) page = nat_lt page next

-- of a page that is listed and lies before the next one
abbrev pub is_page_before : List PageRun → (directory : ℕ) → (next : Option ℕ) → Addr → Bool
is_page_before pages directory next (Page n page) = (directory == n) && (lists pages page && is_before next page)
is_page_before pages directory next address = false

-- the next page is listed, if there is one
abbrev pub IsNextListed : List PageRun → (next : Option ℕ) → Type 0
IsNextListed pages None = Unit {0}
IsNextListed pages (Some next) = lists pages next ≡ true

pub next-listed : (pages : List PageRun) (from : ℕ) (next : Option ℕ) → IsNextPage pages from next
    → IsNextListed pages next
next-listed pages from None is = tt
next-listed pages from (Some next) is = is.1

none-listed : (b : Bool) → ◌≡◌ {A = Bool} (b && false) false
none-listed true = refl
none-listed false = refl

-- how many numbers of 64 bits there are from the next page on
abbrev pub left_from : (next : Option ℕ) → ℕ
left_from None = 0
left_from (Some next) = 2 ^ 64 - next

pub fewer : (pages : List PageRun) (page : ℕ) (next : Option ℕ) → page < 2 ^ 64 → IsNextPage pages (suc page) next →
    left_from next < 2 ^ 64 - page
fewer pages page None fits is = omega (arith, fits)
fewer pages page (Some next) fits is = omega (arith, fits, is.0)

module _ (pages : List PageRun) (directory : ℕ) where
  -- before the first page from the first number on lies none
  before-first : (next : Option ℕ) (page : ℕ) → IsNextPage pages 0 next
      → (lists pages page && is_before next page) ≡ false
  before-first None page is = ap (λ b. b && true) (is page (omega arith))
  before-first (Some next) page is = by (nat_lt page next) refl
    where
      by : (b : Bool) → nat_lt page next ≡ b → (lists pages page && nat_lt page next) ≡ false
      by true less = ap (λ b. b && nat_lt page next) (is.2 page (omega arith) (ltb-true page next less))
      by false more = ap (λ b. lists pages page && b) more ∙ none-listed (lists pages page)

  pub none-before : (next : Option ℕ) → IsNextPage pages 0 next → (a : Addr)
      → is_page_before pages directory next a ≡ false
  none-before next is Exports = refl
  none-before next is (Inode n) = refl
  none-before next is (Map n page) = refl
  none-before next is (Block n index) = refl
  none-before next is (Page n page) =
      ap (λ b. (directory == n) && b) (before-first next page is) ∙ none-listed (directory == n)
  none-before next is (Part n bucket part) = refl
  none-before next is Mounts = refl
  none-before next is (Usage e g) = refl
  none-before next is (Locks c) = refl

  -- behind the last page all lie before
  pub all-before : (a : Addr) → is_page_before pages directory None a ≡ is_page_of pages directory a
  all-before Exports = refl
  all-before (Inode n) = refl
  all-before (Map n page) = refl
  all-before (Block n index) = refl
  all-before (Page n page) = elim (lists pages page) as
      (λ b. ((directory == n) && (b && true)) ≡ ((directory == n) && b)) [
        | true ↦ refl
        | false ↦ refl
      ]
  all-before (Part n bucket part) = refl
  all-before Mounts = refl
  all-before (Usage e g) = refl
  all-before (Locks c) = refl

  -- a page, and the next one behind it: before that lies the page besides
  module _ (page : ℕ) (next : Option ℕ) (here : lists pages page ≡ true) (is : IsNextPage pages (suc page) next) where
    behind : (next : Option ℕ) (q : ℕ) → IsNextPage pages (suc page) next → page < q →
        (lists pages q && is_before next q) ≡ false
    behind None q is more = ap (λ b. b && true) (is q (omega (arith, more)))
    behind (Some next) q is more = by (nat_lt q next) refl
      where
        by : (b : Bool) → nat_lt q next ≡ b → (lists pages q && nat_lt q next) ≡ false
        by true less = ap (λ b. b && nat_lt q next) (is.2 q (omega (arith, more)) (ltb-true q next less))
        by false far = ap (λ b. lists pages q && b) far ∙ none-listed (lists pages q)

    upto : (next : Option ℕ) (q : ℕ) → IsNextPage pages (suc page) next → q ≤ page → is_before next q ≡ true
    upto None q is less = refl
    upto (Some next) q is less = lt-ltb q next (omega (arith, less, is.0))

    one-more : (q : ℕ) → (lists pages q && is_before next q) ≡ ((lists pages q && nat_lt q page) || (page == q))
    one-more q = by (cases_order q page)
      where
        by : (q ≡ page) ⊎ ((q < page) ⊎ (page < q)) →
            (lists pages q && is_before next q) ≡ ((lists pages q && nat_lt q page) || (page == q))
        by (inl same) =
            and_from (lists pages q) (is_before next q) (subst (λ x. lists pages x ≡ true) (sym same) here)
            (upto next q is (omega (arith, same)))
            ∙ sym (ap (λ b. (lists pages q && nat_lt q page) || b) (eq-eqb page q (sym same))
            ∙ elim (lists pages q && nat_lt q page) as (λ b. (b || true) ≡ true) [ true ↦ refl | false ↦ refl ])
        by (inr (inl less)) =
            ap (λ b. lists pages q && b) (upto next q is (omega (arith, less)) ∙ sym (lt-ltb q page less))
            ∙ sym (ap (λ b. (lists pages q && nat_lt q page) || b) (ne_eqb page q (λ same. omega (arith, less, same)))
            ∙ or-false (lists pages q && nat_lt q page))
        by (inr (inr more)) =
            behind next q is more
            ∙ sym (ap (λ b. (lists pages q && b) || (page == q)) (le-ltb q page (omega (arith, more)))
            ∙ ap (λ b. b || (page == q)) (none-listed (lists pages q))
            ∙ ne_eqb page q (λ same. omega (arith, more, same)))

    pub page-more : (a : Addr) → is_page_before pages directory next a
        ≡ (is_page_before pages directory (Some page) a || is_addr (Page directory page) a)
    page-more Exports = refl
    page-more (Inode n) = refl
    page-more (Map n q) = refl
    page-more (Block n index) = refl
    page-more (Page n q) =
        ap (λ b. (directory == n) && b) (one-more q)
        ∙ elim (directory == n) as (λ b. (b && ((lists pages q && nat_lt q page) || (page == q)))
        ≡ ((b && (lists pages q && nat_lt q page)) || (b && (page == q)))) [ true ↦ refl | false ↦ refl ]
    page-more (Part n bucket part) = refl
    page-more Mounts = refl
    page-more (Usage e g) = refl
    page-more (Locks c) = refl

-- ---- parts
module _ (directory bucket : ℕ) where
  pub no-part : (a : Addr) → is_part_of directory bucket 0 a ≡ false
  no-part Exports = refl
  no-part (Inode n) = refl
  no-part (Map n page) = refl
  no-part (Block n index) = refl
  no-part (Page n page) = refl
  no-part (Part n b part) = ap (λ t. (directory == n) && ((bucket == b) && t)) (le-ltb part 0 (omega arith))
      ∙ ap (λ t. (directory == n) && t) (none-listed (bucket == b)) ∙ none-listed (directory == n)
  no-part Mounts = refl
  no-part (Usage e g) = refl
  no-part (Locks c) = refl

  upto-next : (part q : ℕ) → nat_lt q (part + 1) ≡ (nat_lt q part || (part == q))
  upto-next part q = by (cases_order q part)
    where
      by : (q ≡ part) ⊎ ((q < part) ⊎ (part < q)) → nat_lt q (part + 1) ≡ (nat_lt q part || (part == q))
      by (inl same) =
          lt-ltb q (part + 1) (omega (arith, same))
          ∙ sym (ap (λ b. nat_lt q part || b) (eq-eqb part q (sym same))
          ∙ elim (nat_lt q part) as (λ b. (b || true) ≡ true) [ true ↦ refl | false ↦ refl ])
      by (inr (inl less)) =
          lt-ltb q (part + 1) (omega (arith, less)) ∙ sym (or_left (nat_lt q part) (part == q) (lt-ltb q part less))
      by (inr (inr more)) =
          le-ltb q (part + 1) (omega (arith, more))
          ∙ sym (ap (λ b. b || (part == q)) (le-ltb q part (omega (arith, more)))
          ∙ ne_eqb part q (λ same. omega (arith, more, same)))

  pub part-more : (part : ℕ) (a : Addr) → is_part_of directory bucket (part + 1) a
      ≡ (is_part_of directory bucket part a || is_addr (Part directory bucket part) a)
  part-more part Exports = refl
  part-more part (Inode n) = refl
  part-more part (Map n page) = refl
  part-more part (Block n index) = refl
  part-more part (Page n page) = refl
  part-more part (Part n b q) =
      ap (λ t. (directory == n) && ((bucket == b) && t)) (upto-next part q)
      ∙ elim (directory == n) as (λ s. (s && ((bucket == b) && (nat_lt q part || (part == q))))
      ≡ ((s && ((bucket == b) && nat_lt q part)) || (s && ((bucket == b) && (part == q))))) [
        | true ↦ elim (bucket == b) as (λ t. (t && (nat_lt q part || (part == q)))
            ≡ ((t && nat_lt q part) || (t && (part == q)))) [ true ↦ refl | false ↦ refl ]
        | false ↦ refl
      ]
  part-more part Mounts = refl
  part-more part (Usage e g) = refl
  part-more part (Locks c) = refl

-- ---- all of them
-- of a page, or of a part of a bucket below one
abbrev pub is_beside_below : EntryMap → (directory bucket : ℕ) → Addr → Bool
is_beside_below m directory bucket (Page n page) = (directory == n) && lists m.pages page
is_beside_below m directory bucket (Part n b part) =
    (directory == n) && (nat_lt b bucket && nat_lt part (width_in m.counts b))
is_beside_below m directory bucket address = false

module _ (m : EntryMap) (directory : ℕ) where
  pub pages-first : (a : Addr) → is_beside_below m directory 0 a ≡ is_page_of m.pages directory a
  pages-first Exports = refl
  pages-first (Inode n) = refl
  pages-first (Map n page) = refl
  pages-first (Block n index) = refl
  pages-first (Page n page) = refl
  pages-first (Part n b part) =
      ap (λ t. (directory == n) && (t && nat_lt part (width_in m.counts b))) (le-ltb b 0 (omega arith))
      ∙ none-listed (directory == n)
  pages-first Mounts = refl
  pages-first (Usage e g) = refl
  pages-first (Locks c) = refl

  bucket-part : (bucket n b part : ℕ) →
      ((directory == n) && (nat_lt b (bucket + 1) && nat_lt part (width_in m.counts b)))
      ≡ (((directory == n) && (nat_lt b bucket && nat_lt part (width_in m.counts b)))
      || ((directory == n) && ((bucket == b) && nat_lt part (width_in m.counts bucket))))
  bucket-part bucket n b part = elim (directory == n) as
      (λ s. (s && (nat_lt b (bucket + 1) && nat_lt part (width_in m.counts b)))
      ≡ ((s && (nat_lt b bucket && nat_lt part (width_in m.counts b)))
      || (s && ((bucket == b) && nat_lt part (width_in m.counts bucket))))) [
        | true ↦ by (cases_order b bucket)
        | false ↦ refl
      ]
    where
      by : (b ≡ bucket) ⊎ ((b < bucket) ⊎ (bucket < b)) →
          (nat_lt b (bucket + 1) && nat_lt part (width_in m.counts b))
          ≡ ((nat_lt b bucket && nat_lt part (width_in m.counts b))
          || ((bucket == b) && nat_lt part (width_in m.counts bucket)))
      by (inl same) =
          ap (λ t. t && nat_lt part (width_in m.counts b)) (lt-ltb b (bucket + 1) (omega (arith, same)))
          ∙ ap (λ x. nat_lt part (width_in m.counts x)) same
          ∙ sym (ap (λ t. (t && nat_lt part (width_in m.counts b))
          || ((bucket == b) && nat_lt part (width_in m.counts bucket))) (le-ltb b bucket (omega (arith, same)))
          ∙ ap (λ t. t && nat_lt part (width_in m.counts bucket)) (eq-eqb bucket b (sym same)))
      by (inr (inl less)) =
          ap (λ t. t && nat_lt part (width_in m.counts b)) (lt-ltb b (bucket + 1) (omega (arith, less)))
          ∙ sym (ap (λ t. (t && nat_lt part (width_in m.counts b))
          || ((bucket == b) && nat_lt part (width_in m.counts bucket))) (lt-ltb b bucket less)
          ∙ ap (λ t. nat_lt part (width_in m.counts b) || (t && nat_lt part (width_in m.counts bucket)))
          (ne_eqb bucket b (λ same. omega (arith, less, same)))
          ∙ or-false (nat_lt part (width_in m.counts b)))
      by (inr (inr more)) =
          ap (λ t. t && nat_lt part (width_in m.counts b)) (le-ltb b (bucket + 1) (omega (arith, more)))
          ∙ sym (ap (λ t. (t && nat_lt part (width_in m.counts b))
          || ((bucket == b) && nat_lt part (width_in m.counts bucket))) (le-ltb b bucket (omega (arith, more)))
          ∙ ap (λ t. t && nat_lt part (width_in m.counts bucket)) (ne_eqb bucket b (λ same. omega (arith, more, same))))

  pub bucket-more : (bucket : ℕ) (a : Addr) → is_beside_below m directory (bucket + 1) a
      ≡ (is_beside_below m directory bucket a || is_part_of directory bucket (width_in m.counts bucket) a)
  bucket-more bucket Exports = refl
  bucket-more bucket (Inode n) = refl
  bucket-more bucket (Map n page) = refl
  bucket-more bucket (Block n index) = refl
  bucket-more bucket (Page n page) = sym (or-false ((directory == n) && lists m.pages page))
  bucket-more bucket (Part n b part) = bucket-part bucket n b part
  bucket-more bucket Mounts = refl
  bucket-more bucket (Usage e g) = refl
  bucket-more bucket (Locks c) = refl

  -- below the number of buckets lie all of them
  pub buckets-all : length m.counts ≡ 64 → (bucket : ℕ) → 64 ≤ bucket → (a : Addr) →
      is_beside_below m directory bucket a ≡ is_beside m directory a
  buckets-all count bucket all Exports = refl
  buckets-all count bucket all (Inode n) = refl
  buckets-all count bucket all (Map n page) = refl
  buckets-all count bucket all (Block n index) = refl
  buckets-all count bucket all (Page n page) = refl
  buckets-all count bucket all (Part n b part) = ap (λ t. (directory == n) && t) (by (nat_lt b bucket) refl)
    where
      by : (t : Bool) → nat_lt b bucket ≡ t →
          (nat_lt b bucket && nat_lt part (width_in m.counts b)) ≡ nat_lt part (width_in m.counts b)
      by true is = ap (λ t. t && nat_lt part (width_in m.counts b)) is
      by false is =
          let past : length m.counts ≤ b = omega (arith, count, all, ltb-false b bucket is) in
          let none : count_in m.counts b ≡ 0 = get_or-eq_default m.counts 0 past in
          ap (λ t. t && nat_lt part (width_in m.counts b)) is
          ∙ sym (ap (λ c. nat_lt part (width_of c)) none ∙ le-ltb part 0 (omega arith))
  buckets-all count bucket all Mounts = refl
  buckets-all count bucket all (Usage e g) = refl
  buckets-all count bucket all (Locks c) = refl
