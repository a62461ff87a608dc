-- Pages of a directory that are asked for at once.
use Rattle.std.proofs.Common.{◌≡◌, ◌⊎◌, ℕ, suc, ◌<◌, ◌==◌, ◌&&◌, ◌||◌, Bool, true, false, List, [], Option, Some, None}
use Rattle.std.proofs.Common.{IsSome, arith, inl, inr, refl, sym, ◌∙◌, ap, subst}
use Rattle.std.specs.Prelude.{nat_lt}
use Rattle.std.proofs.lemmas.Bool.{and_from, and_parts, eq-eqb, eqb-true, ltb-true, ne_eqb, or_right}
use Rattle.nfs_objects.proofs.PagePartAddressLemmas.{is_before, is_page_before, page-more}
use Rattle.nfs_objects.proofs.SeenLemmas.{is_addr-refl}
use Rattle.nfs_objects.specs.Asks.{IsThere}
use Rattle.nfs_objects.specs.Calls.{IsAmong}
use Rattle.nfs_objects.specs.PageRuns.{IsNextPage, lists}
use Rattle.nfs_objects.specs.Values.{DraftValue, is_addr, known_at}
use Rattle.nfs_objects.specs.declared.address.Addr.{Addr}
use Rattle.nfs_objects.specs.declared.address.Addr.TheVariants as addresses
use Rattle.nfs_objects.specs.declared.modes.Mode.{Mode}
use Rattle.nfs_objects.specs.declared.entry_map.EntryMap.{EntryMap}
use Rattle.nfs_objects.specs.declared.page_list.PageRun.{PageRun}
use Rattle.nfs_inodes.proofs.ReaderHaltLemmas.{never-both}
use Rattle.nfs_inodes.proofs.WishesLemmas.{asking-all, asks-as, asks-more, asks-none}
use Rattle.nfs_inodes.specs.Asking.{AsksFor, IsAsking, with_wish}
use Rattle.nfs_inodes.specs.Entered.{DirectoryLives}

-- nothing has to be known
abbrev pub Nothing : Addr → Type 0
Nothing a = ⊥

module _ (d : DraftValue) (n : ℕ) (pages : List PageRun) where
  -- a page that is listed and lies before the next one
  abbrev pub IsPageBefore : (next : Option ℕ) → Addr → Type 0
  IsPageBefore next a = is_page_before pages n next a ≡ true

  pub pages-none : (next : Option ℕ) (asked : List (Addr × Mode)) → asked ≡ [] →
      AsksFor d (IsPageBefore next) Nothing [] asked
  pages-none next asked none =
      subst (AsksFor d (IsPageBefore next) Nothing []) (sym none)
      (asks-none d (IsPageBefore next) Nothing [] (λ a must. must))

  apart : (page : ℕ) (b : Addr) → IsPageBefore (Some page) b → is_addr b (addresses.Page n page) ≡ false
  apart page (addresses.Page q p) may =
      let parts = and_parts (n == q) (lists pages p && nat_lt p page) may in
      let less : p < page = ltb-true p page (and_parts (lists pages p) (nat_lt p page) parts.1).1 in
      ap (λ t. (q == n) && t) (ne_eqb p page (λ same. omega (arith, less, same)))
      ∙ elim (q == n) as (λ t. ◌≡◌ {A = Bool} (t && false) false) [ true ↦ refl | false ↦ refl ]
  apart page addresses.Exports may = refl
  apart page (addresses.Inode q) may = refl
  apart page (addresses.Map q p) may = refl
  apart page (addresses.Block q index) may = refl
  apart page (addresses.Part q bucket part) may = refl
  apart page addresses.Mounts may = refl
  apart page (addresses.Usage export group) may = refl
  apart page (addresses.Locks index) may = refl

  -- one page more, and the next one behind it
  module _ (page : ℕ) (next : Option ℕ) (here : lists pages page ≡ true) (follows : IsNextPage pages (suc page) next)
    where
      wider : (b : Addr) → IsPageBefore (Some page) b ⊎ (addresses.Page n page ≡ b) → IsPageBefore next b
      wider b (inl may) =
          page-more pages n page next here follows b ∙ ap (λ t. t || is_addr (addresses.Page n page) b) may
      wider b (inr same) =
          page-more pages n page next here follows b
          ∙ or_right (is_page_before pages n (Some page) b) (is_addr (addresses.Page n page) b)
          (subst (λ c. is_addr (addresses.Page n page) c ≡ true) same (is_addr-refl (addresses.Page n page)))

      pub pages-more : (mid new : List (Addr × Mode)) → new ≡ with_wish d (addresses.Page n page) mid →
          AsksFor d (IsPageBefore (Some page)) Nothing [] mid → AsksFor d (IsPageBefore next) Nothing [] new
      pages-more mid new is asks =
          asks-as d (λ b. IsPageBefore (Some page) b ⊎ (addresses.Page n page ≡ b)) (IsPageBefore next)
          (λ b. Nothing b ⊎ (addresses.Page n page ≡ b)) Nothing [] new wider (λ b none. absurd none)
          (asks-more d (IsPageBefore (Some page)) Nothing (addresses.Page n page) [] mid asks (apart page) new is)

  -- each of them may be asked for
  pub pages-asking : (next : Option ℕ) (asked : List (Addr × Mode)) →
      ((p : ℕ) → lists pages p ≡ true →
      IsSome (known_at d (addresses.Page n p)) ⊎ IsThere d.view (addresses.Page n p)) →
      AsksFor d (IsPageBefore next) Nothing [] asked → IsAsking d [] asked
  pages-asking next asked lives asks = asking-all d (IsPageBefore next) Nothing asked asks [] bounded
    where
      by : (p : ℕ) → IsSome (known_at d (addresses.Page n p)) ⊎ IsThere d.view (addresses.Page n p) →
          known_at d (addresses.Page n p) ≡ None → IsThere d.view (addresses.Page n p)
      by p (inl known) unknown = absurd (never-both (known_at d (addresses.Page n p)) unknown known)
      by p (inr there) unknown = there

      bounded : (a : Addr) → IsPageBefore next a → known_at d a ≡ None → IsAmong [] a ⊎ IsThere d.view a
      bounded (addresses.Page q p) may unknown =
          let parts = and_parts (n == q) (lists pages p && is_before next p) may in
          let same : n ≡ q = eqb-true n q parts.0 in
          let listed = (and_parts (lists pages p) (is_before next p) parts.1).0 in
          inr (subst (λ x. IsThere d.view (addresses.Page x p)) same
          (by p (lives p listed) (subst (λ x. known_at d (addresses.Page x p) ≡ None) (sym same) unknown)))
      bounded addresses.Exports may unknown = cc
      bounded (addresses.Inode q) may unknown = cc
      bounded (addresses.Map q p) may unknown = cc
      bounded (addresses.Block q index) may unknown = cc
      bounded (addresses.Part q bucket part) may unknown = cc
      bounded addresses.Mounts may unknown = cc
      bounded (addresses.Usage export group) may unknown = cc
      bounded (addresses.Locks index) may unknown = cc

-- a page that a directory's map lists is told by it
pub page-lives : (d : DraftValue) (n : ℕ) (m : EntryMap) → DirectoryLives d n m → (p : ℕ) → lists m.pages p ≡ true →
    IsSome (known_at d (addresses.Page n p)) ⊎ IsThere d.view (addresses.Page n p)
page-lives d n m lives p listed =
    lives (addresses.Page n p) (and_from (n == n) (lists m.pages p) (eq-eqb n n refl) listed)
