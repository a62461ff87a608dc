-- What a name that goes asks for: its part, its page, and the parts that are joined.
use Rattle.std.proofs.Common.{◌≡◌, ◌⊎◌, ◌<◌, ℕ, ◌==◌, Bool, true, false, cond, List, [], ◌∷◌, Option, Some, None}
use Rattle.std.proofs.Common.{IsSome}
use Rattle.std.proofs.Common.{arith, inl, inr, refl, sym, subst}
use Rattle.std.specs.List.{AllByRecursion}
use Rattle.std.specs.Prelude.{nat_lt}
use Rattle.std.proofs.lemmas.Bool.{and_from, eq-eqb, lt-ltb}
use Rattle.nfs_objects.specs.Asks.{IsThere}
use Rattle.nfs_objects.specs.Calls.{IsAmong}
use Rattle.nfs_objects.specs.Directories.{IsPlace, is_beside, width_in}
use Rattle.nfs_objects.specs.PageRuns.{lists}
use Rattle.nfs_objects.specs.Values.{DraftValue, is_addr, known_at}
use Rattle.nfs_objects.specs.declared.address.Addr.{Addr}
use Rattle.nfs_objects.specs.declared.address.Addr.TheVariants as addresses
use Rattle.nfs_objects.specs.declared.entry_map.EntryMap.{EntryMap}
use Rattle.nfs_objects.specs.declared.entry_map.NamePlace.{NamePlace}
use Rattle.nfs_objects.specs.declared.modes.Mode.{Mode}
use Rattle.nfs_objects.specs.declared.object.Object.{Object}
use Rattle.nfs_inodes.proofs.AsksAfterWritesLemmas.{AsksThese, other-part, these-may, these-more, these-none}
use Rattle.nfs_inodes.proofs.WishesLemmas.{asking-all}
use Rattle.nfs_inodes.specs.Asking.{IsAsking, with_wish}
use Rattle.nfs_inodes.specs.Entered.{AsksToTake, DirectoryLives}

-- ---- what a map tells of
pub page-beside : (m : EntryMap) (n page : ℕ) → lists m.pages page ≡ true → is_beside m n (addresses.Page n page) ≡ true
page-beside m n page listed = and_from (n == n) (lists m.pages page) (eq-eqb n n refl) listed

pub part-beside : (m : EntryMap) (n bucket part : ℕ) → part < width_in m.counts bucket →
    is_beside m n (addresses.Part n bucket part) ≡ true
part-beside m n bucket part less =
    and_from (n == n) (nat_lt part (width_in m.counts bucket)) (eq-eqb n n refl)
    (lt-ltb part (width_in m.counts bucket) less)

-- the part at a name's place
pub place-lives : (d : DraftValue) (n : ℕ) (m : EntryMap) (name : List ℕ) (place : NamePlace) →
    IsPlace m name (Some place) → DirectoryLives d n m →
    IsSome (known_at d (addresses.Part n place.bucket place.part))
    ⊎ IsThere d.view (addresses.Part n place.bucket place.part)
place-lives d n m name place is lives =
    lives (addresses.Part n place.bucket place.part) (part-beside m n place.bucket place.part
    (subst (λ b. place.part < width_in m.counts b) (sym is.0) is.2))

-- ---- one by one
module _ (d : DraftValue) (n : ℕ) (m : EntryMap) (old : List (Addr × Mode)) where
  abbrev Told : Addr → Type 0
  Told a = is_beside m n a ≡ true

  abbrev These : List Addr → List (Addr × Mode) → Type 0
  These xs new = AsksThese d old xs (λ a. ⊥) new

  -- one more, or not
  one-more : (here : Bool) (xs : List Addr) (a : Addr) (mid new : List (Addr × Mode)) → These xs mid →
      AllByRecursion (λ b. is_addr b a ≡ false) xs → new ≡ cond here mid (with_wish d a mid) →
      These (cond here xs (a ∷ xs)) new
  one-more true xs a mid new asks apart is = subst (These xs) (sym is) asks
  one-more false xs a mid new asks apart is = these-more d old xs (λ b. ⊥) a mid new asks apart is

  told-more : (here : Bool) (xs : List Addr) (a : Addr) → AllByRecursion Told xs → (here ≡ false → Told a) →
      AllByRecursion Told (cond here xs (a ∷ xs))
  told-more true xs a all told = all
  told-more false xs a all told = (told refl, all)

  apart-more : (P : Addr → Type 0) (here : Bool) (xs : List Addr) (a : Addr) → AllByRecursion P xs → P a →
      AllByRecursion P (cond here xs (a ∷ xs))
  apart-more P true xs a all one = all
  apart-more P false xs a all one = (one, all)

  ends : (xs : List Addr) (new : List (Addr × Mode)) → AllByRecursion Told xs → These xs new → AsksToTake d n m old new
  ends xs new all asks = these-may d old xs Told (λ a. ⊥) (λ a. ⊥) new all (λ a none. none) asks

  module _ (page : ℕ) (absent : Bool) (first : List (Addr × Mode)) (listed : absent ≡ false → lists m.pages page ≡ true)
      (to-first : first ≡ cond absent old (with_wish d (addresses.Page n page) old)) where
    abbrev pages : List Addr
    pages = cond absent [] (addresses.Page n page ∷ [])

    with-page : These pages first
    with-page = one-more absent [] (addresses.Page n page) old first (these-none d old) tt to-first

    told-page : AllByRecursion Told pages
    told-page = told-more absent [] (addresses.Page n page) tt (λ is. page-beside m n page (listed is))

    -- the bucket has as many parts
    pub takes-same : AsksToTake d n m old first
    takes-same = ends pages first told-page with-page

    -- it has one less
    module _ (bucket last source : ℕ) (below : last < width_in m.counts bucket) (under : source < last)
        (last-here source-here : Bool) (second third : List (Addr × Mode))
        (to-second : second ≡ cond last-here first (with_wish d (addresses.Part n bucket last) first))
        (to-third : third ≡ cond source-here second (with_wish d (addresses.Part n bucket source) second)) where
      abbrev parts : List Addr
      parts = cond last-here pages (addresses.Part n bucket last ∷ pages)

      no-page : (part : ℕ) → AllByRecursion (λ b. is_addr b (addresses.Part n bucket part) ≡ false) pages
      no-page part = apart-more (λ b. is_addr b (addresses.Part n bucket part) ≡ false) absent []
          (addresses.Page n page) tt
          refl

      with-last : These parts second
      with-last = one-more last-here pages (addresses.Part n bucket last) first second with-page (no-page last)
          to-second

      pub takes-joined : AsksToTake d n m old third
      takes-joined = ends (cond source-here parts (addresses.Part n bucket source ∷ parts)) third
          (told-more source-here parts (addresses.Part n bucket source)
          (told-more last-here pages (addresses.Part n bucket last) told-page (λ is. part-beside m n bucket last below))
          (λ is. part-beside m n bucket source (omega (arith, below, under))))
          (one-more source-here parts (addresses.Part n bucket source) second third with-last
          (apart-more (λ b. is_addr b (addresses.Part n bucket source) ≡ false) last-here pages
          (addresses.Part n bucket last) (no-page source)
          (other-part n bucket last source (λ same. omega (arith, same, under)))) to-third)

-- ---- all at once
never : (o : Option (Option Object)) → o ≡ None → IsSome o → ⊥
never None none some = cc
never (Some o) none some = cc

-- all of it is known, or stands there
pub taken-asking : (d : DraftValue) (n : ℕ) (m : EntryMap) (asked : List (Addr × Mode)) → DirectoryLives d n m →
    AsksToTake d n m [] asked → IsAsking d [] asked
taken-asking d n m asked lives asks =
    asking-all d (λ a. is_beside m n a ≡ true) (λ a. ⊥) asked asks []
    (λ a told unknown. there a (lives a told) unknown)
  where
    there : (a : Addr) → IsSome (known_at d a) ⊎ IsThere d.view a → known_at d a ≡ None
        → IsAmong [] a ⊎ IsThere d.view a
    there a (inl some) unknown = absurd (never (known_at d a) unknown some)
    there a (inr stands) unknown = inr stands
