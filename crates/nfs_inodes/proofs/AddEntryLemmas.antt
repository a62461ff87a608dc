-- A name comes to a directory: to its page, and to its part, where a part may divide first.
use Rattle.std.proofs.Common.{◌≡◌, ◌⊎◌, ℕ, suc, ◌+◌, ◌/◌, ◌<◌, ◌≤◌, ◌^◌, ◌==◌, ◌&&◌, ◌||◌, Bool, true, false, cond}
use Rattle.std.proofs.Common.{List, [], ◌∷◌, ◌++◌, Option, Some, None, IsSome, arith, filter, inl, inr, length, mod-lt}
use Rattle.std.proofs.Common.{is_some, option_map, refl, sym, ◌∙◌, ap, subst, unwrap_or}
use Rattle.std.specs.List.{AllByRecursion}
use Rattle.std.specs.Prelude.{nat_lt}
use Rattle.std.proofs.lemmas.Bool.{and_from, cases_eq, cases_lt, cond_both, eq-eqb, eqb-true, le-ltb, lt-ltb}
use Rattle.std.proofs.lemmas.List.{get_or-set_same}
use Rattle.nfs_machine.specs.Checks.{entry_of}
use Rattle.nfs_machine.specs.State.{Entry}
use Rattle.nfs_objects.proofs.HashedPartLemmas.{source-below}
use Rattle.nfs_objects.proofs.OtherObjectsLemmas.{enters-page}
use Rattle.nfs_objects.proofs.SeenLemmas.{known-stands}
use Rattle.nfs_objects.specs.Asks.{IsThere, Lacks}
use Rattle.nfs_objects.specs.Calls.{IsAmong, places_for}
use Rattle.nfs_objects.specs.Directories.{bucket_of, count_in, counted_up, in_page, is_beside, is_in_part, led_in_part}
use Rattle.nfs_objects.specs.Directories.{many}
use Rattle.nfs_objects.specs.Directories.{part_among, source_of, width_in, width_of, with_count}
use Rattle.nfs_objects.specs.Fits.{Fits}
use Rattle.nfs_objects.specs.PageRuns.{lists}
use Rattle.nfs_objects.specs.Stands.{IsPart, page_of, part_of, stored_page}
use Rattle.nfs_objects.specs.Store.{Store, with_writes}
use Rattle.nfs_objects.specs.Values.{DraftValue, known_at, with_written}
use Rattle.nfs_objects.specs.declared.address.Addr.{Addr}
use Rattle.nfs_objects.specs.declared.address.Addr.TheVariants as addresses
use Rattle.nfs_objects.specs.declared.change.Missing.{Missing}
use Rattle.nfs_objects.specs.declared.entry_map.EntryMap.{EntryMap}
use Rattle.nfs_objects.specs.declared.modes.Mode.{Mode}
use Rattle.nfs_objects.specs.declared.object.Object.{Object}
use Rattle.nfs_objects.specs.declared.object.Object.TheVariants as objects
use Rattle.nfs_objects.specs.declared.page_list.PageRun.{PageRun}
use Rattle.nfs_inodes.proofs.DividePartLemmas.{divided}
use Rattle.nfs_inodes.proofs.AsksAfterWritesLemmas.{AsksThese, lacked-among, other-part, these-may, these-more}
use Rattle.nfs_inodes.proofs.AsksAfterWritesLemmas.{these-must, these-none}
use Rattle.nfs_inodes.proofs.AsksAfterWritesLemmas.{is-part, keeps-both, keeps-none, keeps-part, lacked-stops}
use Rattle.nfs_inodes.proofs.AsksAfterWritesLemmas.{lacked-stops-back}
use Rattle.nfs_inodes.proofs.AsksAfterWritesLemmas.{lives-stops, other-page, part-here, parts-live-on, stops-back}
use Rattle.nfs_inodes.proofs.AsksAfterWritesLemmas.{part-there, told}
use Rattle.nfs_inodes.proofs.PageEntryLemmas.{pages-gained}
use Rattle.nfs_inodes.proofs.PartEntryLemmas.{part-gained}
use Rattle.nfs_inodes.proofs.StillKnownLemmas.{keeps-written}
use Rattle.nfs_inodes.proofs.WishesLemmas.{asking-all, differs}
use Rattle.nfs_inodes.proofs.WrittenBlocksLemmas.{stands-here, stands-written}
use Rattle.nfs_inodes.specs.Asking.{IsAsking, with_wish}
use Rattle.nfs_inodes.specs.Entered.{AsksToAdd, lacked_of}
use Rattle.nfs_inodes.specs.Entered.{DirectoryLives, Divides, HasPages, HasParts, KeepsButBucket, PagesGain, PartsGain}
use Rattle.nfs_inodes.specs.Entered.{PartsLive}
use Rattle.nfs_inodes.specs.Stops.{StopsAt}

-- ---- what is asked for
module _ (d : DraftValue) (n : ℕ) (m : EntryMap) (name : List ℕ) (cookie : ℕ) where
  abbrev own_bucket : ℕ
  own_bucket = bucket_of name

  abbrev width : ℕ
  width = width_in m.counts own_bucket

  abbrev page : Addr
  page = addresses.Page n (cookie / 64)

  abbrev part : ℕ → Addr
  part p = addresses.Part n own_bucket p

  abbrev May : Addr → Type 0
  May a = (is_beside m n a ≡ true) ⊎ IsAmong (places_for m n name cookie) a

  -- all of it is named, or stands there where the draft does not know it
  pub added-asking : (asked : List (Addr × Mode)) → DirectoryLives d n m → AsksToAdd d n m name cookie [] asked →
      IsAsking d (lacked_of d (places_for m n name cookie)) asked
  added-asking asked lives asks =
      asking-all d May (λ a. a ≡ page) asked asks (lacked_of d (places_for m n name cookie)) bounded
    where
      there : (a : Addr) → known_at d a ≡ None → IsSome (known_at d a) ⊎ IsThere d.view a →
          IsAmong (lacked_of d (places_for m n name cookie)) a ⊎ IsThere d.view a
      there a unknown (inl some) = absurd (let clash : false ≡ true = sym (ap is_some unknown) ∙ some in cc)
      there a unknown (inr stands) = inr stands

      bounded : (a : Addr) → May a → known_at d a ≡ None →
          IsAmong (lacked_of d (places_for m n name cookie)) a ⊎ IsThere d.view a
      bounded a (inl beside) unknown = there a unknown (lives a beside)
      bounded a (inr among) unknown = inl (lacked-among d (places_for m n name cookie) a among unknown)

  -- ---- one by one
  may-page : May page
  may-page = inr (inl refl)

  may-new : May (part width)
  may-new = inr (inr (inl refl))

  may-part : (p : ℕ) → p < width → May (part p)
  may-part p less = inl (and_from (n == n) (nat_lt p width) (eq-eqb n n refl) (lt-ltb p width less))

  module _ (old first : List (Addr × Mode)) (to-first : first ≡ with_wish d page old) where
    abbrev IsPage : Addr → Type 0
    IsPage a = ⊥ ⊎ (page ≡ a)

    abbrev These : List Addr → List (Addr × Mode) → Type 0
    These xs new = AsksThese d old xs IsPage new

    with-page : These (page ∷ []) first
    with-page = these-must d old [] (λ a. ⊥) page old first (these-none d old) tt to-first

    ends : (xs : List Addr) (new : List (Addr × Mode)) → AllByRecursion May xs → These xs new →
        AsksToAdd d n m name cookie old new
    ends xs new all asks = these-may d old xs May IsPage (λ a. a ≡ page) new all (λ a same. inr (sym same)) asks

    -- the bucket has as many parts
    pub asks-same : (p : ℕ) (new : List (Addr × Mode)) → p < width → new ≡ with_wish d (part p) first →
        AsksToAdd d n m name cookie old new
    asks-same p new less is =
        ends (part p ∷ page ∷ []) new (may-part p less, (may-page, tt))
        (these-more d old (page ∷ []) IsPage (part p) first new with-page (refl, tt) is)

    -- it has one more
    module _ (second : List (Addr × Mode)) (to-second : second ≡ with_wish d (part width) first) where
      with-new : These (part width ∷ page ∷ []) second
      with-new = these-more d old (page ∷ []) IsPage (part width) first second with-page (refl, tt) to-second

      pub asks-first : AsksToAdd d n m name cookie old second
      asks-first = ends (part width ∷ page ∷ []) second (may-new, (may-page, tt)) with-new

      module _ (source : ℕ) (below : source < width) (third : List (Addr × Mode))
          (to-third : third ≡ with_wish d (part source) second) where
        with-source : These (part source ∷ part width ∷ page ∷ []) third
        with-source =
            these-more d old (part width ∷ page ∷ []) IsPage (part source) second third with-new
            (other-part n own_bucket width source (λ same. omega (arith, same, below)), (refl, tt)) to-third

        pub asks-divided : AsksToAdd d n m name cookie old third
        asks-divided =
            ends (part source ∷ part width ∷ page ∷ []) third (may-part source below, (may-new, (may-page, tt)))
            with-source

        pub asks-own : (p : ℕ) (new : List (Addr × Mode)) → p < width → (p ≡ source → ⊥) →
            new ≡ with_wish d (part p) third → AsksToAdd d n m name cookie old new
        asks-own p new less apart is =
            ends (part p ∷ part source ∷ part width ∷ page ∷ []) new
            (may-part p less, (may-part source below, (may-new, (may-page, tt))))
            (these-more d old (part source ∷ part width ∷ page ∷ []) IsPage (part p) third new with-source (
              other-part n own_bucket source p (λ same. apart (sym same)),
              (other-part n own_bucket width p (λ same. omega (arith, same, less)), (refl, tt)),
            ) is)

-- ---- its page
-- what stood in a page, as the draft knows it
page-was : (o : Option Object) (was : Option (List Entry)) (page : List Entry) → o ≡ stored_page page
    → page_of o ≡ was →
    unwrap_or was [] ≡ page
page-was o was page at is = ap (λ w. unwrap_or w []) (sym is ∙ ap page_of at) ∙ own page
  where
    own : (es : List Entry) → unwrap_or (page_of (stored_page es)) [] ≡ es
    own [] = refl
    own (e ∷ es) = refl

module _ (d new : DraftValue) (n : ℕ) (before after : List PageRun) (e : Entry) (was : Option (List Entry))
    (tells : option_map page_of (known_at d (addresses.Page n (e.cookie / 64))) ≡ Some was)
    (is : new ≡ with_written d (addresses.Page n (e.cookie / 64)) (stored_page (unwrap_or was [] ++ e ∷ [])))
    (listed : (p : ℕ) → lists after p ≡ (lists before p || (p == e.cookie / 64))) where
  abbrev own_page : Addr
  own_page = addresses.Page n (e.cookie / 64)

  abbrev new_page : Option Object
  new_page = stored_page (unwrap_or was [] ++ e ∷ [])

  page-gains : (s : Store) (entries : List Entry) → Fits d.view s → HasPages (with_writes s d.writes) n before entries →
      HasPages (with_writes s (with_written d own_page new_page).writes) n after (entries ++ e ∷ [])
  page-gains s entries fits has =
      let known = told page_of (known_at d own_page) was tells in
      let stood : unwrap_or was [] ≡ in_page (e.cookie / 64) entries =
      page-was known.0 was (in_page (e.cookie / 64) entries)
      (sym (known-stands d s own_page known.0 fits known.1) ∙ has.stand (e.cookie / 64)) known.2 in
      pages-gained (with_writes s d.writes) (with_writes s (with_written d own_page new_page).writes) n before after
      entries e
      (stands-here d s own_page new_page ∙ ap (λ es. stored_page (es ++ e ∷ [])) stood)
      (λ page apart.
      stands-written d s own_page new_page (addresses.Page n page)
      ∙ ap (λ t. cond t new_page ((with_writes s d.writes).at (addresses.Page n page)))
      (other-page n (e.cookie / 64) page (λ same. apart (sym same))))
      listed has

  pub page-comes : PagesGain d new n before after e
  page-comes = subst (λ x. PagesGain d x n before after e) (sym is) (record {
    enters = enters-page n d (e.cookie / 64) new_page;
    knows = keeps-written d own_page new_page refl;
    pages = page-gains;
    parts = λ s bucket part. stands-written d s own_page new_page (addresses.Part n bucket part);
  })

-- ---- a part divides
module _ (key : List ℕ) (d mid new : DraftValue) (n bucket width wide : ℕ) (whole : List Entry) (some : 0 < width)
    (small : width ≤ 2 ^ 29) (is-wide : wide ≡ suc width)
    (tells : option_map part_of (known_at d (addresses.Part n bucket (source_of width))) ≡ Some (Some whole))
    (stays : mid ≡ with_written d (addresses.Part n bucket (source_of width))
    (Some (objects.Part (filter (λ (e : Entry). part_among key wide e.name == source_of width) whole))))
    (moves : new ≡ with_written mid (addresses.Part n bucket width)
    (Some (objects.Part (filter (λ (e : Entry). part_among key wide e.name == width) whole)))) where
  abbrev source : ℕ
  source = source_of width

  abbrev kept : (among to : ℕ) → Option Object
  kept among to = Some (objects.Part (filter (λ (e : Entry). part_among key among e.name == to) whole))

  below : source < width
  below = source-below width some (omega (arith, small))

  pub part-divides : Divides key d new n bucket width
  part-divides = record {
    keeps = keeps-both d mid new n bucket (keeps-part d mid n bucket source (kept wide source) stays)
        (keeps-part mid new n bucket width (kept wide width) moves);
    divides = λ s entries fits has.
        let known = told part_of (known_at d (addresses.Part n bucket source)) (Some whole) tells in
        divided key n bucket width entries some (omega (arith, small)) (with_writes s d.writes)
        (with_writes s new.writes) whole
        (known-stands d s (addresses.Part n bucket source) known.0 fits known.1 ∙ is-part known.0 whole known.2)
        (part-here mid new n bucket width (kept wide width) moves s ∙ ap (λ w. kept w width) is-wide)
        (part-there mid new n bucket width (kept wide width) moves s source (λ same. omega (arith, same, below))
        ∙ part-here d mid n bucket source (kept wide source) stays s ∙ ap (λ w. kept w source) is-wide)
        (λ part last first.
        part-there mid new n bucket width (kept wide width) moves s part last
        ∙ part-there d mid n bucket source (kept wide source) stays s part first) has;
  }

-- nothing stands where a part should, so that no directory has so many
pub none-divides : (key : List ℕ) (d : DraftValue) (n bucket width : ℕ) → 0 < width → width ≤ 2 ^ 29 →
    option_map part_of (known_at d (addresses.Part n bucket (source_of width))) ≡ Some None → Divides key d d n bucket
    width
none-divides key d n bucket width some small tells = record {
  keeps = keeps-none d n bucket;
  divides = λ s entries fits has.
      let known = told part_of (known_at d (addresses.Part n bucket (source_of width))) None tells in
      let stands : IsPart true (led_in_part key width bucket (source_of width) entries)
      ((with_writes s d.writes).at (addresses.Part n bucket (source_of width))) =
      subst (λ b. IsPart b (led_in_part key width bucket (source_of width) entries)
      ((with_writes s d.writes).at (addresses.Part n bucket (source_of width))))
      (lt-ltb (source_of width) width (source-below width some (omega (arith, small)))) (has (source_of width)) in
      absurd (let clash : None ≡ Some stands.0 =
      sym known.2
      ∙ ap part_of (sym (known-stands d s (addresses.Part n bucket (source_of width)) known.0 fits known.1)
      ∙ stands.1) in
      cc);
}

-- ---- its part
-- with one name more a bucket has as many parts, or one more
pub width-more : (count : ℕ) → width_of count ≤ 2 ^ 29 →
    (width_of (counted_up count) ≡ width_of count) ⊎ (width_of (counted_up count) ≡ suc (width_of count))
width-more count small =
    cond_both (nat_lt count many) (count + 1) many
    (λ c. (width_of c ≡ width_of count) ⊎ (width_of c ≡ suc (width_of count)))
    (λ less. by ((count + 1 + 7) / 8 == (count + 7) / 8) refl)
    (λ more. inl (omega (arith, small, ltb-false more)))
  where
    ltb-false : nat_lt count many ≡ false → many ≤ count
    ltb-false is = elim (cases_lt count many) [
      | inl less ↦ absurd (let clash : true ≡ false = sym (lt-ltb count many less) ∙ is in cc)
      | inr most ↦ most
    ]

    by : (b : Bool) → ((count + 1 + 7) / 8 == (count + 7) / 8) ≡ b →
        (width_of (count + 1) ≡ width_of count) ⊎ (width_of (count + 1) ≡ suc (width_of count))
    by true same = inl (eqb-true ((count + 1 + 7) / 8) ((count + 7) / 8) same)
    by false other = inr (let apart = differs ((count + 1 + 7) / 8) ((count + 7) / 8) other in omega (arith, apart))

pub width-some : (count : ℕ) → 0 < width_of (counted_up count)
width-some count =
    cond_both (nat_lt count many) (count + 1) many (λ c. 0 < width_of c) (λ less. omega arith) (λ more. omega arith)

-- a part of the bucket divided; or none had to, since the bucket has none or has as many then
abbrev pub MayDivide : (key : List ℕ) → (d mid : DraftValue) (n bucket before after : ℕ) → Type 0
MayDivide key d mid n bucket before after = (Divides key d mid n bucket before × (before ≡ after → ⊥)) ⊎
    ((mid ≡ d) × ((before ≡ 0) ⊎ (before ≡ after)))

-- a part of a bucket gets one name more, last, once a part may have divided
pub record Comes (key : List ℕ) (d mid new : DraftValue) (n : ℕ) (counts wider : List ℕ) (e : Entry) (part : ℕ)
    (was : Option (List Entry)) (names : List Entry) (bucket : ℕ) : Type 0 where
  pub counted : wider ≡ with_count counts bucket (counted_up (count_in counts bucket))
  pub small : width_in counts bucket ≤ 2 ^ 29
  pub divides : MayDivide key d mid n bucket (width_in counts bucket) (width_of (counted_up (count_in counts bucket)))
  pub place : part ≡ part_among key (width_of (counted_up (count_in counts bucket))) e.name
  pub within : part < width_of (counted_up (count_in counts bucket))
  pub tells : option_map part_of (known_at mid (addresses.Part n bucket part)) ≡ Some was
  pub comes : entry_of (unwrap_or was []) e.name ≡ None → names ≡ unwrap_or was [] ++ e ∷ []
  pub is : new ≡ with_written mid (addresses.Part n bucket part) (Some (objects.Part names))

-- what it halts with: with an address that is below, or with the one that is named
pub part-stops : (d mid : DraftValue) (n bucket width part : ℕ) (halt : Missing) → KeepsButBucket d mid n bucket →
    PartsLive d n bucket width → part < suc width → Lacks mid (addresses.Part n bucket part) halt →
    StopsAt d (lacked_of d (addresses.Part n bucket width ∷ [])) halt
part-stops d mid n bucket width part halt keeps lives less lacks = by (cases_eq part width)
  where
    named : List Addr
    named = addresses.Part n bucket width ∷ []

    by : (part ≡ width) ⊎ (part ≡ width → ⊥) → StopsAt d (lacked_of d named) halt
    by (inl last) =
        lacked-stops-back n d mid named (lacked_of d named) halt keeps.enters keeps.knows (λ a among. among)
        (lacked-stops mid named (addresses.Part n bucket part) halt
        (inl (ap (addresses.Part n bucket) (sym last))) lacks)
    by (inr other) =
        stops-back n d mid keeps.enters (lacked_of d named) halt
        (lives-stops mid (lacked_of d named) (addresses.Part n bucket part) halt
        (inr (parts-live-on n d mid keeps.enters n bucket width keeps.knows lives part (omega (arith, less, other))))
        lacks)

pub may-divide-keeps : (key : List ℕ) (d mid : DraftValue) (n bucket before after : ℕ) → MayDivide key d mid n bucket
    before after →
    KeepsButBucket d mid n bucket
may-divide-keeps key d mid n bucket before after (inl divides) = divides.0.keeps
may-divide-keeps key d mid n bucket before after (inr stays) =
    subst (λ x. KeepsButBucket d x n bucket) (sym stays.0) (keeps-none d n bucket)

module _ (key : List ℕ) (d mid new : DraftValue) (n : ℕ) (counts wider : List ℕ) (e : Entry) (part : ℕ)
    (was : Option (List Entry))
    (names : List Entry) (it : Comes key d mid new n counts wider e part was names (bucket_of e.name)) where
  abbrev bucket : ℕ
  bucket = bucket_of e.name

  abbrev before : ℕ
  before = width_in counts bucket

  abbrev after : ℕ
  after = width_of (counted_up (count_in counts bucket))

  abbrev own_part : Addr
  own_part = addresses.Part n bucket part

  first : KeepsButBucket d mid n bucket
  first = may-divide-keeps key d mid n bucket before after it.divides

  module _ (s : Store) (es : List Entry) (fits : Fits d.view s) (full : length counts ≡ 64)
      (absent : entry_of es e.name ≡ None) where
    abbrev old-at : ℕ → Option Object
    old-at q = (with_writes s mid.writes).at (addresses.Part n bucket q)

    -- how many parts there are
    after-is : width_in wider bucket ≡ after
    after-is = ap width_of (ap (λ cs. count_in cs bucket) it.counted
        ∙ get_or-set_same counts bucket (counted_up (count_in counts bucket)) 0
        (let less : bucket < 64 = mod-lt _ (omega arith) in omega (arith, full, less)))

    own : is_in_part key after bucket part e.name ≡ true
    own =
        and_from (bucket_of e.name == bucket) (nat_lt part after && (part_among key after e.name == part))
        (eq-eqb (bucket_of e.name) bucket refl)
        (and_from (nat_lt part after) (part_among key after e.name == part) (lt-ltb part after it.within)
        (eq-eqb (part_among key after e.name) part (sym it.place)))

    -- what the draft knows stands there
    known : (o : Option Object) × (known_at mid own_part ≡ Some o) × (part_of o ≡ was)
    known = told part_of (known_at mid own_part) was it.tells

    was-there : was ≡ part_of (old-at part)
    was-there =
        sym known.2
        ∙ ap part_of (sym (known-stands mid s own_part known.0 (subst (λ v. Fits v s) (sym first.enters.view) fits)
        known.1))

    -- the entry comes behind what was there
    gained : (old : List Entry) → unwrap_or was [] ≡ old →
        ((x : List ℕ) → entry_of old x ≡ led_in_part key after bucket part es x) →
        ((q : ℕ) → (q ≡ part → ⊥) → IsPart (nat_lt q after) (led_in_part key after bucket q es) (old-at q)) →
        HasParts key (with_writes s new.writes) n bucket after (es ++ e ∷ [])
    gained old same leads others =
        part-gained key (with_writes s mid.writes) (with_writes s new.writes) n bucket after part es old leads it.within
        (part-there mid new n bucket part (Some (objects.Part names)) it.is s) others e own
        (part-here mid new n bucket part (Some (objects.Part names)) it.is s
        ∙ ap (λ x. Some (objects.Part x)) (subst (λ x. entry_of x e.name ≡ None → names ≡ x ++ e ∷ []) same it.comes
        (leads e.name ∙ ap (λ b. cond b (entry_of es e.name) None) own ∙ absent)))

    -- its part was there
    to-some : HasParts key (with_writes s mid.writes) n bucket after es →
        HasParts key (with_writes s new.writes) n bucket after (es ++ e ∷ [])
    to-some has =
        let stands : IsPart true (led_in_part key after bucket part es) (old-at part) =
        subst (λ b. IsPart b (led_in_part key after bucket part es) (old-at part)) (lt-ltb part after it.within)
        (has part) in
        gained stands.0 (ap (λ w. unwrap_or w []) (was-there ∙ ap part_of stands.1)) stands.2 (λ q apart. has q)

    -- the bucket had no part
    to-none : before ≡ 0 → after ≡ suc before → ((x : List ℕ) → bucket_of x ≡ bucket → entry_of es x ≡ None) →
        HasParts key (with_writes s mid.writes) n bucket before es →
        HasParts key (with_writes s new.writes) n bucket after (es ++ e ∷ [])
    to-none zero one none has =
        gained [] (ap (λ w. unwrap_or w []) (was-there ∙ ap part_of (nothing part)))
        (λ x. nowhere x (bucket_of x == bucket) refl)
        (λ q apart. subst (λ b. IsPart b (led_in_part key after bucket q es) (old-at q))
        (sym (le-ltb q after (omega (arith, zero, one, it.within, apart)))) (nothing q))
      where
        nothing : (q : ℕ) → old-at q ≡ None
        nothing q = subst (λ b. IsPart b (led_in_part key before bucket q es) (old-at q))
            (le-ltb q before (omega (arith, zero)))
            (has q)

        nowhere : (x : List ℕ) (b : Bool) → (bucket_of x == bucket) ≡ b → ◌≡◌ {A = Option Entry} None
            (cond (b && (nat_lt part after && (part_among key after x == part))) (entry_of es x) None)
        nowhere x true is =
            sym (ap (λ o. cond (nat_lt part after && (part_among key after x == part)) o None)
            (none x (eqb-true (bucket_of x) bucket is))
            ∙ elim (nat_lt part after && (part_among key after x == part)) as
            (λ b. ◌≡◌ {A = Option Entry} (cond b None None) None) [
              | true ↦ refl
              | false ↦ refl
            ])
        nowhere x false is = refl

    gains : (before ≡ 0 → (x : List ℕ) → bucket_of x ≡ bucket → entry_of es x ≡ None) →
        HasParts key (with_writes s d.writes) n bucket before es →
        HasParts key (with_writes s new.writes) n bucket after (es ++ e ∷ [])
    gains none has = by it.divides (width-more (count_in counts bucket) it.small)
      where
        by : MayDivide key d mid n bucket before after → (after ≡ before) ⊎ (after ≡ suc before) →
            HasParts key (with_writes s new.writes) n bucket after (es ++ e ∷ [])
        by (inl divides) (inl same) = absurd (divides.1 (sym same))
        by (inl divides) (inr more) =
            to-some (subst (λ w. HasParts key (with_writes s mid.writes) n bucket w es) (sym more)
            (divides.0.divides s es fits has))
        by (inr (same, inl zero)) (inl equal) = absurd (omega (arith, zero, equal, width-some (count_in counts bucket)))
        by (inr (same, inl zero)) (inr more) =
            to-none zero more (none zero)
            (subst (λ (x : DraftValue). HasParts key (with_writes s x.writes) n bucket before es) (sym same) has)
        by (inr (same, inr equal)) either =
            to-some (subst (λ w. HasParts key (with_writes s mid.writes) n bucket w es) equal
            (subst (λ (x : DraftValue). HasParts key (with_writes s x.writes) n bucket before es) (sym same) has))

  pub part-comes : PartsGain key d new n counts wider e
  part-comes = record {
    keeps = keeps-both d mid new n bucket first (keeps-part mid new n bucket part (Some (objects.Part names)) it.is);
    counts = it.counted;
    parts = λ s es fits full absent none has.
        subst (λ w. HasParts key (with_writes s new.writes) n bucket w (es ++ e ∷ []))
        (sym (after-is s es fits full absent))
        (gains s es fits full absent none has);
  }
