-- What a draft does to the page and the part that a name goes from.
use Rattle.std.proofs.Common.{◌≡◌, ◌⊎◌, ℕ, suc, ◌-◌, ◌/◌, ◌<◌, ◌≤◌, ◌^◌, ◌==◌, ◌&&◌, Bool, true, false, not, cond}
use Rattle.std.proofs.Common.{List, [], ◌∷◌, ◌++◌, Option, Some, None, option_map, filter, length, inl, inr, arith}
use Rattle.std.proofs.Common.{refl, sym, ◌∙◌, ap, subst}
use Rattle.std.specs.Prelude.{nat_lt}
use Rattle.std.proofs.lemmas.Bool.{and_from, and_parts, cases_eq, cases_lt, eq-eqb, le-ltb, lt-ltb, ltb-true, ne_eqb}
use Rattle.std.proofs.lemmas.List.{get_or-set_other, get_or-set_same, get_or_past, length-set}
use Rattle.nfs_machine.specs.Bytes.{same_bytes}
use Rattle.nfs_machine.specs.Checks.{entry_of}
use Rattle.nfs_machine.specs.RemoveSteps.{without}
use Rattle.nfs_machine.specs.State.{Entry}
use Rattle.nfs_machine.specs.WellFormed.{NamesOnce}
use Rattle.nfs_objects.proofs.HashedPartLemmas.{source-below}
use Rattle.nfs_objects.proofs.OtherObjectsLemmas.{enters-none, enters-page}
use Rattle.nfs_objects.proofs.SeenLemmas.{known-stands}
use Rattle.nfs_objects.specs.Directories.{AreApart, bucket_of, count_in, counted_down, has_some, in_page}
use Rattle.nfs_objects.specs.Directories.{is_in_part, led_in_part, many, part_among, source_of, width_in, width_of}
use Rattle.nfs_objects.specs.Directories.{with_count}
use Rattle.nfs_objects.specs.Entries.{leaf_of, without_entry}
use Rattle.nfs_objects.specs.Fits.{Fits}
use Rattle.nfs_objects.specs.PageRuns.{lists}
use Rattle.nfs_objects.specs.Stands.{IsPart, page_of, part_of, stored_page}
use Rattle.nfs_objects.specs.Store.{Store, with_writes}
use Rattle.nfs_objects.specs.Values.{DraftValue, is_addr, known_at, with_written}
use Rattle.nfs_objects.specs.declared.address.Addr.{Addr}
use Rattle.nfs_objects.specs.declared.address.Addr.TheVariants as addresses
use Rattle.nfs_objects.specs.declared.directory.Leaf.{Leaf}
use Rattle.nfs_objects.specs.declared.entry_map.EntryMap.{EntryMap}
use Rattle.nfs_objects.specs.declared.object.Object.{Object}
use Rattle.nfs_objects.specs.declared.object.Object.TheVariants as objects
use Rattle.nfs_objects.specs.declared.page_list.PageRun.{PageRun}
use Rattle.nfs_inodes.proofs.DividePartLemmas.{joined, parts-apart}
use Rattle.nfs_inodes.proofs.AsksAfterWritesLemmas.{keeps-both, keeps-none, keeps-part, other-page, part-here}
use Rattle.nfs_inodes.proofs.AsksAfterWritesLemmas.{part-there, told}
use Rattle.nfs_inodes.proofs.PageEntryLemmas.{entry-gone, pages-lost}
use Rattle.nfs_inodes.proofs.PartEntryLemmas.{part-lost}
use Rattle.nfs_inodes.proofs.StillKnownLemmas.{keeps-written, knows-none}
use Rattle.nfs_inodes.proofs.WrittenBlocksLemmas.{stands-here, stands-written}
use Rattle.nfs_inodes.specs.Entered.{HasPages, HasParts, Joins, KeepsButBucket, PagesLose, PartsLose, TellsLess}

-- ---- what stands
-- a draft tells of what stands
stands-told : {X : Type 0} (f : Option Object → X) (d : DraftValue) (s : Store) (a : Addr) (is : X) → Fits d.view s →
    option_map f (known_at d a) ≡ Some is → f ((with_writes s d.writes).at a) ≡ is
stands-told f d s a is fits tells =
    let x = told f (known_at d a) is tells in ap f (known-stands d s a x.0 fits x.1) ∙ x.2

-- what was written elsewhere
stands-else : (d : DraftValue) (s : Store) (b : Addr) (o : Option Object) (a : Addr) → is_addr b a ≡ false →
    (with_writes s (with_written d b o).writes).at a ≡ (with_writes s d.writes).at a
stands-else d s b o a other =
    stands-written d s b o a ∙ ap (λ t. cond t o ((with_writes s d.writes).at a)) other

-- ---- a page
page-there : (es : List Entry) → has_some es ≡ true → page_of (stored_page es) ≡ Some es
page-there es some = ap (λ b. page_of (cond b (Some (objects.Page es)) None)) some

-- an entry that a name leads to, among those that pass a test
some-passes : (test : Entry → Bool) (name : List ℕ) (es : List Entry) (e : Entry) → entry_of es name ≡ Some e →
    test e ≡ true → has_some (filter test es) ≡ true
some-passes test name [] e found passes = cc
some-passes test name (x ∷ es) e found passes =
    by (same_bytes x.name name) found (λ is. some-passes test name es e is passes)
  where
    by : (b : Bool) → cond b (Some x) (entry_of es name) ≡ Some e →
        (entry_of es name ≡ Some e → has_some (filter test es) ≡ true) →
        has_some (cond (test x) (x ∷ filter test es) (filter test es)) ≡ true
    by true is rest =
        let same : x ≡ e = cc in
        ap (λ b. has_some (cond b (x ∷ filter test es) (filter test es))) (ap test same ∙ passes)
    by false is rest =
        elim (test x) as (λ b. has_some (cond b (x ∷ filter test es) (filter test es)) ≡ true) [
          | true ↦ refl
          | false ↦ rest is
        ]

-- the entry that a name leads to with its leaf
record Leads (es : List Entry) (name : List ℕ) (leaf : Leaf) : Type 0 where
  entry : Entry
  found : entry_of es name ≡ Some entry
  cookie : leaf.cookie ≡ entry.cookie
  page : leaf.cookie / 64 ≡ entry.cookie / 64

leads-there : (es : List Entry) (name : List ℕ) (leaf : Leaf) → option_map leaf_of (entry_of es name) ≡ Some leaf →
    Leads es name leaf
leads-there es name leaf is = by (entry_of es name) refl is
  where
    by : (o : Option Entry) → entry_of es name ≡ o → option_map leaf_of o ≡ Some leaf → Leads es name leaf
    by None found e = cc
    by (Some e) found same =
        let one : leaf_of e ≡ leaf = cc in
        record {
          entry = e;
          found = found;
          cookie = ap (λ (l : Leaf). l.cookie) (sym one);
          page = ap (λ (l : Leaf). l.cookie / 64) (sym one);
        }

module _ (d : DraftValue) (n : ℕ) (before after : List PageRun) (leaf : Leaf) (name : List ℕ) where
  abbrev page : ℕ
  page = leaf.cookie / 64

  -- its page has some
  page-some : (es : List Entry) → option_map leaf_of (entry_of es name) ≡ Some leaf → has_some (in_page page es) ≡ true
  page-some es is =
      let leads = leads-there es name leaf is in
      some-passes (λ (e : Entry). e.cookie / 64 == page) name es leads.entry leads.found
      (eq-eqb (leads.entry.cookie / 64) page (sym leads.page))

  -- where it is not there, all stays
  pages-stay : after ≡ before →
      ((s : Store) (es : List Entry) → Fits d.view s → option_map leaf_of (entry_of es name) ≡ Some leaf →
      HasPages (with_writes s d.writes) n before es → ⊥) → PagesLose d d n before after leaf name
  pages-stay same none = record {
    enters = enters-none n d;
    knows = knows-none d;
    less = λ p. subst (λ l. lists l p ≡ true → lists before p ≡ true) (sym same) (λ is. is);
    pages = λ s es fits once is has. absurd (none s es fits is has);
    parts = λ s bucket part. refl;
  }

  pub unlisted : after ≡ before → lists before page ≡ false → PagesLose d d n before after leaf name
  unlisted same none = pages-stay same (λ s es fits is has.
      (let e : true ≡ false = sym (has.listed page ∙ page-some es is) ∙ none in cc))

  pub absent-page : after ≡ before → option_map page_of (known_at d (addresses.Page n page)) ≡ Some None →
      PagesLose d d n before after leaf name
  absent-page same none = pages-stay same (λ s es fits is has.
      (let e : None ≡ Some (in_page page es) = sym (stands-told page_of d s (addresses.Page n page) None fits none)
      ∙ ap page_of (has.stand page) ∙ page-there (in_page page es) (page-some es is) in cc))

  -- what is listed of its page then is whether it has some, and all others are as before
  pub record ListsRest (rest : List Entry) : Type 0 where
    pub here : lists after page ≡ has_some rest
    pub others : (p : ℕ) → (p ≡ page → ⊥) → lists after p ≡ lists before p

  -- the page goes
  pub rest-none : (rest : List Entry) → true ≡ not (has_some rest)
      → ((p : ℕ) → lists after p ≡ (lists before p && not (p == page))) → ListsRest rest
  rest-none rest none gone = record {
    here = gone page ∙ ap (λ b. lists before page && not b) (eq-eqb page page refl) ∙ never (lists before page)
        ∙ sym (less (has_some rest) none);
    others = λ p other. gone p ∙ ap (λ b. lists before p && not b) (ne_eqb p page other) ∙ always (lists before p);
  }
    where
      never : (b : Bool) → (b && false) ≡ false
      never true = refl
      never false = refl

      always : (b : Bool) → (b && true) ≡ b
      always true = refl
      always false = refl

      less : (b : Bool) → true ≡ not b → b ≡ false
      less true is = cc
      less false is = refl

  -- or it stays
  pub rest-some : (rest : List Entry) → false ≡ not (has_some rest) → after ≡ before → lists before page ≡ true →
      ListsRest rest
  rest-some rest some same listed = record {
    here = ap (λ l. lists l page) same ∙ listed ∙ sym (more (has_some rest) some);
    others = λ p other. ap (λ l. lists l p) same;
  }
    where
      more : (b : Bool) → false ≡ not b → b ≡ true
      more true is = refl
      more false is = cc

  pub page-lost : (new : DraftValue) (old rest : List Entry) →
      option_map page_of (known_at d (addresses.Page n page)) ≡ Some (Some old)
      → rest ≡ without_entry old name leaf.cookie
      → new ≡ with_written d (addresses.Page n page) (stored_page rest) → lists before page ≡ true → ListsRest rest
      → PagesLose d new n before after leaf name
  page-lost new old rest known is put listed lists-rest =
      subst (λ (x : DraftValue). PagesLose d x n before after leaf name) (sym put) (record {
        enters = enters-page n d page (stored_page rest);
        knows = keeps-written d (addresses.Page n page) (stored_page rest) refl;
        less = λ p told. fewer p told (cases_eq p page);
        pages = λ s es fits once leads has. lost s es fits once (leads-there es name leaf leads)
            (page-some es leads) has;
        parts = λ s bucket part. stands-written d s (addresses.Page n page) (stored_page rest)
            (addresses.Part n bucket part);
      })
    where
      fewer : (p : ℕ) → lists after p ≡ true → (p ≡ page) ⊎ (p ≡ page → ⊥) → lists before p ≡ true
      fewer p told (inl same) = ap (lists before) same ∙ listed
      fewer p told (inr other) = sym (lists-rest.others p other) ∙ told

      lost : (s : Store) (es : List Entry) → Fits d.view s → NamesOnce es → Leads es name leaf →
          has_some (in_page page es) ≡ true → HasPages (with_writes s d.writes) n before es →
          HasPages (with_writes s (with_written d (addresses.Page n page) (stored_page rest)).writes) n after
          (without es name)
      lost s es fits once leads some has =
          let own : old ≡ in_page page es =
          (let e : Some old ≡ Some (in_page page es) =
          sym (stands-told page_of d s (addresses.Page n page) (Some old) fits known)
          ∙ ap page_of (has.stand page) ∙ page-there (in_page page es) some in cc) in
          let left : rest ≡ without (in_page page es) name =
          is ∙ ap (λ l. without_entry l name leaf.cookie) own
          ∙ ap (without_entry (in_page page es) name) leads.cookie
          ∙ entry-gone (λ (e : Entry). e.cookie / 64 == page) name es leads.entry once leads.found in
          let new : Store = with_writes s (with_written d (addresses.Page n page) (stored_page rest)).writes in
          pages-lost (with_writes s d.writes) new n before after es name leads.entry once leads.found
          (subst (λ p. new.at (addresses.Page n p) ≡ stored_page (without (in_page p es) name)) leads.page
          (stands-here d s (addresses.Page n page) (stored_page rest) ∙ ap stored_page left))
          (λ p apart. stands-else d s (addresses.Page n page) (stored_page rest) (addresses.Page n p)
          (other-page n page p (λ same. apart (sym same ∙ leads.page))))
          (subst (λ p. lists after p ≡ has_some (without (in_page p es) name)) leads.page
          (lists-rest.here ∙ ap has_some left))
          (λ p apart. lists-rest.others p (λ same. apart (same ∙ leads.page))) has

-- ---- parts
-- what a draft tells of a part that is there
record PartTold (s : Store) (a : Addr) (found : Option (List Entry)) (leads : List ℕ → Option Entry) : Type 0 where
  names : List Entry
  is : found ≡ Some names
  at : s.at a ≡ Some (objects.Part names)
  lead : (name : List ℕ) → entry_of names name ≡ leads name

part-told : (key : List ℕ) (d : DraftValue) (s : Store) (n bucket part width : ℕ) (es : List Entry)
    (found : Option (List Entry)) →
    Fits d.view s → part < width → option_map part_of (known_at d (addresses.Part n bucket part)) ≡ Some found →
    HasParts key (with_writes s d.writes) n bucket width es →
    PartTold (with_writes s d.writes) (addresses.Part n bucket part) found (led_in_part key width bucket part es)
part-told key d s n bucket part width es found fits below known has =
    let was : IsPart true (led_in_part key width bucket part es)
    ((with_writes s d.writes).at (addresses.Part n bucket part)) =
    subst (λ b. IsPart b (led_in_part key width bucket part es)
    ((with_writes s d.writes).at (addresses.Part n bucket part)))
    (lt-ltb part width below) (has part) in
    record {
      names = was.0;
      is = sym (stands-told part_of d s (addresses.Part n bucket part) found fits known) ∙ ap part_of was.1;
      at = was.1;
      lead = was.2;
    }

-- ---- two parts are joined
module _ (d : DraftValue) (n bucket width : ℕ) (some : 0 < width) (small : width ≤ 2 ^ 29) where
  abbrev source : ℕ
  source = source_of width

  roomy : suc width < 2 ^ 31
  roomy = omega (arith, small)

  under : source < width
  under = source-below width some roomy

  -- both are there
  pub absent-last : option_map part_of (known_at d (addresses.Part n bucket width)) ≡ Some None
      → Joins d d n bucket width
  absent-last none = record {
    keeps = keeps-none d n bucket;
    joins = λ key s es fits has. absurd (let told = part-told key d s n bucket width (suc width) es None fits
        (omega arith) none has in
        let e = told.is in cc);
  }

  pub absent-source : option_map part_of (known_at d (addresses.Part n bucket source)) ≡ Some None →
      Joins d d n bucket width
  absent-source none = record {
    keeps = keeps-none d n bucket;
    joins = λ key s es fits has. absurd (let told = part-told key d s n bucket source (suc width) es None fits
        (omega (arith, under)) none has in let e = told.is in cc);
  }

  pub parts-joined : (mid new : DraftValue) (moves stays both : List Entry) →
      option_map part_of (known_at d (addresses.Part n bucket width)) ≡ Some (Some moves)
      → option_map part_of (known_at d (addresses.Part n bucket source)) ≡ Some (Some stays)
      → (AreApart stays moves → both ≡ stays ++ moves)
      → mid ≡ with_written d (addresses.Part n bucket source) (Some (objects.Part both))
      → new ≡ with_written mid (addresses.Part n bucket width) None → Joins d new n bucket width
  parts-joined mid new moves stays both last first is put freed =
      record {
        keeps = keeps-both d mid new n bucket (keeps-part d mid n bucket source (Some (objects.Part both)) put)
            (keeps-part mid new n bucket width None freed);
        joins = λ key s es fits has. by key s es
            (part-told key d s n bucket source (suc width) es (Some stays) fits (omega (arith, under)) first has)
            (part-told key d s n bucket width (suc width) es (Some moves) fits (omega arith) last has) has;
      }
    where
      by : (key : List ℕ) (s : Store) (es : List Entry) →
          PartTold (with_writes s d.writes) (addresses.Part n bucket source) (Some stays)
          (led_in_part key (suc width) bucket source es) →
          PartTold (with_writes s d.writes) (addresses.Part n bucket width) (Some moves)
          (led_in_part key (suc width) bucket width es) → HasParts key (with_writes s d.writes) n bucket (suc width)
          es →
          HasParts key (with_writes s new.writes) n bucket width es
      by key s es front back has =
          let own : front.names ≡ stays = (let e = front.is in cc) in
          let other : back.names ≡ moves = (let e = back.is in cc) in
          let at-front : (with_writes s d.writes).at (addresses.Part n bucket source) ≡ Some (objects.Part stays) =
          front.at ∙ ap (λ l. Some (objects.Part l)) own in
          let at-back : (with_writes s d.writes).at (addresses.Part n bucket width) ≡ Some (objects.Part moves) =
          back.at ∙ ap (λ l. Some (objects.Part l)) other in
          let all : both ≡ stays ++ moves =
          is (parts-apart key n bucket width es some roomy (with_writes s d.writes) stays moves at-front at-back has) in
          joined key n bucket width es some roomy (with_writes s d.writes) (with_writes s new.writes) stays moves
          at-front
          at-back
          (part-there mid new n bucket width None freed s source (λ same. absurd (omega (arith, same, under)))
          ∙ part-here d mid n bucket source (Some (objects.Part both)) put s ∙ ap (λ l. Some (objects.Part l)) all)
          (part-here mid new n bucket width None freed s)
          (λ p last first. part-there mid new n bucket width None freed s p last
          ∙ part-there d mid n bucket source (Some (objects.Part both)) put s p first)
          has

-- ---- counts
-- with one name less a bucket has as many parts, or one less
down-is : (count : ℕ) → ((count ≡ many) × (counted_down count ≡ count)) ⊎ (counted_down count ≡ count - 1)
down-is count = by (cases_eq count many)
  where
    by : (count ≡ many) ⊎ (count ≡ many → ⊥) →
        ((count ≡ many) × (counted_down count ≡ count)) ⊎ (counted_down count ≡ count - 1)
    by (inl same) = inl (same, ap (λ b. cond b many (count - 1)) (eq-eqb count many same) ∙ sym same)
    by (inr other) = inr (ap (λ b. cond b many (count - 1)) (ne_eqb count many other))

width-down : (count : ℕ) → (width_of (counted_down count) ≡ width_of count)
    ⊎ (width_of count ≡ suc (width_of (counted_down count)))
width-down count = by (down-is count) (cases_eq (width_of (counted_down count)) (width_of count))
  where
    by : ((count ≡ many) × (counted_down count ≡ count)) ⊎ (counted_down count ≡ count - 1) →
        (width_of (counted_down count) ≡ width_of count) ⊎ (width_of (counted_down count) ≡ width_of count → ⊥) →
        (width_of (counted_down count) ≡ width_of count) ⊎ (width_of count ≡ suc (width_of (counted_down count)))
    by down (inl same) = inl same
    by (inl many) (inr other) = absurd (other (ap width_of many.1))
    by (inr less) (inr other) = inr (omega (arith, less, other))

width-none : (count : ℕ) → 0 < width_of count → width_of (counted_down count) ≡ 0 → width_of count ≡ 1
width-none count some none = by (down-is count)
  where
    by : ((count ≡ many) × (counted_down count ≡ count)) ⊎ (counted_down count ≡ count - 1) → width_of count ≡ 1
    by (inl many) = absurd (let same = many.1 in omega (arith, same, none, some))
    by (inr less) = omega (arith, less, none, some)

pub width-most : (count : ℕ) → width_of (counted_down count) ≤ width_of count
width-most count = by (down-is count)
  where
    by : ((count ≡ many) × (counted_down count ≡ count)) ⊎ (counted_down count ≡ count - 1) →
        width_of (counted_down count) ≤ width_of count
    by (inl many) = let same = many.1 in omega (arith, same)
    by (inr less) = omega (arith, less)

module _ (counts after : List ℕ) (bucket : ℕ)
    (is : after ≡ with_count counts bucket (counted_down (count_in counts bucket))) where
  -- a bucket with a part is counted
  counted-within : 0 < width_in counts bucket → bucket < length counts
  counted-within some = elim (cases_lt bucket (length counts)) [
    | inl less ↦ less
    | inr beyond ↦ absurd (let none : count_in counts bucket ≡ 0 = get_or_past counts bucket 0 beyond in
        omega (arith, some, none))
  ]

  count-after : bucket < length counts → count_in after bucket ≡ counted_down (count_in counts bucket)
  count-after less =
      ap (λ cs. count_in cs bucket) is
      ∙ get_or-set_same counts bucket (counted_down (count_in counts bucket)) 0 less

  pub one-less : 0 < width_in counts bucket → (width_in counts bucket ≡ width_in after bucket → ⊥) →
      width_in counts bucket ≡ suc (width_in after bucket)
  one-less some other =
      let down : width_in after bucket ≡ width_of (counted_down (count_in counts bucket)) =
      ap width_of (count-after (counted-within some)) in
      elim (width-down (count_in counts bucket)) [
        | inl same ↦ absurd (other (sym (down ∙ same)))
        | inr more ↦ more ∙ ap suc (sym down)
      ]

  pub was-one : 0 < width_in counts bucket → width_in after bucket ≡ 0 → width_in counts bucket ≡ 1
  was-one some none =
      width-none (count_in counts bucket) some (sym (ap width_of (count-after (counted-within some))) ∙ none)

  -- no bucket gets more parts
  pub widths-less : (b : ℕ) → width_in after b ≤ width_in counts b
  widths-less b = by (cases_eq b bucket) (cases_lt bucket (length counts))
    where
      by : (b ≡ bucket) ⊎ (b ≡ bucket → ⊥) → (bucket < length counts) ⊎ (length counts ≤ bucket) →
          width_in after b ≤ width_in counts b
      by (inl same) (inl less) = subst (λ q. width_in after q ≤ width_in counts q) (sym same)
          (subst (λ w. w ≤ width_in counts bucket) (sym (ap width_of (count-after less)))
          (width-most (count_in counts bucket)))
      by (inl same) (inr beyond) =
          let none : count_in after b ≡ 0 =
          ap (λ cs. count_in cs b) is
          ∙ get_or_past (with_count counts bucket (counted_down (count_in counts bucket))) b 0
          (let long = length-set counts bucket (counted_down (count_in counts bucket)) in
          omega (arith, long, beyond, same)) in
          omega (arith, none)
      by (inr other) known =
          let same : count_in after b ≡ count_in counts b =
          ap (λ cs. count_in cs b) is
          ∙ get_or-set_other counts bucket b (counted_down (count_in counts bucket)) 0 other in
          omega (arith, same)

-- a map with such counts, and with no more pages, tells of less
pub tells-less : (m : EntryMap) (pages : List PageRun) (counts : List ℕ) (bucket : ℕ) →
    ((p : ℕ) → lists pages p ≡ true → lists m.pages p ≡ true) →
    counts ≡ with_count m.counts bucket (counted_down (count_in m.counts bucket)) →
    TellsLess (record { key = m.key; pages = pages; counts = counts }) m
tells-less m pages counts bucket fewer is n (addresses.Page q p) told =
    let parts = and_parts (n == q) (lists pages p) told in
    and_from (n == q) (lists m.pages p) parts.0 (fewer p parts.1)
tells-less m pages counts bucket fewer is n (addresses.Part q b p) told =
    let parts = and_parts (n == q) (nat_lt p (width_in counts b)) told in
    let less = ltb-true p (width_in counts b) parts.1 in
    let most = widths-less m.counts counts bucket is b in
    and_from (n == q) (nat_lt p (width_in m.counts b)) parts.0
    (lt-ltb p (width_in m.counts b) (omega (arith, less, most)))
tells-less m pages counts bucket fewer is n addresses.Exports told = cc
tells-less m pages counts bucket fewer is n (addresses.Inode q) told = cc
tells-less m pages counts bucket fewer is n (addresses.Map file page) told = cc
tells-less m pages counts bucket fewer is n (addresses.Block file index) told = cc
tells-less m pages counts bucket fewer is n addresses.Mounts told = cc
tells-less m pages counts bucket fewer is n (addresses.Usage export group) told = cc
tells-less m pages counts bucket fewer is n (addresses.Locks index) told = cc

-- ---- a name of a part
module _ (key : List ℕ) (d : DraftValue) (n : ℕ) (before after : List ℕ) (name : List ℕ) (part : ℕ)
    (place : part ≡ part_among key (width_in before (bucket_of name)) name)
    (below : part < width_in before (bucket_of name))
    (counts : after ≡ with_count before (bucket_of name) (counted_down (count_in before (bucket_of name)))) where
  abbrev bucket : ℕ
  bucket = bucket_of name

  abbrev width : ℕ
  width = width_in before bucket

  own : is_in_part key width bucket part name ≡ true
  own =
      and_from (bucket == bucket) (nat_lt part width && (part_among key width name == part)) (eq-eqb bucket bucket refl)
      (and_from (nat_lt part width) (part_among key width name == part) (lt-ltb part width below)
      (eq-eqb (part_among key width name) part (sym place)))

  pub absent-part : option_map part_of (known_at d (addresses.Part n bucket part)) ≡ Some None →
      PartsLose key d d n before after name
  absent-part none = record {
    keeps = keeps-none d n bucket;
    counts = counts;
    parts = λ s es fits has. absurd (let told = part-told key d s n bucket part width es None fits below none has in
        let e = told.is in cc);
  }

  -- the only part goes
  pub whole-lost : (new : DraftValue) → new ≡ with_written d (addresses.Part n bucket part) None →
      width_in after bucket ≡ 0 → PartsLose key d new n before after name
  whole-lost new freed none = record {
    keeps = keeps-part d new n bucket part None freed;
    counts = counts;
    parts = λ s es fits has q. subst (λ b. IsPart b (led_in_part key (width_in after bucket) bucket q (without es name))
        ((with_writes s new.writes).at (addresses.Part n bucket q)))
        (sym (le-ltb q (width_in after bucket) (omega (arith, none)))) (by s es has q (cases_eq q part));
  }
    where
      by : (s : Store) (es : List Entry) → HasParts key (with_writes s d.writes) n bucket width es → (q : ℕ) →
          (q ≡ part) ⊎ (q ≡ part → ⊥) → (with_writes s new.writes).at (addresses.Part n bucket q) ≡ None
      by s es has q (inl same) =
          ap (λ p. (with_writes s new.writes).at (addresses.Part n bucket p)) same
          ∙ part-here d new n bucket part None freed s
      by s es has q (inr other) =
          let one = was-one before after bucket counts (omega (arith, below)) none in
          part-there d new n bucket part None freed s q other
          ∙ subst (λ b. IsPart b (led_in_part key width bucket q es)
          ((with_writes s d.writes).at (addresses.Part n bucket q)))
          (le-ltb q width (omega (arith, one, below, other))) (has q)

  -- its part has the others
  module _ (old rest : List Entry)
      (known : option_map part_of (known_at d (addresses.Part n bucket part)) ≡ Some (Some old))
      (is : rest ≡ without old name) (mid : DraftValue)
      (put : mid ≡ with_written d (addresses.Part n bucket part) (Some (objects.Part rest))) where
    keeps-mid : KeepsButBucket d mid n bucket
    keeps-mid = keeps-part d mid n bucket part (Some (objects.Part rest)) put

    parts-mid : (s : Store) (es : List Entry) → Fits d.view s → HasParts key (with_writes s d.writes) n bucket width
        es →
        HasParts key (with_writes s mid.writes) n bucket width (without es name)
    parts-mid s es fits has = by (part-told key d s n bucket part width es (Some old) fits below known has)
      where
        by : PartTold (with_writes s d.writes) (addresses.Part n bucket part) (Some old)
            (led_in_part key width bucket part es) →
            HasParts key (with_writes s mid.writes) n bucket width (without es name)
        by told =
            let same : told.names ≡ old = (let e = told.is in cc) in
            part-lost key (with_writes s d.writes) (with_writes s mid.writes) n bucket width part es told.names
            told.lead below
            (part-there d mid n bucket part (Some (objects.Part rest)) put s) (λ q other. has q) name own
            (part-here d mid n bucket part (Some (objects.Part rest)) put s
            ∙ ap (λ l. Some (objects.Part l)) (is ∙ ap (λ l. without l name) (sym same)))

    pub rest-lost : width ≡ width_in after bucket → PartsLose key d mid n before after name
    rest-lost same = record {
      keeps = keeps-mid;
      counts = counts;
      parts = λ s es fits has. subst (λ w. HasParts key (with_writes s mid.writes) n bucket w (without es name)) same
          (parts-mid s es fits has);
    }

    -- and takes those of the last one
    pub joined-lost : (new : DraftValue) → (width ≡ width_in after bucket → ⊥) →
        Joins mid new n bucket (width_in after bucket) → PartsLose key d new n before after name
    joined-lost new other joins = record {
      keeps = keeps-both d mid new n bucket keeps-mid joins.keeps;
      counts = counts;
      parts = λ s es fits has.
          joins.joins key s (without es name) (subst (λ v. Fits v s) (sym keeps-mid.enters.view) fits)
          (subst (λ w. HasParts key (with_writes s mid.writes) n bucket w (without es name))
          (one-less before after bucket counts (omega (arith, below)) other) (parts-mid s es fits has));
    }
