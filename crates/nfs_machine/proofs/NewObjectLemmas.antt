-- A new object under a new name: it comes without a name and gets one, so names lead to it once, other names and links
-- stay, and what is true of every state stays true.
use Rattle.std.proofs.Common.{
  ◌≡◌,
  ◌==◌,
  ℕ,
  ◌+◌,
  ◌≤◌,
  true,
  false,
  cond,
  List,
  [],
  ◌∷◌,
  ◌++◌,
  Some,
  None,
  find,
  inr,
  refl,
  sym,
  ◌∙◌,
  ap,
  subst,
  arith,
}
use Rattle.std.proofs.lemmas.List.Sums.{sum_by-append, sum_by-cons}
use Rattle.std.specs.Cmp.{unsigned_Decides}
use Rattle.std.specs.FinMap.{FinMap, get, insert}
use Rattle.std.specs.List.{AllByRecursion, count_by, sum_by}
use Rattle.std.specs.Ordering.{nat_cmp}
use Rattle.nfs_machine.specs.Attributes.{entries_of, is_directory, is_living_directory, links_of, names_in, names_of}
use Rattle.nfs_machine.specs.Bytes.{same_bytes}
use Rattle.nfs_machine.specs.Laws.{KeepsExports}
use Rattle.nfs_machine.specs.RenameSteps.{IsWithin}
use Rattle.nfs_machine.specs.State.{Directory, Entry, Living, State}
use Rattle.nfs_machine.specs.WellFormed.{IsParent, Leads, WellFormed}
use Rattle.nfs_machine.proofs.MapChangeLemmas.{
  Differs,
  apart,
  differs-insert,
  differs-other,
  differs-there,
  flipped,
  itself,
}
use Rattle.nfs_machine.proofs.ExportedLemmas.{exported-on, free-no_root}
use Rattle.nfs_machine.proofs.LooseLemmas.{
  AddsName,
  Beside,
  Comes,
  Loose,
  Swaps,
  also,
  loose-added,
  loose-come,
  loosened,
}
use Rattle.nfs_machine.proofs.LooseLemmas.{
  names_in-added,
  names_of-added,
  names_of-come,
  none_loose,
  swapped,
  tightened,
}
use Rattle.nfs_machine.proofs.LooseLemmas as swaps
use Rattle.nfs_machine.proofs.MapSumLemmas.{get-inserted, sum-none}
use Rattle.nfs_machine.proofs.WellFormedLemmas.{LivesOn, counts-on, is_subdirectory, links-by, links-same, parent-on}
use Rattle.nfs_machine.proofs.WellFormedLemmas.{root-same}
use Rattle.nfs_machine.proofs.WithinLemmas.{deepened, depth, within-empty}

-- a new object under a new name of a directory: what the directory and the object are then, in a state in which nothing
-- else changes
pub record MakesEntry (old new : State) (place number : ℕ) (directory wider made : Living) (name : List ℕ) : Type
    0 where
  pub entries : List Entry
  pub last : ℕ
  pub lives : get old.objects place ≡ Some directory
  pub content : directory.content ≡ Directory entries last
  pub absent : find (λ (e : Entry). same_bytes e.name name) entries ≡ None
  pub free : get old.objects number ≡ None
  pub objects : new.objects ≡ insert (insert old.objects place wider) number made
  -- the name takes the cookie one above the greatest ever used
  pub wider_content : wider.content ≡ Directory (entries ++ record { name = name; number = number; cookie = last + 1 } ∷
      []) (last + 1)
  pub wider_export : wider.export ≡ directory.export
  pub wider_generation : wider.generation ≡ directory.generation
  pub made_export : made.export ≡ directory.export
  -- the object contains no names
  pub made_entries : entries_of made.content ≡ []
  pub made_cookies : (last : ℕ) → made.content ≡ Directory [] last → 2 ≤ last
  pub given : new.spent number made.generation ≡ true
  pub spent : (n g : ℕ) → old.spent n g ≡ true → new.spent n g ≡ true
  pub keeps : KeepsExports old new

module _ (old new : State) (place number : ℕ) (directory wider made : Living) (name : List ℕ)
    (makes : MakesEntry old new place number directory wider made name) where
  -- what lived before has another number
  lives-apart : (n : ℕ) (o : Living) → get old.objects n ≡ Some o → (n == number) ≡ false
  lives-apart n o at = apart n number (λ same. (let none : get old.objects n ≡ None = ap (get old.objects) same
      ∙ makes.free in cc))

  -- with the object, before it has its name
  abbrev mid : State
  mid = record new { objects = insert old.objects number made }

  made-there : get mid.objects number ≡ Some made
  made-there = differs-there old.objects mid.objects number (Some made) (differs-insert old.objects number made)

  stays : (n : ℕ) (o : Living) → get old.objects n ≡ Some o → get mid.objects n ≡ Some o
  stays n o at = differs-other old.objects mid.objects number (Some made) (differs-insert old.objects number made) n
      (lives-apart n o at) ∙ at

  -- the same as where the directory changes first
  name-alone : Differs mid.objects new.objects place (Some wider)
  name-alone q =
      ap (λ (f : FinMap nat_cmp Living). get f q) makes.objects
      ∙ get-inserted (insert old.objects place wider) number made q
      ∙ ap (cond (q == number) (Some made)) (get-inserted old.objects place wider q)
      ∙ elim (q == place) as (λ b. (q == place) ≡ b
      → cond (q == number) (Some made) (cond b (Some wider) (get old.objects q)) ≡ cond b (Some wider)
      (cond (q == number) (Some made) (get old.objects q))) [
        | true ↦ λ e. ap (λ b. cond b (Some made) (Some wider))
            (subst (λ k. (k == number) ≡ false) (sym ((unsigned_Decides q place).0 e))
            (lives-apart place directory makes.lives))
        | false ↦ λ e. refl
      ] refl
      ∙ ap (cond (q == place) (Some wider)) (sym (get-inserted old.objects number made q))

  widens : Swaps mid new place directory wider
  widens = record {
    lives = stays place directory makes.lives;
    objects = name-alone;
    export = makes.wider_export;
    generation = makes.wider_generation;
    kind = ap is_directory makes.wider_content ∙ sym (ap is_directory makes.content);
    spent = λ n g e. e;
    keeps = record { exports = refl; last = refl };
  }

  -- what lived before lives on
  pub lives-on : (n : ℕ) (o : Living) → get old.objects n ≡ Some o → LivesOn new n o
  lives-on n o at = swaps.lives-on mid new place directory wider widens n o (stays n o at)

  module _ (w : WellFormed old) where
    -- no name led to what did not live
    unnamed : names_of old number ≡ 0
    unnamed = sum-none (names_in number) old.objects (λ q v at. none v (entries_of v.content) (w.names q v at).leads)
      where
        none : (v : Living) (es : List Entry) → AllByRecursion (Leads old v) es
            → count_by (λ (e : Entry). e.number == number) es ≡ 0
        none v [] all = refl
        none v (e ∷ es) all =
            let here : cond {A = ℕ} (e.number == number) 1 0 ≡ 0 = ap (λ b. cond b 1 0)
            (lives-apart e.number (all.0).object (all.0).lives) in
            let there : sum_by (λ (e : Entry). cond {A = ℕ} (e.number == number) 1 0) es ≡ 0 = none v es all.1 in
            omega (arith, here, there, sum_by-cons (λ (e : Entry). cond {A = ℕ} (e.number == number) 1 0) e es)

    comes : Comes old mid number None (Some made)
    comes = record {
      lives = makes.free;
      objects = differs-insert old.objects number made;
      nameless = unnamed;
      was_empty = tt;
      is_empty = makes.made_entries;
      is_new = record {
        cookies = makes.made_cookies;
        given = makes.given;
        exported = exported-on old new makes.keeps directory made makes.made_export
            (w.exported place directory makes.lives);
      };
      no_root = free-no_root old w.exports number makes.free;
      spent = makes.spent;
      keeps = record { exports = makes.keeps.exports; last = makes.keeps.last };
    }

    adds : AddsName mid new place number directory wider made name
    adds = record {
      swaps = widens;
      entries = makes.entries;
      last = makes.last;
      content = makes.content;
      absent = makes.absent;
      wider_content = makes.wider_content;
      lives = made-there;
      export = makes.made_export;
      no_root = root-same old new makes.keeps.exports number ∙ free-no_root old w.exports number makes.free;
      nameless = λ kind. names_of-come old mid number None (Some made) comes number ∙ unnamed;
    }

    comes-loose : Loose (also number none_loose) mid
    comes-loose = loose-come old mid number None (Some made) comes none_loose (loosened (also number none_loose) old w)

    -- its directory is not within it
    out : IsWithin mid number place → ⊥
    out within =
        let same : place ≡ number = within-empty mid number made made-there makes.made_entries number place within
        refl in
        let no : true ≡ false = sym ((unsigned_Decides place number).1 same)
        ∙ lives-apart place directory makes.lives in cc

    pub well_formed-made : Beside new → WellFormed new
    well_formed-made beside =
        tightened new beside (loose-added mid new place number directory wider made name adds none_loose comes-loose
        (depth mid (also number none_loose) comes-loose number made made-there place directory
        (stays place directory makes.lives) (ap is_directory makes.content) out)
        (deepened mid (also number none_loose) comes-loose number made made-there place directory
        (stays place directory makes.lives) (ap is_directory makes.content) out))

    -- ---- names: one leads to the new object
    names_in-wider : (n : ℕ) → names_in n wider ≡ names_in n directory + cond (number == n) 1 0
    names_in-wider n = names_in-added mid new place number directory wider made name adds n

    names_of-new : (n : ℕ) → names_of new n ≡ names_of old n + cond (number == n) 1 0
    names_of-new n = omega (
      arith,
      names_of-added mid new place number directory wider made name adds n,
      names_of-come
          old mid number None (Some made) comes n,
    )

    pub names_of-kept : (n : ℕ) (o : Living) → get old.objects n ≡ Some o → names_of new n ≡ names_of old n
    names_of-kept n o at =
        let none : cond {A = ℕ} (number == n) 1 0 ≡ 0 = ap (λ b. cond b 1 0) (flipped n number (lives-apart n o at)) in
        omega (arith, names_of-new n, none)

    itself-named : cond {A = ℕ} (number == number) 1 0 ≡ 1
    itself-named = ap (λ b. cond b 1 0) (itself number)

    names_of-made : names_of new number ≡ 1
    names_of-made = omega (arith, names_of-new number, unnamed, itself-named)

    -- ---- parents
    -- a directory keeps its parent, and the new object's is the directory of its name
    pub parent-kept : (n parent : ℕ) → IsParent old n parent → IsParent new n parent
    parent-kept n parent p =
        let o = swapped mid new place directory wider widens (λ (x y : Living). names_in n x ≤ names_in n y)
        (λ x. omega arith) (omega (arith, names_in-wider n)) parent p.directory
        (stays parent p.directory p.lives) in
        parent-on old new n parent p o.0 o.1 makes.keeps.exports o.2

    pub parent-made : IsParent new number place
    parent-made = record {
      directory = wider;
      lives = differs-there mid.objects new.objects place (Some wider) name-alone;
      named_in = inr (omega (arith, names_in-wider number, itself-named));
    }

    -- ---- links
    counts-kept : (n : ℕ) (o : Living) → get old.objects n ≡ Some o
        → count_by (is_subdirectory new) (entries_of o.content) ≡ count_by (is_subdirectory old) (entries_of o.content)
    counts-kept n o at = counts-on old new (λ k p there some. lives-on k p there) n o at (w.names n o at).leads

    -- of each object that lived before, but for the directory that has the new name
    pub links-kept : (n : ℕ) (o : Living) → get old.objects n ≡ Some o
        → links_of new n o.content ≡ links_of old n o.content
    links-kept n o at = links-same old new n o.content (names_of-kept n o at) (counts-kept n o at)

    -- of that directory: one more where the new object is a directory
    pub links-wider : links_of new place wider.content ≡ links_of old place directory.content + cond
        (is_directory made.content) 1 0
    links-wider =
        let test : Entry → ℕ = λ (e : Entry). cond (is_subdirectory new e) 1 0 in
        let entry : Entry = record { name = name; number = number; cookie = makes.last + 1 } in
        let is : links_of new place wider.content ≡ 2 + sum_by test (makes.entries ++ entry ∷ []) = ap
        (links_of new place) makes.wider_content in
        let was : links_of old place directory.content ≡ 2 + count_by (is_subdirectory old) makes.entries = ap
        (links_of old place) makes.content in
        let kept : sum_by test makes.entries ≡ count_by (is_subdirectory old) makes.entries = subst
        (λ es. count_by (is_subdirectory new) es ≡ count_by (is_subdirectory old) es) (ap entries_of makes.content)
        (counts-kept place directory makes.lives) in
        let alone : sum_by test (entry ∷ []) ≡ cond (is_living_directory (get new.objects number)) 1 0 = omega arith in
        let lives : get new.objects number ≡ Some made = differs-other mid.objects new.objects place (Some wider)
        name-alone number (flipped place number (lives-apart place directory makes.lives)) ∙ made-there in
        let one : cond {A = ℕ} (is_living_directory (get new.objects number)) 1 0 ≡ cond (is_directory made.content) 1
        0 = ap (λ o. cond (is_living_directory o) 1 0) lives in
        omega (arith, is, was, kept, alone, one, sum_by-append test makes.entries (entry ∷ []))

    -- and of the new object
    pub links-made : links_of new number made.content ≡ cond (is_directory made.content) 2 1
    links-made =
        links-by new number made.content
        ∙ ap (λ es. cond (is_directory made.content) (2 + count_by (is_subdirectory new) es) (names_of new number))
        makes.made_entries
        ∙ ap (cond (is_directory made.content) 2) names_of-made
