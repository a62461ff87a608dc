-- What is kept while one object has a name too many or too few: it is right of all others, and of this one once its
-- links and its parent are set, or it is gone.
use Rattle.std.proofs.Common.{◌≡◌, ◌==◌, ℕ, ◌+◌, ◌≤◌, true, false, Bool, cond, List, []}
use Rattle.std.proofs.Common.{◌∷◌, ◌++◌, Some, None, inl, inr, refl, sym, ◌∙◌, ap, subst}
use Rattle.std.proofs.Common.{arith}
use Rattle.std.proofs.lemmas.List.Sums.{sum_by-append}
use Rattle.std.specs.Cmp.{nat_cmp_total, nat_eq_equiv, unsigned_Decides}
use Rattle.std.specs.FinMap.{FinMap, get, insert, nat_cmp-IsAntisymmetric, same_map}
use Rattle.std.specs.List.{AllByRecursion, count_by, sum_by}
use Rattle.std.specs.Ordering.{nat_cmp}
use Rattle.nfs_machine.proofs.MapChangeLemmas.{apart, count-without, differs-other, differs-remove, find-all}
use Rattle.nfs_machine.proofs.MapChangeLemmas.{flipped}
use Rattle.nfs_machine.proofs.LooseLemmas.{AddsName, Comes, Loose, TakesName, also, loosened, names_in-added}
use Rattle.nfs_machine.proofs.LooseLemmas.{names_of-added}
use Rattle.nfs_machine.proofs.LooseLemmas.{names_of-come, names_of-swapped, names_of-taken, none_loose, swapped}
use Rattle.nfs_machine.proofs.LooseLemmas as loose
use Rattle.nfs_machine.proofs.MapSumLemmas.{get-inserted}
use Rattle.nfs_machine.proofs.WellFormedLemmas.{Alike, KeepsNames, LivesOn, counts-on, is_subdirectory, links-alike}
use Rattle.nfs_machine.proofs.WellFormedLemmas.{links-names, links-same, parent-alike, parent-on, replaced-alike}
use Rattle.nfs_machine.proofs.WellFormedLemmas.{replaced-names}
use Rattle.nfs_machine.specs.Attributes.{entries_of, is_directory, is_living_directory, links_of, names_in, names_of}
use Rattle.nfs_machine.specs.Attributes.{used_of}
use Rattle.nfs_machine.specs.Bytes.{same_bytes}
use Rattle.nfs_machine.specs.RemoveSteps.{without, without_object}
use Rattle.nfs_machine.specs.Shown.{with_object}
use Rattle.nfs_machine.specs.State.{Content, Entry, Living, State}
use Rattle.nfs_machine.specs.WellFormed.{IsParent, Leads, NamesOnce, WellFormed, is_root}
use Rattle.nfs_objects.proofs.UsageSumLemmas.{AllFit, counted-sums}
use Rattle.nfs_objects.specs.Edits.{freed, set_at, with_living}
use Rattle.nfs_objects.specs.Sound.{Sound}
use Rattle.nfs_objects.specs.Stands.{StoreMeaning}
use Rattle.nfs_objects.specs.Sums.{usage_in}
use Rattle.nfs_inodes.proofs.KeptBesideLemmas.{replaced-usage}
use Rattle.nfs_inodes.specs.Makes.{removed}

pub record SoundBut (n : ℕ) (k : StoreMeaning) : Type 0 where
  pub links : (q : ℕ) (o : Living) → get k.state.objects q ≡ Some o → (q == n) ≡ false →
      k.links q ≡ links_of k.state q o.content
  pub parents : (q : ℕ) (o : Living) → get k.state.objects q ≡ Some o → (q == n) ≡ false →
      is_directory o.content ≡ true → IsParent k.state q (k.parents q)
  pub usage : (e g : ℕ) → k.usage e g ≡ usage_in k.state e g

pub sound-but : (n : ℕ) (k : StoreMeaning) → Sound k → SoundBut n k
sound-but n k sound = record {
  links = λ q o at other. sound.links q o at;
  parents = λ q o at other dir. sound.parents q o at dir;
  usage = sound.usage;
}

-- ---- maps
-- what is kept at each number, where this was put at one
pub at-each : (objects : FinMap nat_cmp Living) (n : ℕ) (new : Living) (kept : ℕ → ℕ) (value : ℕ)
    (P : ℕ → Living → ℕ → Type 0) → P n new value
    → ((q : ℕ) (o : Living) → get objects q ≡ Some o → (q == n) ≡ false → P q o (kept q))
    → (q : ℕ) (o : Living) → get (insert objects n new) q ≡ Some o → P q o (set_at kept n value q)
at-each objects n new kept value P here there q o at =
    elim (n == q) as (λ b. (n == q) ≡ b → cond b (Some new) (get objects q) ≡ Some o →
    P q o (cond b value (kept q))) [
      | true ↦ λ same is. subst (λ j. P j o value) ((unsigned_Decides n q).0 same)
          (subst (λ x. P n x value) (let e : new ≡ o = cc in e) here)
      | false ↦ λ other is. there q o is (flipped n q other)
    ] refl (ap (λ b. cond b (Some new) (get objects q)) (nat_eq_equiv.symm n q) ∙ sym (get-inserted objects n new q)
    ∙ at)

-- what stands there already
pub insert-same : (objects : FinMap nat_cmp Living) (n : ℕ) (o : Living) → get objects n ≡ Some o →
    insert objects n o ≡ objects
insert-same objects n o at = same_map nat_cmp_total nat_cmp-IsAntisymmetric _ _ (λ q.
    get-inserted objects n o q
    ∙ elim (q == n) as (λ b. (q == n) ≡ b → cond b (Some o) (get objects q) ≡ get objects q) [
      | true ↦ λ e. sym (ap (get objects) ((unsigned_Decides q n).0 e) ∙ at)
      | false ↦ λ e. refl
    ] refl)

-- the same of what is kept, as far as it goes
pub sound-as : (a b : StoreMeaning) → a.state ≡ b.state → ((q : ℕ) → a.links q ≡ b.links q) →
    ((q : ℕ) → a.parents q ≡ b.parents q) → ((e g : ℕ) → a.usage e g ≡ b.usage e g) → Sound a → Sound b
sound-as a b state links parents usage sound =
    let same : a ≡ b = λ i. record {
      state = state i;
      links = λ q. links q i;
      parents = λ q. parents q i;
      usage = λ e g. usage e g i;
    } in
    subst Sound same sound

-- ---- the object has its links and its parent
module _ (k : StoreMeaning) (n : ℕ) (o new : Living) (lives : get k.state.objects n ≡ Some o) (keeps : KeepsNames o new)
    (used : used_of new.content ≡ used_of o.content) (but : SoundBut n k) (links parent : ℕ)
    (linked : links ≡ links_of k.state n o.content) (under : is_directory o.content ≡ true →
    IsParent k.state n parent) where
  abbrev put : State
  put = with_object k.state n new

  alike : (q : ℕ) → Alike (get k.state.objects q) (get put.objects q)
  alike = replaced-alike k.state n o new lives keeps

  put-links : (q : ℕ) (c : Content) → links_of put q c ≡ links_of k.state q c
  put-links = links-alike k.state put alike (replaced-names k.state n o new lives keeps)

  links-here : links ≡ links_of k.state n new.content
  links-here =
      linked
      ∙ elim (is_directory o.content) as (λ b. is_directory o.content ≡ b → links_of k.state n o.content ≡
      links_of k.state n new.content) [
        | true ↦ λ e. ap (links_of k.state n) (sym (keeps.content e))
        | false ↦ λ e. links-names k.state n o.content e
            ∙ sym (links-names k.state n new.content (keeps.kind ∙ e))
      ] refl

  put-linked : (q : ℕ) (p : Living) → get put.objects q ≡ Some p → set_at k.links n links q ≡ links_of put q
      p.content
  put-linked = at-each k.state.objects n new k.links links (λ q p l. l ≡ links_of put q p.content)
      (links-here ∙ sym (put-links n new.content))
      (λ q p at other. but.links q p at other ∙ sym (put-links q p.content))

  put-under : (q : ℕ) (p : Living) → get put.objects q ≡ Some p → is_directory p.content ≡ true →
      IsParent put q (set_at k.parents n parent q)
  put-under = at-each k.state.objects n new k.parents parent (λ q p l. is_directory p.content ≡ true →
      IsParent put q l)
      (λ dir. parent-alike k.state put alike refl n parent (under (sym keeps.kind ∙ dir)))
      (λ q p at other dir. parent-alike k.state put alike refl q (k.parents q) (but.parents q p at other dir))

  pub put-sound : Sound (with_living k n new links parent)
  put-sound = record {
    links = put-linked;
    parents = put-under;
    usage = λ e g. but.usage e g ∙ sym (replaced-usage k n o new links parent lives keeps.export used e g);
  }

-- ---- the object goes, which contains no name and has none
module _ (k : StoreMeaning) (n : ℕ) (o : Living) (lives : get k.state.objects n ≡ Some o)
    (empty : entries_of o.content ≡ []) (nameless : names_of k.state n ≡ 0)
    (no_root : is_root k.state n ≡ false) (l : Loose (also n none_loose) k.state) (but : SoundBut n k) where
  abbrev gone : State
  gone = without_object k.state n

  goes : Comes k.state gone n (Some o) None
  goes = record {
    lives = lives;
    objects = differs-remove k.state.objects n;
    nameless = nameless;
    was_empty = empty;
    is_empty = tt;
    is_new = tt;
    no_root = no_root;
    spent = λ n g e. e;
    keeps = record { exports = refl; last = refl };
  }

  -- what lives then is another, and lived
  lived : (q : ℕ) (p : Living) → get gone.objects q ≡ Some p →
      ((q == n) ≡ false) × (get k.state.objects q ≡ Some p)
  lived q p at =
      elim (q == n) as (λ b. (q == n) ≡ b → cond b None (get k.state.objects q) ≡ Some p →
      ((q == n) ≡ false) × (get k.state.objects q ≡ Some p)) [
        | true ↦ λ e none. cc
        | false ↦ λ e there. (e, there)
      ] refl (sym (differs-remove k.state.objects n q) ∙ at)

  -- what has a name is another, and lives on
  on-gone : (q : ℕ) (p : Living) → get k.state.objects q ≡ Some p → 1 ≤ names_of k.state q →
      LivesOn gone q p
  on-gone q p at some =
      let other : (q == n) ≡ false = apart q n (λ same.
      let none : names_of k.state q ≡ 0 = subst (λ j. names_of k.state j ≡ 0) (sym same) nameless in
      absurd (omega (arith, some, none))) in
      record {
        object = p;
        lives = differs-other k.state.objects gone.objects n None (differs-remove k.state.objects n) q other ∙ at;
        export = refl;
        kind = refl;
      }

  kept-freed : (kept : ℕ → ℕ) (q : ℕ) → (q == n) ≡ false → set_at kept n 0 q ≡ kept q
  kept-freed kept q other = ap (λ b. cond b 0 (kept q)) (flipped q n other)

  freed-linked : (q : ℕ) (p : Living) → get gone.objects q ≡ Some p → set_at k.links n 0 q ≡ links_of gone q
      p.content
  freed-linked q p at =
      let there = lived q p at in
      kept-freed k.links q there.0 ∙ but.links q p there.1 there.0
      ∙ sym (links-same k.state gone q p.content (names_of-come k.state gone n (Some o) None goes q)
      (counts-on k.state gone on-gone q p there.1 (l.names q p there.1).leads))

  -- the parent of another lives on
  parent-other : (q parent : ℕ) → (q == n) ≡ false → IsParent k.state q parent → IsParent gone q parent
  parent-other q parent other p =
      let away : (parent == n) ≡ false = elim p.named_in [
        | inl root ↦ subst (λ x. (x == n) ≡ false) (sym root.0) other
        | inr named ↦ apart parent n (λ same.
            let both : Some o ≡ Some p.directory = sym lives ∙ ap (get k.state.objects) (sym same) ∙ p.lives in
            let is : o ≡ p.directory = cc in
            let none : names_in q p.directory ≡ 0 = ap (names_in q) (sym is)
            ∙ ap (count_by (λ (e : Entry). e.number == q)) empty in
            absurd (omega (arith, named, none)))
      ] in
      parent-on k.state gone q parent p p.directory (differs-other k.state.objects gone.objects n None
      (differs-remove k.state.objects n) parent away ∙ p.lives) refl (omega arith)

  freed-under : (q : ℕ) (p : Living) → get gone.objects q ≡ Some p → is_directory p.content ≡ true →
      IsParent gone q (set_at k.parents n 0 q)
  freed-under q p at dir =
      let there = lived q p at in
      subst (IsParent gone q) (sym (kept-freed k.parents q there.0))
      (parent-other q (k.parents q) there.0 (but.parents q p there.1 there.0 dir))

  pub freed-sound : AllFit (freed k n).state → Sound (removed n k)
  freed-sound fit = record {
    links = freed-linked;
    parents = freed-under;
    usage = counted-sums k (freed k n) n
        (λ q apart. differs-other k.state.objects gone.objects n None (differs-remove k.state.objects n) q
        (flipped n q apart)) but.usage (λ e g. refl) fit;
  }

-- ---- a name is taken away
module _ (k : StoreMeaning) (place : ℕ) (directory narrower : Living) (name : List ℕ) (e : Entry)
    (t : TakesName k.state (with_object k.state place narrower) place directory narrower name e)
    (formed : WellFormed k.state) (sound : Sound k) where
  abbrev taken : State
  taken = with_object k.state place narrower

  on-taken : (n : ℕ) (o : Living) → get k.state.objects n ≡ Some o → 1 ≤ names_of k.state n →
      LivesOn taken n o
  on-taken n o at some = loose.lives-on k.state taken place directory narrower t.swaps n o at

  counts-taken : (n : ℕ) (o : Living) → get k.state.objects n ≡ Some o → count_by (is_subdirectory taken)
      (entries_of o.content) ≡ count_by (is_subdirectory k.state) (entries_of o.content)
  counts-taken n o at = counts-on k.state taken on-taken n o at (formed.names n o at).leads

  pub names-taken : (n : ℕ) → names_of taken n + cond (e.number == n) 1 0 ≡ names_of k.state n
  names-taken n = names_of-taken k.state taken place directory narrower name e t none_loose
      (loosened none_loose k.state formed) n

  -- what it led to is a directory where it was one
  subdirectory-kept : is_subdirectory taken e ≡ is_subdirectory k.state e
  subdirectory-kept =
      let leads = find-all (Leads k.state directory) (λ (x : Entry). same_bytes x.name name) t.entries e
      (subst (AllByRecursion (Leads k.state directory)) (ap entries_of t.content)
      (formed.names place directory t.swaps.lives).leads) t.found in
      let lives = loose.lives-on k.state taken place directory narrower t.swaps e.number leads.object leads.lives in
      ap is_living_directory lives.lives ∙ lives.kind ∙ sym (ap is_living_directory leads.lives)

  -- the links of the directory are one less where it led to one
  pub links-narrower : links_of taken place narrower.content + cond (is_subdirectory k.state e) 1 0 ≡ links_of k.state
      place directory.content
  links-narrower =
      let is : links_of taken place narrower.content ≡ 2 + count_by (is_subdirectory taken) (without t.entries name) =
      ap (links_of taken place) t.narrower_content in
      let was : links_of k.state place directory.content ≡ 2 + count_by (is_subdirectory k.state) t.entries =
      ap (links_of k.state place) t.content in
      let kept : count_by (is_subdirectory taken) t.entries ≡ count_by (is_subdirectory k.state) t.entries =
      subst (λ es. count_by (is_subdirectory taken) es ≡ count_by (is_subdirectory k.state) es)
      (ap entries_of t.content) (counts-taken place directory t.swaps.lives) in
      let one = count-without (is_subdirectory taken) name t.entries e
      (subst NamesOnce (ap entries_of t.content) (formed.names place directory t.swaps.lives).once) t.found in
      let same : cond {A = ℕ} (is_subdirectory taken e) 1 0 ≡ cond (is_subdirectory k.state e) 1 0 =
      ap (λ b. cond b 1 0) subdirectory-kept in
      omega (arith, is, was, kept, one, same)

  -- those of what else lives are as they were
  pub links-taken : (q : ℕ) (o : Living) → get k.state.objects q ≡ Some o → (q == e.number) ≡ false →
      links_of taken q o.content ≡ links_of k.state q o.content
  links-taken q o at other =
      let none : cond {A = ℕ} (e.number == q) 1 0 ≡ 0 = ap (λ b. cond b 1 0) (flipped q e.number other) in
      let names : names_of taken q ≡ names_of k.state q = omega (arith, names-taken q, none) in
      links-same k.state taken q o.content names (counts-taken q o at)

  pub parent-taken : (q parent : ℕ) → (q == e.number) ≡ false → IsParent k.state q parent →
      IsParent taken q parent
  parent-taken q parent other p =
      let none : cond {A = ℕ} (e.number == q) 1 0 ≡ 0 = ap (λ b. cond b 1 0) (flipped q e.number other) in
      let o = swapped k.state taken place directory narrower t.swaps (λ (x y : Living). names_in q x ≤ names_in q y)
      (λ x. omega arith)
      (omega (arith, names-taken q, none, names_of-swapped k.state taken place directory narrower t.swaps q)) parent
      p.directory p.lives in
      parent-on k.state taken q parent p o.0 o.1 refl o.2

  module _ (links : ℕ) (less : links + cond (is_subdirectory k.state e) 1 0 ≡ k.links place) where
    linked-taken : (q : ℕ) (o : Living) → get taken.objects q ≡ Some o → (q == e.number) ≡ false →
        set_at k.links place links q ≡ links_of taken q o.content
    linked-taken = at-each k.state.objects place narrower k.links links (λ q o l. (q == e.number) ≡ false →
        l ≡ links_of taken q o.content)
        (λ other. omega (arith, less, links-narrower, sound.links place directory t.swaps.lives))
        (λ q o at apart other. sound.links q o at ∙ sym (links-taken q o at other))

    under-taken : (q : ℕ) (o : Living) → get taken.objects q ≡ Some o → (q == e.number) ≡ false →
        is_directory o.content ≡ true → IsParent taken q (set_at k.parents place (k.parents place) q)
    under-taken = at-each k.state.objects place narrower k.parents (k.parents place)
        (λ q o l. (q == e.number) ≡ false → is_directory o.content ≡ true → IsParent taken q l)
        (λ other dir. parent-taken place (k.parents place) other
        (sound.parents place directory t.swaps.lives (sym t.swaps.kind ∙ dir)))
        (λ q o at apart other dir. parent-taken q (k.parents q) other (sound.parents q o at dir))

    pub taken-but : SoundBut e.number (with_living k place narrower links (k.parents place))
    taken-but = record {
      links = linked-taken;
      parents = under-taken;
      usage = λ e g. sound.usage e g ∙ sym (replaced-usage k place directory narrower links (k.parents place)
          t.swaps.lives t.swaps.export (ap used_of t.narrower_content ∙ sym (ap used_of t.content)) e g);
    }

-- ---- an object gets a name
module _ (k : StoreMeaning) (place number : ℕ) (directory wider object : Living) (name : List ℕ)
    (a : AddsName k.state (with_object k.state place wider) place number directory wider object name)
    (any : ℕ → Bool) (l : Loose any k.state) (but : SoundBut number k) where
  abbrev added : State
  added = with_object k.state place wider

  on-added : (n : ℕ) (o : Living) → get k.state.objects n ≡ Some o → 1 ≤ names_of k.state n →
      LivesOn added n o
  on-added n o at some = loose.lives-on k.state added place directory wider a.swaps n o at

  counts-added : (n : ℕ) (o : Living) → get k.state.objects n ≡ Some o → count_by (is_subdirectory added)
      (entries_of o.content) ≡ count_by (is_subdirectory k.state) (entries_of o.content)
  counts-added n o at = counts-on k.state added on-added n o at (l.names n o at).leads

  pub names-added : (n : ℕ) → names_of added n ≡ names_of k.state n + cond (number == n) 1 0
  names-added n = names_of-added k.state added place number directory wider object name a n

  -- the links of the directory are one more where it is one
  pub links-wider : links_of added place wider.content ≡ links_of k.state place directory.content + cond
      (is_directory object.content) 1 0
  links-wider =
      let test : Entry → ℕ = λ (e : Entry). cond (is_subdirectory added e) 1 0 in
      let entry : Entry = record { name = name; number = number; cookie = a.last + 1 } in
      let is : links_of added place wider.content ≡ 2 + sum_by test (a.entries ++ entry ∷ []) =
      ap (links_of added place) a.wider_content in
      let was : links_of k.state place directory.content ≡ 2 + count_by (is_subdirectory k.state) a.entries =
      ap (links_of k.state place) a.content in
      let kept : sum_by test a.entries ≡ count_by (is_subdirectory k.state) a.entries =
      subst (λ es. count_by (is_subdirectory added) es ≡ count_by (is_subdirectory k.state) es)
      (ap entries_of a.content) (counts-added place directory a.swaps.lives) in
      let alone : sum_by test (entry ∷ []) ≡ cond (is_living_directory (get added.objects number)) 1 0 =
      omega arith in
      let lives = loose.lives-on k.state added place directory wider a.swaps number object a.lives in
      let one : cond {A = ℕ} (is_living_directory (get added.objects number)) 1 0 ≡ cond
      (is_directory object.content) 1 0 = ap (λ o. cond (is_living_directory o) 1 0) lives.lives
      ∙ ap (λ b. cond b 1 0) lives.kind in
      omega (arith, is, was, kept, alone, one, sum_by-append test a.entries (entry ∷ []))

  pub links-added : (q : ℕ) (o : Living) → get k.state.objects q ≡ Some o → (q == number) ≡ false →
      links_of added q o.content ≡ links_of k.state q o.content
  links-added q o at other =
      let none : cond {A = ℕ} (number == q) 1 0 ≡ 0 = ap (λ b. cond b 1 0) (flipped q number other) in
      let names : names_of added q ≡ names_of k.state q = omega (arith, names-added q, none) in
      links-same k.state added q o.content names (counts-added q o at)

  -- of the object itself: what is no directory has one more
  pub links-named : is_directory object.content ≡ false → links_of added number object.content ≡ links_of k.state
      number object.content + 1
  links-named plain =
      let one : cond {A = ℕ} (number == number) 1 0 ≡ 1 =
      ap (λ b. cond b 1 0) ((unsigned_Decides number number).1 refl) in
      omega (
        arith,
        one,
        names-added number,
        links-names added number object.content plain,
        links-names k.state number
            object.content plain,
      )

  pub parent-added : (q parent : ℕ) → IsParent k.state q parent → IsParent added q parent
  parent-added q parent p =
      let o = swapped k.state added place directory wider a.swaps (λ (x y : Living). names_in q x ≤ names_in q y)
      (λ x. omega arith)
      (omega (arith, names_in-added k.state added place number directory wider object name a q)) parent p.directory
      p.lives in
      parent-on k.state added q parent p o.0 o.1 refl o.2

  module _ (links : ℕ) (more : links ≡ k.links place + cond (is_directory object.content) 1 0)
      (other-place : (place == number) ≡ false) where
    linked-added : (q : ℕ) (o : Living) → get added.objects q ≡ Some o → (q == number) ≡ false →
        set_at k.links place links q ≡ links_of added q o.content
    linked-added = at-each k.state.objects place wider k.links links (λ q o l. (q == number) ≡ false →
        l ≡ links_of added q o.content)
        (λ other. omega (arith, more, links-wider, but.links place directory a.swaps.lives other-place))
        (λ q o at apart other. but.links q o at other ∙ sym (links-added q o at other))

    under-added : (q : ℕ) (o : Living) → get added.objects q ≡ Some o → (q == number) ≡ false →
        is_directory o.content ≡ true → IsParent added q (set_at k.parents place (k.parents place) q)
    under-added = at-each k.state.objects place wider k.parents (k.parents place) (λ q o l. (q == number) ≡ false →
        is_directory o.content ≡ true → IsParent added q l)
        (λ other dir. parent-added place (k.parents place) (but.parents place directory a.swaps.lives other
        (sym a.swaps.kind ∙ dir)))
        (λ q o at apart other dir. parent-added q (k.parents q) (but.parents q o at other dir))

    pub added-but : SoundBut number (with_living k place wider links (k.parents place))
    added-but = record {
      links = linked-added;
      parents = under-added;
      usage = λ e g. but.usage e g ∙ sym (replaced-usage k place directory wider links (k.parents place)
          a.swaps.lives a.swaps.export (ap used_of a.wider_content ∙ sym (ap used_of a.content)) e g);
    }
