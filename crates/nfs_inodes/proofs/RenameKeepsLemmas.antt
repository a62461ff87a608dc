-- What RENAME leaves of what is kept beside the state: links, parents and usages. No store is named here.
use Rattle.std.proofs.Common.{◌≡◌, ◌==◌, ℕ, ◌+◌, ◌-◌, ◌≤◌, ◌<◌, true, false, Bool, not}
use Rattle.std.proofs.Common.{cond, ◌||◌, ◌&&◌, nat_le, List, [], ◌∷◌, ◌++◌, Option, Some}
use Rattle.std.proofs.Common.{None, find, option_map, ◌⊎◌, inl, inr, refl, sym, ◌∙◌, ap, subst, arith}
use Rattle.std.proofs.lemmas.Bool.{lt-leb}
use Rattle.std.proofs.lemmas.Bool.Decides.{leb_tells}
use Rattle.std.proofs.lemmas.List.Sums.{sum_by-append}
use Rattle.std.specs.Cmp.{nat_cmp_total, nat_eq_equiv, unsigned_Decides}
use Rattle.std.specs.Cmp.Lexicographic.{bytes_decides}
use Rattle.std.specs.FinMap.{FinMap, get, insert, nat_cmp-IsAntisymmetric, same_map}
use Rattle.std.specs.List.{count_by}
use Rattle.std.specs.Ordering.{nat_cmp}
use Rattle.nfs_wire.specs.declared.attributes.Time.{Time}
use Rattle.nfs_machine.proofs.MapChangeLemmas.{apart, count-without, differs-insert, differs-other, differs-remove}
use Rattle.nfs_machine.proofs.MapChangeLemmas.{differs-there, find-other, flipped, once-filter, part-of_sum}
use Rattle.nfs_machine.proofs.MapChangeLemmas.{sum-differs, weight, without-absent}
use Rattle.nfs_machine.proofs.MapChangeLemmas as changes
use Rattle.nfs_machine.proofs.LinksCountedLemmas.{names-losing}
use Rattle.nfs_machine.proofs.ChecksPassedLemmas.{are_none, no-entry, numbered}
use Rattle.nfs_machine.proofs.MovedNameLemmas.{GoesIntoItself, Move, entries_kept, with_moved, without_replaced}
use Rattle.nfs_machine.proofs.RenameChecksLemmas.{IsMove}
use Rattle.nfs_machine.proofs.RenameStateLemmas.{entry-apart, entry-leads}
use Rattle.nfs_machine.proofs.MapSumLemmas.{get-inserted}
use Rattle.nfs_machine.proofs.TakenNameLemmas.{under-entry}
use Rattle.nfs_machine.proofs.WellFormedLemmas.{all_map, counted, counts-same, is_subdirectory, links-names}
use Rattle.nfs_machine.proofs.WellFormedLemmas.{links-same, no_entries, parent-on}
use Rattle.nfs_machine.specs.Attributes.{entries_of, is_directory, is_living_directory, links_of, names_in, names_of}
use Rattle.nfs_machine.specs.Attributes.{used_of}
use Rattle.nfs_machine.specs.Bytes.{same_bytes}
use Rattle.nfs_machine.specs.Checks.{entry_of}
use Rattle.nfs_machine.specs.Making.{with_entry}
use Rattle.nfs_machine.specs.RemoveSteps.{object_under, without, without_object}
use Rattle.nfs_machine.specs.RenameSteps.{IsWithin, itself, is_compatible}
use Rattle.nfs_machine.specs.Resolve.{Named}
use Rattle.nfs_machine.specs.Shown.{touched, with_content, with_object}
use Rattle.nfs_machine.specs.State.{Content, Directory, Entry, Living, State}
use Rattle.nfs_machine.specs.WellFormed.{IsParent, Leads, NamesOnce, WellFormed, is_root}
use Rattle.nfs_objects.proofs.UsageSumLemmas.{AllFit, counted-sums}
use Rattle.nfs_objects.specs.Edits.{freed, set_at, with_living}
use Rattle.nfs_objects.specs.Sound.{Sound}
use Rattle.nfs_objects.specs.Stands.{StoreMeaning}
use Rattle.nfs_objects.specs.Sums.{usage_in}
use Rattle.nfs_inodes.proofs.KeptBesideLemmas.{changed-is, replaced-usage}
use Rattle.nfs_inodes.specs.Makes.{link_lost, removed, without_name}
use Rattle.nfs_inodes.specs.Renames.{name_given, name_left, rehomed, staying, with_name_given}

-- ---- lists of entries
abbrev pub part : (Entry → Bool) → Option Entry → ℕ
part test found = elim found [ None ↦ 0 | Some e ↦ cond (test e) 1 0 ]

without-count : (test : Entry → Bool) (es : List Entry) (name : List ℕ) (found : Option Entry) → NamesOnce es →
    entry_of es name ≡ found → count_by test (without es name) + part test found ≡ count_by test es
without-count test es name None once is = (let same : count_by test (without es name) ≡
    count_by test es = ap (count_by test) (without-absent name es is) in omega (arith, same))
without-count test es name (Some e) once is = count-without test name es e once is

-- ---- an object in the place of another
names-put : (a : State) (n : ℕ) (old new : Living) → get a.objects n ≡ Some old → (q : ℕ) →
    names_of (with_object a n new) q + names_in q old ≡ names_of a q + names_in q new
names-put a n old new lives q =
    let sums = sum-differs (names_in q) a.objects (with_object a n new).objects n (Some new)
    (differs-insert a.objects n new) in
    let here : weight (names_in q) (get a.objects n) ≡ names_in q old = ap (weight (names_in q)) lives in
    omega (arith, sums, here)

kind-put : (a : State) (n : ℕ) (old new : Living) → get a.objects n ≡ Some old →
    is_directory new.content ≡ is_directory old.content
    → (q : ℕ) → is_living_directory (get (with_object a n new).objects q) ≡
    is_living_directory (get a.objects q)
kind-put a n old new lives kind q =
    ap is_living_directory (get-inserted a.objects n new q)
    ∙ elim (q == n) as (λ b. (q == n) ≡ b → is_living_directory (cond b (Some new) (get a.objects q)) ≡
    is_living_directory (get a.objects q)) [
      | true ↦ λ e. kind ∙ sym (ap is_living_directory (ap (get a.objects) ((unsigned_Decides q n).0 e) ∙ lives))
      | false ↦ λ e. refl
    ] refl

set-other : (f : ℕ → ℕ) (n value q : ℕ) → (q == n) ≡ false → set_at f n value q ≡ f q
set-other f n value q other = ap (λ b. cond b value (f q)) (flipped q n other)

-- what is kept of each object, where this is kept of one
each-living : (k : StoreMeaning) (n : ℕ) (o : Living) (links parent : ℕ) (P : ℕ → Living → ℕ → ℕ → Type 0) →
    P n o links parent
    → ((q : ℕ) (x : Living) → (q == n) ≡ false → get k.state.objects q ≡ Some x →
    P q x (k.links q) (k.parents q))
    → (q : ℕ) (x : Living) → get (insert k.state.objects n o) q ≡ Some x →
    P q x (set_at k.links n links q) (set_at k.parents n parent q)
each-living k n o links parent P here there q x at =
    elim (n == q) as (λ b. (n == q) ≡ b → cond b (Some o) (get k.state.objects q) ≡ Some x →
    P q x (cond b links (k.links q)) (cond b parent (k.parents q))) [
      | true ↦ λ same is. subst (λ j. P j x links parent) ((unsigned_Decides n q).0 same)
          (subst (λ y. P n y links parent) (let e : o ≡ x = cc in e) here)
      | false ↦ λ other is. there q x (flipped n q other) is
    ] refl (ap (λ b. cond b (Some o) (get k.state.objects q)) (nat_eq_equiv.symm n q)
    ∙ sym (get-inserted k.state.objects n o q) ∙ at)

-- what is kept of an object is so
record SoundAt (m : State) (q : ℕ) (o : Living) (links parent : ℕ) : Type 0 where
  pub links_are : links ≡ links_of m q o.content
  pub is_parent : is_directory o.content ≡ true → IsParent m q parent

sound-in : (k : StoreMeaning) (m : State) → k.state ≡ m →
    ((q : ℕ) (o : Living) → get k.state.objects q ≡ Some o → SoundAt m q o (k.links q) (k.parents q)) →
    ((e g : ℕ) → k.usage e g ≡ usage_in m e g) → Sound k
sound-in k m same all counts =
    let own : (q : ℕ) (o : Living) → get k.state.objects q ≡ Some o →
    SoundAt k.state q o (k.links q) (k.parents q) =
    subst (λ (x : State). (q : ℕ) (o : Living) → get k.state.objects q ≡ Some o →
    SoundAt x q o (k.links q) (k.parents q)) (sym same) all in
    record {
      links = λ q o at. (own q o at).links_are;
      parents = λ q o at. (own q o at).is_parent;
      usage = λ e g. counts e g ∙ ap (λ (x : State). usage_in x e g) (sym same);
    }

sound-as : {m : State} {q : ℕ} {o : Living} {a b c d : ℕ} → a ≡ c → b ≡ d → SoundAt m q o a b →
    SoundAt m q o c d
sound-as {m} {q} {o} {a} {b} {c} {d} e f at = subst (λ n. SoundAt m q o n d) e (subst (λ n. SoundAt m q o a n) f at)

-- ---- what may be replaced contains no name
either-way : (a b e : Bool) → ((a && b && e) || (not a && not b)) ≡ true → (e ≡ true) ⊎ (b ≡ false)
either-way true true true t = inl refl
either-way true true false t = cc
either-way true false e t = inr refl
either-way false true e t = cc
either-way false false e t = inr refl

replaced-empty : (moved replaced : Content) → is_compatible moved replaced ≡ true → entries_of replaced ≡ []
replaced-empty moved replaced t = elim (either-way (is_directory moved) (is_directory replaced)
    (are_none (entries_of replaced)) t) [
      | inl none ↦ no-entry (entries_of replaced) none
      | inr plain ↦ no_entries replaced plain
    ]

abbrev pub one_if : Bool → ℕ
one_if b = cond b 1 0

-- the directory among what has the new name before
abbrev pub directory_over : Option Named → ℕ
directory_over replaced = elim replaced [ None ↦ 0 | Some o ↦ one_if (is_directory o.object.content) ]

over-part : (m : State) (x : Option Entry) → directory_over (object_under m x) ≡ part (is_subdirectory m) x
over-part m None = refl
over-part m (Some e) =
    elim (get m.objects e.number) as (λ g. directory_over (option_map (λ (o : Living). numbered e.number o) g) ≡
    cond (is_living_directory g) 1 0) [
      | None ↦ refl
      | Some o ↦ refl
    ]

none-under : (m : State) (directory : Living) (x : Option Entry) →
    ((e : Entry) → x ≡ Some e → Leads m directory e) → object_under m x ≡ None → x ≡ None
none-under m directory None leads none = refl
none-under m directory (Some e) leads none =
    let l = leads e refl in
    let some : object_under m (Some e) ≡ Some (numbered e.number l.object) =
    ap (option_map (λ (o : Living). numbered e.number o)) l.lives in
    cc

-- ---- what is kept after each change of RENAME: the directory of the old name, unless the new name is in it, has it no
-- more; its own has the new one; the object has its parent; and what had the new name loses it
module _ (now : Time) (move : Move) where
  abbrev pub narrower : Living
  narrower = with_content move.from.directory now (Directory (without move.from.entries move.from.name)
      move.from.last_cookie)

  abbrev pub wider : Living
  wider = with_content move.directory now (with_entry (entries_kept move) move.last_cookie move.name move.from.number)

  module _ (k : StoreMeaning) (left given : ℕ) where
    abbrev pub kept_left : (one : Bool) → StoreMeaning
    kept_left one = cond one k (with_living k move.from.place narrower left (k.parents move.from.place))

    abbrev pub kept_given : (one : Bool) → StoreMeaning
    kept_given one = with_living (kept_left one) move.target wider given ((kept_left one).parents move.target)

    abbrev pub kept_homed : (one : Bool) → StoreMeaning
    kept_homed one = with_living (kept_given one) move.from.number (touched move.from.object now)
        ((kept_given one).links move.from.number)
        (cond (is_directory move.from.object.content) move.target ((kept_given one).parents move.from.number))

    abbrev pub kept_moved : (names : ℕ) → Option Named → StoreMeaning
    kept_moved names replaced = elim replaced [
      | None ↦ kept_homed (move.target == move.from.place)
      | Some o ↦ link_lost now o.number names (kept_homed (move.target == move.from.place))
    ]

module _ (k : StoreMeaning) (now : Time) (move : Move) (is : IsMove k.state move) (w : WellFormed k.state)
    (out : GoesIntoItself k.state move → ⊥) (sound : Sound k) where
  abbrev m : State
  m = k.state

  abbrev number : ℕ
  number = move.from.number

  abbrev place : ℕ
  place = move.from.place

  abbrev target : ℕ
  target = move.target

  abbrev object : Living
  object = move.from.object

  abbrev moves_directory : ℕ
  moves_directory = one_if (is_directory object.content)

  -- ---- numbers that are apart
  object-leads : Leads m move.from.directory is.from.entry
  object-leads = entry-leads m w place move.from.directory move.from.entries move.from.last_cookie is.from.lives
      is.from.content move.from.name is.from.entry is.from.found

  number-place : (number == place) ≡ false
  number-place =
      subst (λ n. (n == place) ≡ false) is.from.number
      (entry-apart m w place move.from.directory move.from.entries move.from.last_cookie is.from.lives is.from.content
      move.from.name is.from.entry is.from.found)

  number-target : (number == target) ≡ false
  number-target = apart number target (λ same.
      let both : Some object ≡ Some move.directory = sym is.from.object ∙ ap (get m.objects) same ∙ is.lives in
      let own : object ≡ move.directory = cc in
      out (
        ap (λ (o : Living). is_directory o.content) own
            ∙ ap is_directory is.content,
        subst (λ n. IsWithin m number n) same (itself number),
      ))

  -- ---- one directory, or two
  one-directory : target ≡ place → move.directory ≡ move.from.directory
  one-directory same = (let both : Some move.directory ≡ Some move.from.directory = sym is.lives
      ∙ ap (get m.objects) same ∙ is.from.lives in cc)

  one-list : target ≡ place → move.entries ≡ move.from.entries
  one-list same = sym (ap entries_of is.content) ∙ ap (λ (o : Living). entries_of o.content) (one-directory same)
      ∙ ap entries_of is.from.content

  names-differ : target ≡ place → same_bytes move.from.name move.name ≡ false
  names-differ same =
      elim (same_bytes move.from.name move.name) as (λ b. same_bytes move.from.name move.name ≡ b → b ≡ false) [
        | true ↦ λ t.
            let name : move.from.name ≡ move.name = (bytes_decides move.from.name move.name).0 t in
            let found : entry_of move.entries move.name ≡ Some is.from.entry =
            ap (λ n. entry_of move.entries n) (sym name) ∙ ap (λ es. entry_of es move.from.name) (one-list same)
            ∙ is.from.found in
            let some : move.replaced ≡ Some (numbered is.from.entry.number object-leads.object) =
            is.over ∙ ap (object_under m) found ∙ ap (option_map (λ (o : Living). numbered is.from.entry.number o))
            object-leads.lives in
            let no : true ≡ false = sym ((unsigned_Decides is.from.entry.number number).1 is.from.number)
            ∙ is.other (numbered is.from.entry.number object-leads.object) some in
            cc
        | false ↦ λ t. refl
      ] refl

  abbrev over : Option Entry
  over = entry_of move.entries move.name

  -- ---- how many entries pass a test, before and after
  module _ (test : Entry → Bool) where
    abbrev own : ℕ
    own = cond (test is.from.entry) 1 0

    left-count : count_by test (without move.from.entries move.from.name) + own ≡ count_by test move.from.entries
    left-count =
        count-without test move.from.name move.from.entries is.from.entry
        (subst NamesOnce (ap entries_of is.from.content) (w.names place move.from.directory is.from.lives).once)
        is.from.found

    once-to : NamesOnce move.entries
    once-to = subst NamesOnce (ap entries_of is.content) (w.names target move.directory is.lives).once

    kept-of_both : (b : Bool) → (target == place) ≡ b
        → count_by test (cond b (without (without move.entries move.name) move.from.name)
        (without move.entries move.name)) + part test over + cond b own 0 ≡ count_by test move.entries
    kept-of_both true e =
        let same : target ≡ place = (unsigned_Decides target place).0 e in
        let found : entry_of (without move.entries move.name) move.from.name ≡ Some is.from.entry =
        find-other move.from.name move.name move.entries (names-differ same)
        ∙ ap (λ es. entry_of es move.from.name) (one-list same) ∙ is.from.found in
        let first = without-count test move.entries move.name over once-to refl in
        let second = without-count test (without move.entries move.name) move.from.name (Some is.from.entry)
        (once-filter _ move.entries once-to) found in
        omega (arith, first, second)
    kept-of_both false e = (let first = without-count test move.entries move.name over once-to refl in omega
        (arith, first))

    kept-count : count_by test (entries_kept move) + part test over + cond (target == place) own 0 ≡
        count_by test move.entries
    kept-count = kept-of_both (target == place) refl

  -- ---- both directories
  abbrev thinner : Living
  thinner = narrower now move

  abbrev fuller : Living
  fuller = wider now move

  abbrev entry : Entry
  entry = record { name = move.name; number = number; cookie = move.last_cookie + 1 }

  wider-count : (test : Entry → Bool) → count_by test (entries_of fuller.content) ≡
      count_by test (entries_kept move) + cond (test entry) 1 0
  wider-count test =
      let alone : count_by test (entry ∷ []) ≡ cond (test entry) 1 0 = omega arith in
      sum_by-append (λ (e : Entry). cond {A = ℕ} (test e) 1 0) (entries_kept move) (entry ∷ [])
      ∙ ap (λ n. count_by test (entries_kept move) + n) alone

  abbrev m1 : State
  m1 = with_object m place thinner

  abbrev m2 : State
  m2 = with_object m1 target fuller

  abbrev step : State
  step = with_object m2 number (touched object now)

  -- the target once the old name is taken
  abbrev between_of : Bool → Living
  between_of b = cond b thinner move.directory

  between-lives : (b : Bool) → (target == place) ≡ b → get m1.objects target ≡ Some (between_of b)
  between-lives true e = ap (get m1.objects) ((unsigned_Decides target place).0 e)
      ∙ differs-there m.objects m1.objects place (Some thinner) (differs-insert m.objects place thinner)
  between-lives false e = differs-other m.objects m1.objects place (Some thinner)
      (differs-insert m.objects place thinner) target e ∙ is.lives

  between-kind : (b : Bool) → is_directory fuller.content ≡ is_directory (between_of b).content
  between-kind true = refl
  between-kind false = sym (ap is_directory is.content)

  between-export : (b : Bool) → (target == place) ≡ b → fuller.export ≡ (between_of b).export
  between-export true e = ap (λ (o : Living). o.export) (one-directory ((unsigned_Decides target place).0 e))
  between-export false e = refl

  between-used : (b : Bool) → used_of fuller.content ≡ used_of (between_of b).content
  between-used true = refl
  between-used false = sym (ap used_of is.content)

  between-count : (test : Entry → Bool) (b : Bool) → (target == place) ≡ b →
      count_by test (entries_of (between_of b).content) + cond b (own test) 0 ≡ count_by test move.entries
  between-count test true e =
      let same : count_by test move.entries ≡ count_by test move.from.entries =
      ap (count_by test) (one-list ((unsigned_Decides target place).0 e)) in
      left-count test ∙ sym same
  between-count test false e = (let same : count_by test (entries_of move.directory.content) ≡
      count_by test move.entries = ap (λ c. count_by test (entries_of c)) is.content in omega (arith, same))

  object-there : get m2.objects number ≡ Some object
  object-there =
      differs-other m1.objects m2.objects target (Some fuller) (differs-insert m1.objects target fuller) number
      number-target
      ∙ differs-other m.objects m1.objects place (Some thinner) (differs-insert m.objects place thinner) number
      number-place ∙ is.from.object

  -- ---- names
  abbrev leads_to : ℕ → Entry → Bool
  leads_to q e = e.number == q

  own-number : (q : ℕ) → own (leads_to q) ≡ one_if (number == q)
  own-number q = ap (λ n. one_if (n == q)) is.from.number

  names-step : (q : ℕ) → names_of step q + part (leads_to q) over ≡ names_of m q
  names-step q =
      let left = names-put m place move.from.directory thinner is.from.lives q in
      let less : names_in q thinner + own (leads_to q) ≡ names_in q move.from.directory =
      left-count (leads_to q) ∙ sym (ap (λ c. count_by (leads_to q) (entries_of c)) is.from.content) in
      let put = names-put m1 target (between_of (target == place)) fuller (between-lives (target == place) refl) q in
      let between : names_in q (between_of (target == place)) + cond (target == place) (own (leads_to q)) 0 ≡
      count_by (leads_to q) move.entries = between-count (leads_to q) (target == place) refl in
      let wide : names_in q fuller ≡ count_by (leads_to q) (entries_kept move) + one_if (number == q) =
      wider-count (leads_to q) in
      let moved = names-put m2 number object (touched object now) object-there q in
      let same : names_in q (touched object now) ≡ names_in q object = refl in
      omega (arith, left, less, put, between, wide, moved, same, kept-count (leads_to q), own-number q)

  -- ---- kinds
  kinds-step : (q : ℕ) → is_living_directory (get step.objects q) ≡ is_living_directory (get m.objects q)
  kinds-step q =
      kind-put m2 number object (touched object now) object-there refl q
      ∙ kind-put m1 target (between_of (target == place)) fuller (between-lives (target == place) refl)
      (between-kind (target == place)) q
      ∙ kind-put m place move.from.directory thinner is.from.lives (sym (ap is_directory is.from.content)) q

  -- ---- what is used stays
  step-usage : (e g : ℕ) → usage_in step e g ≡ usage_in m e g
  step-usage e g =
      replaced-usage (record k { state = m2 }) number object (touched object now) 0 0 object-there refl refl e g
      ∙ replaced-usage (record k { state = m1 }) target (between_of (target == place)) fuller 0 0
      (between-lives (target == place) refl) (between-export (target == place) refl)
      (between-used (target == place)) e g
      ∙ replaced-usage k place move.from.directory thinner 0 0 is.from.lives refl (sym (ap used_of is.from.content)) e g

  -- ---- what lives after it, but for what loses the name
  number-step : get step.objects number ≡ Some (touched object now)
  number-step = differs-there m2.objects step.objects number (Some (touched object now))
      (differs-insert m2.objects number (touched object now))

  target-step : get step.objects target ≡ Some fuller
  target-step =
      differs-other m2.objects step.objects number (Some (touched object now))
      (differs-insert m2.objects number (touched object now)) target (flipped number target number-target)
      ∙ differs-there m1.objects m2.objects target (Some fuller) (differs-insert m1.objects target fuller)

  before-target : (q : ℕ) → (q == number) ≡ false → (q == target) ≡ false →
      get step.objects q ≡ get m1.objects q
  before-target q n t =
      differs-other m2.objects step.objects number (Some (touched object now))
      (differs-insert m2.objects number (touched object now)) q n
      ∙ differs-other m1.objects m2.objects target (Some fuller) (differs-insert m1.objects target fuller) q t

  place-step : (target == place) ≡ false → get step.objects place ≡ Some thinner
  place-step two = before-target place (flipped number place number-place) (flipped target place two)
      ∙ differs-there m.objects m1.objects place (Some thinner) (differs-insert m.objects place thinner)

  other-step : (q : ℕ) → (q == number) ≡ false → (q == target) ≡ false → (q == place) ≡ false →
      get step.objects q ≡ get m.objects q
  other-step q n t p = before-target q n t ∙ differs-other m.objects m1.objects place (Some thinner)
      (differs-insert m.objects place thinner) q p

  -- ---- what is kept then: these many links of the directories
  module _ (left given : ℕ) (lefts : (target == place) ≡ false →
      left + moves_directory ≡ links_of m place move.from.directory.content)
      (gives : given + directory_over move.replaced ≡ links_of m target move.directory.content + cond
      (target == place) 0 moves_directory) where
    abbrev left_of : Bool → StoreMeaning
    left_of b = kept_left now move k left given b

    abbrev given_of : Bool → StoreMeaning
    given_of b = kept_given now move k left given b

    abbrev homed_of : Bool → StoreMeaning
    homed_of b = kept_homed now move k left given b

    abbrev homed : StoreMeaning
    homed = homed_of (target == place)

    both-objects : (b : Bool) → (target == place) ≡ b → (given_of b).state.objects ≡ m2.objects
    both-objects false e = refl
    both-objects true e = same_map nat_cmp_total nat_cmp-IsAntisymmetric _ _ (λ q.
        get-inserted m.objects target fuller q
        ∙ elim (q == target) as (λ b. (q == target) ≡ b →
        cond b (Some fuller) (get m.objects q) ≡ cond b (Some fuller) (get m1.objects q)) [
          | true ↦ λ f. refl
          | false ↦ λ f. sym (differs-other m.objects m1.objects place (Some thinner)
              (differs-insert m.objects place thinner) q
              (subst (λ n. (q == n) ≡ false) ((unsigned_Decides target place).0 e) f))
        ] refl
        ∙ sym (get-inserted m1.objects target fuller q))

    homed-objects : (b : Bool) → (target == place) ≡ b → (homed_of b).state.objects ≡ step.objects
    homed-objects b e = ap (λ (objects : FinMap nat_cmp Living). insert objects number (touched object now))
        (both-objects b e)

    pub homed-state : (b : Bool) → (target == place) ≡ b → (homed_of b).state ≡ step
    homed-state true e = ap (λ (objects : FinMap nat_cmp Living). record m { objects = objects })
        (homed-objects true e)
    homed-state false e = refl

    homed-usage : (b : Bool) (e g : ℕ) → (homed_of b).usage e g ≡ k.usage e g
    homed-usage true e g = refl
    homed-usage false e g = refl

    homed-right : (e g : ℕ) → homed.usage e g ≡ usage_in step e g
    homed-right e g = homed-usage (target == place) e g ∙ sound.usage e g ∙ sym (step-usage e g)

    homed-counts : (e g : ℕ) → homed.usage e g ≡ usage_in homed.state e g
    homed-counts e g = homed-right e g ∙ ap (λ (x : State). usage_in x e g) (sym (homed-state (target == place) refl))

    -- ---- the state after it, in which this object has lost the new name
    record Leaves (new : State) (gone : ℕ → Bool) : Type 0 where
      pub names : (q : ℕ) → names_of new q + one_if (gone q) ≡ names_of m q
      pub parts : (q : ℕ) → part (leads_to q) over ≡ one_if (gone q)
      pub keeps : (q : ℕ) → gone q ≡ false → get new.objects q ≡ get step.objects q
      pub kinds : (q : ℕ) (o : Living) → get new.objects q ≡ Some o →
          count_by (is_subdirectory new) (entries_of o.content) ≡ count_by (is_subdirectory m) (entries_of o.content)
      pub empty : (q : ℕ) (o : Living) → gone q ≡ true → get m.objects q ≡ Some o →
          entries_of o.content ≡ []
      pub no_root : (q : ℕ) → gone q ≡ true → is_root m q ≡ false
      pub number_stays : gone number ≡ false
      pub target_stays : gone target ≡ false
      pub place_stays : gone place ≡ false
      pub exports : new.exports ≡ m.exports

    module _ (new : State) (gone : ℕ → Bool) (l : Leaves new gone) where
      no-gone : (q : ℕ) → gone q ≡ false → one_if (gone q) ≡ 0
      no-gone q stays = ap one_if stays

      -- links of what keeps its content
      links-kept : (q : ℕ) (was o : Living) → get m.objects q ≡ Some was → get new.objects q ≡ Some o →
          o.content ≡ was.content → gone q ≡ false → k.links q ≡ links_of new q o.content
      links-kept q was o at there same stays =
          let none = no-gone q stays in
          let names : names_of new q ≡ names_of m q = omega (arith, l.names q, none) in
          sound.links q was at ∙ ap (links_of m q) (sym same)
          ∙ sym (links-same m new q o.content names (l.kinds q o there))

      -- a directory that is the parent of another stays that
      carried : (q n : ℕ) (d : Living) → (q == number) ≡ false → gone q ≡ false →
          get m.objects n ≡ Some d → gone n ≡ false
          → (o : Living) × (get new.objects n ≡ Some o) × (names_in q d ≤ names_in q o)
      carried q n d other stays at lives =
          let none = no-gone q stays in
          let apart-own : one_if (number == q) ≡ 0 = ap one_if (flipped q number other) in
          elim (n == number) as (λ b. (n == number) ≡ b →
          (o : Living) × (get new.objects n ≡ Some o) × (names_in q d ≤ names_in q o)) [
            | true ↦ λ e.
                let same : n ≡ number = (unsigned_Decides n number).0 e in
                let own-object : object ≡ d = (let both : Some object ≡ Some d = sym is.from.object
                ∙ ap (get m.objects) (sym same) ∙ at in cc) in
                let equal : names_in q d ≡ names_in q (touched object now) = ap (names_in q) (sym own-object) in (
                  touched object now,
                  l.keeps n lives ∙ ap (get step.objects) same
                      ∙ number-step,
                  omega (arith, equal),
                )
            | false ↦ λ e1. elim (n == target) as (λ b. (n == target) ≡ b →
                (o : Living) × (get new.objects n ≡ Some o) × (names_in q d ≤ names_in q o)) [
                  | true ↦ λ e.
                      let same : n ≡ target = (unsigned_Decides n target).0 e in
                      let own-directory : move.directory ≡ d =
                      (let both : Some move.directory ≡ Some d = sym is.lives ∙ ap (get m.objects) (sym same)
                      ∙ at in cc) in
                      let was : names_in q d ≡ count_by (leads_to q) move.entries =
                      ap (names_in q) (sym own-directory)
                      ∙ ap (λ c. count_by (leads_to q) (entries_of c)) is.content in
                      let wide : names_in q fuller ≡
                      count_by (leads_to q) (entries_kept move) + one_if (number == q) = wider-count (leads_to q) in
                      let none-own : cond (target == place) (own (leads_to q)) 0 ≡ 0 =
                      ap (λ x. cond (target == place) x 0) (own-number q ∙ apart-own)
                      ∙ both-zero (target == place) in (
                        fuller,
                        l.keeps n lives ∙ ap (get step.objects) same
                            ∙ target-step,
                        omega (arith, was, wide, none, l.parts q, kept-count (leads_to q), none-own),
                      )
                  | false ↦ λ e2. elim (n == place) as (λ b. (n == place) ≡ b →
                      (o : Living) × (get new.objects n ≡ Some o) × (names_in q d ≤ names_in q o)) [
                        | true ↦ λ e.
                            let same : n ≡ place = (unsigned_Decides n place).0 e in
                            let own-directory : move.from.directory ≡ d =
                            (let both : Some move.from.directory ≡ Some d =
                            sym is.from.lives ∙ ap (get m.objects) (sym same) ∙ at in cc) in
                            let was : names_in q d ≡ count_by (leads_to q) move.from.entries =
                            ap (names_in q) (sym own-directory)
                            ∙ ap (λ c. count_by (leads_to q) (entries_of c)) is.from.content in
                            let two : (target == place) ≡ false =
                            flipped place target (subst (λ x. (x == target) ≡ false) same e2) in (
                              thinner,
                              l.keeps n lives ∙ ap (get step.objects) same
                                  ∙ place-step two,
                              omega (arith, was, left-count (leads_to q), own-number q, apart-own),
                            )
                        | false ↦ λ e3. (d, l.keeps n lives ∙ other-step n e1 e2 e3 ∙ at, omega arith)
                      ] refl
                ] refl
          ] refl
        where
          both-zero : (b : Bool) → cond {A = ℕ} b 0 0 ≡ 0
          both-zero true = refl
          both-zero false = refl

      parent-kept : (q parent : ℕ) → (q == number) ≡ false → gone q ≡ false → IsParent m q parent →
          IsParent new q parent
      parent-kept q parent other stays p =
          let lives : gone parent ≡ false = elim (gone parent) as (λ b. gone parent ≡ b → b ≡ false) [
            | true ↦ λ e. elim p.named_in [
              | inl root ↦ (let no : true ≡ false = sym root.1 ∙ ap (is_root m) (sym root.0)
                  ∙ l.no_root parent e in cc)
              | inr some ↦
                  let none : names_in q p.directory ≡ 0 =
                  ap (count_by (leads_to q)) (l.empty parent p.directory e p.lives) in
                  absurd (omega (arith, some, none))
            ]
            | false ↦ λ e. refl
          ] refl in
          let o = carried q parent p.directory other stays p.lives lives in
          parent-on m new q parent p o.0 o.1 l.exports o.2

      -- ---- each object that stays
      at-number : SoundAt new number (touched object now) (k.links number)
          (cond (is_directory object.content) target (k.parents number))
      at-number = record {
        links_are = links-kept number object (touched object now) is.from.object
            (l.keeps number l.number_stays ∙ number-step) refl l.number_stays;
        is_parent = λ kind. subst (λ n. IsParent new number n)
            (ap (λ b. cond b target (k.parents number)) (sym kind)) (record {
              directory = fuller;
              lives = l.keeps target l.target_stays ∙ target-step;
              named_in = inr
                  (let wide : names_in number fuller ≡ count_by (leads_to number) (entries_kept move) + one_if
                  (number == number) = wider-count (leads_to number) in
                  let one : one_if (number == number) ≡ 1 = ap one_if (changes.itself number) in
                  omega (arith, wide, one));
            });
      }

      own-directory : (is_subdirectory m is.from.entry) ≡ is_directory object.content
      own-directory = ap (λ n. is_living_directory (get m.objects n)) is.from.number
          ∙ ap is_living_directory is.from.object

      at-target : SoundAt new target fuller given (k.parents target)
      at-target = record {
        links_are =
            let test = is_subdirectory m in
            let now-links : links_of new target fuller.content ≡ 2 + count_by test (entries_of fuller.content) =
            ap (λ n. 2 + n) (l.kinds target fuller (l.keeps target l.target_stays ∙ target-step)) in
            let wide = wider-count test in
            let entry-is : one_if (test entry) ≡ moves_directory =
            ap (λ x. one_if (is_living_directory x)) is.from.object in
            let was : links_of m target move.directory.content ≡ 2 + count_by test move.entries =
            ap (links_of m target) is.content in
            let over-is : directory_over move.replaced ≡ part test over =
            ap directory_over is.over ∙ over-part m over in
            let own-is : cond (target == place) (own test) 0 ≡ cond (target == place) moves_directory 0 =
            ap (λ b. cond (target == place) (one_if b) 0) own-directory in
            let either : cond (target == place) moves_directory 0 + cond (target == place) 0 moves_directory ≡
            moves_directory = one-of (target == place) moves_directory in
            omega (arith, now-links, wide, entry-is, was, over-is, own-is, either, kept-count test, gives);
        is_parent = λ kind. parent-kept target (k.parents target) (flipped number target number-target) l.target_stays
            (sound.parents target move.directory is.lives (ap is_directory is.content));
      }
        where
          one-of : (b : Bool) (n : ℕ) → cond b n 0 + cond b 0 n ≡ n
          one-of true n = omega arith
          one-of false n = omega arith

      at-place : (target == place) ≡ false → SoundAt new place thinner left (k.parents place)
      at-place two = record {
        links_are =
            let test = is_subdirectory m in
            let now-links : links_of new place thinner.content ≡
            2 + count_by test (without move.from.entries move.from.name) =
            ap (λ n. 2 + n) (l.kinds place thinner (l.keeps place l.place_stays ∙ place-step two)) in
            let was : links_of m place move.from.directory.content ≡ 2 + count_by test move.from.entries =
            ap (links_of m place) is.from.content in
            let own-is : own test ≡ moves_directory = ap one_if own-directory in
            omega (arith, now-links, was, own-is, left-count test, lefts two);
        is_parent = λ kind. parent-kept place (k.parents place) (flipped number place number-place) l.place_stays
            (sound.parents place move.from.directory is.from.lives (ap is_directory is.from.content));
      }

      at-other : (q : ℕ) (o : Living) → (q == number) ≡ false → (q == target) ≡ false →
          (q == place) ≡ false → get m.objects q ≡ Some o → gone q ≡ false
          → SoundAt new q o (k.links q) (k.parents q)
      at-other q o n t p at stays = record {
        links_are = links-kept q o o at (l.keeps q stays ∙ other-step q n t p ∙ at) refl stays;
        is_parent = λ kind. parent-kept q (k.parents q) n stays (sound.parents q o at kind);
      }

      abbrev Stays : ℕ → Living → ℕ → ℕ → Type 0
      Stays q o links parent = gone q ≡ false → SoundAt new q o links parent

      stays-of : (b : Bool) → (target == place) ≡ b → (q : ℕ) (o : Living) →
          get (homed_of b).state.objects q ≡ Some o → Stays q o ((homed_of b).links q) ((homed_of b).parents q)
      stays-of true e =
          let same : target ≡ place = (unsigned_Decides target place).0 e in
          each-living (given_of true) number (touched object now) ((given_of true).links number)
          (cond (is_directory object.content) target ((given_of true).parents number)) Stays
          (λ stays. sound-as (sym (set-other k.links target given number number-target))
          (ap (cond (is_directory object.content) target)
          (sym (set-other k.parents target (k.parents target) number number-target))) at-number)
          (λ q o n at. each-living k target fuller given (k.parents target)
          (λ q o links parent. (q == number) ≡ false → Stays q o links parent)
          (λ n stays. at-target)
          (λ q o t at n stays. at-other q o n t (subst (λ x. (q == x) ≡ false) same t) at stays) q o at n)
      stays-of false e =
          each-living (given_of false) number (touched object now) ((given_of false).links number)
          (cond (is_directory object.content) target ((given_of false).parents number)) Stays
          (λ stays. sound-as (sym (set-other (left_of false).links target given number number-target
          ∙ set-other k.links place left number number-place))
          (ap (cond (is_directory object.content) target)
          (sym (set-other (left_of false).parents target ((left_of false).parents target) number number-target
          ∙ set-other k.parents place (k.parents place) number number-place))) at-number)
          (λ q o n at. each-living (left_of false) target fuller given ((left_of false).parents target)
          (λ q o links parent. (q == number) ≡ false → Stays q o links parent)
          (λ n stays. sound-as refl (sym (set-other k.parents place (k.parents place) target e)) at-target)
          (λ q o t at n. each-living k place thinner left (k.parents place)
          (λ q o links parent. (q == number) ≡ false → (q == target) ≡ false → Stays q o links parent)
          (λ n t stays. at-place e)
          (λ q o p at n t stays. at-other q o n t p at stays) q o at n t) q o at n)

    -- ---- nothing had the name
    leaves-none : move.replaced ≡ None → Leaves step (λ q. false)
    leaves-none none =
        let free : over ≡ None =
        none-under m move.directory over (λ e found. entry-leads m w target move.directory move.entries
        move.last_cookie is.lives is.content move.name e found) (sym is.over ∙ none) in
        let parts : (q : ℕ) → part (leads_to q) over ≡ 0 = λ q. ap (part (leads_to q)) free in
        record {
          names = λ q. (let none-part = parts q in omega (arith, names-step q, none-part));
          parts = parts;
          keeps = λ q stays. refl;
          kinds = λ q o at. ap (λ (test : ℕ → Bool). count_by (λ (e : Entry). test e.number)
              (entries_of o.content)) (λ i. λ n. kinds-step n i);
          empty = λ q o no at. cc;
          no_root = λ q no. cc;
          number_stays = refl;
          target_stays = refl;
          place_stays = refl;
          exports = refl;
        }

    -- ---- another object had it
    module _ (o : Named) (some : move.replaced ≡ Some o) where
      over-entry : (e : Entry) × (over ≡ Some e) × (e.number ≡ o.number)
          × (get m.objects o.number ≡ Some o.object)
      over-entry = under-entry m over o (sym is.over ∙ some)

      over-empty : entries_of o.object.content ≡ []
      over-empty = replaced-empty object.content o.object.content (is.compatible o some)

      over-leads : Leads m move.directory over-entry.0
      over-leads = entry-leads m w target move.directory move.entries move.last_cookie is.lives is.content move.name
          over-entry.0 over-entry.1

      over-target : (o.number == target) ≡ false
      over-target = subst (λ n. (n == target) ≡ false) over-entry.2
          (entry-apart m w target move.directory move.entries move.last_cookie is.lives is.content move.name
          over-entry.0 over-entry.1)

      over-place : (o.number == place) ≡ false
      over-place = apart o.number place (λ same.
          let both : Some o.object ≡ Some move.from.directory = sym over-entry.3 ∙ ap (get m.objects) same
          ∙ is.from.lives in
          let own-directory : o.object ≡ move.from.directory = cc in
          let none : move.from.entries ≡ [] = sym (ap entries_of is.from.content)
          ∙ sym (ap (λ (x : Living). entries_of x.content) own-directory) ∙ over-empty in
          let found : find (λ (x : Entry). same_bytes x.name move.from.name) [] ≡ Some is.from.entry =
          subst (λ es. find (λ (x : Entry). same_bytes x.name move.from.name) es ≡ Some is.from.entry) none
          is.from.found in
          cc)

      over-lives : get step.objects o.number ≡ Some o.object
      over-lives = other-step o.number (is.other o some) over-target over-place ∙ over-entry.3

      abbrev gone : ℕ → Bool
      gone q = o.number == q

      abbrev lost_state : Bool → State
      lost_state b = cond b (without_object step o.number) (with_object step o.number (touched o.object now))

      abbrev lost : State
      lost = lost_state (nat_le (names_of m o.number) 1)

      names-lost : (q : ℕ) → names_of lost q + one_if (gone q) ≡ names_of m q
      names-lost q =
          let parts : part (leads_to q) over ≡ one_if (gone q) = ap (part (leads_to q)) over-entry.1
          ∙ ap (λ n. one_if (n == q)) over-entry.2 in
          omega (
            arith,
            names-step q,
            parts,
            names-losing step now o.number o.object over-lives over-empty
                (names_of m o.number) q,
          )

      keeps-lost : (q : ℕ) → gone q ≡ false → get lost.objects q ≡ get step.objects q
      keeps-lost q stays = elim (nat_le (names_of m o.number) 1)
          as (λ b. get (lost_state b).objects q ≡ get step.objects q) [
            | true ↦ differs-other step.objects (lost_state true).objects o.number None
                (differs-remove step.objects o.number) q (flipped o.number q stays)
            | false ↦ differs-other step.objects (lost_state false).objects o.number (Some (touched o.object now))
                (differs-insert step.objects o.number (touched o.object now)) q (flipped o.number q stays)
          ]

      -- it has a name left where one leads to it
      kind-lost : (q : ℕ) (p : Living) → get lost.objects q ≡ Some p → (e : Entry) →
          1 ≤ names_in e.number p → is_subdirectory lost e ≡ is_subdirectory m e
      kind-lost q p at e named = elim (o.number == e.number) as (λ b. (o.number == e.number) ≡ b →
          is_subdirectory lost e ≡ is_subdirectory m e) [
            | true ↦ λ same.
                let one : one_if (gone e.number) ≡ 1 = ap one_if same in
                let part-of = part-of_sum (names_in e.number) lost.objects q p at in
                let two : 1 < names_of m e.number = omega (arith, named, part-of, one, names-lost e.number) in
                let more : nat_le (names_of m o.number) 1 ≡ false =
                lt-leb (names_of m o.number) 1 (subst (λ n. 1 < names_of m n)
                (sym ((unsigned_Decides o.number e.number).0 same)) two) in
                ap (λ b. is_living_directory (get (lost_state b).objects e.number)) more
                ∙ kind-put step o.number o.object (touched o.object now) over-lives refl e.number
                ∙ kinds-step e.number
            | false ↦ λ other. ap is_living_directory (keeps-lost e.number other) ∙ kinds-step e.number
          ] refl

      leaves-some : Leaves lost gone
      leaves-some = record {
        names = names-lost;
        parts = λ q. ap (part (leads_to q)) over-entry.1 ∙ ap (λ n. one_if (n == q)) over-entry.2;
        keeps = keeps-lost;
        kinds = λ q p at. counts-same m lost (entries_of p.content)
            (all_map (λ (e : Entry). 1 ≤ names_in e.number p)
            (λ (e : Entry). is_subdirectory lost e ≡ is_subdirectory m e) (kind-lost q p at) (entries_of p.content)
            (counted (entries_of p.content)));
        empty = λ q p same at.
            let both : Some o.object ≡ Some p = sym over-entry.3
            ∙ ap (get m.objects) ((unsigned_Decides o.number q).0 same) ∙ at in
            let own-object : o.object ≡ p = cc in
            ap (λ (x : Living). entries_of x.content) (sym own-object) ∙ over-empty;
        no_root = λ q same. ap (is_root m) (sym ((unsigned_Decides o.number q).0 same))
            ∙ ap (is_root m) (sym over-entry.2) ∙ over-leads.no_root;
        number_stays = is.other o some;
        target_stays = over-target;
        place_stays = over-place;
        exports = elim (nat_le (names_of m o.number) 1) as (λ b. (lost_state b).exports ≡ m.exports)
            [ true ↦ refl | false ↦ refl ];
      }

      homed-there : get homed.state.objects o.number ≡ Some o.object
      homed-there = ap (λ (objects : FinMap nat_cmp Living). get objects o.number)
          (homed-objects (target == place) refl) ∙ over-lives

      links-other : (b : Bool) (q : ℕ) → (q == number) ≡ false → (q == target) ≡ false →
          (q == place) ≡ false → (homed_of b).links q ≡ k.links q
      links-other true q n t p = set-other (given_of true).links number ((given_of true).links number) q n
          ∙ set-other k.links target given q t
      links-other false q n t p = set-other (given_of false).links number ((given_of false).links number) q n
          ∙ set-other (left_of false).links target given q t ∙ set-other k.links place left q p

      abbrev lost_of : Bool → StoreMeaning
      lost_of b = cond b (removed o.number homed) (with_living homed o.number (touched o.object now)
          (homed.links o.number - 1) (homed.parents o.number))

      lost-state : (b : Bool) → (lost_of b).state ≡ lost_state b
      lost-state true = ap (λ (x : State). without_object x o.number) (homed-state (target == place) refl)
      lost-state false = ap (λ (x : State). with_object x o.number (touched o.object now))
          (homed-state (target == place) refl)

      -- an object that goes is counted no more
      lost-right : (b : Bool) → AllFit (lost_of b).state → (e g : ℕ)
          → (lost_of b).usage e g ≡ usage_in (lost_state b) e g
      lost-right true fit e g =
          counted-sums homed (freed homed o.number) o.number
          (λ q apart. differs-other homed.state.objects (without_object homed.state o.number).objects o.number None
          (differs-remove homed.state.objects o.number) q (flipped o.number q apart))
          homed-counts (λ e g. refl) fit e g ∙ ap (λ (x : State). usage_in x e g) (lost-state true)
      lost-right false fit e g =
          homed-counts e g
          ∙ sym (replaced-usage homed o.number o.object (touched o.object now) 0 0 homed-there refl refl e g)
          ∙ ap (λ (x : State). usage_in x e g) (lost-state false)

      -- what has a name left is no directory
      left-here : 1 < names_of m o.number → SoundAt lost o.number (touched o.object now) (homed.links o.number - 1)
          (homed.parents o.number)
      left-here more =
          let plain : is_directory o.object.content ≡ false =
          elim (is_directory o.object.content) as (λ b. is_directory o.object.content ≡ b → b ≡ false) [
            | true ↦ λ kind. (let most = w.one_name o.number o.object over-entry.3 kind in absurd
                (omega (arith, more, most)))
            | false ↦ λ kind. refl
          ] refl in
          record {
            links_are =
                let kept = links-other (target == place) o.number (is.other o some) over-target over-place in
                let was : k.links o.number ≡ names_of m o.number = sound.links o.number o.object over-entry.3
                ∙ links-names m o.number o.object.content plain in
                let is-now : links_of lost o.number o.object.content ≡ names_of lost o.number =
                links-names lost o.number o.object.content plain in
                let one : one_if (gone o.number) ≡ 1 = ap one_if (changes.itself o.number) in
                omega (arith, kept, was, is-now, one, names-lost o.number);
            is_parent = λ kind. (let no : true ≡ false = sym kind ∙ plain in cc);
          }

      stays-here : (q : ℕ) (p : Living) → get homed.state.objects q ≡ Some p → (q == o.number) ≡ false →
          SoundAt lost q p (homed.links q) (homed.parents q)
      stays-here q p at other = stays-of lost gone leaves-some (target == place) refl q p at (flipped q o.number other)

      lost-each : (b : Bool) → nat_le (names_of m o.number) 1 ≡ b → (b ≡ false → 1 < names_of m o.number) →
          (q : ℕ) (p : Living) → get (lost_of b).state.objects q ≡ Some p
          → SoundAt lost q p ((lost_of b).links q) ((lost_of b).parents q)
      lost-each true e more q p at =
          elim (q == o.number) as (λ b. (q == o.number) ≡ b →
          cond b None (get homed.state.objects q) ≡ Some p →
          SoundAt lost q p (set_at homed.links o.number 0 q) (set_at homed.parents o.number 0 q)) [
            | true ↦ λ same none. cc
            | false ↦ λ other there. sound-as (sym (set-other homed.links o.number 0 q other))
                (sym (set-other homed.parents o.number 0 q other)) (stays-here q p there other)
          ] refl (sym (differs-remove homed.state.objects o.number q) ∙ at)
      lost-each false e more q p at =
          each-living homed o.number (touched o.object now) (homed.links o.number - 1) (homed.parents o.number)
          (SoundAt lost) (left-here (more refl))
          (λ q p other at. stays-here q p at other) q p at

      lost-sound : AllFit (lost_of (nat_le (names_of m o.number) 1)).state
          → Sound (lost_of (nat_le (names_of m o.number) 1))
      lost-sound fit =
          let b = nat_le (names_of m o.number) 1 in
          sound-in (lost_of b) lost (lost-state b)
          (lost-each b refl (λ none. elim (leb_tells (names_of m o.number) 1) [
            | inl x ↦ (let no : true ≡ false = sym x.0 ∙ none in cc)
            | inr x ↦ x.1
          ])) (lost-right b fit)

      lost-is : (links : ℕ) → links ≡ names_of m o.number →
          link_lost now o.number links homed ≡ lost_of (nat_le (names_of m o.number) 1)
      lost-is links same =
          ap (λ n. link_lost now o.number n homed) same
          ∙ ap (λ (x : Option Living). cond (nat_le (names_of m o.number) 1) (removed o.number homed)
          (elim x [
            | None ↦ homed
            | Some p ↦ with_living homed o.number (touched p now) (homed.links o.number - 1)
                (homed.parents o.number)
          ])) homed-there

    -- ---- the changes, one by one
    without-is : without_name now move.from.name move.from.directory ≡ Some thinner
    without-is = ap (λ c. without_name now move.from.name (record move.from.directory { content = c })) is.from.content

    target-left : (b : Bool) → (target == place) ≡ b →
        get (left_of b).state.objects target ≡ Some move.directory
    target-left true e = is.lives
    target-left false e = differs-other m.objects m1.objects place (Some thinner)
        (differs-insert m.objects place thinner) target e ∙ is.lives

    given-is : (b : Bool) → (target == place) ≡ b → (cookie : ℕ) → move.last_cookie + 1 ≡ cookie
        → with_name_given now (cond b (Some move.from.name) None)
        (record { name = move.name; number = number; cookie = cookie }) move.directory ≡ Some fuller
    given-is b e cookie next =
        subst (λ n. with_name_given now (cond b (Some move.from.name) None)
        (record { name = move.name; number = number; cookie = n }) move.directory ≡ Some fuller) next
        (ap (λ c. with_name_given now (cond b (Some move.from.name) None) entry
        (record move.directory { content = c })) is.content
        ∙ ap (λ es. Some (with_content move.directory now (Directory (es ++ entry ∷ []) (move.last_cookie + 1))))
        (staying-is b e))
      where
        staying-is : (b : Bool) → (target == place) ≡ b →
            staying move.entries move.name (cond b (Some move.from.name) None) ≡ entries_kept move
        staying-is true e = ap (λ b. cond b (without (without move.entries move.name) move.from.name)
            (without move.entries move.name)) (sym e)
        staying-is false e = ap (λ b. cond b (without (without move.entries move.name) move.from.name)
            (without move.entries move.name)) (sym e)

    object-given : (b : Bool) → (target == place) ≡ b → get (given_of b).state.objects number ≡ Some object
    object-given b e = ap (λ (objects : FinMap nat_cmp Living). get objects number) (both-objects b e) ∙ object-there

    pub changes-are : (b : Bool) → (target == place) ≡ b → (cookie : ℕ) → move.last_cookie + 1 ≡ cookie
        → rehomed now number target (name_given now target (cond b (Some move.from.name) None)
        (record { name = move.name; number = number; cookie = cookie }) given
        (cond b k (name_left now place move.from.name left k))) ≡ kept_homed now move k left given b
    changes-are b e cookie next =
        ap (λ (x : StoreMeaning). rehomed now number target (name_given now target (cond b (Some move.from.name) None)
        (record { name = move.name; number = number; cookie = cookie }) given x)) (left-is b)
        ∙ ap (rehomed now number target) (changed-is (left_of b) target given _ move.directory fuller
        (target-left b e) (given-is b e cookie next))
        ∙ ap (λ (x : Option Living). elim x [
          | None ↦ given_of b
          | Some o ↦ with_living (given_of b) number (touched o now) ((given_of b).links number)
              (cond (is_directory o.content) target ((given_of b).parents number))
        ]) (object-given b e)
      where
        left-is : (b : Bool) → cond b k (name_left now place move.from.name left k) ≡ left_of b
        left-is true = refl
        left-is false = changed-is k place left (without_name now move.from.name) move.from.directory thinner
            is.from.lives without-is

    module _ (names : ℕ) (counts : (o : Named) → move.replaced ≡ Some o → names ≡ names_of m o.number) where
      sound-of : (r : Option Named) → move.replaced ≡ r → AllFit (kept_moved now move k left given names r).state →
          Sound (kept_moved now move k left given names r)
      sound-of None e fit =
          let same = homed-state (target == place) refl in
          sound-in homed step same (λ q p at. stays-of step (λ q. false) (leaves-none e) (target == place) refl q p at
          refl) homed-right
      sound-of (Some o) e fit =
          let same = lost-is o e names (counts o e) in
          subst Sound (sym same) (lost-sound o e (subst (λ (x : StoreMeaning). AllFit x.state) same fit))

      state-of : (r : Option Named) → move.replaced ≡ r →
          (kept_moved now move k left given names r).state ≡ without_replaced m step now r
      state-of None e = homed-state (target == place) refl
      state-of (Some o) e = ap (λ (x : StoreMeaning). x.state) (lost-is o e names (counts o e))
          ∙ lost-state o e (nat_le (names_of m o.number) 1)

      pub moved-sound : AllFit (kept_moved now move k left given names move.replaced).state →
          Sound (kept_moved now move k left given names move.replaced)
      moved-sound = sound-of move.replaced refl

      pub moved-state : (kept_moved now move k left given names move.replaced).state ≡ with_moved m now move
      moved-state = state-of move.replaced refl
