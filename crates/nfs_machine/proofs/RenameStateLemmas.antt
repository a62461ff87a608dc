-- What a RENAME leaves is well formed: the new name is taken from what had it, the old one is taken away, and the
-- object gets the new one.
use Rattle.std.proofs.Common.{
  ◌≡◌,
  ◌==◌,
  ℕ,
  ◌≤◌,
  ◌<◌,
  Bool,
  true,
  false,
  not,
  ◌||◌,
  ◌&&◌,
  cond,
  List,
  [],
  Option,
  Some,
  None,
  find,
  option_map,
  ◌⊎◌,
  inl,
  inr,
  refl,
  sym,
  ◌∙◌,
  ap,
  subst,
  arith,
}
use Rattle.std.specs.Cmp.{nat_cmp_total, unsigned_Decides}
use Rattle.std.specs.Cmp.Lexicographic.{bytes_decides}
use Rattle.std.specs.FinMap.{FinMap, get, nat_cmp-IsAntisymmetric, same_map}
use Rattle.std.specs.List.{AllByRecursion, count_by}
use Rattle.std.specs.Ordering.{nat_cmp}
use Rattle.nfs_wire.specs.declared.attributes.Time.{Time}
use Rattle.nfs_machine.specs.Attributes.{entries_of, is_directory, is_living_directory, names_in, names_of}
use Rattle.nfs_machine.specs.Bytes.{same_bytes}
use Rattle.nfs_machine.specs.Checks.{entry_of}
use Rattle.nfs_machine.specs.Making.{with_entry}
use Rattle.nfs_machine.specs.RemoveSteps.{object_under, without}
use Rattle.nfs_machine.specs.RenameSteps.{IsWithin, itself, below, is_compatible}
use Rattle.nfs_machine.specs.Shown.{touched, with_content, with_object}
use Rattle.nfs_machine.specs.State.{Content, Directory, Entry, Living, State}
use Rattle.nfs_machine.specs.WellFormed.{Leads, WellFormed, is_root}
use Rattle.nfs_machine.proofs.MapChangeLemmas.{
  apart,
  count-filter,
  differs-insert,
  differs-other,
  differs-there,
  find-all,
  find-filter,
  find-other,
  find-taken,
  flipped,
  without-absent,
}
use Rattle.nfs_machine.proofs.ContinuesLemmas.{kinds-continued, well_formed-losing}
use Rattle.nfs_machine.specs.Times.{touch}
use Rattle.nfs_machine.specs.Resolve.{Named}
use Rattle.nfs_machine.proofs.LinksCountedLemmas.{Counts, changed-losing, names-losing}
use Rattle.nfs_machine.proofs.ChecksPassedLemmas.{are_none, no-entry, numbered}
use Rattle.nfs_machine.proofs.LooseLemmas.{AddsName, Beside, Deepens, Loose, also, loose-added, loose-replaced}
use Rattle.nfs_machine.proofs.LooseLemmas.{
  loose-touched,
  loosened,
  names_of-added,
  names_of-taken,
  none_loose,
  tightened,
}
use Rattle.nfs_machine.proofs.MovedNameLemmas.{
  GoesIntoItself,
  Move,
  NamedEntry,
  entries_kept,
  with_moved,
  with_names_moved,
  without_replaced,
}
use Rattle.nfs_machine.proofs.RenameChecksLemmas.{IsMove, continues-moved}
use Rattle.nfs_machine.proofs.MapSumLemmas.{get-inserted}
use Rattle.nfs_machine.proofs.TakenNameLemmas.{IsNamedEntry, loose-mid, one-less, takes, under-entry}
use Rattle.nfs_machine.proofs.WellFormedLemmas.{Deep, KeepsNames, no_entries, replaced-names}
use Rattle.nfs_machine.proofs.WithinLemmas.{deepened, depth}

-- ---- a directory that has names less
pub within-less : (m : State) (place : ℕ) (was is : Living) → get m.objects place ≡ Some was
    → ((k : ℕ) → names_in k is ≤ names_in k was) → (upper lower : ℕ) → IsWithin (with_object m place is) upper lower
    → IsWithin m upper lower
within-less m place was is at less _ _ (itself number) = itself number
within-less m place was is at less _ _ (below upper middle lower directory within lives named) =
    let up = within-less m place was is at less upper middle within in
    elim (middle == place) as (λ b. (middle == place) ≡ b → IsWithin m upper lower) [
      | true ↦ λ e.
          let same : middle ≡ place = (unsigned_Decides middle place).0 e in
          let both : Some is ≡ Some directory = sym (ap (get (with_object m place is).objects) same
          ∙ differs-there m.objects (with_object m place is).objects place (Some is)
          (differs-insert m.objects place is)) ∙ lives in
          let own : is ≡ directory = cc in
          let some : 1 ≤ names_in lower is = subst (λ (d : Living). 1 ≤ names_in lower d) (sym own) named in
          below upper middle lower was up (ap (get m.objects) same ∙ at) (omega (arith, some, less lower))
      | false ↦ λ e. below upper middle lower directory up
          (sym (differs-other m.objects (with_object m place is).objects place (Some is)
          (differs-insert m.objects place is) middle e) ∙ lives) named
    ] refl

-- ---- what may be replaced contains no name
either-way : (a b e : Bool) → ((a && b && e) || (not a && not b)) ≡ true → (e ≡ true) ⊎ (b ≡ false)
either-way true true true t = inl refl
either-way true true false t = cc
either-way true false e t = inr refl
either-way false true e t = cc
either-way false false e t = inr refl

replaced-empty : (moved replaced : Content) → is_compatible moved replaced ≡ true → entries_of replaced ≡ []
replaced-empty moved replaced t = elim (either-way (is_directory moved) (is_directory replaced)
    (are_none (entries_of replaced)) t) [
      | inl none ↦ no-entry (entries_of replaced) none
      | inr plain ↦ no_entries replaced plain
    ]

-- ---- entries of a directory
module _ (m : State) (w : WellFormed m) (place : ℕ) (directory : Living) (entries : List Entry) (last : ℕ)
    (lives : get m.objects place ≡ Some directory) (content : directory.content ≡ Directory entries last)
    (name : List ℕ) (e : Entry) (found : find (λ (x : Entry). same_bytes x.name name) entries ≡ Some e) where
  of_content : entries_of directory.content ≡ entries
  of_content = ap entries_of content

  -- what a name leads to
  pub entry-leads : Leads m directory e
  entry-leads = find-all (Leads m directory) (λ (x : Entry). same_bytes x.name name) entries e
      (subst (AllByRecursion (Leads m directory)) of_content (w.names place directory lives).leads) found

  -- is not the directory itself
  pub entry-apart : (e.number == place) ≡ false
  entry-apart = apart e.number place (λ same.
      let deep = find-all (Deep m w.depth place) (λ (x : Entry). same_bytes x.name name) entries e
      (subst (AllByRecursion (Deep m w.depth place)) of_content (w.deeper place directory lives)) found in
      let living : is_living_directory (get m.objects e.number) ≡ true = ap is_living_directory (ap (get m.objects) same
      ∙ lives) ∙ ap is_directory content in
      let less : w.depth place < w.depth e.number = deep living in
      let equal : w.depth e.number ≡ w.depth place = ap w.depth same in
      absurd (omega (arith, less, equal)))

none-under : (m : State) (directory : Living) (x : Option Entry) → ((e : Entry) → x ≡ Some e → Leads m directory e)
    → object_under m x ≡ None → x ≡ None
none-under m directory None leads none = refl
none-under m directory (Some e) leads none =
    let l = leads e refl in
    let some : object_under m (Some e) ≡ Some (numbered e.number l.object) = ap
    (option_map (λ (o : Living). numbered e.number o)) l.lives in
    cc

module _ (m : State) (now : Time) (move : Move) (is : IsMove m move) (w : WellFormed m) (out : GoesIntoItself m move
    → ⊥) where
  abbrev number : ℕ
  number = move.from.number

  abbrev place : ℕ
  place = move.from.place

  abbrev target : ℕ
  target = move.target

  -- ---- the new name is free
  abbrev freed : Living
  freed = with_content move.directory now (Directory (without move.entries move.name) move.last_cookie)

  abbrev free : State
  free = with_object m target freed

  not-named : move.replaced ≡ None → entry_of move.entries move.name ≡ None
  not-named none =
      none-under m move.directory (entry_of move.entries move.name) (λ e found. entry-leads m w target move.directory
      move.entries move.last_cookie is.lives is.content move.name e found) (sym is.over ∙ none)

  freed-keeps : move.replaced ≡ None → KeepsNames move.directory freed
  freed-keeps none = record {
    export = refl;
    generation = refl;
    kind = sym (ap is_directory is.content);
    content = λ e. ap (λ es. Directory es move.last_cookie)
        (without-absent move.name move.entries (not-named none)) ∙ sym is.content;
  }

  freed-none : move.replaced ≡ None → Loose none_loose free
  freed-none none = loose-replaced m target move.directory is.lives none_loose (loosened none_loose m w) freed
      (freed-keeps none)

  -- what has it
  abbrev over_named : Named → NamedEntry
  over_named o = record {
    place = target;
    directory = move.directory;
    entries = move.entries;
    last_cookie = move.last_cookie;
    name = move.name;
    number = o.number;
    object = o.object;
  }

  is-over : (o : Named) → move.replaced ≡ Some o → IsNamedEntry m (over_named o)
  is-over o some =
      let e = under-entry m (entry_of move.entries move.name) o (sym is.over ∙ some) in
      record { lives = is.lives; content = is.content; entry = e.0; found = e.1; number = e.2; object = e.3 }

  freed-some : (o : Named) → move.replaced ≡ Some o → Loose (also o.number none_loose) free
  freed-some o some = loose-mid m now (over_named o) (is-over o some) none_loose (loosened none_loose m w)

  -- ---- numbers that are apart
  object-leads : Leads m move.from.directory is.from.entry
  object-leads = entry-leads m w place move.from.directory move.from.entries move.from.last_cookie is.from.lives
      is.from.content move.from.name is.from.entry is.from.found

  number-place : (number == place) ≡ false
  number-place =
      subst (λ k. (k == place) ≡ false) is.from.number
      (entry-apart m w place move.from.directory move.from.entries move.from.last_cookie is.from.lives is.from.content
      move.from.name is.from.entry is.from.found)

  number-target : (number == target) ≡ false
  number-target = apart number target (λ same.
      let both : Some move.from.object ≡ Some move.directory = sym is.from.object ∙ ap (get m.objects) same
      ∙ is.lives in
      let own : move.from.object ≡ move.directory = cc in
      out (
        ap (λ (o : Living). is_directory o.content) own
            ∙ ap is_directory is.content,
        subst (λ k. IsWithin m number k) same (itself number),
      ))

  -- ---- the old name is taken away
  abbrev fd : Bool → Living
  fd b = cond b freed move.from.directory

  abbrev fe : Bool → List Entry
  fe b = cond b (without move.entries move.name) move.from.entries

  abbrev fl : Bool → ℕ
  fl b = cond b move.last_cookie move.from.last_cookie

  abbrev leaving : NamedEntry
  leaving = record {
    place = place;
    directory = fd (target == place);
    entries = fe (target == place);
    last_cookie = fl
        (target == place);
    name = move.from.name;
    number = number;
    object = move.from.object;
  }

  one-directory : target ≡ place → move.directory ≡ move.from.directory
  one-directory same = (let both : Some move.directory ≡ Some move.from.directory = sym is.lives
      ∙ ap (get m.objects) same ∙ is.from.lives in cc)

  one-list : target ≡ place → move.entries ≡ move.from.entries
  one-list same = sym (ap entries_of is.content) ∙ ap (λ (o : Living). entries_of o.content) (one-directory same)
      ∙ ap entries_of is.from.content

  -- in one directory, the names differ
  names-differ : target ≡ place → same_bytes move.from.name move.name ≡ false
  names-differ same =
      elim (same_bytes move.from.name move.name) as (λ b. same_bytes move.from.name move.name ≡ b → b ≡ false) [
        | true ↦ λ t.
            let name : move.from.name ≡ move.name = (bytes_decides move.from.name move.name).0 t in
            let found : entry_of move.entries move.name ≡ Some is.from.entry = ap (λ n. entry_of move.entries n)
            (sym name) ∙ ap (λ es. entry_of es move.from.name) (one-list same) ∙ is.from.found in
            let some : move.replaced ≡ Some (numbered is.from.entry.number object-leads.object) =
            is.over ∙ ap (object_under m) found ∙ ap (option_map (λ (o : Living). numbered is.from.entry.number o))
            object-leads.lives in
            let no : true ≡ false = sym ((unsigned_Decides is.from.entry.number number).1 is.from.number)
            ∙ is.other (numbered is.from.entry.number object-leads.object) some in
            cc
        | false ↦ λ t. refl
      ] refl

  is-leaving : IsNamedEntry free leaving
  is-leaving = record {
    lives = elim (target == place) as (λ b. (target == place) ≡ b → get free.objects place ≡ Some (fd b)) [
      | true ↦ λ e. ap (get free.objects) (sym ((unsigned_Decides target place).0 e))
          ∙ differs-there m.objects free.objects target (Some freed) (differs-insert m.objects target freed)
      | false ↦ λ e. differs-other m.objects free.objects target (Some freed) (differs-insert m.objects target freed)
          place (flipped target place e) ∙ is.from.lives
    ] refl;
    content = elim (target == place) as (λ b. (fd b).content ≡ Directory (fe b) (fl b)) [
      | true ↦ refl
      | false ↦ is.from.content
    ];
    entry = is.from.entry;
    found = elim (target == place) as (λ b. (target == place) ≡ b
        → find (λ (x : Entry). same_bytes x.name move.from.name) (fe b) ≡ Some is.from.entry) [
          | true ↦ λ e.
              let same : target ≡ place = (unsigned_Decides target place).0 e in
              find-other move.from.name move.name move.entries (names-differ same)
              ∙ ap (find (λ (x : Entry). same_bytes x.name move.from.name)) (one-list same) ∙ is.from.found
          | false ↦ λ e. is.from.found
        ] refl;
    number = is.from.number;
    object = differs-other m.objects free.objects target (Some freed) (differs-insert m.objects target freed) number
        number-target ∙ is.from.object;
  }

  abbrev left_of : Bool → Living
  left_of b = with_content (fd b) now (Directory (without (fe b) move.from.name) (fl b))

  abbrev left : State
  left = with_object free place (left_of (target == place))

  object-left : get left.objects number ≡ Some move.from.object
  object-left = differs-other free.objects left.objects place (Some (left_of (target == place)))
      (differs-insert free.objects place (left_of (target == place))) number number-place ∙ is-leaving.object

  -- ---- the target as it is then
  abbrev waiting_of : Bool → Living
  waiting_of b = cond b (left_of b) freed

  abbrev waiting : Living
  waiting = waiting_of (target == place)

  waiting-lives : get left.objects target ≡ Some waiting
  waiting-lives = elim (target == place) as (λ b. (target == place) ≡ b
      → get left.objects target ≡ Some (waiting_of b)) [
        | true ↦ λ e.
            ap (get left.objects) ((unsigned_Decides target place).0 e)
            ∙ differs-there free.objects left.objects place (Some (left_of (target == place)))
            (differs-insert free.objects place (left_of (target == place)))
            ∙ ap (λ b. Some (left_of b)) e
        | false ↦ λ e.
            differs-other free.objects left.objects place (Some (left_of (target == place)))
            (differs-insert free.objects place (left_of (target == place))) target e
            ∙ differs-there m.objects free.objects target (Some freed) (differs-insert m.objects target freed)
      ] refl

  abbrev wider : Living
  wider = with_content move.directory now (with_entry (entries_kept move) move.last_cookie move.name number)

  abbrev named : State
  named = with_object left target wider

  waiting-content : waiting.content ≡ Directory (entries_kept move) move.last_cookie
  waiting-content = elim (target == place) as (λ b. (waiting_of b).content ≡ Directory
      (cond b (without (without move.entries move.name) move.from.name) (without move.entries move.name))
      move.last_cookie) [
        | true ↦ refl
        | false ↦ refl
      ]

  waiting-export : waiting.export ≡ move.directory.export
  waiting-export = elim (target == place) as (λ b. (waiting_of b).export ≡ move.directory.export)
      [ true ↦ refl | false ↦ refl ]

  waiting-generation : waiting.generation ≡ move.directory.generation
  waiting-generation = elim (target == place) as (λ b. (waiting_of b).generation ≡ move.directory.generation)
      [ true ↦ refl | false ↦ refl ]

  absent-left : find (λ (x : Entry). same_bytes x.name move.name) (entries_kept move) ≡ None
  absent-left =
      elim (target == place) as (λ b. find (λ (x : Entry). same_bytes x.name move.name)
      (cond b (without (without move.entries move.name) move.from.name) (without move.entries move.name)) ≡ None) [
        | true ↦ find-filter (λ (x : Entry). same_bytes x.name move.name) _ (without move.entries move.name)
            (find-taken move.name move.entries)
        | false ↦ find-taken move.name move.entries
      ]

  same-object : object-leads.object ≡ move.from.object
  same-object = (let both : Some object-leads.object ≡ Some move.from.object = sym object-leads.lives
      ∙ ap (get m.objects) is.from.number ∙ is.from.object in cc)

  object-export : move.from.object.export ≡ waiting.export
  object-export = sym (ap (λ (o : Living). o.export) same-object) ∙ object-leads.export ∙ is.export ∙ sym waiting-export

  object-no_root : is_root m number ≡ false
  object-no_root = subst (λ k. is_root m k ≡ false) is.from.number object-leads.no_root

  module _ (loose : ℕ → Bool) (l : Loose loose free) where
    left-loose : Loose (also number loose) left
    left-loose = loose-mid free now leaving is-leaving loose l

    adds : AddsName left named target number waiting wider move.from.object move.name
    adds = record {
      swaps = record {
        lives = waiting-lives;
        objects = differs-insert left.objects target wider;
        export = sym waiting-export;
        generation = sym waiting-generation;
        kind = sym (ap is_directory waiting-content);
        spent = λ n g e. e;
        keeps = record { exports = refl; last = refl };
      };
      entries = entries_kept move;
      last = move.last_cookie;
      content = waiting-content;
      absent = absent-left;
      wider_content = refl;
      lives = object-left;
      export = object-export;
      no_root = object-no_root;
      nameless = λ kind.
          let one = one-less free now leaving is-leaving loose l in
          let most = l.one_name number move.from.object is-leaving.object kind in
          omega (arith, one, most);
    }

    less-freed : (k : ℕ) → names_in k freed ≤ names_in k move.directory
    less-freed k =
        let test : Entry → Bool = λ (x : Entry). x.number == k in
        let was : names_in k move.directory ≡ count_by test move.entries = ap (λ c. count_by test (entries_of c))
        is.content in
        omega (arith, was, count-filter test (λ (x : Entry). not (same_bytes x.name move.name)) move.entries)

    less-left : (k : ℕ) → names_in k (left_of (target == place)) ≤ names_in k (fd (target == place))
    less-left k =
        let test : Entry → Bool = λ (x : Entry). x.number == k in
        let was : names_in k (fd (target == place)) ≡ count_by test (fe (target == place)) = ap
        (λ c. count_by test (entries_of c)) is-leaving.content in
        omega (
          arith,
          was,
          count-filter test (λ (x : Entry). not (same_bytes x.name move.from.name))
              (fe (target == place)),
        )

    stays-out : is_directory move.from.object.content ≡ true → IsWithin left number target → ⊥
    stays-out kind within =
        out (
          kind,
          within-less m target move.directory freed is.lives less-freed number target
              (within-less free place (fd (target == place)) (left_of (target == place)) is-leaving.lives
              less-left number
              target within),
        )

    deepens : (depth : ℕ → ℕ) × Deepens left depth target number move.from.object
    deepens =
        elim (is_directory move.from.object.content) as (λ b. is_directory move.from.object.content ≡ b
        → (depth : ℕ → ℕ) × Deepens left depth target number move.from.object) [
          | true ↦ λ e. (
            depth left (also number loose) left-loose number move.from.object object-left target waiting waiting-lives
                (ap is_directory waiting-content) (stays-out e),
            deepened left (also number loose) left-loose number move.from.object object-left target waiting
                waiting-lives (ap is_directory waiting-content) (stays-out e),
          )
          | false ↦ λ e. (
            left-loose.depth,
            record
                { deeper = left-loose.deeper; added = λ t. (let no : true ≡ false = sym t ∙ e in cc) },
          )
        ] refl

    named-loose : Loose loose named
    named-loose = loose-added left named target number waiting wider move.from.object move.name adds loose left-loose
        deepens.0 deepens.1

    object-named : get named.objects number ≡ Some move.from.object
    object-named = differs-other left.objects named.objects target (Some wider)
        (differs-insert left.objects target wider) number number-target ∙ object-left

    abbrev moved : State
    moved = with_object named number (touched move.from.object now)

    moved-loose : Loose loose moved
    moved-loose = loose-touched named number move.from.object object-named loose named-loose now

    names_of-moved : (n : ℕ) → names_of moved n ≡ names_of free n
    unfolding is-leaving
    names_of-moved n =
        let one : cond {A = ℕ} (is.from.entry.number == n) 1 0 ≡ cond (number == n) 1 0 = ap
        (λ k. cond {A = ℕ} (k == n) 1 0) is.from.number in
        omega (
          arith,
          one,
          replaced-names named number move.from.object (touched move.from.object now) object-named
              (record { export = refl; generation = refl; kind = refl; content = λ e. refl }) n,
          names_of-added left named target number waiting wider move.from.object move.name adds n,
          names_of-taken free left place (fd (target == place)) (left_of (target == place)) move.from.name is.from.entry
              (takes free now leaving is-leaving) loose l n,
        )

  -- ---- the same as the step's state
  abbrev step : State
  step = with_object (with_names_moved m now move) number (touched move.from.object now)

  abbrev narrower : Living
  narrower = with_content move.from.directory now (Directory (without move.from.entries move.from.name)
      move.from.last_cookie)

  same-objects : named.objects ≡ (with_names_moved m now move).objects
  same-objects = same_map nat_cmp_total nat_cmp-IsAntisymmetric _ _ (λ q.
      get-inserted left.objects target wider q
      ∙ elim (q == target) as (λ b. (q == target) ≡ b → cond b (Some wider) (get left.objects q) ≡ cond b (Some wider)
      (get (with_object m place narrower).objects q)) [
        | true ↦ λ e. refl
        | false ↦ λ e.
            get-inserted free.objects place (left_of (target == place)) q
            ∙ elim (q == place) as (λ b. (q == place) ≡ b
            → cond b (Some (left_of (target == place))) (get free.objects q) ≡ cond b (Some narrower)
            (get m.objects q)) [
              | true ↦ λ f.
                  let other : (target == place) ≡ false = flipped place target
                  (subst (λ k. (k == target) ≡ false) ((unsigned_Decides q place).0 f) e) in
                  ap (λ b. Some (left_of b)) other
              | false ↦ λ f. differs-other m.objects free.objects target (Some freed)
                  (differs-insert m.objects target freed) q e
            ] refl
            ∙ sym (get-inserted m.objects place narrower q)
      ] refl
      ∙ sym (get-inserted (with_object m place narrower).objects target wider q))

  abbrev of_objects : FinMap nat_cmp Living → State
  of_objects objects = with_object (record m { objects = objects }) number (touched move.from.object now)

  step-loose : (loose : ℕ → Bool) → Loose loose free → Loose loose step
  step-loose loose l = subst (λ objects. Loose loose (of_objects objects)) same-objects (moved-loose loose l)

  names_of-step : (loose : ℕ → Bool) → Loose loose free → (n : ℕ) → names_of step n ≡ names_of free n
  names_of-step loose l n = subst (λ objects. names_of (of_objects objects) n ≡ names_of free n) same-objects
      (names_of-moved loose l n)

  -- ---- what had the name
  module _ (o : Named) (some : move.replaced ≡ Some o) where
    over : IsNamedEntry m (over_named o)
    over = is-over o some

    empty : entries_of o.object.content ≡ []
    empty = replaced-empty move.from.object.content o.object.content (is.compatible o some)

    over-target : (o.number == target) ≡ false
    over-target =
        subst (λ k. (k == target) ≡ false) over.number (entry-apart m w target move.directory move.entries
        move.last_cookie is.lives is.content move.name over.entry over.found)

    over-place : (o.number == place) ≡ false
    over-place = apart o.number place (λ same.
        let both : Some o.object ≡ Some move.from.directory = sym over.object ∙ ap (get m.objects) same
        ∙ is.from.lives in
        let own : o.object ≡ move.from.directory = cc in
        let none : move.from.entries ≡ [] = sym (ap entries_of is.from.content)
        ∙ sym (ap (λ (x : Living). entries_of x.content) own) ∙ empty in
        let found : find (λ (x : Entry). same_bytes x.name move.from.name) [] ≡ Some is.from.entry = subst
        (λ es. find (λ (x : Entry). same_bytes x.name move.from.name) es ≡ Some is.from.entry) none is.from.found in
        cc)

    over-no_root : is_root m o.number ≡ false
    over-no_root =
        subst (λ k. is_root m k ≡ false) over.number
        (entry-leads m w target move.directory move.entries move.last_cookie is.lives is.content move.name
        over.entry over.found).no_root

    over-lives : get step.objects o.number ≡ Some o.object
    over-lives =
        differs-other (with_names_moved m now move).objects step.objects number (Some (touched move.from.object now))
        (differs-insert (with_names_moved m now move).objects number (touched move.from.object now)) o.number
        (is.other o some)
        ∙ differs-other (with_object m place narrower).objects (with_names_moved m now move).objects target (Some wider)
        (differs-insert (with_object m place narrower).objects target wider) o.number over-target
        ∙ differs-other m.objects (with_object m place narrower).objects place (Some narrower)
        (differs-insert m.objects place narrower) o.number over-place
        ∙ over.object

    over-formed : Beside (without_replaced m step now (Some o)) → WellFormed (without_replaced m step now (Some o))
    over-formed =
        let l = freed-some o some in
        let one = one-less m now (over_named o) over none_loose (loosened none_loose m w) in
        well_formed-losing step o.number o.object over-lives (step-loose (also o.number none_loose) l) over-no_root
        (names_of m o.number) now empty (omega (arith, one, names_of-step (also o.number none_loose) l o.number))

  pub well_formed-moved : Beside (with_moved m now move) → WellFormed (with_moved m now move)
  well_formed-moved = judged move.replaced refl
    where
      judged : (r : Option Named) → move.replaced ≡ r → Beside (without_replaced m step now r)
          → WellFormed (without_replaced m step now r)
      judged None e beside = tightened step beside (step-loose none_loose (freed-none e))
      judged (Some o) e beside = over-formed o e beside

  abbrev Told : Option Named → Type 0
  Told r = (k : ℕ) (was is' : Living) → get m.objects k ≡ Some was →
      get (without_replaced m step now r).objects k ≡ Some is' →
      (names_of (without_replaced m step now r) k ≡ names_of m k) ⊎ (is'.changed ≡ touch was.changed now)

  -- what moves has as many names as before; of what else lives on, no names went
  pub counts-moved : Counts now m (with_moved m now move)
  counts-moved = record {
    kinds = kinds-continued now m (with_moved m now move) (continues-moved m now move is);
    names = judged move.replaced refl;
  }
    where
      judged : (r : Option Named) → move.replaced ≡ r → Told r
      judged None e k was is' at there = inl
          (names_of-step none_loose (freed-none e) k
          ∙ replaced-names m target move.directory freed is.lives (freed-keeps e) k)
      judged (Some o) e k was is' at there = elim (k == o.number) as (λ b. (k == o.number) ≡ b →
          (names_of (without_replaced m step now (Some o)) k ≡ names_of m k) ⊎
          (is'.changed ≡ touch was.changed now)) [
            | true ↦ λ t.
                let same : k ≡ o.number = (unsigned_Decides k o.number).0 t in
                let own : o.object ≡ was = (let both : Some o.object ≡ Some was = sym (over o e).object
                ∙ ap (get m.objects)
                (sym same) ∙ at in cc) in
                inr (changed-losing step now o.number o.object (over-lives o e) (names_of m o.number) is'
                (ap (get (without_replaced m step now (Some o)).objects) (sym same) ∙ there)
                ∙ ap (λ (x : Living). touch x.changed now) own)
            | false ↦ λ t.
                let none : cond {A = ℕ} ((over o e).entry.number == k) 1 0 ≡ 0 = ap
                (λ x. cond {A = ℕ} (x == k) 1 0)
                (over o e).number ∙ ap (λ b. cond b 1 0) (flipped k o.number t) in
                inl (omega (
                  arith,
                  none,
                  names-losing step now o.number o.object (over-lives o e) (empty o e) (names_of m o.number) k,
                  names_of-step (also o.number none_loose) (freed-some o e) k,
                  names_of-taken m free target move.directory freed move.name (over o e).entry
                      (takes m now (over_named o) (over o e)) none_loose (loosened none_loose m w) k,
                ))
          ] refl
