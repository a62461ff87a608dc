-- What changes of objects leave of what is kept beside the state. No store is named here.
use Rattle.std.proofs.Common.{◌≡◌, ◌==◌, ℕ, ◌+◌, ◌-◌, ◌^◌, ◌<◌, ◌≤◌, true, false, Bool, cond, ◌||◌, ◌&&◌, min, nat_le}
use Rattle.std.proofs.Common.{nat_lt, List, [], ◌∷◌, ◌++◌, Option, Some, None, Result, Ok, Err, refl, sym, ◌∙◌, ap}
use Rattle.std.proofs.Common.{subst, arith}
use Rattle.std.proofs.Math.Nat.{min-eq_left}
use Rattle.std.proofs.lemmas.Bool.{le-leb, ltb-true}
use Rattle.std.specs.Cmp.{nat_eq_equiv, unsigned_Decides}
use Rattle.std.specs.FinMap.{get, insert}
use Rattle.nfs_wire.specs.declared.attributes.Attributes.{Attributes}
use Rattle.nfs_wire.specs.declared.attributes.Time.{Time}
use Rattle.nfs_wire.specs.declared.status.NfsStatus.{NfsStatus}
use Rattle.nfs_wire.specs.declared.status.NfsStatus.TheVariants as status
use Rattle.nfs_machine.proofs.NewObjectLemmas.{MakesEntry, links-kept, links-made, links-wider, parent-kept}
use Rattle.nfs_machine.proofs.NewObjectLemmas.{parent-made}
use Rattle.nfs_machine.proofs.ChecksPassedLemmas.{is-regular}
use Rattle.nfs_machine.proofs.ChecksPassedLemmas as facts
use Rattle.nfs_machine.proofs.MapSumLemmas.{get-inserted}
use Rattle.nfs_machine.proofs.WellFormedLemmas.{Alike, KeepsNames, links-alike, links-names, parent-alike}
use Rattle.nfs_machine.proofs.WellFormedLemmas.{replaced-alike, replaced-names}
use Rattle.nfs_machine.specs.Attributes.{entries_of, is_directory, links_of, used_of}
use Rattle.nfs_machine.specs.Checks.{DirectoryEntries, bytes_in, entries_in, entry_of, link_limit}
use Rattle.nfs_machine.specs.Making.{Choice, IsFresh, kind_checked, with_entry}
use Rattle.nfs_machine.specs.Shown.{with_content, with_object}
use Rattle.nfs_machine.specs.State.{Content, Regular, Directory, Link, BlockDevice, CharacterDevice, Socket, Fifo}
use Rattle.nfs_machine.specs.State.{Entry, Living, State}
use Rattle.nfs_machine.specs.WellFormed.{IsParent, WellFormed}
use Rattle.nfs_machine.specs.declared.context.Ctx.{Ctx}
use Rattle.nfs_objects.proofs.UsageSumLemmas.{AllFit, counted-sums, stays-counted}
use Rattle.nfs_objects.specs.Edits.{counted_anew, set_at, with_living, with_new}
use Rattle.nfs_objects.specs.Sound.{Sound}
use Rattle.nfs_objects.specs.Stands.{StoreMeaning}
use Rattle.nfs_objects.specs.Sums.{in_export, one_using, shares_of, usage_in}
use Rattle.nfs_objects.specs.declared.view.Reserved.{Reserved}
use Rattle.nfs_inodes.proofs.UsageChangeLemmas.{NamesSound, names-sound, sound-counted, sound-stays}
use Rattle.nfs_inodes.specs.Known.{IsKnown, content_at, object_at}
use Rattle.nfs_inodes.specs.Sets.{attributes_changed, with_settings}
use Rattle.nfs_inodes.specs.declared.setting.Settings.{Settings}
use Rattle.nfs_inodes.specs.Makes.{IsFree, bytes_changed, changed_at, changed_with, first_links, first_parent}
use Rattle.nfs_inodes.specs.Makes.{links_with, made_under, name_added, with_bytes}
use Rattle.nfs_inodes.specs.declared.found.Known.{Known}

-- ---- where an object was put
pub others-stay : (m : State) (n : ℕ) (new : Living) (q : ℕ) → (n == q) ≡ false
    → get (with_object m n new).objects q ≡ get m.objects q
others-stay m n new q other = get-inserted m.objects n new q
    ∙ ap (λ b. cond b (Some new) (get m.objects q)) (nat_eq_equiv.symm q n ∙ other)

pub put-there : (m : State) (n : ℕ) (new : Living) → get (with_object m n new).objects n ≡ Some new
put-there m n new = get-inserted m.objects n new n
    ∙ ap (λ b. cond b (Some new) (get m.objects n)) ((unsigned_Decides n n).1 refl)

-- one object in the place of another of the same export, which uses what that used
pub replaced-usage : (k : StoreMeaning) (n : ℕ) (o new : Living) (links parent : ℕ) → get k.state.objects n ≡ Some o →
    new.export ≡ o.export → used_of new.content ≡ used_of o.content →
    (e g : ℕ) → usage_in (with_object k.state n new) e g ≡ usage_in k.state e g
replaced-usage k n o new links parent lives export used =
    stays-counted k (with_living k n new links parent) n (others-stay k.state n new) (λ e.
    ap (λ p. shares_of p e) (put-there k.state n new)
    ∙ ap (λ x. in_export x (one_using (used_of new.content)) e) export
    ∙ ap (λ u. in_export o.export (one_using u) e) used ∙ ap (λ p. shares_of p e) (sym lives))

-- ---- one object stands in the place of another that names nothing else
module _ (k : StoreMeaning) (n : ℕ) (o new : Living) (lives : get k.state.objects n ≡ Some o) (keeps : KeepsNames o new)
    (sound : Sound k) where
  abbrev m1 : State
  m1 = with_object k.state n new

  alike : (q : ℕ) → Alike (get k.state.objects q) (get m1.objects q)
  alike = replaced-alike k.state n o new lives keeps

  links : (q : ℕ) (c : Content) → links_of m1 q c ≡ links_of k.state q c
  links = links-alike k.state m1 alike (replaced-names k.state n o new lives keeps)

  links-here : k.links n ≡ links_of k.state n new.content
  links-here =
      sound.links n o lives
      ∙ elim (is_directory o.content) as (λ b. is_directory o.content ≡ b
      → links_of k.state n o.content ≡ links_of k.state n new.content) [
        | true ↦ λ e. ap (links_of k.state n) (sym (keeps.content e))
        | false ↦ λ e. links-names k.state n o.content e ∙ sym (links-names k.state n new.content (keeps.kind ∙ e))
      ] refl

  -- what is kept at each number, where this is kept at one
  at-each : (kept : ℕ → ℕ) (P : ℕ → Living → ℕ → Type 0) → P n new (kept n)
      → ((q : ℕ) (p : Living) → get k.state.objects q ≡ Some p → P q p (kept q))
      → (q : ℕ) (p : Living) → get m1.objects q ≡ Some p → P q p (set_at kept n (kept n) q)
  at-each kept P here there q p at =
      elim (n == q) as (λ b. (n == q) ≡ b → cond b (Some new) (get k.state.objects q) ≡ Some p
      → P q p (cond b (kept n) (kept q))) [
        | true ↦ λ same is. subst (λ j. P j p (kept n)) ((unsigned_Decides n q).0 same)
            (subst (λ x. P n x (kept n)) (let e : new ≡ p = cc in e) here)
        | false ↦ λ other is. there q p is
      ] refl (ap (λ b. cond b (Some new) (get k.state.objects q)) (nat_eq_equiv.symm n q)
      ∙ sym (get-inserted k.state.objects n new q) ∙ at)

  pub replaced-names-sound : NamesSound (with_living k n new (k.links n) (k.parents n))
  replaced-names-sound = record {
    links = at-each k.links (λ q p l. l ≡ links_of m1 q p.content) (links-here ∙ sym (links n new.content))
        (λ q p at. sound.links q p at ∙ sym (links q p.content));
    parents = at-each k.parents (λ q p l. is_directory p.content ≡ true → IsParent m1 q l)
        (λ is. parent-alike k.state m1 alike refl n (k.parents n) (sound.parents n o lives (sym keeps.kind ∙ is)))
        (λ q p at is. parent-alike k.state m1 alike refl q (k.parents q) (sound.parents q p at is));
  }

  -- what it uses is what it used
  pub replaced-sound : used_of new.content ≡ used_of o.content
      → Sound (with_living k n new (k.links n) (k.parents n))
  replaced-sound used =
      sound-stays k (with_living k n new (k.links n) (k.parents n)) n (others-stay k.state n new) refl sound
      replaced-names-sound (λ e.
      ap (λ p. shares_of p e) (put-there k.state n new)
      ∙ ap (λ x. in_export x (one_using (used_of new.content)) e) keeps.export
      ∙ ap (λ u. in_export o.export (one_using u) e) used ∙ ap (λ p. shares_of p e) (sym lives))

-- ---- a change that may leave the object
module _ (k : StoreMeaning) (n count : ℕ) (change : Living → Option Living) where
  abbrev over : Option Living → StoreMeaning
  over o = elim o [ None ↦ k | Some o ↦ elim (change o) [ None ↦ k | Some p ↦ with_living k n p count (k.parents n) ] ]

  abbrev into : Option Living → StoreMeaning
  into p = elim p [ None ↦ k | Some p ↦ with_living k n p count (k.parents n) ]

  pub changed-is : (o p : Living) → get k.state.objects n ≡ Some o → change o ≡ Some p
      → changed_with k n count change ≡ with_living k n p count (k.parents n)
  changed-is o p lives is = ap over lives ∙ ap into is

module _ (k : StoreMeaning) (n : ℕ) (change : Living → Option Living) where
  -- what is true of what is kept, and of what is kept with the object changed, is true after it
  by-change : (P : StoreMeaning → Type 0) → P k
      → ((o p : Living) → get k.state.objects n ≡ Some o → change o ≡ Some p
      → P (with_living k n p (k.links n) (k.parents n))) → P (changed_at k n change)
  by-change P here there = by (get k.state.objects n) refl
    where
      then : (o : Living) → get k.state.objects n ≡ Some o → (p : Option Living) → change o ≡ p
          → P (into k n (k.links n) change p)
      then o lives None is = here
      then o lives (Some p) is = there o p lives is

      by : (o : Option Living) → get k.state.objects n ≡ o → P (over k n (k.links n) change o)
      by None lives = here
      by (Some o) lives = then o lives (change o) refl

  -- what it uses is what it used
  pub changed-sound : ((o p : Living) → change o ≡ Some p → KeepsNames o p)
      → ((o p : Living) → change o ≡ Some p → used_of p.content ≡ used_of o.content)
      → Sound k → Sound (changed_at k n change)
  changed-sound keeps used sound =
      by-change Sound sound (λ o p lives is. replaced-sound k n o p lives (keeps o p is) sound (used o p is))

  -- it is counted anew
  pub changed-counted : ((o p : Living) → change o ≡ Some p → KeepsNames o p) → Sound k
      → AllFit (changed_at k n change).state
      → Sound (counted_anew n (get k.state.objects n) (changed_at k n change))
  changed-counted keeps sound fit =
      sound-counted k (changed_at k n change) n
      (by-change (λ (x : StoreMeaning). (q : ℕ) → (n == q) ≡ false → get x.state.objects q ≡ get k.state.objects q)
      (λ q other. refl) (λ o p lives is. others-stay k.state n p))
      (by-change (λ (x : StoreMeaning). x.usage ≡ k.usage) refl (λ o p lives is. refl)) sound
      (by-change NamesSound (names-sound k sound)
      (λ o p lives is. replaced-names-sound k n o p lives (keeps o p is) sound)) fit

-- the attributes of an object change
pub attributes-sound : (k : StoreMeaning) (n : ℕ) (set : Settings) → Sound k → Sound (attributes_changed n set k)
attributes-sound k n set sound =
    changed-sound k n (λ o. Some (with_settings set o))
    (λ o p is. subst (KeepsNames o) (same o p is)
    (record { export = refl; generation = refl; kind = refl; content = λ directory. refl }))
    (λ o p is. subst (λ q. used_of q.content ≡ used_of o.content) (same o p is) refl) sound
  where
    same : (o p : Living) → Some (with_settings set o) ≡ Some p → with_settings set o ≡ p
    same o p is = cc

-- the bytes of a file change
bytes-keep : (now : Time) (change : List ℕ → List ℕ) (o p : Living) → with_bytes now change o ≡ Some p → KeepsNames o p
bytes-keep now change o p is = by (bytes_in o.content) refl is
  where
    by : (r : Result (List ℕ) NfsStatus) → bytes_in o.content ≡ r
        → elim r [ Ok bytes ↦ Some (with_content o now (Regular (change bytes))) | Err e ↦ None ] ≡ Some p
        → KeepsNames o p
    by (Err e) regular made = cc
    by (Ok bytes) regular made =
        let none : is_directory o.content ≡ false = is-regular o.content bytes regular in
        subst (KeepsNames o) (let same : with_content o now (Regular (change bytes)) ≡ p = cc in same) (record {
          export = refl;
          generation = refl;
          kind = sym none;
          content = λ e. (let no : true ≡ false = sym e ∙ none in cc);
        })

pub bytes-sound : (k : StoreMeaning) (n : ℕ) (now : Time) (change : List ℕ → List ℕ) → Sound k
    → AllFit (bytes_changed now n change k).state → Sound (bytes_changed now n change k)
bytes-sound k n now change sound fit = changed-counted k n (with_bytes now change) (bytes-keep now change) sound fit

pub bytes-is : (k : StoreMeaning) (x : Known) (now : Time) (change : List ℕ → List ℕ) (bytes : List ℕ)
    → IsKnown k.state x
    → bytes_in (content_at k.state x.number) ≡ Ok bytes
    → bytes_changed now x.number change k ≡ counted_anew x.number (get k.state.objects x.number)
    (with_living k x.number (with_content (object_at k.state x) now (Regular (change bytes))) (k.links x.number)
    (k.parents x.number))
bytes-is k x now change bytes is regular =
    ap (λ (q : StoreMeaning). counted_anew x.number (get k.state.objects x.number) q)
    (changed-is k x.number (k.links x.number) (with_bytes now change) (object_at k.state x)
    (with_content (object_at k.state x) now (Regular (change bytes))) is.lives
    (ap (λ (r : Result (List ℕ) NfsStatus). elim r [
      | Ok bytes ↦ Some (with_content (object_at k.state x) now (Regular (change bytes)))
      | Err e ↦ None
    ]) regular))

-- ---- a new object under a new name
last_true : (b c d : Bool) → c ≡ true → d ≡ true → (b || (c && d)) ≡ true
last_true true c d e f = refl
last_true false c d e f = ap (λ x. x && d) e ∙ f

-- the machine's choice of what was reserved; the number's generations up to this one are spent with it
abbrev pub choice-of : State → Reserved → Choice
choice-of m r = record {
  number = r.number;
  generation = r.generation;
  spent = λ n g. m.spent n g || ((n == r.number) && nat_le g r.generation);
}

pub fresh-of : (m : State) (r : Reserved) → IsFree m r → IsFresh m (choice-of m r)
fresh-of m r is = record {
  number_fits = is.number_fits;
  generation_fits = is.generation_fits;
  free = is.free;
  never_given = is.never_given;
  given = last_true (m.spent r.number r.generation) (r.number == r.number) (nat_le r.generation r.generation)
      ((unsigned_Decides r.number r.number).1 refl)
      (le-leb r.generation r.generation (omega arith));
  kept = λ n g spent. ap (λ b. b || ((n == r.number) && nat_le g r.generation)) spent;
}

-- a directory that comes brings one link, where its parent may have one more
more-links : (links : ℕ) (content : Content) (was : ℕ) → links ≡ was
    → (is_directory content ≡ true → links < link_limit)
    → links_with links content ≡ was + cond (is_directory content) 1 0
more-links links content was same room = by (is_directory content) refl
  where
    by : (b : Bool) → is_directory content ≡ b → cond b (min (links + 1) (2 ^ 32 - 1)) links ≡ was + cond b 1 0
    by true is = (let few : links < link_limit = room is in min-eq_left (omega (arith, few)) ∙ ap (λ l. l + 1) same)
    by false is = omega (arith, same)

-- what was checked of its kind
pub room-of : (ctx : Ctx) (links : ℕ) (content : Content) → kind_checked ctx links content ≡ Ok tt
    → is_directory content ≡ true → links < link_limit
room-of ctx links (Directory entries last) checked is = ltb-true links link_limit
    (facts.holds (nat_lt links link_limit) status.TooManyLinks tt checked)
room-of ctx links (Regular bytes) checked is = cc
room-of ctx links (Link text) checked is = cc
room-of ctx links (BlockDevice device) checked is = cc
room-of ctx links (CharacterDevice device) checked is = cc
room-of ctx links Socket checked is = cc
room-of ctx links Fifo checked is = cc

module _ (k : StoreMeaning) (x : Known) (is : IsKnown k.state x) (now : Time) (name : List ℕ) (r : Reserved)
    (o : Living)
    (entries : List Entry) (last : ℕ)
    (listed : entries_in (content_at k.state x.number) ≡ Ok (record { list = entries; last_cookie = last }))
    (absent : entry_of entries name ≡ None) where
  abbrev wider : Living
  wider = with_content (object_at k.state x) now (with_entry entries last name r.number)

  abbrev entry : Entry
  entry = record { name = name; number = r.number; cookie = last + 1 }

  abbrev links_then : ℕ
  links_then = links_with x.attributes.links o.content

  abbrev widened : StoreMeaning
  widened = with_living k x.number wider links_then (k.parents x.number)

  added-is : name_added now x.number links_then entry k ≡ widened
  added-is = changed-is k x.number links_then _ (object_at k.state x) wider is.lives
      (ap (λ (q : Result DirectoryEntries NfsStatus). elim q [
        | Ok es ↦ elim (entry_of es.list name) [
          | None ↦ Some (with_content (object_at k.state x) now (Directory (es.list ++ entry ∷ []) (last + 1)))
          | Some
              there ↦ None
        ]
        | Err e ↦ None
      ]) listed
      ∙ ap (λ (f : Option Entry). elim f [ None ↦ Some wider | Some there ↦ None ]) absent)

  abbrev made : StoreMeaning
  made = with_new widened r.number o (first_links o.content) (first_parent x.number o.content)

  pub made-is : made_under now x.number x.attributes.links (last + 1) name r o k ≡ counted_anew r.number None made
  made-is = ap (λ (q : StoreMeaning). counted_anew r.number None
      (with_new q r.number o (first_links o.content) (first_parent x.number o.content))) added-is

  module _ (free : IsFree k.state r) (export : o.export ≡ x.export) (generation : o.generation ≡ r.generation)
      (empty : entries_of o.content ≡ [])
      (cookies : (last : ℕ) → o.content ≡ Directory [] last → 2 ≤ last) (room : is_directory o.content ≡ true
      → x.attributes.links < link_limit) where
    makes : MakesEntry k.state made.state x.number r.number (object_at k.state x) wider o name
    makes = record {
      entries = entries;
      last = last;
      lives = is.lives;
      content = facts.is-directory (content_at k.state x.number) (record { list = entries; last_cookie = last }) listed;
      absent = absent;
      free = free.free;
      objects = refl;
      wider_content = refl;
      wider_export = refl;
      wider_generation = refl;
      made_export = export;
      made_entries = empty;
      made_cookies = cookies;
      given = last_true (k.state.spent r.number o.generation) (r.number == r.number) (nat_le o.generation o.generation)
          ((unsigned_Decides r.number r.number).1 refl) (le-leb o.generation o.generation (omega arith));
      spent = λ n g spent. ap (λ b. b || ((n == r.number) && nat_le g o.generation)) spent;
      keeps = record { exports = refl; last = refl };
    }

    module _ (formed : WellFormed k.state) (sound : Sound k) where
      abbrev m2 : State
      m2 = made.state

      -- what lives after it is the new object, the wider directory, or lived before
      at-each-made : (kept : ℕ → ℕ) (there new : ℕ) (P : ℕ → Living → ℕ → Type 0) → P r.number o new
          → P x.number wider there
          → ((q : ℕ) (p : Living) → get k.state.objects q ≡ Some p → P q p (kept q))
          → (q : ℕ) (p : Living) → get m2.objects q ≡ Some p
          → P q p (set_at (set_at kept x.number there) r.number new q)
      at-each-made kept there new P here place other q p at =
          elim (r.number == q) as (λ b. (r.number == q) ≡ b
          → cond b (Some o) (get (insert k.state.objects x.number wider) q) ≡ Some p
          → P q p (cond b new (set_at kept x.number there q))) [
            | true ↦ λ same found. subst (λ j. P j p new) ((unsigned_Decides r.number q).0 same)
                (subst (λ y. P r.number y new) (let e : o ≡ p = cc in e) here)
            | false ↦ λ apart found. elim (x.number == q) as (λ b. (x.number == q) ≡ b
                → cond b (Some wider) (get k.state.objects q) ≡ Some p → P q p (cond b there (kept q))) [
                  | true ↦ λ same now. subst (λ j. P j p there) ((unsigned_Decides x.number q).0 same)
                      (subst (λ y. P x.number y there) (let e : wider ≡ p = cc in e) place)
                  | false ↦ λ apart now. other q p now
                ] refl (ap (λ b. cond b (Some wider) (get k.state.objects q)) (nat_eq_equiv.symm x.number q)
                ∙ sym (get-inserted k.state.objects x.number wider q) ∙ found)
          ] refl (ap (λ b. cond b (Some o) (get (insert k.state.objects x.number wider) q))
          (nat_eq_equiv.symm r.number q)
          ∙ sym (get-inserted (insert k.state.objects x.number wider) r.number o q) ∙ at)

      -- of the directory: one more where the new object is one
      links-of-wider : links_then ≡ links_of m2 x.number wider.content
      links-of-wider =
          let was : x.attributes.links ≡ links_of k.state x.number (content_at k.state x.number) = ap
          (λ (a : Attributes). a.links) is.shows in
          more-links x.attributes.links o.content (links_of k.state x.number (content_at k.state x.number)) was room
          ∙ sym (links-wider k.state m2 x.number r.number (object_at k.state x) wider o name makes formed)

      links-of-made : first_links o.content ≡ links_of m2 r.number o.content
      links-of-made = sym (links-made k.state m2 x.number r.number (object_at k.state x) wider o name makes formed)

      made-links : (q : ℕ) (p : Living) → get m2.objects q ≡ Some p → made.links q ≡ links_of m2 q p.content
      made-links = at-each-made k.links links_then (first_links o.content) (λ q p l. l ≡ links_of m2 q p.content)
          links-of-made links-of-wider
          (λ q p at. sound.links q p at
          ∙ sym (links-kept k.state m2 x.number r.number (object_at k.state x) wider o name makes formed q p at))

      parent-on : (q parent : ℕ) → IsParent k.state q parent → IsParent m2 q parent
      parent-on = parent-kept k.state m2 x.number r.number (object_at k.state x) wider o name makes formed

      made-parents : (q : ℕ) (p : Living) → get m2.objects q ≡ Some p → is_directory p.content ≡ true
          → IsParent m2 q (made.parents q)
      made-parents = at-each-made k.parents (k.parents x.number) (first_parent x.number o.content)
          (λ q p l. is_directory p.content ≡ true → IsParent m2 q l)
          (λ dir. subst (λ b. IsParent m2 r.number (cond b x.number 0)) (sym dir)
          (parent-made k.state m2 x.number r.number (object_at k.state x) wider o name makes formed))
          (λ dir. parent-on x.number (k.parents x.number) (sound.parents x.number (object_at k.state x) is.lives
          (ap is_directory (facts.is-directory (content_at k.state x.number)
          (record { list = entries; last_cookie = last }) listed))))
          (λ q p at dir. parent-on q (k.parents q) (sound.parents q p at dir))

      new-names-sound : NamesSound made
      new-names-sound = record { links = made-links; parents = made-parents }

      -- the directory has a wider list, and uses what it used
      wider-used : used_of wider.content ≡ used_of (content_at k.state x.number)
      wider-used = sym (ap used_of (facts.is-directory (content_at k.state x.number)
          (record { list = entries; last_cookie = last }) listed))

      widened-usage : (e g : ℕ) → usage_in widened.state e g ≡ usage_in k.state e g
      widened-usage = replaced-usage k x.number (object_at k.state x) wider links_then (k.parents x.number) is.lives
          refl wider-used

      free-there : get widened.state.objects r.number ≡ None
      free-there = others-stay k.state x.number wider r.number
          (elim (x.number == r.number) as (λ b. (x.number == r.number) ≡ b → b ≡ false) [
            | true ↦ λ same. (let both : Some (object_at k.state x) ≡ None = sym is.lives
                ∙ ap (get k.state.objects) ((unsigned_Decides x.number r.number).0 same) ∙ free.free in cc)
            | false ↦ λ other. refl
          ] refl) ∙ free.free

      pub new-sound : AllFit made.state → Sound (counted_anew r.number None made)
      new-sound fit = record {
        links = new-names-sound.links;
        parents = new-names-sound.parents;
        usage = λ e g. ap (λ p. (counted_anew r.number p made).usage e g) (sym free-there)
            ∙ counted-sums widened made r.number (others-stay widened.state r.number o)
            (λ e g. sound.usage e g ∙ sym (widened-usage e g)) (λ e g. refl) fit e g;
      }

      pub made-sound : AllFit (made_under now x.number x.attributes.links (last + 1) name r o k).state
          → Sound (made_under now x.number x.attributes.links (last + 1) name r o k)
      made-sound fit = subst Sound (sym made-is) (new-sound (subst (λ (q : StoreMeaning). AllFit q.state) made-is fit))
