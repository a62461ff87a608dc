-- What is true of every state while some objects may have no name: a name is taken away and its object goes or gets
-- another name, or an object comes and gets its name.
use Rattle.std.proofs.Common.{
  ◌≡◌,
  ◌==◌,
  ℕ,
  ◌+◌,
  ◌<◌,
  ◌≤◌,
  Bool,
  true,
  false,
  ◌||◌,
  cond,
  List,
  [],
  ◌∷◌,
  ◌++◌,
  Option,
  Some,
  None,
  find,
  ◌⊎◌,
  inl,
  inr,
  IfSome,
  refl,
  sym,
  ◌∙◌,
  ap,
  subst,
  arith,
}
use Rattle.std.proofs.lemmas.Bool.{or_parts}
use Rattle.std.proofs.lemmas.List.Sums.{sum_by-append}
use Rattle.std.specs.Cmp.{unsigned_Decides}
use Rattle.std.specs.Prelude.{IsSome}
use Rattle.std.specs.FinMap.{get}
use Rattle.std.specs.List.{AllByRecursion, count_by, sum_by}
use Rattle.nfs_wire.specs.declared.attributes.Time.{Time}
use Rattle.nfs_machine.specs.Attributes.{entries_of, is_directory, is_living_directory, names_in, names_of}
use Rattle.nfs_machine.specs.Bytes.{same_bytes}
use Rattle.nfs_machine.specs.LocksFormed.{LocksFormed}
use Rattle.nfs_machine.specs.RemoveSteps.{without}
use Rattle.nfs_machine.specs.Shown.{touched, with_object}
use Rattle.nfs_machine.specs.State.{Directory, Entry, Living, State}
use Rattle.nfs_machine.specs.Exports.{export_at}
use Rattle.nfs_machine.specs.Laws.{KeepsExports}
use Rattle.nfs_machine.specs.WellFormed.{CookiesRise, ExportsStand, IsDirectoryOf, Leads, MountsFormed, NamesOnce}
use Rattle.nfs_machine.specs.WellFormed.{TextsFit, WellFormed, is_root}
use Rattle.nfs_machine.proofs.ExportedLemmas.{exported-on, stand-on}
use Rattle.nfs_machine.proofs.MapChangeLemmas.{
  Differs,
  all-filter,
  apart,
  cookies-filter,
  count-without,
  differs-other,
  differs-there,
  flipped,
  itself,
  once-filter,
  sum-differs,
  weight,
}
use Rattle.nfs_machine.proofs.WellFormedLemmas.{
  Alike,
  Deep,
  KeepsNames,
  LivesOn,
  all_last,
  before,
  deep-on,
  keeps_entries,
}
use Rattle.nfs_machine.proofs.WellFormedLemmas.{
  leads-on,
  lives-alike,
  names-on,
  replaced-alike,
  replaced-names,
  root-same,
}

-- a well-formed state, but that the objects of these numbers may have no name; texts of links are no part of it
pub record Loose (loose : ℕ → Bool) (m : State) : Type 0 where
  pub exports : ExportsStand m
  pub exported : (n : ℕ) (o : Living) → get m.objects n ≡ Some o → IsSome (export_at m.exports o.export)
  pub names : (n : ℕ) (o : Living) → get m.objects n ≡ Some o → IsDirectoryOf m o
  pub cookies : (n : ℕ) (o : Living) (entries : List Entry) (last : ℕ) → get m.objects n ≡ Some o
      → o.content ≡ Directory entries last → CookiesRise 2 entries last
  pub named : (n : ℕ) (o : Living) → get m.objects n ≡ Some o → is_root m n ≡ false → loose n ≡ false →
      1 ≤ names_of m n
  pub one_name : (n : ℕ) (o : Living) → get m.objects n ≡ Some o → is_directory o.content ≡ true → names_of m n ≤ 1
  pub depth : ℕ → ℕ
  pub deeper : (n : ℕ) (o : Living) → get m.objects n ≡ Some o → AllByRecursion (Deep m depth n) (entries_of o.content)
  pub given : (n : ℕ) (o : Living) → get m.objects n ≡ Some o → m.spent n o.generation ≡ true

-- one number more
abbrev pub also : ℕ → (ℕ → Bool) → ℕ → Bool
also number loose n = (n == number) || loose n

abbrev pub none_loose : ℕ → Bool
none_loose n = false

pub loosened : (loose : ℕ → Bool) (m : State) → WellFormed m → Loose loose m
loosened loose m w = record {
  exports = w.exports;
  exported = w.exported;
  names = w.names;
  cookies = w.cookies;
  named = λ n o at other more. w.named n o at other;
  one_name = w.one_name;
  depth = w.depth;
  deeper = w.deeper;
  given = w.given;
}

-- and what is true of every state beside names
pub record Beside (m : State) : Type 0 where
  pub texts : TextsFit m
  pub locks : LocksFormed m
  pub mounts : MountsFormed m.mounts

pub tightened : (m : State) → Beside m → Loose none_loose m → WellFormed m
tightened m beside l = record {
  exports = l.exports;
  exported = l.exported;
  names = l.names;
  cookies = l.cookies;
  named = λ n o at other. l.named n o at other refl;
  one_name = l.one_name;
  depth = l.depth;
  deeper = l.deeper;
  given = l.given;
  texts = beside.texts;
  locks = beside.locks;
  mounts = beside.mounts;
}

-- a number where what lives has a name is not loose
pub fastened : (number : ℕ) (loose : ℕ → Bool) (m : State) → Loose (also number loose) m
    → ((o : Living) → get m.objects number ≡ Some o → 1 ≤ names_of m number) → Loose loose m
fastened number loose m l has = record {
  exports = l.exports;
  exported = l.exported;
  names = l.names;
  cookies = l.cookies;
  named = λ n o at other firm. elim (n == number) as (λ b. (n == number) ≡ b → 1 ≤ names_of m n) [
    | true ↦ λ e. (let same : n ≡ number = (unsigned_Decides n number).0 e in subst (λ k. 1 ≤ names_of m k) (sym same)
        (has o (sym (ap (get m.objects) same) ∙ at)))
    | false ↦ λ e. l.named n o at other (ap (λ b. b || loose n) e ∙ firm)
  ] refl;
  one_name = l.one_name;
  depth = l.depth;
  deeper = l.deeper;
  given = l.given;
}

-- ---- objects that keep their names
module _ (old new : State) (alike : (n : ℕ) → Alike (get old.objects n) (get new.objects n))
    (names : (n : ℕ) → names_of new n ≡ names_of old n)
    (spent : (n g : ℕ) → old.spent n g ≡ true → new.spent n g ≡ true) (keeps : KeepsExports old new) where
  on-alike : (n : ℕ) (o : Living) → get old.objects n ≡ Some o → 1 ≤ names_of old n → LivesOn new n o
  on-alike n o at some = lives-alike old new alike n o at

  pub loose-alike : (loose : ℕ → Bool) → Loose loose old → Loose loose new
  loose-alike loose l = record {
    exports = stand-on old new keeps (λ n o at root. lives-alike old new alike n o at) l.exports;
    exported = λ n o at.
        (let b = before old new alike n o at in exported-on old new keeps b.0 o b.2.export (l.exported n b.0 b.1));
    names = λ n o at.
        let b = before old new alike n o at in
        let d = l.names n b.0 b.1 in
        let same = keeps_entries b.0 o b.2 in
        record {
          once = subst NamesOnce (sym same) d.once;
          leads = subst (AllByRecursion (Leads new o)) (sym same)
              (leads-on old new on-alike n b.0 b.1 keeps.exports o b.2.export d.leads);
        };
    cookies = λ n o entries last at is.
        let b = before old new alike n o at in
        let kind : is_directory b.0.content ≡ true = sym b.2.kind ∙ ap is_directory is in
        l.cookies n b.0 entries last b.1 (sym (b.2.content kind) ∙ is);
    named = λ n o at other firm.
        let b = before old new alike n o at in
        subst (λ k. 1 ≤ k) (sym (names n))
        (l.named n b.0 b.1 (sym (root-same old new keeps.exports n) ∙ other) firm);
    one_name = λ n o at kind.
        let b = before old new alike n o at in
        subst (λ k. k ≤ 1) (sym (names n)) (l.one_name n b.0 b.1 (sym b.2.kind ∙ kind));
    depth = l.depth;
    deeper = λ n o at.
        let b = before old new alike n o at in
        subst (AllByRecursion (Deep new l.depth n)) (sym (keeps_entries b.0 o b.2))
        (deep-on old new on-alike n b.0 b.1 l.depth (l.names n b.0 b.1).leads (l.deeper n b.0 b.1));
    given = λ n o at.
        let b = before old new alike n o at in
        spent n o.generation (subst (λ g. old.spent n g ≡ true) (sym b.2.generation) (l.given n b.0 b.1));
  }

  pub well_formed-alike : Beside new → WellFormed old → WellFormed new
  well_formed-alike beside w = tightened new beside (loose-alike none_loose (loosened none_loose old w))

module _ (m : State) (number : ℕ) (was : Living) (at : get m.objects number ≡ Some was) (loose : ℕ
    → Bool) (l : Loose loose m) where
  pub loose-replaced : (is : Living) → KeepsNames was is → Loose loose (with_object m number is)
  loose-replaced is keeps = loose-alike m (with_object m number is) (replaced-alike m number was is at keeps)
      (replaced-names m number was is at keeps) (λ n g e. e) (record { exports = refl; last = refl }) loose l

  pub loose-touched : (now : Time) → Loose loose (with_object m number (touched was now))
  loose-touched now = loose-replaced (touched was now)
      (record { export = refl; generation = refl; kind = refl; content = λ e. refl })

-- ---- one object in the place of another, of the same export and generation, and a directory where it was one
pub record Swaps (old new : State) (place : ℕ) (was is : Living) : Type 0 where
  pub lives : get old.objects place ≡ Some was
  pub objects : Differs old.objects new.objects place (Some is)
  pub export : is.export ≡ was.export
  pub generation : is.generation ≡ was.generation
  pub kind : is_directory is.content ≡ is_directory was.content
  pub spent : (n g : ℕ) → old.spent n g ≡ true → new.spent n g ≡ true
  pub keeps : KeepsExports old new

module _ (old new : State) (place : ℕ) (was is : Living) (s : Swaps old new place was is) where
  is-lives : get new.objects place ≡ Some is
  is-lives = differs-there old.objects new.objects place (Some is) s.objects

  -- where it is like the one before, what lives now is like what lived
  pub swapped : (R : Living → Living → Type 0) → ((o : Living) → R o o) → R was is → (n : ℕ) (o : Living)
      → get old.objects n ≡ Some o → (p : Living) × (get new.objects n ≡ Some p) × R o p
  swapped R same like n o at =
      elim (n == place) as (λ b. (n == place) ≡ b → (p : Living) × (get new.objects n ≡ Some p) × R o p) [
        | true ↦ λ e.
            let here : n ≡ place = (unsigned_Decides n place).0 e in
            let own : was ≡ o = (let both : Some was ≡ Some o = sym (ap (get old.objects) here ∙ s.lives) ∙ at in cc) in
            (is, ap (get new.objects) here ∙ is-lives, subst (λ (x : Living). R x is) own like)
        | false ↦ λ e. (o, differs-other old.objects new.objects place (Some is) s.objects n e ∙ at, same o)
      ] refl

  -- what lived before lives on
  pub lives-on : (n : ℕ) (o : Living) → get old.objects n ≡ Some o → LivesOn new n o
  lives-on n o at =
      let p = swapped (λ (x y : Living). (y.export ≡ x.export) × (is_directory y.content ≡ is_directory x.content))
      (λ x. (refl, refl)) (s.export, s.kind) n o at in
      record { object = p.0; lives = p.1; export = p.2.0; kind = p.2.1 }

  on : (n : ℕ) (o : Living) → get old.objects n ≡ Some o → 1 ≤ names_of old n → LivesOn new n o
  on n o at some = lives-on n o at

  -- what lives now is the new one, or lived before
  now-lives : (n : ℕ) (o : Living) → get new.objects n ≡ Some o
      → ((n ≡ place) × (is ≡ o)) ⊎ (get old.objects n ≡ Some o)
  now-lives n o at =
      elim (n == place) as (λ b. (n == place) ≡ b → ((n ≡ place) × (is ≡ o)) ⊎ (get old.objects n ≡ Some o)) [
        | true ↦ λ e.
            let same-place : n ≡ place = (unsigned_Decides n place).0 e in
            inl (
              same-place,
              (let both : Some is ≡ Some o = sym (ap (get new.objects) same-place ∙ is-lives)
                  ∙ at in cc),
            )
        | false ↦ λ e. inr (sym (differs-other old.objects new.objects place (Some is) s.objects n e) ∙ at)
      ] refl

  pub names_of-swapped : (n : ℕ) → names_of new n + names_in n was ≡ names_of old n + names_in n is
  names_of-swapped n =
      let sums = sum-differs (names_in n) old.objects new.objects place (Some is) s.objects in
      let here : weight (names_in n) (get old.objects place) ≡ names_in n was = ap (weight (names_in n)) s.lives in
      omega (arith, sums, here)

  module _ (loose : ℕ → Bool) (l : Loose loose old) (entries : List Entry) (last : ℕ)
      (content : was.content ≡ Directory entries last) where
    once-was : NamesOnce entries
    once-was = subst NamesOnce (ap entries_of content) (l.names place was s.lives).once

    leads-was : AllByRecursion (Leads new is) entries
    leads-was = subst (AllByRecursion (Leads new is)) (ap entries_of content)
        (leads-on old new on place was s.lives s.keeps.exports is s.export (l.names place was s.lives).leads)

    deep-was : (depth : ℕ → ℕ) → ((n : ℕ) (o : Living) → get old.objects n ≡ Some o
        → AllByRecursion (Deep old depth n) (entries_of o.content)) → AllByRecursion (Deep new depth place) entries
    deep-was depth deeper =
        subst (AllByRecursion (Deep new depth place)) (ap entries_of content)
        (deep-on old new on place was s.lives depth (l.names place was s.lives).leads (deeper place was s.lives))

  -- what to show of its entries, and of how many names lead to each object
  record Fits (loose : ℕ → Bool) : Type 0 where
    pub entries : List Entry
    pub last : ℕ
    pub content : is.content ≡ Directory entries last
    pub once : NamesOnce entries
    pub leads : AllByRecursion (Leads new is) entries
    pub cookies : CookiesRise 2 entries last
    pub named : (n : ℕ) (o : Living) → get old.objects n ≡ Some o → is_root old n ≡ false →
        loose n ≡ false → 1 ≤ names_of new n
    pub one_name : (n : ℕ) (o : Living) → get old.objects n ≡ Some o → is_directory o.content ≡ true
        → names_of new n ≤ 1
    pub depth : ℕ → ℕ
    pub deeper : (n : ℕ) (o : Living) → get old.objects n ≡ Some o
        → AllByRecursion (Deep old depth n) (entries_of o.content)
    pub own_deeper : AllByRecursion (Deep new depth place) entries

  loose-swapped : (loose more : ℕ → Bool) → Loose loose old → Fits more → Loose more new
  loose-swapped loose more l f = record {
    exports = stand-on old new s.keeps (λ n o at root. lives-on n o at) l.exports;
    exported = λ n o at. elim (now-lives n o at) [
      | inl here ↦ exported-on old new s.keeps was o (sym (ap (λ (x : Living). x.export) here.1) ∙ s.export)
          (l.exported place was s.lives)
      | inr there ↦ exported-on old new s.keeps o o refl (l.exported n o there)
    ];
    names = λ n o at. elim (now-lives n o at) [
      | inl here ↦
          subst (IsDirectoryOf new) here.1
          (record {
            once = subst NamesOnce (sym (ap entries_of f.content)) f.once;
            leads = subst
                (AllByRecursion (Leads new is)) (sym (ap entries_of f.content)) f.leads;
          })
      | inr there ↦ names-on old new on n o there s.keeps.exports (l.names n o there)
    ];
    cookies = λ n o entries last at c. elim (now-lives n o at) [
      | inl here ↦
          let both : Directory f.entries f.last ≡ Directory entries last = sym f.content
          ∙ ap (λ (x : Living). x.content) here.1 ∙ c in
          let k : f.last ≡ last = cc in
          subst (λ es. CookiesRise 2 es last) (ap entries_of both) (subst (λ k. CookiesRise 2 f.entries k) k f.cookies)
      | inr there ↦ l.cookies n o entries last there c
    ];
    named = λ n o at other firm.
        (let own : is_root old n ≡ false = sym (root-same old new s.keeps.exports n) ∙ other in elim
        (now-lives n o at) [
          | inl here ↦ f.named n was (ap (get old.objects) here.0 ∙ s.lives) own firm
          | inr there ↦ f.named n o there own firm
        ]);
    one_name = λ n o at kind. elim (now-lives n o at) [
      | inl here ↦ f.one_name n was (ap (get old.objects) here.0 ∙ s.lives) (sym s.kind
          ∙ ap (λ (x : Living). is_directory x.content) here.1 ∙ kind)
      | inr there ↦ f.one_name n o there kind
    ];
    depth = f.depth;
    deeper = λ n o at. elim (now-lives n o at) [
      | inl here ↦
          subst (λ (x : Living). AllByRecursion (Deep new f.depth n) (entries_of x.content)) here.1
          (subst (AllByRecursion (Deep new f.depth n)) (sym (ap entries_of f.content))
          (subst (λ k. AllByRecursion (Deep new f.depth k) f.entries) (sym here.0) f.own_deeper))
      | inr there ↦ deep-on old new on n o there f.depth (l.names n o there).leads (f.deeper n o there)
    ];
    given = λ n o at. elim (now-lives n o at) [
      | inl here ↦
          subst (λ (x : Living). new.spent n x.generation ≡ true) here.1
          (subst (λ k. new.spent k is.generation ≡ true) (sym here.0)
          (s.spent place is.generation (subst (λ g. old.spent place g ≡ true) (sym s.generation)
          (l.given place was s.lives))))
      | inr there ↦ s.spent n o.generation (l.given n o there)
    ];
  }

-- ---- a name is taken away
pub record TakesName (old new : State) (place : ℕ) (directory narrower : Living) (name : List ℕ) (e : Entry) : Type
    0 where
  pub swaps : Swaps old new place directory narrower
  pub entries : List Entry
  pub last : ℕ
  pub content : directory.content ≡ Directory entries last
  pub found : find (λ (x : Entry). same_bytes x.name name) entries ≡ Some e
  pub narrower_content : narrower.content ≡ Directory (without entries name) last

module _ (old new : State) (place : ℕ) (directory narrower : Living) (name : List ℕ) (e : Entry)
    (t : TakesName old new place directory narrower name e) (loose : ℕ → Bool) (w : Loose loose old) where
  s : Swaps old new place directory narrower
  s = t.swaps

  names_in-narrower : (n : ℕ) → names_in n narrower + cond (e.number == n) 1 0 ≡ names_in n directory
  names_in-narrower n =
      let test : Entry → Bool = λ (x : Entry). x.number == n in
      let is : names_in n narrower ≡ count_by test (without t.entries name) = ap (λ c. count_by test (entries_of c))
      t.narrower_content in
      let was : names_in n directory ≡ count_by test t.entries = ap (λ c. count_by test (entries_of c)) t.content in
      let one = count-without test name t.entries e (once-was old new place directory narrower s loose w t.entries
      t.last t.content) t.found in
      omega (arith, is, was, one)

  -- the object that it led to has one name less
  pub names_of-taken : (n : ℕ) → names_of new n + cond (e.number == n) 1 0 ≡ names_of old n
  names_of-taken n = omega (arith, names_in-narrower n, names_of-swapped old new place directory narrower s n)

  pub loose-taken : Loose (also e.number loose) new
  loose-taken = loose-swapped old new place directory narrower s loose (also e.number loose) w (record {
    entries = without t.entries name;
    last = t.last;
    content = t.narrower_content;
    once = once-filter _ t.entries (once-was old new place directory narrower s loose w t.entries t.last t.content);
    leads = all-filter (Leads new narrower) _ t.entries (leads-was old new place directory narrower s loose w t.entries
        t.last t.content);
    cookies = cookies-filter _ 2 t.last t.entries (w.cookies place directory t.entries t.last s.lives t.content);
    named = λ n o at other more.
        let firm = or_parts (n == e.number) (loose n) more in
        let one : cond {A = ℕ} (e.number == n) 1 0 ≡ 0 = ap (λ b. cond b 1 0) (flipped n e.number firm.0) in
        omega (arith, names_of-taken n, one, w.named n o at other firm.1);
    one_name = λ n o at kind. omega (arith, names_of-taken n, w.one_name n o at kind);
    depth = w.depth;
    deeper = w.deeper;
    own_deeper = all-filter (Deep new w.depth place) _ t.entries (deep-was old new place directory narrower s loose w
        t.entries t.last t.content w.depth w.deeper);
  })

-- ---- what contains no name and has none comes or goes
abbrev pub Empty : Living → Type 0
Empty o = entries_of o.content ≡ []

-- what comes: its generation was given, and a directory's first cookies are those of "." and ".."
pub record IsNew (m : State) (number : ℕ) (o : Living) : Type 0 where
  pub cookies : (last : ℕ) → o.content ≡ Directory [] last → 2 ≤ last
  pub given : m.spent number o.generation ≡ true
  pub exported : IsSome (export_at m.exports o.export)

pub record Comes (old new : State) (number : ℕ) (was is : Option Living) : Type 0 where
  pub lives : get old.objects number ≡ was
  pub objects : Differs old.objects new.objects number is
  pub nameless : names_of old number ≡ 0
  pub was_empty : IfSome was Empty
  pub is_empty : IfSome is Empty
  pub is_new : IfSome is (IsNew new number)
  pub no_root : is_root old number ≡ false
  pub spent : (n g : ℕ) → old.spent n g ≡ true → new.spent n g ≡ true
  pub keeps : KeepsExports old new

names_in-empty : (n : ℕ) (x : Option Living) → IfSome x Empty → weight (names_in n) x ≡ 0
names_in-empty n None empty = refl
names_in-empty n (Some o) empty = ap (count_by (λ (e : Entry). e.number == n)) empty

module _ (old new : State) (number : ℕ) (was is : Option Living) (c : Comes old new number was is) where
  pub names_of-come : (n : ℕ) → names_of new n ≡ names_of old n
  names_of-come n =
      let sums = sum-differs (names_in n) old.objects new.objects number is c.objects in
      let here : weight (names_in n) (get old.objects number) ≡ 0 = ap (weight (names_in n)) c.lives
      ∙ names_in-empty n was c.was_empty in
      omega (arith, sums, here, names_in-empty n is c.is_empty)

  -- what has a name is another, and lives on
  on-come : (n : ℕ) (o : Living) → get old.objects n ≡ Some o → 1 ≤ names_of old n → LivesOn new n o
  on-come n o at some =
      let other : (n == number) ≡ false = apart n number
      (λ same. (let none : names_of old n ≡ 0 = subst (λ k. names_of old k ≡ 0) (sym same) c.nameless in absurd
      (omega (arith, some, none)))) in
      record {
        object = o;
        lives = differs-other old.objects new.objects number is c.objects n other
            ∙ at;
        export = refl;
        kind = refl;
      }

  -- so does a root
  on-root : (n : ℕ) (o : Living) → get old.objects n ≡ Some o → is_root old n ≡ true → LivesOn new n o
  on-root n o at root =
      let other : (n == number) ≡ false = apart n number
      (λ same. (let no : true ≡ false = sym root ∙ subst (λ k. is_root old k ≡ false)
      (sym same) c.no_root in cc)) in
      record {
        object = o;
        lives = differs-other old.objects new.objects number is c.objects n other ∙ at;
        export = refl;
        kind = refl;
      }

  -- what lives now came, or lived before
  come : (n : ℕ) (o : Living) → get new.objects n ≡ Some o
      → ((n ≡ number) × Empty o × IsNew new number o) ⊎ (get old.objects n ≡ Some o)
  come n o at =
      elim (n == number) as (λ b. (n == number) ≡ b
      → ((n ≡ number) × Empty o × IsNew new number o) ⊎ (get old.objects n ≡ Some o)) [
        | true ↦ λ e.
            let same : n ≡ number = (unsigned_Decides n number).0 e in
            let own : is ≡ Some o = sym (ap (get new.objects) same
            ∙ differs-there old.objects new.objects number is c.objects) ∙ at in
            inl (
              same,
              subst (λ x. IfSome x Empty) own c.is_empty,
              subst (λ x. IfSome x (IsNew new number)) own
                  c.is_new,
            )
        | false ↦ λ e. inr (sym (differs-other old.objects new.objects number is c.objects n e) ∙ at)
      ] refl

  pub loose-come : (loose : ℕ → Bool) → Loose (also number loose) old → Loose (also number loose) new
  loose-come loose l = record {
    exports = stand-on old new c.keeps on-root l.exports;
    exported = λ n o at. elim (come n o at) [
      | inl here ↦ here.2.exported
      | inr there ↦ exported-on old new c.keeps o o refl (l.exported n o there)
    ];
    names = λ n o at. elim (come n o at) [
      | inl here ↦ record {
        once = subst NamesOnce (sym here.1) tt;
        leads = subst (AllByRecursion (Leads new o))
            (sym here.1) tt;
      }
      | inr there ↦ names-on old new on-come n o there c.keeps.exports (l.names n o there)
    ];
    cookies = λ n o entries last at e. elim (come n o at) [
      | inl here ↦
          let none : entries ≡ [] = sym (ap entries_of e) ∙ here.1 in
          subst (λ es. CookiesRise 2 es last) (sym none) (here.2.cookies last (e ∙ ap (λ es. Directory es last) none))
      | inr there ↦ l.cookies n o entries last there e
    ];
    named = λ n o at other firm. elim (come n o at) [
      | inl here ↦ (let no : true ≡ false = sym ((unsigned_Decides n number).1 here.0)
          ∙ (or_parts (n == number) (loose n) firm).0 in cc)
      | inr there ↦ omega (
        arith,
        names_of-come n,
        l.named n o there (sym (root-same old new c.keeps.exports n) ∙ other) firm,
      )
    ];
    one_name = λ n o at kind. elim (come n o at) [
      | inl here ↦ (let none : names_of old n ≡ 0 = subst (λ k. names_of old k ≡ 0) (sym here.0) c.nameless in omega
          (arith, names_of-come n, none))
      | inr there ↦ omega (arith, names_of-come n, l.one_name n o there kind)
    ];
    depth = l.depth;
    deeper = λ n o at. elim (come n o at) [
      | inl here ↦ subst (AllByRecursion (Deep new l.depth n)) (sym here.1) tt
      | inr there ↦ deep-on old new on-come n o there l.depth (l.names n o there).leads (l.deeper n o there)
    ];
    given = λ n o at. elim (come n o at) [
      | inl here ↦ subst (λ k. new.spent k o.generation ≡ true) (sym here.0) here.2.given
      | inr there ↦ c.spent n o.generation (l.given n o there)
    ];
  }

-- ---- lists of entries with one more
-- a name that no entry has goes last
once-last : (es : List Entry) (e : Entry) → NamesOnce es → find (λ (x : Entry). same_bytes x.name e.name) es ≡ None
    → NamesOnce (es ++ e ∷ [])
once-last [] e once absent = (tt, tt)
once-last (x ∷ es) e once absent =
    let apart = passed (same_bytes x.name e.name) (find (λ (x : Entry). same_bytes x.name e.name) es) absent in
    (all_last (λ (f : Entry). same_bytes x.name f.name ≡ false) es e once.0 apart.0, once-last es e once.1 apart.1)
  where
    passed : (b : Bool) (rest : Option Entry) → cond b (Some x) rest ≡ None → (b ≡ false) × (rest ≡ None)
    passed true rest e = cc
    passed false rest e = (refl, e)

-- and its cookie is above the others
cookies-last : (below last : ℕ) (es : List Entry) (e : Entry) → e.cookie ≡ last + 1 → CookiesRise below es last
    → CookiesRise below (es ++ e ∷ []) (last + 1)
cookies-last below last [] e is h = (omega (arith, is, h), omega (arith, is))
cookies-last below last (x ∷ es) e is h = (h.0, cookies-last x.cookie last es e is h.1)

-- ---- an object gets a name
pub record AddsName (old new : State) (place number : ℕ) (directory wider object : Living) (name : List ℕ) : Type
    0 where
  pub swaps : Swaps old new place directory wider
  pub entries : List Entry
  pub last : ℕ
  pub content : directory.content ≡ Directory entries last
  pub absent : find (λ (x : Entry). same_bytes x.name name) entries ≡ None
  pub wider_content : wider.content ≡ Directory (entries ++ record { name = name; number = number; cookie = last + 1 } ∷
      []) (last + 1)
  pub lives : get old.objects number ≡ Some object
  pub export : object.export ≡ directory.export
  pub no_root : is_root old number ≡ false
  -- a directory has no other name
  pub nameless : is_directory object.content ≡ true → names_of old number ≡ 0

-- directories stand deeper than the ones that they are named in
pub record Deepens (m : State) (depth : ℕ → ℕ) (place number : ℕ) (object : Living) : Type 0 where
  pub deeper : (n : ℕ) (o : Living) → get m.objects n ≡ Some o → AllByRecursion (Deep m depth n) (entries_of o.content)
  pub added : is_directory object.content ≡ true → depth place < depth number

module _ (old new : State) (place number : ℕ) (directory wider object : Living) (name : List ℕ)
    (a : AddsName old new place number directory wider object name) where
  abbrev entry : Entry
  entry = record { name = name; number = number; cookie = a.last + 1 }

  pub names_in-added : (n : ℕ) → names_in n wider ≡ names_in n directory + cond (number == n) 1 0
  names_in-added n =
      let test : Entry → ℕ = λ (e : Entry). cond (e.number == n) 1 0 in
      let was : names_in n directory ≡ sum_by test a.entries = ap (λ c. sum_by test (entries_of c)) a.content in
      let is : names_in n wider ≡ sum_by test (a.entries ++ entry ∷ []) = ap (λ c. sum_by test (entries_of c))
      a.wider_content in
      let one : sum_by test (entry ∷ []) ≡ cond (number == n) 1 0 = omega arith in
      omega (arith, was, is, one, sum_by-append test a.entries (entry ∷ []))

  pub names_of-added : (n : ℕ) → names_of new n ≡ names_of old n + cond (number == n) 1 0
  names_of-added n = omega (arith, names_in-added n, names_of-swapped old new place directory wider a.swaps n)

  module _ (loose : ℕ → Bool) (l : Loose (also number loose) old) (depth : ℕ
      → ℕ) (deepens : Deepens old depth place number object) where
    object-on : LivesOn new number object
    object-on = lives-on old new place directory wider a.swaps number object a.lives

    added-leads : Leads new wider entry
    added-leads = record {
      object = object-on.object;
      lives = object-on.lives;
      export = object-on.export ∙ a.export ∙ sym a.swaps.export;
      no_root = root-same old new a.swaps.keeps.exports number ∙ a.no_root;
    }

    named-added : 1 ≤ names_of new number
    named-added =
        let one : cond {A = ℕ} (number == number) 1 0 ≡ 1 = ap (λ b. cond b 1 0) (itself number) in
        omega (arith, names_of-added number, one)

    -- a directory that lived before, by its number
    once-named : (n : ℕ) (o : Living) → get old.objects n ≡ Some o → is_directory o.content ≡ true → names_of new n ≤ 1
    once-named n o at kind =
        elim (number == n) as (λ b. (number == n) ≡ b → names_of new n ≤ 1) [
          | true ↦ λ e.
              let same-number : number ≡ n = (unsigned_Decides number n).0 e in
              let same : object ≡ o = (let both : Some object ≡ Some o = sym a.lives ∙ ap (get old.objects) same-number
              ∙ at in cc) in
              let none : names_of old n ≡ 0 = subst (λ k. names_of old k ≡ 0) same-number
              (a.nameless (ap (λ (x : Living). is_directory x.content) same ∙ kind)) in
              let one : cond {A = ℕ} (number == n) 1 0 ≡ 1 = ap (λ b. cond b 1 0) e in
              omega (arith, names_of-added n, none, one)
          | false ↦ λ e. (let one : cond {A = ℕ} (number == n) 1 0 ≡ 0 = ap (λ b. cond b 1 0) e in omega
              (arith, names_of-added n, one, l.one_name n o at kind))
        ] refl

    pub loose-added : Loose loose new
    loose-added = fastened number loose new
        (loose-swapped old new place directory wider a.swaps (also number loose) (also number loose) l (record {
          entries = a.entries ++ entry ∷ [];
          last = a.last + 1;
          content = a.wider_content;
          once = once-last a.entries entry (once-was old new place directory wider a.swaps (also number loose) l
              a.entries a.last a.content) a.absent;
          leads = all_last (Leads new wider) a.entries entry (leads-was old new place directory wider a.swaps
              (also number loose) l a.entries a.last a.content) added-leads;
          cookies = cookies-last 2 a.last a.entries entry refl (l.cookies place directory a.entries a.last a.swaps.lives
              a.content);
          named = λ n o at other firm. omega (arith, names_of-added n, l.named n o at other firm);
          one_name = once-named;
          depth = depth;
          deeper = deepens.deeper;
          own_deeper = all_last (Deep new depth place) a.entries entry (deep-was old new place directory wider a.swaps
              (also number loose) l a.entries a.last a.content depth deepens.deeper)
              (λ living. deepens.added (sym (ap is_living_directory object-on.lives ∙ object-on.kind) ∙ living));
        }))
        (λ o at. named-added)
