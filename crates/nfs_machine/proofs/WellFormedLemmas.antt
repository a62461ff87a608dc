-- Where what has a name lives on, names lead where they led, links are as many and parents stay; so where objects
-- change but for their names.
use Rattle.std.proofs.Common.{
  ◌≡◌,
  ◌==◌,
  ℕ,
  ◌+◌,
  ◌<◌,
  ◌≤◌,
  Bool,
  true,
  false,
  cond,
  List,
  [],
  ◌∷◌,
  ◌++◌,
  Option,
  Some,
  None,
  inl,
  inr,
  refl,
  sym,
  ◌∙◌,
  ap,
  subst,
  arith,
}
use Rattle.std.proofs.lemmas.List.Sums.{sum_by-cons}
use Rattle.std.specs.Cmp.{unsigned_Decides}
use Rattle.std.specs.FinMap.{get, insert}
use Rattle.std.specs.List.{AllByRecursion, count_by, list_any}
use Rattle.nfs_machine.specs.Attributes.{entries_of, is_directory, is_living_directory, links_of, names_in, names_of}
use Rattle.nfs_machine.specs.State.{
  Content,
  Regular,
  Directory,
  Link,
  BlockDevice,
  CharacterDevice,
  Socket,
  Fifo,
  Entry,
  Living,
  State,
}
use Rattle.nfs_machine.specs.Exports.{LivingExport}
use Rattle.nfs_machine.specs.WellFormed.{IsDirectoryOf, IsParent, Leads, is_root}
use Rattle.nfs_machine.proofs.MapChangeLemmas.{part-of_sum}
use Rattle.nfs_machine.proofs.MapSumLemmas.{get-inserted, sum-insert_old}

-- ---- lists
module _ {X : Type 0} (P Q : X → Type 0) where
  pub all_map : ((x : X) → P x → Q x) → (xs : List X) → AllByRecursion P xs → AllByRecursion Q xs
  all_map f [] all = tt
  all_map f (x ∷ xs) all = (f x all.0, all_map f xs all.1)

  pub all_both : (xs : List X) → AllByRecursion P xs → AllByRecursion Q xs → AllByRecursion (λ x. P x × Q x) xs
  all_both [] ps qs = tt
  all_both (x ∷ xs) ps qs = ((ps.0, qs.0), all_both xs ps.1 qs.1)

pub all_last : {X : Type 0} (P : X → Type 0) (xs : List X) (x : X) → AllByRecursion P xs → P x
    → AllByRecursion P (xs ++ x ∷ [])
all_last P [] x all p = (p, tt)
all_last P (y ∷ xs) x all p = (all.0, all_last P xs x all.1 p)

-- a directory has entries, and nothing else has
pub no_entries : (c : Content) → is_directory c ≡ false → entries_of c ≡ []
no_entries (Directory entries last) e = cc
no_entries (Regular bytes) e = refl
no_entries (Link text) e = refl
no_entries (BlockDevice device) e = refl
no_entries (CharacterDevice device) e = refl
no_entries Socket e = refl
no_entries Fifo e = refl

-- each entry of a list is counted in it
pub counted : (es : List Entry)
    → AllByRecursion (λ (e : Entry). 1 ≤ count_by (λ (x : Entry). x.number == e.number) es) es
counted [] = tt
counted (e ∷ es) = (
  (let one : cond {A = ℕ} (e.number == e.number) 1 0 ≡ 1 = ap (λ b. cond b 1 0)
      ((unsigned_Decides e.number e.number).1 refl) in
      omega (arith, one, sum_by-cons (λ (x : Entry). cond {A = ℕ} (x.number == e.number) 1 0) e es)),
  all_map (λ (f : Entry). 1 ≤ count_by (λ (x : Entry). x.number == f.number) es)
      (λ (f : Entry). 1 ≤ count_by (λ (x : Entry). x.number == f.number) (e ∷ es))
      (λ f some. omega (arith, some, sum_by-cons (λ (x : Entry). cond {A = ℕ} (x.number == f.number) 1 0) e es)) es
      (counted es),
)

-- what an entry of a living directory leads to has a name
has-names : (m : State) (n : ℕ) (d : Living) → get m.objects n ≡ Some d
    → AllByRecursion (λ (e : Entry). 1 ≤ names_of m e.number) (entries_of d.content)
has-names m n d at =
    all_map (λ (e : Entry). 1 ≤ names_in e.number d) (λ (e : Entry). 1 ≤ names_of m e.number)
    (λ e some. (let part = part-of_sum (names_in e.number) m.objects n d at in omega (arith, some, part)))
    (entries_of d.content) (counted (entries_of d.content))

-- ---- links
abbrev pub is_subdirectory : State → Entry → Bool
is_subdirectory m e = is_living_directory (get m.objects e.number)

pub links-by : (m : State) (n : ℕ) (c : Content)
    → links_of m n c ≡ cond (is_directory c) (2 + count_by (is_subdirectory m) (entries_of c)) (names_of m n)
links-by m n (Directory entries last) = refl
links-by m n (Regular bytes) = refl
links-by m n (Link text) = refl
links-by m n (BlockDevice device) = refl
links-by m n (CharacterDevice device) = refl
links-by m n Socket = refl
links-by m n Fifo = refl

-- the links of what is no directory are its names
pub links-names : (m : State) (n : ℕ) (c : Content) → is_directory c ≡ false → links_of m n c ≡ names_of m n
links-names m n c plain = links-by m n c
    ∙ ap (λ b. cond b (2 + count_by (is_subdirectory m) (entries_of c)) (names_of m n)) plain

pub links-same : (old new : State) (n : ℕ) (c : Content) → names_of new n ≡ names_of old n
    → count_by (is_subdirectory new) (entries_of c) ≡ count_by (is_subdirectory old) (entries_of c)
    → links_of new n c ≡ links_of old n c
links-same old new n c names counts =
    links-by new n c ∙ ap (λ k. cond (is_directory c) (2 + k) (names_of new n)) counts
    ∙ ap (cond (is_directory c) (2 + count_by (is_subdirectory old) (entries_of c))) names ∙ sym (links-by old n c)

-- entries that lead to directories where they did
pub counts-same : (old new : State) (es : List Entry) →
    AllByRecursion (λ (e : Entry). is_subdirectory new e ≡ is_subdirectory old e) es →
    count_by (is_subdirectory new) es ≡ count_by (is_subdirectory old) es
counts-same old new [] kinds = refl
counts-same old new (e ∷ es) kinds =
    let here : cond {A = ℕ} (is_subdirectory new e) 1 0 ≡ cond (is_subdirectory old e) 1 0 = ap
    (λ b. cond b 1 0) kinds.0 in
    let there = counts-same old new es kinds.1 in
    omega (
      arith,
      here,
      there,
      sum_by-cons (λ (x : Entry). cond {A = ℕ} (is_subdirectory new x) 1 0) e es,
      sum_by-cons
          (λ (x : Entry). cond {A = ℕ} (is_subdirectory old x) 1 0) e es,
    )

-- ---- what lives on: an object of the same export, and a directory where it was one
pub record LivesOn (new : State) (n : ℕ) (o : Living) : Type 0 where
  pub object : Living
  pub lives : get new.objects n ≡ Some object
  pub export : object.export ≡ o.export
  pub kind : is_directory object.content ≡ is_directory o.content

-- of the same exports the roots are the same
pub root-same : (old new : State) → new.exports ≡ old.exports → (n : ℕ) → is_root new n ≡ is_root old n
root-same old new same n = ap (list_any (λ (e : LivingExport). e.root == n)) same

-- directories stand deeper than the one that they are named in
abbrev pub Deep : State → (ℕ → ℕ) → ℕ → Entry → Type 0
Deep m depth n e = is_living_directory (get m.objects e.number) ≡ true → depth n < depth e.number

-- where all that has a name lives on
module _ (old new : State) (on : (n : ℕ) (o : Living) → get old.objects n ≡ Some o → 1 ≤ names_of old n
    → LivesOn new n o) where
  module _ (n : ℕ) (d : Living) (at : get old.objects n ≡ Some d) where
    abbrev LeadsOn : Entry → Type 0
    LeadsOn e = (l : Leads old d e) × LivesOn new e.number l.object

    all-on : AllByRecursion (Leads old d) (entries_of d.content) → AllByRecursion LeadsOn (entries_of d.content)
    all-on leads =
        all_map (λ (e : Entry). (1 ≤ names_of old e.number) × Leads old d e) LeadsOn
        (λ e both. (both.1, on e.number (both.1).object (both.1).lives both.0))
        (entries_of d.content) (all_both (λ (e : Entry). 1 ≤ names_of old e.number) (Leads old d) (entries_of d.content)
        (has-names old n d at) leads)

    pub leads-on : new.exports ≡ old.exports → (is : Living) → is.export ≡ d.export →
        AllByRecursion (Leads old d) (entries_of d.content) → AllByRecursion (Leads new is) (entries_of d.content)
    leads-on exports is same leads =
        all_map LeadsOn (Leads new is)
        (λ e l. record {
          object = (l.1).object;
          lives = (l.1).lives;
          export = (l.1).export ∙ (l.0).export ∙ sym same;
          no_root = root-same old new exports e.number ∙ (l.0).no_root;
        })
        (entries_of d.content) (all-on leads)

    kinds-on : AllByRecursion (Leads old d) (entries_of d.content)
        → AllByRecursion (λ (e : Entry). is_subdirectory new e ≡ is_subdirectory old e) (entries_of d.content)
    kinds-on leads =
        all_map LeadsOn (λ (e : Entry). is_subdirectory new e ≡ is_subdirectory old e)
        (λ e l. ap is_living_directory (l.1).lives ∙ (l.1).kind ∙ sym (ap is_living_directory (l.0).lives))
        (entries_of d.content) (all-on leads)

    pub names-on : new.exports ≡ old.exports → IsDirectoryOf old d → IsDirectoryOf new d
    names-on exports was = record { once = was.once; leads = leads-on exports d refl was.leads }

    pub deep-on : (depth : ℕ → ℕ) → AllByRecursion (Leads old d) (entries_of d.content)
        → AllByRecursion (Deep old depth n) (entries_of d.content)
        → AllByRecursion (Deep new depth n) (entries_of d.content)
    deep-on depth leads deep =
        all_map (λ (e : Entry). (is_subdirectory new e ≡ is_subdirectory old e) × Deep old depth n e) (Deep new depth n)
        (λ e both living. both.1 (sym both.0 ∙ living))
        (entries_of d.content) (all_both (λ (e : Entry). is_subdirectory new e ≡ is_subdirectory old e)
        (Deep old depth n) (entries_of d.content) (kinds-on leads) deep)

    pub counts-on : AllByRecursion (Leads old d) (entries_of d.content)
        → count_by (is_subdirectory new) (entries_of d.content) ≡ count_by (is_subdirectory old) (entries_of d.content)
    counts-on leads = counts-same old new (entries_of d.content) (kinds-on leads)

-- ---- a directory keeps its parent, where that one lives on with as many names of it or more
pub parent-on : (old new : State) (n parent : ℕ) (p : IsParent old n parent) (o : Living) →
    get new.objects parent ≡ Some o → new.exports ≡ old.exports → names_in n p.directory ≤ names_in n o →
    IsParent new n parent
parent-on old new n parent p o lives exports more = record {
  directory = o;
  lives = lives;
  named_in = elim p.named_in [
    | inl root ↦ inl (root.0, root-same old new exports n ∙ root.1)
    | inr named ↦ inr (omega (arith, named, more))
  ];
}

-- ---- objects that keep their names
-- one object in the place of another that names nothing else: it keeps its export and its generation, and a directory
-- all that it contains
pub record KeepsNames (old new : Living) : Type 0 where
  pub export : new.export ≡ old.export
  pub generation : new.generation ≡ old.generation
  pub kind : is_directory new.content ≡ is_directory old.content
  pub content : is_directory old.content ≡ true → new.content ≡ old.content

pub keeps_entries : (a b : Living) → KeepsNames a b → entries_of b.content ≡ entries_of a.content
keeps_entries a b k =
    elim (is_directory a.content) as (λ t. is_directory a.content ≡ t → entries_of b.content ≡ entries_of a.content) [
      | true ↦ λ e. ap entries_of (k.content e)
      | false ↦ λ e. no_entries b.content (k.kind ∙ e) ∙ sym (no_entries a.content e)
    ] refl

keeps_itself : (a : Living) → KeepsNames a a
keeps_itself a = record { export = refl; generation = refl; kind = refl; content = λ e. refl }

-- what lives at a number keeps its names
abbrev pub Alike : Option Living → Option Living → Type 0
Alike None None = Unit {0}
Alike None (Some b) = ⊥
Alike (Some a) None = ⊥
Alike (Some a) (Some b) = KeepsNames a b

pub alike_itself : (a : Option Living) → Alike a a
alike_itself None = tt
alike_itself (Some a) = keeps_itself a

module _ (old new : State) (alike : (n : ℕ) → Alike (get old.objects n) (get new.objects n)) where
  was_there : (a b : Option Living) (o : Living) → Alike a b → b ≡ Some o → (p : Living) × (a ≡ Some p) × KeepsNames p o
  was_there None None o k e = cc
  was_there None (Some b) o k e = absurd k
  was_there (Some a) None o k e = absurd k
  was_there (Some a) (Some b) o k e = (a, refl, subst (KeepsNames a) (let same : b ≡ o = cc in same) k)

  is_there : (a b : Option Living) (p : Living) → Alike a b → a ≡ Some p → (o : Living) × (b ≡ Some o) × KeepsNames p o
  is_there None None p k e = cc
  is_there None (Some b) p k e = absurd k
  is_there (Some a) None p k e = absurd k
  is_there (Some a) (Some b) p k e = (b, refl, subst (λ (x : Living). KeepsNames x b) (let same : a ≡ p = cc in same) k)

  pub before : (n : ℕ) (o : Living) → get new.objects n ≡ Some o → (p : Living) × (get old.objects n ≡ Some p)
      × KeepsNames p o
  before n o at = was_there (get old.objects n) (get new.objects n) o (alike n) at

  pub after : (n : ℕ) (p : Living) → get old.objects n ≡ Some p → (o : Living) × (get new.objects n ≡ Some o)
      × KeepsNames p o
  after n p at = is_there (get old.objects n) (get new.objects n) p (alike n) at

  kinds : (a b : Option Living) → Alike a b → is_living_directory b ≡ is_living_directory a
  kinds None None k = refl
  kinds None (Some b) k = absurd k
  kinds (Some a) None k = absurd k
  kinds (Some a) (Some b) k = k.kind

  pub directories-alike : (n : ℕ) → is_living_directory (get new.objects n) ≡ is_living_directory (get old.objects n)
  directories-alike n = kinds (get old.objects n) (get new.objects n) (alike n)

  -- a directory keeps its place in the tree
  pub parent-alike : new.exports ≡ old.exports → (n parent : ℕ) → IsParent old n parent →
      IsParent new n parent
  parent-alike exports n parent p =
      let a = after parent p.directory p.lives in
      let same : names_in n a.0 ≡ names_in n p.directory = ap (count_by (λ (e : Entry). e.number == n))
      (keeps_entries p.directory a.0 a.2) in
      parent-on old new n parent p a.0 a.1 exports (omega (arith, same))

  pub lives-alike : (n : ℕ) (p : Living) → get old.objects n ≡ Some p → LivesOn new n p
  lives-alike n p at = let a = after n p at in record {
    object = a.0;
    lives = a.1;
    export = a.2.export;
    kind = a.2.kind;
  }

  pub links-alike : ((n : ℕ) → names_of new n ≡ names_of old n) → (n : ℕ) (c : Content)
      → links_of new n c ≡ links_of old n c
  links-alike names n c = links-same old new n c (names n)
      (ap (λ (test : ℕ → Bool). count_by (λ (e : Entry). test e.number) (entries_of c))
      (λ i. λ k. directories-alike k i))

-- ---- one object in the place of another
module _ (m : State) (number : ℕ) (old new : Living) (lives : get m.objects number ≡ Some old)
    (keeps : KeepsNames old new) where
  pub replaced-alike : (n : ℕ) → Alike (get m.objects n) (get (insert m.objects number new) n)
  replaced-alike n =
      subst (Alike (get m.objects n)) (sym (get-inserted m.objects number new n))
      (elim (n == number) as (λ b. (n == number) ≡ b → Alike (get m.objects n) (cond b (Some new) (get m.objects n))) [
        | true ↦ λ e. subst (λ o. Alike o (Some new)) (sym (ap (get m.objects) ((unsigned_Decides n number).0 e)
            ∙ lives)) keeps
        | false ↦ λ e. alike_itself (get m.objects n)
      ] refl)

  pub replaced-names : (n : ℕ) → names_of (record m { objects = insert m.objects number new }) n ≡ names_of m n
  replaced-names n =
      let same : names_in n new ≡ names_in n old = ap (count_by (λ (e : Entry). e.number == n))
      (keeps_entries old new keeps) in
      let sums = sum-insert_old (names_in n) m.objects number old new lives in
      omega (arith, same, sums)
