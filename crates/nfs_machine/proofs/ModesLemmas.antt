-- Modes of owners at offsets, and that no two conflict.
use Rattle.std.proofs.Common.{◌≡◌, ℕ, Bool, true, false, not, ◌&&◌, ◌||◌, cond, List, []}
use Rattle.std.proofs.Common.{◌∷◌, ◌++◌, Some, filter, find, refl, sym, ◌∙◌, ap, subst, nat_le}
use Rattle.std.proofs.Common.{◌≤◌, arith, None, Option, option_map}
use Rattle.std.proofs.Math.Bool.{or_comm}
use Rattle.std.proofs.lemmas.Bool.{and_parts, leb-true, le-leb, or_parts}
use Rattle.std.proofs.lemmas.Cmp.{nat_list_eq_equiv}
use Rattle.std.specs.Cmp.{signed_Decides}
use Rattle.std.specs.Cmp.Lexicographic.{bytes_decides}
use Rattle.std.specs.List.{AllByRecursion, list_any}
use Rattle.std.specs.Ordering.{int_eq}
use Rattle.nfs_machine.specs.Bytes.{same_bytes}
use Rattle.nfs_machine.specs.Locks.{Conflicts, HasModes, Mode, denies, is_in, is_within, mode_at, modes_conflict}
use Rattle.nfs_machine.specs.Locks.{modes_with, modes_without, same_owner, same_sharer, shares_conflict}
use Rattle.nfs_machine.specs.LockLaws.{ListedLocksTell, stands_in_way}
use Rattle.nfs_machine.specs.LocksFormed.{NoLocksConflict, NoSharesConflict}
use Rattle.nfs_machine.specs.State.{Lock, Owner, Share, Range}

-- ---- lists
pub all-left : {X : Type 0} (P Q : X → Type 0) (p : X → Bool) (xs : List X) →
    ((x : X) → p x ≡ true → P x → Q x) → AllByRecursion P xs → AllByRecursion Q (filter p xs)
all-left P Q p [] f all = tt
all-left P Q p (x ∷ xs) f all =
    elim (p x) as (λ b. p x ≡ b → AllByRecursion Q (cond b (x ∷ filter p xs) (filter p xs))) [
      | true ↦ λ e. (f x e all.0, all-left P Q p xs f all.1)
      | false ↦ λ e. all-left P Q p xs f all.1
    ] refl

pub all-mapped : {X : Type 0} (P Q : X → Type 0) (xs : List X) → ((x : X) → P x → Q x) →
    AllByRecursion P xs → AllByRecursion Q xs
all-mapped P Q [] f all = tt
all-mapped P Q (x ∷ xs) f all = (f x all.0, all-mapped P Q xs f all.1)

pub all-joined : {X : Type 0} (P : X → Type 0) (xs ys : List X) → AllByRecursion P xs → AllByRecursion P ys →
    AllByRecursion P (xs ++ ys)
all-joined P [] ys left right = right
all-joined P (x ∷ xs) ys left right = (left.0, all-joined P xs ys left.1 right)

pub all-removed : {X : Type 0} (P Q : X → Type 0) (xs : List X) (x : X) (ys : List X) → ((x : X) → P x → Q x)
    → AllByRecursion P (xs ++ x ∷ ys) → AllByRecursion Q (xs ++ ys)
all-removed P Q [] x ys f all = all-mapped P Q ys f all.1
all-removed P Q (z ∷ xs) x ys f all = (f z all.0, all-removed P Q xs x ys f all.1)

pub all-middle : {X : Type 0} (P : X → Type 0) (xs : List X) (x : X) (ys : List X) →
    AllByRecursion P (xs ++ x ∷ ys) → P x
all-middle P [] x ys all = all.0
all-middle P (z ∷ xs) x ys all = all-middle P xs x ys all.1

pub none-passes : {X : Type 0} (p : X → Bool) (xs : List X) → list_any p xs ≡ false →
    AllByRecursion (λ x. p x ≡ false) xs
none-passes p [] e = tt
none-passes p (x ∷ xs) e =
    elim (p x) as (λ b. p x ≡ b → (b || list_any p xs) ≡ false →
    AllByRecursion (λ x. p x ≡ false) (x ∷ xs)) [
      | true ↦ λ is e. cc
      | false ↦ λ is e. (is, none-passes p xs e)
    ] refl e

-- ---- owners
pub owner-itself : (a : Owner) → same_owner a a ≡ true
owner-itself a =
    ap (λ b. (b && same_bytes a.owner a.owner) && int_eq a.process a.process)
    ((bytes_decides a.caller_name a.caller_name).1 refl)
    ∙ ap (λ b. b && int_eq a.process a.process) ((bytes_decides a.owner a.owner).1 refl) ∙
    (signed_Decides a.process a.process).1 refl

pub one-owner : (a b : Owner) → same_owner a b ≡ true → a ≡ b
one-owner a b e =
    let all = and_parts (same_bytes a.caller_name b.caller_name && same_bytes a.owner b.owner)
    (int_eq a.process b.process) e in
    let texts = and_parts (same_bytes a.caller_name b.caller_name) (same_bytes a.owner b.owner) all.0 in
    let n : a.caller_name ≡ b.caller_name = (bytes_decides a.caller_name b.caller_name).0 texts.0 in
    let o : a.owner ≡ b.owner = (bytes_decides a.owner b.owner).0 texts.1 in
    let p : a.process ≡ b.process = (signed_Decides a.process b.process).0 all.1 in
    ap (λ x. record a { caller_name = x }) n ∙ ap
    (λ x. record a { caller_name = b.caller_name; owner = x }) o ∙ ap (λ x. record b { process = x }) p

pub other-back : (a b : Owner) → same_owner a b ≡ false → same_owner b a ≡ false
other-back a b e =
    elim (same_owner b a) as (λ t. same_owner b a ≡ t → t ≡ false) [
      | true ↦ λ is. (let same : same_owner a b ≡ true = subst (λ x. same_owner x b ≡ true) (one-owner b a is)
          (owner-itself b) in let no : true ≡ false = sym same ∙ e in cc)
      | false ↦ λ is. refl
    ] refl

-- ---- what a range contains

-- what a lock contains, and the mode of one that is found
abbrev pub holds : Owner → ℕ → Lock → Bool
holds owner offset l = is_in l.range owner offset

abbrev pub mode_by : Option Lock → Mode
mode_by found = option_map (λ (l : Lock). l.exclusive) found

pub record Inside (r : Range) (owner : Owner) (offset : ℕ) : Type 0 where
  pub owner_is : r.owner ≡ owner
  pub within : is_within r.first r.last offset ≡ true

pub inside : (r : Range) (owner : Owner) (offset : ℕ) → is_in r owner offset ≡ true → Inside r owner offset
inside r owner offset e =
    let all = and_parts (same_owner r.owner owner) (is_within r.first r.last offset) e in
    record { owner_is = one-owner r.owner owner all.0; within = all.1 }

pub none-left : (mode : Mode) → modes_conflict mode None ≡ false
none-left None = refl
none-left (Some a) = refl

pub conflict-back : (a b : Mode) → modes_conflict a b ≡ modes_conflict b a
conflict-back None None = refl
conflict-back None (Some b) = refl
conflict-back (Some a) None = refl
conflict-back (Some a) (Some b) = or_comm a b

-- nothing stands in the way of no mode
pub unlocking-free : (locks : List Lock) (r : Range) → Conflicts locks r None → ⊥
unlocking-free locks r c = (let no : false ≡ true = c.conflict in cc)

-- ---- a list in which no lock stands in the way
pub narrower : (first last low high offset : ℕ) → low ≤ first → last ≤ high →
    is_within first last offset ≡ true → is_within low high offset ≡ true
narrower first last low high offset from to e =
    let w = and_parts (nat_le first offset) (nat_le offset last) e in
    let over : first ≤ offset = leb-true first offset w.0 in
    let under : offset ≤ last = leb-true offset last w.1 in
    ap (λ b. b && nat_le offset high) (le-leb low offset (omega (arith, from, over))) ∙ le-leb offset high
    (omega (arith, to, under))

free-list : (locks : List Lock) (r : Range) (mode : Mode) → list_any (stands_in_way r mode) locks ≡ false
    → (other : Owner) (offset : ℕ) → same_owner r.owner other ≡ false →
    is_within r.first r.last offset ≡ true
    → modes_conflict mode (mode_at locks other offset) ≡ false
free-list [] r mode none other offset apart within = none-left mode
free-list (l ∷ locks) r mode none other offset apart within =
    let away = or_parts (stands_in_way r mode l) (list_any (stands_in_way r mode) locks) none in
    elim (holds other offset l) as (λ b. holds other offset l ≡ b
    → modes_conflict mode (mode_by (cond b (Some l) (find (holds other offset) locks))) ≡ false) [
      | true ↦ λ e.
          let i = inside l.range other offset e in
          let mine = and_parts (nat_le l.first offset) (nat_le offset l.last) i.within in
          let asked = and_parts (nat_le r.first offset) (nat_le offset r.last) within in
          let a1 : l.first ≤ offset = leb-true l.first offset mine.0 in
          let a2 : offset ≤ l.last = leb-true offset l.last mine.1 in
          let b1 : r.first ≤ offset = leb-true r.first offset asked.0 in
          let b2 : offset ≤ r.last = leb-true offset r.last asked.1 in
          let owner : same_owner r.owner l.owner ≡ false =
          subst (λ x. same_owner r.owner x ≡ false) (sym i.owner_is) apart in
          let low : nat_le l.first r.last ≡ true = le-leb l.first r.last (omega (arith, a1, b2)) in
          let high : nat_le r.first l.last ≡ true = le-leb r.first l.last (omega (arith, b1, a2)) in
          sym (passed (same_owner r.owner l.owner) (nat_le l.first r.last) (nat_le r.first l.last)
          (modes_conflict mode (Some l.exclusive)) owner low high) ∙ away.0
      | false ↦ λ e. free-list locks r mode away.1 other offset apart within
    ] refl
  where
    passed : (o a b c : Bool) → o ≡ false → a ≡ true → b ≡ true → (not o && a && b && c) ≡ c
    passed false true true c e2 e3 e4 = refl
    passed true a b c e2 e3 e4 = cc
    passed false false b c e2 e3 e4 = cc
    passed false true false c e2 e3 e4 = cc

pub listed_locks_tell : ListedLocksTell
listed_locks_tell locks r mode none c =
    let no : false ≡ true = sym
    (free-list locks r mode none c.other c.offset c.is_other c.is_inside) ∙ c.conflict in cc

-- ---- no two owners conflict
module _ (locks : List Lock) (r : Range) (mode : Mode) (free : Conflicts locks r mode → ⊥) where
  beside : (a b : Owner) (offset : ℕ) → same_owner a b ≡ false → is_in r a offset ≡ true
      → modes_conflict mode (mode_at locks b offset) ≡ false
  beside a b offset other is =
      let i = inside r a offset is in
      elim (modes_conflict mode (mode_at locks b offset)) as
      (λ t. modes_conflict mode (mode_at locks b offset) ≡ t → t ≡ false) [
        | true ↦ λ c. absurd (free (record {
          other = b;
          offset = offset;
          is_other = subst (λ x. same_owner x b ≡ false) (sym i.owner_is) other;
          is_inside = i.within;
          conflict = c;
        }))
        | false ↦ λ c. refl
      ] refl

  not-both : (a b : Owner) (offset : ℕ) → same_owner a b ≡ false → is_in r a offset ≡ true →
      is_in r b offset ≡ true → ⊥
  not-both a b offset other is too =
      let one : a ≡ b = sym (inside r a offset is).owner_is ∙ (inside r b offset too).owner_is in
      let same : same_owner a b ≡ true = subst (λ x. same_owner a x ≡ true) one (owner-itself a) in
      let no : true ≡ false = sym same ∙ other in
      cc

  pub apart-with : (new : List Lock) → HasModes new (modes_with locks r mode) → NoLocksConflict locks →
      NoLocksConflict new
  apart-with new lists old a b offset other =
      let at-a = mode_at locks a offset in
      let at-b = mode_at locks b offset in
      ap (λ x. modes_conflict x (mode_at new b offset)) (lists.modes_are a offset)
      ∙ ap (λ x. modes_conflict (modes_with locks r mode a offset) x) (lists.modes_are b offset)
      ∙ elim (is_in r a offset) as (λ s. is_in r a offset ≡ s
      → modes_conflict (cond s mode at-a) (modes_with locks r mode b offset) ≡ false) [
        | true ↦ λ is. elim (is_in r b offset) as
            (λ t. is_in r b offset ≡ t → modes_conflict mode (cond t mode at-b) ≡ false) [
              | true ↦ λ too. absurd (not-both a b offset other is too)
              | false ↦ λ out. beside a b offset other is
            ] refl
        | false ↦ λ out. elim (is_in r b offset) as
            (λ t. is_in r b offset ≡ t → modes_conflict at-a (cond t mode at-b) ≡ false) [
              | true ↦ λ is. conflict-back at-a mode ∙ beside b a offset (other-back a b other) is
              | false ↦ λ too. old a b offset other
            ] refl
      ] refl

pub apart-without : (locks : List Lock) (name : List ℕ) (new : List Lock) → HasModes new (modes_without locks name)
    → NoLocksConflict locks → NoLocksConflict new
apart-without locks name new lists old a b offset other =
    let at-a = mode_at locks a offset in
    let at-b = mode_at locks b offset in
    ap (λ x. modes_conflict x (mode_at new b offset)) (lists.modes_are a offset)
    ∙ ap (λ x. modes_conflict (modes_without locks name a offset) x) (lists.modes_are b offset)
    ∙ elim (same_bytes a.caller_name name) as (λ s.
    modes_conflict (cond s None at-a) (modes_without locks name b offset) ≡ false) [
      | true ↦ refl
      | false ↦ elim (same_bytes b.caller_name name) as (λ t. modes_conflict at-a (cond t None at-b) ≡ false) [
        | true ↦ none-left at-a
        | false ↦ old a b offset other
      ]
    ]

-- ---- shares
pub shares-left : (p : Share → Bool) (shares : List Share) → NoSharesConflict shares →
    NoSharesConflict (filter p shares)
shares-left p shares apart =
    all-left (λ (a : Share). AllByRecursion (λ (b : Share). shares_conflict a b ≡ false) shares)
    (λ (a : Share). AllByRecursion (λ (b : Share). shares_conflict a b ≡ false) (filter p shares)) p shares
    (λ a e all. all-left (λ (b : Share). shares_conflict a b ≡ false)
    (λ (b : Share). shares_conflict a b ≡ false) p shares (λ b t x. x) all) apart

pub sharer-back : (a b : Share) → same_sharer a b ≡ same_sharer b a
sharer-back a b =
    ap (λ t. t && same_bytes a.owner b.owner) (nat_list_eq_equiv.symm a.caller_name b.caller_name)
    ∙ ap (λ t. same_bytes b.caller_name a.caller_name && t) (nat_list_eq_equiv.symm a.owner b.owner)

shares-back : (a b : Share) → shares_conflict a b ≡ shares_conflict b a
shares-back a b =
    ap (λ t. not t && (denies a.mode b.access || denies b.mode a.access)) (sharer-back a b)
    ∙ ap (λ t. not (same_sharer b a) && t) (or_comm (denies a.mode b.access) (denies b.mode a.access))

share-itself : (s : Share) → shares_conflict s s ≡ false
share-itself s =
    let or = denies s.mode s.access || denies s.mode s.access in
    ap (λ t. not (t && same_bytes s.owner s.owner) && or) ((bytes_decides s.caller_name s.caller_name).1 refl)
    ∙ ap (λ t. not t && or) ((bytes_decides s.owner s.owner).1 refl)

pub shares-with : (p : Share → Bool) (s : Share) (shares : List Share) →
    list_any (shares_conflict s) shares ≡ false → NoSharesConflict shares →
    NoSharesConflict (filter p shares ++ s ∷ [])
shares-with p s shares free apart =
    let P : Share → Share → Type 0 = λ (a b : Share). shares_conflict a b ≡ false in
    let others : AllByRecursion (P s) (filter p shares) = all-left (P s) (P s) p shares (λ b e x. x)
    (none-passes (shares_conflict s) shares free) in
    let each : AllByRecursion (λ (a : Share). AllByRecursion (P a) (filter p shares))
    (filter p shares) = shares-left p shares apart in
    all-joined (λ (a : Share). AllByRecursion (P a) (filter p shares ++ s ∷ [])) (filter p shares) (s ∷ [])
    (widened (filter p shares) (filter p shares) others each)
    (all-joined (P s) (filter p shares) (s ∷ []) others (share-itself s, tt), tt)
  where
    widened : (left all : List Share) → AllByRecursion (λ (b : Share). shares_conflict s b ≡ false) left →
        AllByRecursion (λ (a : Share). AllByRecursion (λ (b : Share). shares_conflict a b ≡ false) all) left
        → AllByRecursion (λ (a : Share). AllByRecursion (λ (b : Share). shares_conflict a b ≡ false)
        (all ++ s ∷ [])) left
    widened [] all others each = tt
    widened (a ∷ left) all others each = (
      all-joined (λ (b : Share). shares_conflict a b ≡ false) all (s ∷ []) each.0
          (shares-back a s ∙ others.0, tt),
      widened left all others.1 each.1,
    )
