-- What is written of a value spells it: each item is appended behind what stands, so the bytes of a whole are those of
-- its parts in order.
use Rattle.std.proofs.Common.{◌≡◌, ℕ, List, [], ◌∷◌, ◌++◌, length, Some, None, refl, sym, ap, ◌∙◌, append_assoc}
use Rattle.std.proofs.Common.{replicate}
use Rattle.std.specs.Prelude.{fold}
use Rattle.std.specs.List.{AllByRecursion}
use Rattle.std.specs.Int.{w32, to_be_bytes}
use Rattle.std.proofs.lemmas.List.{append-nil, length-replicate}
use Rattle.nfs_xdr.specs.Types.{Xdr, Void, Word, Int, Hyper, Flag, Enum, Fixed, Opaque, Pair, Array, Optional, Entries}
use Rattle.nfs_xdr.specs.Types.{Union, Value, padding, ZeroPadding, IsPadded, SpellsAll, SpellsEntries, SpellsBy}
use Rattle.nfs_xdr.specs.Types.{HasSpelling}
use Rattle.nfs_xdr.specs.Writing.{padded, with_word, with_hyper, with_padded, with_arm, appended, write}

-- ---- nothing that stands is touched

-- what is appended does not depend on what it is appended to
abbrev Appends : (List ℕ → List ℕ) → Type 0
Appends f = (old : List ℕ) → f old ≡ old ++ f []

word_appends : (n : ℕ) → Appends (with_word n)
unfolding with_word
word_appends n old = refl

then_appends : (f g : List ℕ → List ℕ) → Appends f → Appends g → Appends (λ old. g (f old))
then_appends f g at_f at_g old =
    at_g (f old) ∙ ap (λ (b : List ℕ). b ++ g []) (at_f old) ∙ append_assoc old (f []) (g [])
    ∙ ap (λ (b : List ℕ). old ++ b) (sym (at_g (f [])))

fold_appends : {A : Type 0} (f : A → List ℕ → List ℕ) → ((v : A) → Appends (f v)) → (vs : List A)
    → Appends (λ old. fold (λ out v. f v out) old vs)
fold_appends f at_f [] old = sym (append-nil old)
fold_appends f at_f (v ∷ vs) old = then_appends (f v) (λ b. fold (λ out w. f w out) b vs) (at_f v)
    (fold_appends f at_f vs) old

-- A value's bytes are the same, whatever stands before them.
pub appends : (t : Xdr) (v : Value t) (old : List ℕ) → appended t v old ≡ old ++ write t v
unfolding appended with_word with_hyper with_padded with_arm
appends Void v old = sym (append-nil old)
appends Word v old = refl
appends Int v old = refl
appends Hyper v old = refl
appends Flag v old = refl
appends (Enum known) v old = refl
appends (Fixed size) v old = refl
appends (Opaque max) v old = append_assoc old (to_be_bytes w32 (length v)) (padded v)
appends (Pair a b) v old = then_appends (appended a v.0) (appended b v.1) (appends a v.0) (appends b v.1) old
appends (Array max a) vs old = then_appends (with_word (length vs)) (λ b. fold (λ out v. appended a v out) b vs)
    (word_appends (length vs)) (fold_appends (appended a) (appends a) vs) old
appends (Optional a) None old = refl
appends (Optional a) (Some v) old = then_appends (with_word 1) (appended a v) (word_appends 1) (appends a v) old
appends (Entries a) vs old =
    let entry = λ (v : Value a) (out : List ℕ). appended a v (with_word 1 out) in
    let entry_appends : (v : Value a) → Appends (entry v) = λ v. then_appends (with_word 1) (appended a v)
    (word_appends 1) (appends a v) in
    then_appends (λ b. fold (λ out v. entry v out) b vs) (with_word 0) (fold_appends entry entry_appends vs)
    (word_appends 0) old
appends (Union known arm) v old = then_appends (with_word v.0) (appended (arm v.0) v.1) (word_appends v.0)
    (appends (arm v.0) v.1) old

-- ---- the bytes of a whole are those of its parts

fold_first : {A : Type 0} (f : A → List ℕ → List ℕ) → ((v : A) → Appends (f v)) → (v : A) (vs : List A)
    → fold (λ out w. f w out) [] (v ∷ vs) ≡ f v [] ++ fold (λ out w. f w out) [] vs
fold_first f at_f v vs = fold_appends f at_f vs (f v [])

-- an entry behind its TRUE
abbrev entry_on : (a : Xdr) → Value a → List ℕ → List ℕ
entry_on a v out = appended a v (with_word 1 out)

entry_appends : (a : Xdr) (v : Value a) → Appends (entry_on a v)
entry_appends a v old = then_appends (with_word 1) (appended a v) (word_appends 1) (appends a v) old

entries_first : (a : Xdr) (v : Value a) (vs : List (Value a))
    → write (Entries a) (v ∷ vs) ≡ to_be_bytes w32 1 ++ (write a v ++ write (Entries a) vs)
unfolding appended with_word
entries_first a v vs =
    let entries = fold (λ out w. entry_on a w out) [] vs in
    let first : entry_on a v [] ≡ to_be_bytes w32 1 ++ write a v = appends a v (with_word 1 []) in
    ap (λ (b : List ℕ). b ++ to_be_bytes w32 0) (fold_first (entry_on a) (entry_appends a) v vs
    ∙ ap (λ (b : List ℕ). b ++ entries) first)
    ∙ append_assoc (to_be_bytes w32 1 ++ write a v) entries (to_be_bytes w32 0)
    ∙ append_assoc (to_be_bytes w32 1) (write a v) (entries ++ to_be_bytes w32 0)

-- ---- what is written spells the value

-- padding of zeros is padding of this kind
abbrev HoldsZeros : (List ℕ → Type 0) → Type 0
HoldsZeros pads = (n : ℕ) → pads (replicate n 0)

padded_spells : (pads : List ℕ → Type 0) → HoldsZeros pads → (value : List ℕ) → IsPadded pads value (padded value)
padded_spells pads zeros value = record {
  pad = replicate (padding (length value)) 0;
  enough = length-replicate
      (padding (length value)) 0;
  allowed = zeros (padding (length value));
  whole = refl;
}

all_spells : (pads : List ℕ → Type 0) (a : Xdr) → ((v : Value a) → HasSpelling a v → SpellsBy pads a v (write a v))
    → (vs : List (Value a)) → AllByRecursion (HasSpelling a) vs
    → SpellsAll (SpellsBy pads a) vs (fold (λ out v. appended a v out) [] vs)
all_spells pads a spells [] h = refl
all_spells pads a spells (v ∷ vs) h = (
  write a v,
  fold (λ out w. appended a w out) [] vs,
  fold_first (appended a)
      (appends a) v vs,
  spells v h.0,
  all_spells pads a spells vs h.1,
)

entries_spell : (pads : List ℕ → Type 0) (a : Xdr) → ((v : Value a) → HasSpelling a v → SpellsBy pads a v (write a v))
    → (vs : List (Value a)) → AllByRecursion (HasSpelling a) vs
    → SpellsEntries (SpellsBy pads a) vs (write (Entries a) vs)
unfolding appended with_word
entries_spell pads a spells [] h = refl
entries_spell pads a spells (v ∷ vs) h = (
  write a v,
  write (Entries a) vs,
  entries_first a v vs,
  spells v h.0,
  entries_spell pads a spells vs h.1,
)

-- What is written of a value that has a spelling spells it.
pub writes : (pads : List ℕ → Type 0) → ((n : ℕ) → pads (replicate n 0)) → (t : Xdr) (v : Value t) → HasSpelling t v
    → SpellsBy pads t v (write t v)
unfolding appended with_word with_hyper with_padded with_arm
writes pads zeros Void v h = refl
writes pads zeros Word v h = (h, refl)
writes pads zeros Int v h = (h, refl)
writes pads zeros Hyper v h = (h, refl)
writes pads zeros Flag v h = refl
writes pads zeros (Enum known) v h = (h.0, h.1, refl)
writes pads zeros (Fixed size) v h = (h, padded_spells pads zeros v)
writes pads zeros (Opaque max) v h = (h.0, h.1, (padded v, refl, padded_spells pads zeros v))
writes pads zeros (Pair a b) v h = (
  write a v.0,
  write b v.1,
  appends b v.1 (write a v.0),
  writes pads zeros a v.0 h.0,
  writes pads zeros b v.1 h.1,
)
writes pads zeros (Array max a) vs h = (
  h.0,
  h.1,
  (
    fold (λ out v. appended a v out) [] vs,
    fold_appends (appended a)
        (appends a) vs (with_word (length vs) []),
    all_spells pads a (writes pads zeros a) vs h.2,
  ),
)
writes pads zeros (Optional a) None h = refl
writes pads zeros (Optional a) (Some v) h = (write a v, appends a v (with_word 1 []), writes pads zeros a v h)
writes pads zeros (Entries a) vs h = entries_spell pads a (writes pads zeros a) vs h
writes pads zeros (Union known arm) v
    h = (h.0, h.1, (write (arm v.0) v.1, appends (arm v.0) v.1 (with_word v.0 []), writes pads zeros (arm v.0) v.1 h.2))

-- ---- nothing else spells it with zeros

padded_only : (value bytes : List ℕ) → IsPadded ZeroPadding value bytes → bytes ≡ padded value
padded_only value bytes p = p.whole ∙ ap (λ (b : List ℕ). value ++ b) (p.allowed
    ∙ ap (λ (n : ℕ). replicate n 0) p.enough)

all_only : (a : Xdr) → ((v : Value a) (bytes : List ℕ) → SpellsBy ZeroPadding a v bytes → bytes ≡ write a v)
    → (vs : List (Value a)) (bytes : List ℕ) → SpellsAll (SpellsBy ZeroPadding a) vs bytes
    → bytes ≡ fold (λ out v. appended a v out) [] vs
all_only a only [] bytes s = s
all_only a only (v ∷ vs) bytes s =
    s.2 ∙ ap (λ (b : List ℕ). b ++ s.1) (only v s.0 s.3)
    ∙ ap (λ (b : List ℕ). write a v ++ b) (all_only a only vs s.1 s.4)
    ∙ sym (fold_first (appended a) (appends a) v vs)

entries_only : (a : Xdr) → ((v : Value a) (bytes : List ℕ) → SpellsBy ZeroPadding a v bytes → bytes ≡ write a v)
    → (vs : List (Value a)) (bytes : List ℕ) → SpellsEntries (SpellsBy ZeroPadding a) vs bytes
    → bytes ≡ write (Entries a) vs
unfolding appended with_word
entries_only a only [] bytes s = s
entries_only a only (v ∷ vs) bytes s =
    s.2 ∙ ap (λ (b : List ℕ). to_be_bytes w32 1 ++ (b ++ s.1)) (only v s.0 s.3)
    ∙ ap (λ (b : List ℕ). to_be_bytes w32 1 ++ (write a v ++ b)) (entries_only a only vs s.1 s.4)
    ∙ sym (entries_first a v vs)

-- The one spelling with zeros as padding is what is written.
pub only : (t : Xdr) (v : Value t) (bytes : List ℕ) → SpellsBy ZeroPadding t v bytes → bytes ≡ write t v
unfolding appended with_word with_hyper with_padded with_arm
only Void v bytes s = s
only Word v bytes s = s.1
only Int v bytes s = s.1
only Hyper v bytes s = s.1
only Flag v bytes s = s
only (Enum known) v bytes s = s.2
only (Fixed size) v bytes s = padded_only v bytes s.1
only (Opaque max) v bytes s = s.2.1 ∙ ap (λ (b : List ℕ). to_be_bytes w32 (length v) ++ b) (padded_only v s.2.0 s.2.2)
only (Pair a b) v bytes s =
    s.2 ∙ ap (λ (c : List ℕ). c ++ s.1) (only a v.0 s.0 s.3)
    ∙ ap (λ (c : List ℕ). write a v.0 ++ c) (only b v.1 s.1 s.4) ∙ sym (appends b v.1 (write a v.0))
only (Array max a) vs bytes s =
    s.2.1 ∙ ap (λ (c : List ℕ). to_be_bytes w32 (length vs) ++ c) (all_only a (only a) vs s.2.0 s.2.2)
    ∙ sym (fold_appends (appended a) (appends a) vs (with_word (length vs) []))
only (Optional a) None bytes s = s
only (Optional a) (Some v) bytes s = s.1 ∙ ap (λ (c : List ℕ). to_be_bytes w32 1 ++ c) (only a v s.0 s.2)
    ∙ sym (appends a v (with_word 1 []))
only (Entries a) vs bytes s = entries_only a (only a) vs bytes s
only (Union known arm) v bytes s = s.2.1
    ∙ ap (λ (c : List ℕ). to_be_bytes w32 v.0 ++ c) (only (arm v.0) v.1 s.2.0 s.2.2)
    ∙ sym (appends (arm v.0) v.1 (with_word v.0 []))

-- ---- what is spelled has a spelling

all_have : {A : Type 0} (spells : A → List ℕ → Type 0) (has : A → Type 0) → ((v : A) (bytes : List ℕ) → spells v bytes
    → has v) → (vs : List A) (bytes : List ℕ) → SpellsAll spells vs bytes → AllByRecursion has vs
all_have spells has have [] bytes s = tt
all_have spells has have (v ∷ vs) bytes s = (have v s.0 s.3, all_have spells has have vs s.1 s.4)

entries_have : {A : Type 0} (spells : A → List ℕ → Type 0) (has : A → Type 0)
    → ((v : A) (bytes : List ℕ) → spells v bytes → has v) → (vs : List A) (bytes : List ℕ)
    → SpellsEntries spells vs bytes → AllByRecursion has vs
entries_have spells has have [] bytes s = tt
entries_have spells has have (v ∷ vs) bytes s = (have v s.0 s.3, entries_have spells has have vs s.1 s.4)

-- Only a value that has a spelling is spelled.
pub has_spelling : (pads : List ℕ → Type 0) (t : Xdr) (v : Value t) (bytes : List ℕ) → SpellsBy pads t v bytes
    → HasSpelling t v
has_spelling pads Void v bytes s = tt
has_spelling pads Word v bytes s = s.0
has_spelling pads Int v bytes s = s.0
has_spelling pads Hyper v bytes s = s.0
has_spelling pads Flag v bytes s = tt
has_spelling pads (Enum known) v bytes s = (s.0, s.1)
has_spelling pads (Fixed size) v bytes s = s.0
has_spelling pads (Opaque max) v bytes s = (s.0, s.1)
has_spelling pads (Pair a b) v bytes s = (has_spelling pads a v.0 s.0 s.3, has_spelling pads b v.1 s.1 s.4)
has_spelling pads (Array max a) vs bytes s = (
  s.0,
  s.1,
  all_have (SpellsBy pads a) (HasSpelling a) (has_spelling pads a)
      vs s.2.0 s.2.2,
)
has_spelling pads (Optional a) None bytes s = tt
has_spelling pads (Optional a) (Some v) bytes s = has_spelling pads a v s.0 s.2
has_spelling pads (Entries a) vs bytes s = entries_have (SpellsBy pads a) (HasSpelling a) (has_spelling pads a) vs
    bytes s
has_spelling pads (Union known arm) v bytes s = (s.0, s.1, has_spelling pads (arm v.0) v.1 s.2.0 s.2.2)
