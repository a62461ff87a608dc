-- Entries of a directory that gains and loses names: what stays keeps its cookie.
use Rattle.std.proofs.Common.{
  ◌≡◌,
  ℕ,
  true,
  false,
  cond,
  List,
  [],
  ◌∷◌,
  ◌++◌,
  Some,
  None,
  ◌⊎◌,
  inl,
  inr,
  refl,
  sym,
  ◌∙◌,
  ap,
  subst,
}
use Rattle.std.specs.Cmp.Lexicographic.{bytes_decides}
use Rattle.nfs_machine.specs.Attributes.{entries_of}
use Rattle.nfs_machine.specs.Bytes.{same_bytes}
use Rattle.nfs_machine.specs.Checks.{entry_of}
use Rattle.nfs_machine.specs.Laws.{KeepsEntries}
use Rattle.nfs_machine.specs.RemoveSteps.{without}
use Rattle.nfs_machine.specs.State.{Content, Directory, Entry}
use Rattle.nfs_machine.proofs.MapChangeLemmas.{find-other, find-taken}

pub kept-same : (es : List Entry) → KeepsEntries es es
kept-same es name e f before after number = (let both : Some f ≡ Some e = sym after ∙ before in cc)

-- what is found behind a list is in the list, or it is what was added
found-added : (left : List Entry) (x : Entry) (name : List ℕ) (f : Entry) → entry_of (left ++ x ∷ []) name ≡ Some f
    → (entry_of left name ≡ Some f) ⊎ ((f ≡ x) × (x.name ≡ name))
found-added [] x name f found =
    elim (same_bytes x.name name) as (λ b. same_bytes x.name name ≡ b → cond b (Some x) None ≡ Some f
    → (None ≡ Some f) ⊎ ((f ≡ x) × (x.name ≡ name))) [
      | true ↦ λ t is. (let same : f ≡ x = cc in inr (same, (bytes_decides x.name name).0 t))
      | false ↦ λ t is. inl is
    ] refl found
found-added (y ∷ left) x name f found =
    elim (same_bytes y.name name) as (λ b. cond b (Some y) (entry_of (left ++ x ∷ []) name) ≡ Some f
    → (cond b (Some y) (entry_of left name) ≡ Some f) ⊎ ((f ≡ x) × (x.name ≡ name))) [
      | true ↦ λ is. inl is
      | false ↦ λ is. found-added left x name f is
    ] found

-- what is found among the others was there
found-left : (left : List Entry) (gone name : List ℕ) (f : Entry) → entry_of (without left gone) name ≡ Some f
    → entry_of left name ≡ Some f
found-left left gone name f found =
    elim (same_bytes name gone) as (λ b. same_bytes name gone ≡ b → entry_of left name ≡ Some f) [
      | true ↦ λ t. (let none : entry_of (without left gone) name ≡ None = ap (entry_of (without left gone))
          ((bytes_decides name gone).0 t) ∙ find-taken gone left in cc)
      | false ↦ λ t. sym (find-other name gone left t) ∙ found
    ] refl

pub kept-without : (es left : List Entry) (gone : List ℕ) → KeepsEntries es left → KeepsEntries es (without left gone)
kept-without es left gone keeps name e f before after number = keeps name e f before
    (found-left left gone name f after) number

-- what is added has a name that led to another object, or to nothing
pub kept-added : (es left : List Entry) (x : Entry) → KeepsEntries es left → ((e : Entry) → entry_of es x.name ≡ Some e
    → x.number ≡ e.number → ⊥) → KeepsEntries es (left ++ x ∷ [])
kept-added es left x keeps other name e f before after number =
    elim (found-added left x name f after) [
      | inl there ↦ keeps name e f before there number
      | inr new ↦ absurd (other e (ap (entry_of es) new.1 ∙ before) (ap (λ (y : Entry). y.number) (sym new.0) ∙ number))
    ]

-- of a directory's content
pub kept-of : (c : Content) (es new : List Entry) (last : ℕ) → c ≡ Directory es last → KeepsEntries es new
    → KeepsEntries (entries_of c) new
kept-of c es new last is = subst (λ (x : List Entry). KeepsEntries x new) (sym (ap entries_of is))
