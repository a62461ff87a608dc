-- The map of a view's entries: what a look-up finds is what the view shows.
use Rattle.std.specs.Prelude.{◌≡◌, ◌++◌, Bool, true, false, List, [], ◌∷◌, Some, None, option_map, map}
use Rattle.std.specs.Prelude.{OnOk, Result, Ok, refl}
use Rattle.std.proofs.Common.{cond, nat_eq, ◌&&◌, ◌∙◌, ap, subst}
use Rattle.std.proofs.lemmas.List.{map-append}
use Rattle.std.specs.Arc.{arc_value}
use Rattle.std.specs.Cmp.{nat_eq_equiv}
use Rattle.std.specs.Map.{lookup}
use Rattle.indexmap.proofs.CallerLemmas.{insert_entry-new}
use Rattle.indexmap.specs.IndexMap.{IndexMap, insert_entry}
use Rattle.nfs_objects.specs.contracts.address.AddrPartialEq.TheImpl.{eq-value}
use Rattle.nfs_objects.specs.declared.address.Addr.{Addr}
use Rattle.nfs_objects.specs.declared.address.Addr.TheVariants.{Exports, Inode, Map, Block, Page, Part, Mounts, Usage}
use Rattle.nfs_objects.specs.declared.address.Addr.TheVariants.{Locks}
use Rattle.nfs_objects.specs.declared.view.Entry.{Entry}
use Rattle.nfs_objects.specs.Values.{Seen, is_addr, seen_at, seen_of, shown_at}

-- the addresses of the map are compared so
abbrev pub same_address : Addr → Addr → Bool
same_address a b = (eq-value).it a b

pub tests : (a b : Addr) → same_address a b ≡ is_addr b a
tests Exports Exports = refl
tests Exports (Inode m) = refl
tests Exports (Map m q) = refl
tests Exports (Block m j) = refl
tests Exports (Page m q) = refl
tests Exports (Part m c q) = refl
tests Exports Mounts = refl
tests Exports (Usage f h) = refl
tests Exports (Locks c) = refl
tests (Inode n) Exports = refl
tests (Inode n) (Inode m) = nat_eq_equiv.symm n m
tests (Inode n) (Map m q) = refl
tests (Inode n) (Block m j) = refl
tests (Inode n) (Page m q) = refl
tests (Inode n) (Part m c q) = refl
tests (Inode n) Mounts = refl
tests (Inode n) (Usage f h) = refl
tests (Inode n) (Locks c) = refl
tests (Map n p) Exports = refl
tests (Map n p) (Inode m) = refl
tests (Map n p) (Map m q) =
    ap (λ b. b && nat_eq p q) (nat_eq_equiv.symm n m) ∙ ap (λ b. nat_eq m n && b) (nat_eq_equiv.symm p q)
tests (Map n p) (Block m j) = refl
tests (Map n p) (Page m q) = refl
tests (Map n p) (Part m c q) = refl
tests (Map n p) Mounts = refl
tests (Map n p) (Usage f h) = refl
tests (Map n p) (Locks c) = refl
tests (Block n i) Exports = refl
tests (Block n i) (Inode m) = refl
tests (Block n i) (Map m q) = refl
tests (Block n i) (Block m j) =
    ap (λ b. b && nat_eq i j) (nat_eq_equiv.symm n m) ∙ ap (λ b. nat_eq m n && b) (nat_eq_equiv.symm i j)
tests (Block n i) (Page m q) = refl
tests (Block n i) (Part m c q) = refl
tests (Block n i) Mounts = refl
tests (Block n i) (Usage f h) = refl
tests (Block n i) (Locks c) = refl
tests (Page n p) Exports = refl
tests (Page n p) (Inode m) = refl
tests (Page n p) (Map m q) = refl
tests (Page n p) (Block m j) = refl
tests (Page n p) (Page m q) =
    ap (λ b. b && nat_eq p q) (nat_eq_equiv.symm n m) ∙ ap (λ b. nat_eq m n && b) (nat_eq_equiv.symm p q)
tests (Page n p) (Part m c q) = refl
tests (Page n p) Mounts = refl
tests (Page n p) (Usage f h) = refl
tests (Page n p) (Locks c) = refl
tests (Part n b p) Exports = refl
tests (Part n b p) (Inode m) = refl
tests (Part n b p) (Map m q) = refl
tests (Part n b p) (Block m j) = refl
tests (Part n b p) (Page m q) = refl
tests (Part n b p) (Part m c q) =
    ap (λ t. t && (nat_eq b c && nat_eq p q)) (nat_eq_equiv.symm n m)
    ∙ ap (λ t. nat_eq m n && (t && nat_eq p q)) (nat_eq_equiv.symm b c)
    ∙ ap (λ t. nat_eq m n && (nat_eq c b && t)) (nat_eq_equiv.symm p q)
tests (Part n b p) Mounts = refl
tests (Part n b p) (Usage f h) = refl
tests (Part n b p) (Locks c) = refl
tests Mounts Exports = refl
tests Mounts (Inode m) = refl
tests Mounts (Map m q) = refl
tests Mounts (Block m j) = refl
tests Mounts (Page m q) = refl
tests Mounts (Part m c q) = refl
tests Mounts Mounts = refl
tests Mounts (Usage f h) = refl
tests Mounts (Locks c) = refl
tests (Usage e g) Exports = refl
tests (Usage e g) (Inode m) = refl
tests (Usage e g) (Map m q) = refl
tests (Usage e g) (Block m j) = refl
tests (Usage e g) (Page m q) = refl
tests (Usage e g) (Part m c q) = refl
tests (Usage e g) Mounts = refl
tests (Usage e g) (Usage f h) =
    ap (λ b. b && nat_eq g h) (nat_eq_equiv.symm e f) ∙ ap (λ b. nat_eq f e && b) (nat_eq_equiv.symm g h)
tests (Usage e g) (Locks c) = refl
tests (Locks b) Exports = refl
tests (Locks b) (Inode m) = refl
tests (Locks b) (Map m q) = refl
tests (Locks b) (Block m j) = refl
tests (Locks b) (Page m q) = refl
tests (Locks b) (Part m c q) = refl
tests (Locks b) Mounts = refl
tests (Locks b) (Usage f h) = refl
tests (Locks b) (Locks c) = nat_eq_equiv.symm b c

pub tested : (a b : Addr) → same_address a b ≡ is_addr a b
tested Exports Exports = refl
tested Exports (Inode m) = refl
tested Exports (Map m q) = refl
tested Exports (Block m j) = refl
tested Exports (Page m q) = refl
tested Exports (Part m c q) = refl
tested Exports Mounts = refl
tested Exports (Usage f h) = refl
tested Exports (Locks c) = refl
tested (Inode n) Exports = refl
tested (Inode n) (Inode m) = refl
tested (Inode n) (Map m q) = refl
tested (Inode n) (Block m j) = refl
tested (Inode n) (Page m q) = refl
tested (Inode n) (Part m c q) = refl
tested (Inode n) Mounts = refl
tested (Inode n) (Usage f h) = refl
tested (Inode n) (Locks c) = refl
tested (Map n p) Exports = refl
tested (Map n p) (Inode m) = refl
tested (Map n p) (Map m q) = refl
tested (Map n p) (Block m j) = refl
tested (Map n p) (Page m q) = refl
tested (Map n p) (Part m c q) = refl
tested (Map n p) Mounts = refl
tested (Map n p) (Usage f h) = refl
tested (Map n p) (Locks c) = refl
tested (Block n i) Exports = refl
tested (Block n i) (Inode m) = refl
tested (Block n i) (Map m q) = refl
tested (Block n i) (Block m j) = refl
tested (Block n i) (Page m q) = refl
tested (Block n i) (Part m c q) = refl
tested (Block n i) Mounts = refl
tested (Block n i) (Usage f h) = refl
tested (Block n i) (Locks c) = refl
tested (Page n p) Exports = refl
tested (Page n p) (Inode m) = refl
tested (Page n p) (Map m q) = refl
tested (Page n p) (Block m j) = refl
tested (Page n p) (Page m q) = refl
tested (Page n p) (Part m c q) = refl
tested (Page n p) Mounts = refl
tested (Page n p) (Usage f h) = refl
tested (Page n p) (Locks c) = refl
tested (Part n b p) Exports = refl
tested (Part n b p) (Inode m) = refl
tested (Part n b p) (Map m q) = refl
tested (Part n b p) (Block m j) = refl
tested (Part n b p) (Page m q) = refl
tested (Part n b p) (Part m c q) = refl
tested (Part n b p) Mounts = refl
tested (Part n b p) (Usage f h) = refl
tested (Part n b p) (Locks c) = refl
tested Mounts Exports = refl
tested Mounts (Inode m) = refl
tested Mounts (Map m q) = refl
tested Mounts (Block m j) = refl
tested Mounts (Page m q) = refl
tested Mounts (Part m c q) = refl
tested Mounts Mounts = refl
tested Mounts (Usage f h) = refl
tested Mounts (Locks c) = refl
tested (Usage e g) Exports = refl
tested (Usage e g) (Inode m) = refl
tested (Usage e g) (Map m q) = refl
tested (Usage e g) (Block m j) = refl
tested (Usage e g) (Page m q) = refl
tested (Usage e g) (Part m c q) = refl
tested (Usage e g) Mounts = refl
tested (Usage e g) (Usage f h) = refl
tested (Usage e g) (Locks c) = refl
tested (Locks b) Exports = refl
tested (Locks b) (Inode m) = refl
tested (Locks b) (Map m q) = refl
tested (Locks b) (Block m j) = refl
tested (Locks b) (Page m q) = refl
tested (Locks b) (Part m c q) = refl
tested (Locks b) Mounts = refl
tested (Locks b) (Usage f h) = refl
tested (Locks b) (Locks c) = refl

-- what holds of a good end holds where it was one
pub so-ok : {T E P : Type 0} {r : Result T E} {x : T} → r ≡ Ok x → OnOk r P → P
so-ok {P = P} is holds = subst (λ r. OnOk r P) is holds

module _ (a : Addr) where
  pub lookup-shown : (pairs : List (Addr × Entry)) →
      option_map (λ (e : Entry). option_map arc_value e.object) (lookup (same_address a) pairs) ≡ shown_at
      (map seen_of pairs) a
  lookup-shown [] = refl
  lookup-shown (p ∷ pairs) =
      ap (λ b. option_map (λ (e : Entry). option_map arc_value e.object)
      (cond b (Some p.1) (lookup (same_address a) pairs))) (tests a p.0)
      ∙ elim (is_addr p.0 a) as (λ b.
      option_map (λ (e : Entry). option_map arc_value e.object) (cond b (Some p.1) (lookup (same_address a) pairs))
      ≡ option_map (λ (e : Seen). e.object) (cond b (Some (seen_of p)) (seen_at (map seen_of pairs) a))) [
        | true ↦ refl
        | false ↦ lookup-shown pairs
      ]

  -- an address that is not seen is not in the map
  pub lookup-none : (pairs : List (Addr × Entry)) → seen_at (map seen_of pairs) a ≡ None →
      lookup (same_address a) pairs ≡ None
  lookup-none [] none = refl
  lookup-none (p ∷ pairs) none =
      ap (λ b. cond b (Some p.1) (lookup (same_address a) pairs)) (tests a p.0)
      ∙ elim (is_addr p.0 a) as (λ b. cond b (Some (seen_of p)) (seen_at (map seen_of pairs) a) ≡ None →
      cond b (Some p.1) (lookup (same_address a) pairs) ≡ None) [
        | true ↦ λ here. cc
        | false ↦ λ there. lookup-none pairs there
      ] none

  -- and is added last
  pub added-last : {S : Type 0} (old : IndexMap Addr Entry S) (new : List (Addr × Entry)) (entry : Entry)
      → seen_at (map seen_of old.entries) a ≡ None → new ≡ insert_entry same_address old.entries a entry
      → map seen_of new ≡ map seen_of old.entries ++ seen_of (a, entry) ∷ []
  added-last old new entry none made =
      ap (map seen_of) (made ∙ insert_entry-new same_address old a entry (lookup-none old.entries none))
      ∙ map-append seen_of old.entries ((a, entry) ∷ [])
