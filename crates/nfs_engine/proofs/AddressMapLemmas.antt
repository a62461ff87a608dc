-- A look-up in a map by address, before and after a change.
use Rattle.std.proofs.Common.{◌≡◌, true, false, cond, List, [], ◌∷◌, map, Option, Some, None}
use Rattle.std.proofs.Common.{option_map, refl, sym, ◌∙◌, ap}
use Rattle.std.specs.Map.{lookup}
use Rattle.nfs_tables.specs.Tables as tables
pub use Rattle.nfs_objects.proofs.ViewLookupLemmas.{same_address, tested}
use Rattle.nfs_objects.specs.declared.address.Addr.{Addr}
use Rattle.nfs_objects.specs.Values.{is_addr}
use Rattle.nfs_engine.specs.Found.{Changes, found}

module _ {S V : Type 0} (value : S → V) where
  abbrev pub seen : List (Addr × S) → List (Addr × V)
  seen es = map (λ e. (e.0, value e.1)) es

  -- what is seen of the map is what the map has
  pub found-lookup : (a : Addr) (es : List (Addr × S)) → found (seen es) a ≡ option_map value
      (lookup (same_address a) es)
  found-lookup a [] = refl
  found-lookup a (e ∷ es) =
      ap (λ b. cond b (Some (value e.1)) (found (seen es) a)) (sym (tested a e.0))
      ∙ elim (same_address a e.0) as (λ b. cond b (Some (value e.1)) (found (seen es) a)
      ≡ option_map value (cond b (Some e.1) (lookup (same_address a) es))) [
        | true ↦ refl
        | false ↦ found-lookup a es
      ]

  -- one address of the table was changed
  pub found-turned : (m n : tables.TableValue Addr S) (a : Addr) (o : Option S)
      → tables.Changes same_address m n a o
      → Changes (found (seen (tables.entries m))) (found (seen (tables.entries n))) a (option_map value o)
  found-turned m n a o changes b =
      found-lookup b (tables.entries n)
      ∙ ap (option_map value) (changes b)
      ∙ ap (λ t. option_map value (cond t o (lookup (same_address b) (tables.entries m)))) (tested a b)
      ∙ elim (is_addr a b) as (λ t. option_map value (cond t o (lookup (same_address b) (tables.entries m)))
      ≡ cond t (option_map value o) (found (seen (tables.entries m)) b)) [
        | true ↦ refl
        | false ↦ sym (found-lookup b (tables.entries m))
      ]

  -- what the table lacks is not in what is seen of it
  pub lookup-none : (a : Addr) (es : List (Addr × S)) → found (seen es) a ≡ None → lookup (same_address a) es ≡ None
  lookup-none a es none = by (lookup (same_address a) es) refl
    where
      by : (o : Option S) → lookup (same_address a) es ≡ o → o ≡ None
      by None there = refl
      by (Some v) there = absurd (cc (sym (ap (option_map value) there), sym (found-lookup a es), none))
