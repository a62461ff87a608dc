-- A table after a value was written in one of its maps.
use Rattle.std.proofs.Common.{◌≡◌, ◌-◌, ◌++◌, Bool, List, Option, Some, None, IsSome, is_some, length, refl}
use Rattle.std.proofs.Common.{sym, ◌∙◌, ap, arith, subst, true≢false}
use Rattle.std.proofs.lemmas.Map.Made.{IsSome-lookup_same_keys}
use Rattle.std.proofs.lemmas.Map.Steps.{set_value_same}
use Rattle.std.specs.Cmp.{IsEquivalence}
use Rattle.std.specs.Map.{keys_of, lookup}
use Rattle.std.specs.Option.{option_or}
use Rattle.indexmap.specs.IndexMap.{IndexMap, WritesThrough, spare}
use Rattle.nfs_tables.proofs.TwoMapLemmas.{first-became, lookup-append, or-none, second-became}
use Rattle.nfs_tables.specs.Lending.{Rewrites}
use Rattle.nfs_tables.specs.Tables.{Apart, IsTable, table_of}

module _ {K V : Type 0} (eq : K → K → Bool) where
  -- lists with the same keys are apart from the same
  second-keys : (xs ys zs : List (K × V)) → keys_of zs ≡ keys_of ys → Apart eq xs ys → Apart eq xs zs
  second-keys xs ys zs same apart k there = by (lookup (eq k) zs) refl
    where
      by : (o : Option V) → lookup (eq k) zs ≡ o → o ≡ None
      by None none = refl
      by (Some v) some = absurd (true≢false
          (sym ((IsSome-lookup_same_keys (eq k) zs ys same).0 (ap is_some some)) ∙ ap is_some (apart k there)))

  first-keys : (xs ys zs : List (K × V)) → keys_of zs ≡ keys_of xs → Apart eq xs ys → Apart eq zs ys
  first-keys xs ys zs same apart k there = apart k ((IsSome-lookup_same_keys (eq k) zs xs same).0 there)

  module _ {S : Type 0} (laws : IsEquivalence eq) (waiting placed n : IndexMap K V S) (k : K) where
    -- what the one that lacks the key adds to the other
    pub by-placed : lookup (eq k) waiting.entries ≡ None →
        lookup (eq k) (waiting.entries ++ placed.entries) ≡ lookup (eq k) placed.entries
    by-placed absent =
        lookup-append (eq k) waiting.entries placed.entries
        ∙ ap (λ o. option_or o (lookup (eq k) placed.entries)) absent

    pub by-waiting : lookup (eq k) placed.entries ≡ None →
        lookup (eq k) (waiting.entries ++ placed.entries) ≡ lookup (eq k) waiting.entries
    by-waiting absent =
        lookup-append (eq k) waiting.entries placed.entries
        ∙ ap (option_or (lookup (eq k) waiting.entries)) absent
        ∙ or-none (lookup (eq k) waiting.entries)

    module _ (w : V) where
      pub placed-table : IsTable eq waiting placed → WritesThrough eq (eq k) placed w n → IsTable eq waiting n
      placed-table is writes = record {
        fits = omega (arith, is.fits, writes.6);
        apart = second-keys waiting.entries placed.entries n.entries writes.1 is.apart;
      }

      pub placed-rewrites : lookup (eq k) waiting.entries ≡ None → WritesThrough eq (eq k) placed w n →
          Rewrites eq (table_of waiting placed) (table_of waiting n) k w
      placed-rewrites absent writes = record {
        changes = λ there. second-became eq laws waiting.entries placed.entries k (Some w) absent n.entries
            (writes.3 (subst (λ o. IsSome o) (by-placed absent) there)).0;
        stays = λ is. ap (λ es. waiting.entries ++ es)
            (writes.0 ∙ set_value_same (eq k) placed.entries w (sym (by-placed absent) ∙ is));
        room = ap (λ s. s - length waiting.entries) writes.6;
        waiting = refl;
      }

      pub waiting-table : IsTable eq waiting placed → WritesThrough eq (eq k) waiting w n → IsTable eq n placed
      waiting-table is writes = record {
        fits = omega (arith, is.fits, writes.2);
        apart = first-keys waiting.entries placed.entries n.entries writes.1 is.apart;
      }

      pub waiting-rewrites : lookup (eq k) placed.entries ≡ None → WritesThrough eq (eq k) waiting w n →
          Rewrites eq (table_of waiting placed) (table_of n placed) k w
      waiting-rewrites absent writes = record {
        changes = λ there. first-became eq laws waiting.entries placed.entries k (Some w) absent n.entries
            (writes.3 (subst (λ o. IsSome o) (by-waiting absent) there)).0;
        stays = λ is. ap (λ es. es ++ placed.entries)
            (writes.0 ∙ set_value_same (eq k) waiting.entries w (sym (by-waiting absent) ∙ is));
        room = ap (λ l. spare placed - l) writes.2;
        waiting = writes.2;
      }
