-- What a call has read stands.
use Rattle.std.proofs.Common.{◌≡◌, List, Some, refl, slice_get, subst, true, ℕ}
use Rattle.std.specs.Prelude.{IfSome}
use Rattle.std.specs.Bool.{Decides}
use Rattle.nfs_objects.specs.Store.{Store}
use Rattle.nfs_objects.specs.Values.{Seen}
use Rattle.nfs_engine.specs.Tables.{Stands}

-- this entry stands
pub shown-at : (store : Store) (entries : List Seen) (place : ℕ) (e : Seen) → Some e ≡ slice_get entries place
    → Stands store e → Decides true (IfSome (slice_get entries place) (Stands store))
shown-at store entries place e is stands =
    (λ yes. subst (λ x. IfSome x (Stands store)) is stands, λ so. refl)
