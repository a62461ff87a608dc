use Rattle.std.proofs.Common.{List, refl, subst, sym}
use Rattle.nfs_objects.specs.declared.address.Addr.{Addr}
use Rattle.nfs_engine.proofs.StandingCountLemmas.{no-objects}
use Rattle.nfs_engine.specs.Standing.{HasObjects}
use Rattle.nfs_engine.specs.Tables.{IsTidy, kept_slots, store_of}
use Rattle.nfs_engine.specs.declared.objects.StoredObject.{StoredObject}
use Rattle.nfs_engine.proofs.objects.Objects.new.Goals as goal

pub invariant_of-result : goal.invariant_of-result
invariant_of-result c =
    subst (λ (slots : List (Addr × StoredObject)). HasObjects (store_of (kept_slots slots)) 0
    × IsTidy (kept_slots slots)) (sym c.new.ensures) (no-objects, λ a. refl)
