use Rattle.std.proofs.Common.{IfSome, List, Option, sym, ap, subst}
use Rattle.slab.specs.Slab.{Slab}
use Rattle.nfs_engine.proofs.OriginsLemmas.{begun_origins}
use Rattle.nfs_engine.specs.Running.{CallsValue, IsInProgress, Joins}
use Rattle.nfs_engine.specs.declared.running.Running.{Running}
use Rattle.nfs_engine.proofs.running.Calls.begin.Goals as goal

pub invariant_of-self-2 : goal.invariant_of-self-2
invariant_of-self-2 c =
    let new = c.insert_reserved-key.new.self.slots in
    let key = c.insert_reserved-key.result in
    let joins = subst (λ (living : List (Option Running)). Joins living new key c.self.inside.next_id c.args.origin)
    (ap (λ (s : Slab Running). s.slots) c.reserve.ensures.rest_kept) (record {
      vacant = c.insert_reserved-key.ensures.was_vacant;
      running = c.insert_reserved-key.ensures.updates.changed;
      others = c.insert_reserved-key.ensures.updates.others;
      count = c.insert_reserved-key.ensures.len;
    }) in
    begun_origins c.self.inside.living.slots new key c.self.inside.next_id c.args.origin joins
    c.self.inside.origins c.note.new.origins
    (subst (λ (v : CallsValue). IfSome c.args.origin (λ o. IsInProgress v.living o → ⊥)) (sym c.self.view_is)
    c.requires) c.in-Ok-note.ensures.noted c.self.invariant
