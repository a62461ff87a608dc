-- What a plan of MOUNT wants next may be asked for.
use Rattle.std.proofs.Common.{◌≡◌, [], Option, Some, None, inl, inr, refl, sym, subst}
use Rattle.std.specs.Prelude.{IfSome}
use Rattle.side_wire.specs.declared.mount.MountCall.{MountCall}
use Rattle.nfs_machine.specs.declared.calls.Call.{Call}
use Rattle.nfs_machine.specs.declared.calls.Call.TheVariants as calls
use Rattle.nfs_machine.specs.declared.context.Ctx.{Ctx}
use Rattle.nfs_objects.proofs.SeenLemmas.{unknown-unseen}
use Rattle.nfs_objects.specs.Asks.{MayAsk}
use Rattle.nfs_objects.specs.Calls.{IsAmong, named_by, new_numbers}
use Rattle.nfs_objects.specs.Modes.{held_mode, modes_of}
use Rattle.nfs_objects.specs.Values.{DraftValue, ViewValue, known_at, new_draft}
use Rattle.nfs_objects.specs.declared.address.Addr.{Addr}
use Rattle.nfs_objects.specs.declared.modes.Mode.{Mode}
use Rattle.nfs_inodes.specs.Gathers.{MayWish}
use Rattle.nfs_inodes.specs.Wants.{IsWanted}
use Rattle.nfs_inodes.specs.declared.wishes.Want.{Want}
use Rattle.nfs_mount.specs.Plans.{MayGoOn}
use Rattle.nfs_mount.specs.Targets.{tables}
use Rattle.nfs_mount.specs.declared.plan.Plan.{Plan}

-- where something stands there
pub wish-wanted : (d : DraftValue) (a : Addr × Mode) → MayWish d a → MayAsk d.modes tables d.view a
wish-wanted d a wish = record { unseen = wish.unseen; mode = wish.mode; bounded = inr wish.lives }

-- a table that the draft lacks
pub table-wanted : (d : DraftValue) (a : Addr) → IsAmong tables a → (w : Addr × Mode) →
    (known_at d a ≡ None) × (w ≡ (a, held_mode d.modes d.view a)) → MayAsk d.modes tables d.view w
table-wanted d a among w lacked = subst (MayAsk d.modes tables d.view) (sym lacked.1)
    (record { unseen = unknown-unseen d a lacked.0; mode = refl; bounded = inl among })

-- ---- the draft of a call
module _ (call : Call) (mount : MountCall) (ctx : Ctx) (view : ViewValue) (d : DraftValue)
    (is : call ≡ calls.Mount mount) (made : d ≡ new_draft ctx view (modes_of call)) where
  pub begun : d.writes ≡ []
  begun = subst (λ (e : DraftValue). e.writes ≡ []) (sym made) refl

  abbrev May : Call → DraftValue → Want → Type 0
  May c e want = IsWanted e.modes (named_by c e.view) (new_numbers c e.view) e.view want

  pub goes-on : (next : Option (Want × Plan)) → MayGoOn d next →
      IfSome next
      (λ (n : Want × Plan). IsWanted (modes_of call) (named_by call view) (new_numbers call view) view n.0)
  goes-on None may = tt
  goes-on (Some n) may = subst (λ e. May call e n.0) made (subst (λ c. May c d n.0) (sym is) may)
