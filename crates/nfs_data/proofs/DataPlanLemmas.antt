-- What a plan of READ or WRITE wants next may be asked for.
use Rattle.std.proofs.Common.{◌≡◌, Option, Some, None, refl, sym, ap, subst}
use Rattle.std.specs.Prelude.{IfSome}
use Rattle.nfs_wire.specs.declared.calls.NfsCall.{NfsCall}
use Rattle.nfs_machine.specs.declared.calls.Call.{Call}
use Rattle.nfs_machine.specs.declared.calls.Call.TheVariants as calls
use Rattle.nfs_machine.specs.declared.context.Ctx.{Ctx}
use Rattle.nfs_objects.specs.Begins.{Begins}
use Rattle.nfs_objects.specs.Calls.{named_by, new_numbers}
use Rattle.nfs_objects.specs.Modes.{modes_of}
use Rattle.nfs_objects.specs.Values.{DraftValue, ViewValue, new_draft}
use Rattle.nfs_inodes.specs.Wants.{IsWanted}
use Rattle.nfs_inodes.specs.declared.wishes.Want.{Want}
use Rattle.nfs_data.specs.Plans.{MayGoOn}
use Rattle.nfs_data.specs.declared.plan.Plan.{Plan}

-- the draft of a call
module _ (call : Call) (nfs-call : NfsCall) (ctx : Ctx) (view : ViewValue) (d : DraftValue)
    (is : call ≡ calls.Nfs nfs-call) (made : d ≡ new_draft ctx view (modes_of call)) where
  pub begun : Begins (calls.Nfs nfs-call) d
  begun = subst (Begins (calls.Nfs nfs-call)) (sym made) (record { none = refl; quiet = refl; modes = ap modes_of is })

  abbrev May : Call → ViewValue → Want → Type 0
  May c v want = IsWanted (modes_of c) (named_by c v) (new_numbers c v) v want

  pub goes-on : (next : Option (Want × Plan)) → MayGoOn nfs-call d next →
      IfSome next
      (λ (n : Want × Plan). IsWanted (modes_of call) (named_by call view) (new_numbers call view) view n.0)
  goes-on None may = tt
  goes-on (Some n) may =
      subst (λ c. May c view n.0) (sym is) (subst (λ (e : DraftValue). May (calls.Nfs nfs-call) e.view n.0) made may)
