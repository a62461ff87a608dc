-- What a call on names may want next in its plan.
use Rattle.std.specs.Prelude.{ℕ, Option, IfSome, Err, option_map, slice_get}
use Rattle.std.specs.Option.{option_and_then}
use Rattle.nfs_wire.specs.declared.calls.NfsCall.{NfsCall}
use Rattle.nfs_machine.specs.Handles.{handle_of}
use Rattle.nfs_machine.specs.declared.calls.Call.{Call}
use Rattle.nfs_machine.specs.declared.calls.Call.TheVariants as calls
use Rattle.nfs_objects.specs.Asks.{MayAsk}
use Rattle.nfs_objects.specs.Attempt.{EndsCall}
use Rattle.nfs_wire.specs.Handles.{nfs_handles}
use Rattle.nfs_objects.specs.Calls.{made_by, named_by}
use Rattle.nfs_objects.specs.Values.{DraftValue}
use Rattle.nfs_objects.specs.declared.address.Addr.{Addr}
use Rattle.nfs_objects.specs.declared.change.Missing.{Missing}
use Rattle.nfs_objects.specs.declared.modes.Mode.{Mode}
use Rattle.nfs_inodes.specs.Wants.{IsWanted}
use Rattle.nfs_inodes.specs.declared.wishes.Want.{Want}
use Rattle.nfs_names.specs.declared.plan.Plan.{Plan}

-- the call may ask for this on the view of its draft
abbrev pub MayWant : NfsCall → DraftValue → Addr × Mode → Type 0
MayWant call d a = MayAsk d.modes (named_by (calls.Nfs call) d.view) d.view a

-- the call may halt so on the view of its draft
abbrev pub MayHalt : Call → DraftValue → Missing → Type 0
MayHalt call d halt = EndsCall call d.ctx d.view (Err halt)

-- so it may for what it wants next, wherever its plan is then
abbrev pub MayGoOn : NfsCall → DraftValue → Option (Want × Plan) → Type 0
MayGoOn call d next =
    IfSome next (λ (n : Want × Plan). IsWanted d.modes (named_by (calls.Nfs call) d.view) (made_by call) d.view n.0)

-- the number that the second handle of a call names, if it has one
abbrev pub second_number : NfsCall → Option ℕ
second_number call = option_map (λ h. h.fileid) (option_and_then handle_of (slice_get (nfs_handles call) 1))
