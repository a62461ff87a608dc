-- What a call of NLM may want next in its plan.
use Rattle.std.specs.Prelude.{ℕ, Option, IfSome, option_map, slice_get}
use Rattle.std.specs.Option.{option_and_then}
use Rattle.side_wire.specs.declared.nlm.NlmCall.{NlmCall}
use Rattle.nfs_machine.specs.Handles.{handle_of}
use Rattle.nfs_machine.specs.declared.calls.Call.TheVariants as calls
use Rattle.nfs_objects.specs.Asks.{MayAsk}
use Rattle.side_wire.specs.Handles.{nlm_handles}
use Rattle.nfs_objects.specs.Calls.{named_by, new_numbers}
use Rattle.nfs_objects.specs.Values.{DraftValue}
use Rattle.nfs_objects.specs.declared.address.Addr.{Addr}
use Rattle.nfs_objects.specs.declared.modes.Mode.{Mode}
use Rattle.nfs_inodes.specs.Wants.{IsWanted}
use Rattle.nfs_inodes.specs.declared.wishes.Want.{Want}
use Rattle.nlm_daemon.specs.declared.plan.Plan.{Plan}

-- the call may ask for this on the view of its draft
abbrev pub MayWant : NlmCall → DraftValue → Addr × Mode → Type 0
MayWant call d a = MayAsk d.modes (named_by (calls.Nlm call) d.view) d.view a

-- so it may for what it wants next, wherever its plan is then
abbrev pub MayGoOn : NlmCall → DraftValue → Option (Want × Plan) → Type 0
MayGoOn call d next =
    IfSome next (λ (n : Want × Plan). IsWanted d.modes (named_by (calls.Nlm call) d.view)
    (new_numbers (calls.Nlm call) d.view) d.view n.0)

-- the number of the file that the handle of a call names, if it has one
abbrev pub file_named : NlmCall → Option ℕ
file_named call = option_map (λ h. h.fileid) (option_and_then handle_of (slice_get (nlm_handles call) 0))
