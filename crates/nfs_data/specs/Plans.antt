-- What a call on data may want next in its plan.
use Rattle.std.specs.Prelude.{Option, IfSome}
use Rattle.nfs_wire.specs.declared.calls.NfsCall.{NfsCall}
use Rattle.nfs_machine.specs.declared.calls.Call.TheVariants as calls
use Rattle.nfs_objects.specs.Attempt.{StopsCall}
use Rattle.nfs_objects.specs.Calls.{made_by, named_by}
use Rattle.nfs_objects.specs.Modes.{modes_of}
use Rattle.nfs_objects.specs.Values.{DraftValue}
use Rattle.nfs_objects.specs.declared.change.Missing.{Missing}
use Rattle.nfs_inodes.specs.Wants.{IsWanted}
use Rattle.nfs_inodes.specs.declared.wishes.Want.{Want}
use Rattle.nfs_data.specs.declared.plan.Plan.{Plan}

-- the call may ask for what it lacks on the view of its draft
abbrev pub MayHalt : NfsCall → DraftValue → Missing → Type 0
MayHalt call d halt = StopsCall (modes_of (calls.Nfs call)) (named_by (calls.Nfs call) d.view) 0 d.view halt

-- so it may for what it wants next, wherever its plan is then
abbrev pub MayGoOn : NfsCall → DraftValue → Option (Want × Plan) → Type 0
MayGoOn call d next = IfSome next (λ (n : Want × Plan). IsWanted (modes_of (calls.Nfs call))
    (named_by (calls.Nfs call) d.view) (made_by call) d.view n.0)
