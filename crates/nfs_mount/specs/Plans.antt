-- What a call of MOUNT may want next in its plan.
use Rattle.std.specs.Prelude.{Option, IfSome}
use Rattle.nfs_objects.specs.Values.{DraftValue}
use Rattle.nfs_inodes.specs.Wants.{IsWanted}
use Rattle.nfs_inodes.specs.declared.wishes.Want.{Want}
use Rattle.nfs_mount.specs.Targets.{tables}
use Rattle.nfs_mount.specs.declared.plan.Plan.{Plan}

-- who names the tables may ask for what is wanted next, wherever the plan is then
abbrev pub MayGoOn : DraftValue → Option (Want × Plan) → Type 0
MayGoOn d next = IfSome next (λ (n : Want × Plan). IsWanted d.modes tables 0 d.view n.0)
