-- What REMOVE and RMDIR come to (RFC 1813, 3.3.12 and 3.3.13).
use Rattle.std.specs.Prelude.{◌≡◌, ℕ, List, Option, Some, Result, Ok, Err, ok_or}
use Rattle.nfs_wire.specs.declared.calls.NfsCall.TheVariants as nfs
use Rattle.nfs_wire.specs.declared.calls.DirOp.{DirOp}
use Rattle.nfs_wire.specs.declared.replies.NfsReply.{NfsReply}
use Rattle.nfs_wire.specs.declared.replies.NfsReply.TheVariants as replies
use Rattle.nfs_wire.specs.declared.replies.RemovedReply.{RemovedReply}
use Rattle.nfs_wire.specs.declared.status.NfsStatus.{NfsStatus}
use Rattle.nfs_wire.specs.declared.status.NfsStatus.TheVariants as status
use Rattle.nfs_machine.specs.Attributes.{entries_of}
use Rattle.nfs_machine.specs.Checks.{◌>>=◌, entry_of, plain_name_checked}
use Rattle.nfs_machine.specs.RemoveSteps.{empty_directory, not_directory, object_under, take_end}
use Rattle.nfs_machine.specs.Resolve.{Named}
use Rattle.nfs_machine.specs.State.{Content, State}
use Rattle.nfs_machine.specs.declared.calls.Call.{Call}
use Rattle.nfs_machine.specs.declared.calls.Call.TheVariants as calls
use Rattle.nfs_machine.specs.declared.context.Ctx.{Ctx}
use Rattle.nfs_inodes.specs.Known.{IsKnown, content_at, target}
use Rattle.nfs_inodes.specs.declared.found.Known.{Known}
use Rattle.nfs_names.specs.declared.remove.Taking.{Taking}
use Rattle.nfs_names.specs.declared.remove.Taking.TheVariants.{Remove, Rmdir}

abbrev pub call_of : Taking → DirOp → Call
call_of Remove place = calls.Nfs (nfs.Remove place)
call_of Rmdir place = calls.Nfs (nfs.Rmdir place)

abbrev pub reply_of : Taking → RemovedReply → NfsReply
reply_of Remove removed = replies.Remove removed
reply_of Rmdir removed = replies.Rmdir removed

-- the status of a call that would take ".." away
abbrev pub above : Taking → NfsStatus
above Remove = status.Invalid
above Rmdir = status.Exists

-- how the object that the name leads to is judged
abbrev pub judged : Taking → Content → Result (Unit {0}) NfsStatus
judged Remove = not_directory
judged Rmdir = empty_directory

abbrev pub IsTakenEnd : Taking → Ctx → DirOp → State → Result (Unit {0} × State) NfsStatus → Type 0
IsTakenEnd taking ctx place m end =
    take_end m ctx place (plain_name_checked status.Invalid (above taking)) (judged taking) ≡ end

-- what a name leads to in the directory at a number
abbrev pub named_in : State → ℕ → List ℕ → Option Named
named_in m number name = object_under m (entry_of (entries_of (content_at m number)) name)

-- this is what the name leads to, and it may be taken away
pub record Takable (taking : Taking) (m : State) (number : ℕ) (name : List ℕ) (x : Known) : Type 0 where
  pub known : IsKnown m x
  pub named : named_in m number name ≡ Some (target m x)
  pub passes : judged taking (content_at m x.number) ≡ Ok tt

abbrev pub IsTakable : Taking → State → (number : ℕ) → List ℕ → Result Known NfsStatus → Type 0
IsTakable taking m number name (Ok x) = Takable taking m number name x
IsTakable taking m number name (Err e) =
    (ok_or (named_in m number name) status.NoEntry >>= λ o. judged taking o.object.content) ≡ Err e
