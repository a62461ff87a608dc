-- Calls that come again: what a repeat is, and the replies that are kept for it.
use Rattle.std.specs.Prelude.{◌≡◌, ℕ, List, Option, Some, None, if◌then◌else◌}
use Rattle.nfs_machine.specs.Changing.{is_changing}
use Rattle.nfs_machine.specs.Run.{Arrival, FromHost, NewExports, host_in, bytes_in}
use Rattle.nfs_machine.specs.declared.calls.Call.{Call}
use Rattle.nfs_replies.specs.Kept.{reply_for}
use Rattle.nfs_replies.specs.Kept.ReplyEvent.{Replied}
use Rattle.nfs_replies.specs.Replies.{IsAfter, RepliesValue, kept_of}
use Rattle.nfs_replies.specs.declared.origins.Origin.{Origin}
use Rattle.nfs_engine.specs.Running.{IsInProgress}
use Rattle.nfs_engine.specs.declared.running.Running.{Running}

-- a record that came again, with the reply that is kept for it
pub record RepeatValue : Type 0 where
  pub received : Arrival
  pub reply : List ℕ

-- what a call came with: a repeat comes from the same host with the same bytes
abbrev pub origin_in : Arrival → Origin
origin_in received = record { host = host_in received; bytes = bytes_in received }

-- the same, where the call changes something; exports are never a repeat
abbrev pub origin_of : Arrival → Call → Option Origin
origin_of (FromHost received) call = if is_changing call then Some (origin_in (FromHost received)) else None
origin_of (NewExports exports moment) call = None

-- the reply that is kept for what comes with this
abbrev pub kept_for : RepliesValue → Origin → Option (List ℕ)
kept_for replies origin = reply_for origin.bytes (kept_of replies origin.host)

-- the answer to a call that changes something is kept, whatever its status; else all stays
abbrev pub Keeps : Option Origin → (answer : List ℕ) → RepliesValue → RepliesValue → Type 0
Keeps None answer old new = new ≡ old
Keeps (Some origin) answer old new = IsAfter (Replied origin.host origin.bytes answer) old new

-- no reply is kept for what a call in progress came with
abbrev pub NoneIsKept : RepliesValue → List (Option Running) → Type 0
NoneIsKept replies living = (origin : Origin) → IsInProgress living origin → kept_for replies origin ≡ None
