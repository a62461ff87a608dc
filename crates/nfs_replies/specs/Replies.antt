-- What a contract sees of the kept replies.
use Rattle.std.specs.Prelude.{◌≡◌, ℕ, List, [], IfSome, Option, find}
use Rattle.std.specs.Map.{lookup}
use Rattle.std.specs.Option.{option_map_or}
use Rattle.nfs_replies.specs.Kept.{ReplyEvent, KeptReply, KeptLists, lists_after, same_bytes}
use Rattle.nfs_replies.specs.Lists.{KeptListValue}

-- the list of one host
pub record HostReplies : Type 0 where
  pub host : List ℕ
  pub list : List KeptReply

-- the lists of the hosts that have one, and how many replies each of them may have; `kept_of` has the list of any host
pub record RepliesValue : Type 0 where
  pub capacity : ℕ
  pub hosts : List HostReplies

-- the list of a host, where it has one
abbrev pub list_of : RepliesValue → (host : List ℕ) → Option HostReplies
list_of replies host = find (λ h. same_bytes host h.host) replies.hosts

-- the replies that are kept for a host, the newest first
abbrev pub kept_of : RepliesValue → KeptLists
kept_of replies host = option_map_or (λ h. h.list) (list_of replies host) []

-- what an event does to the lists, and that the capacity stays
pub record IsAfter (event : ReplyEvent) (old new : RepliesValue) : Type 0 where
  pub lists : kept_of new ≡ lists_after old.capacity event (kept_of old)
  pub capacity : new.capacity ≡ old.capacity

-- what stands at a host
abbrev pub host_replies : List ℕ × KeptListValue → HostReplies
host_replies pair = record { host = pair.0; list = pair.1.replies }

-- the list of each host has the capacity
abbrev pub AreListed : (capacity : ℕ) → List (List ℕ × KeptListValue) → Type 0
AreListed capacity hosts =
    (host : List ℕ) → IfSome (lookup (same_bytes host) hosts) (λ list. list.capacity ≡ capacity)
