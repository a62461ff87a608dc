-- What is true of all lists of events.
use Rattle.std.specs.Prelude.{◌≡◌, ◌≢◌, ◌<◌, ◌≤◌, ℕ, List, length, None, Some}
use Rattle.nfs_replies.specs.Kept.{ReplyEvent, KeptReply, after, after_all, events_of, lists_after_all, reply_for}
use Rattle.nfs_replies.specs.Kept.ReplyEvent.{Replied, Repeated}

-- the list of a host is that of its own events
abbrev pub EachHasItsOwn : Type 0
EachHasItsOwn = (capacity : ℕ) (events : List ReplyEvent) (host : List ℕ) →
    lists_after_all capacity events host ≡ after_all capacity (events_of host events)

-- two lists of events that agree in the events of a host leave it the same list
abbrev pub HostsAreApart : Type 0
HostsAreApart = (capacity : ℕ) (one other : List ReplyEvent) (host : List ℕ) →
    events_of host one ≡ events_of host other →
    lists_after_all capacity one host ≡ lists_after_all capacity other host

-- no list has more replies than the capacity says
abbrev pub ListsAreBounded : Type 0
ListsAreBounded = (capacity : ℕ) (events : List ReplyEvent) (host : List ℕ) →
    length (lists_after_all capacity events host) ≤ capacity

-- what was just executed is kept
abbrev pub NewestIsKept : Type 0
NewestIsKept = (capacity : ℕ) (host bytes reply : List ℕ) (list : List KeptReply) → 0 < capacity →
    reply_for bytes (after capacity (Replied host bytes reply) list) ≡ Some reply

-- a record whose reply is not kept comes to no reply by an event of another record, nor by a repeat
abbrev pub NoneComesByOthers : Type 0
NoneComesByOthers = (capacity : ℕ) (host bytes other reply : List ℕ) (list : List KeptReply) →
    reply_for bytes list ≡ None → bytes ≢ other →
    reply_for bytes (after capacity (Replied host other reply) list) ≡ None

abbrev pub NoneComesByRepeats : Type 0
NoneComesByRepeats = (capacity : ℕ) (host bytes other : List ℕ) (list : List KeptReply) →
    reply_for bytes list ≡ None → reply_for bytes (after capacity (Repeated host other) list) ≡ None
