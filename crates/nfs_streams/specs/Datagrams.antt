-- Answers as datagrams, which have no record marks.
use Rattle.std.specs.Prelude.{◌≡◌, ℕ, ◌+◌, ◌<◌, ◌≤◌, ◌&&◌, true, nat_le, nat_lt}
use Rattle.std.specs.Prelude.{if◌then◌else◌}
use Rattle.std.specs.Prelude.{List, length, drop, Option, Some, None}
use Rattle.nfs_rpc.specs.Records.{fragment}
use Rattle.nfs_streams.specs.declared.datagrams.TheConstants.{MARK_SIZE, MOST_IN_DATAGRAM}

-- what stands behind the mark, where that is a reply and not longer than a datagram may be
abbrev pub datagram_of : List ℕ → Option (List ℕ)
datagram_of answer =
    if nat_lt MARK_SIZE (length answer) && nat_le (length answer) (MARK_SIZE + MOST_IN_DATAGRAM)
    then Some (drop MARK_SIZE answer) else None

-- a reply that is one fragment makes the datagram of its body
abbrev pub RepliesMakeDatagrams : Type 0
RepliesMakeDatagrams = (body : List ℕ) → 0 < length body → length body ≤ MOST_IN_DATAGRAM →
    datagram_of (fragment true body) ≡ Some body
