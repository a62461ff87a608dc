use Rattle.std.proofs.Common.{◌≡◌, ◌+◌, ◌≤◌, ◌++◌, length}
use Rattle.std.specs.Vec.Iter.{into_iter_items}
use Rattle.std.specs.VecDeque.{deque_capacity, deque_len}
use Rattle.nfs_engine.proofs.outbox.Outbox.post.Given as goal

abbrev pub invariant-messages : goal.invariant-messages
invariant-messages l =
    (l.self-inside.waiting.items ++ into_iter_items l.messages
    ≡ l.initial.self-inside.waiting.items ++ into_iter_items l.initial.messages)
    × (l.self-inside.taken ≡ l.initial.self-inside.taken)
    × (deque_len l.self-inside.waiting + length (into_iter_items l.messages) ≤ deque_capacity l.self-inside.waiting)

abbrev pub decreases-messages : goal.decreases-messages
decreases-messages l = length (into_iter_items l.messages)
