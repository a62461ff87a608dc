use Rattle.std.proofs.Common.{◌≡◌, ◌≤◌, ◌<◌, ◌⊎◌}
use Rattle.nfs_server.proofs.network.dispatcher.Dispatcher.submit.Given as goal

abbrev pub invariant-eras : goal.invariant-eras
invariant-eras g l =
    (l.arrival.received ≡ l.fn.arrival.received)
    × (l.fn.permit.turns ≤ l.permit.turns)
    × ((l.turns ≡ 0) ⊎ (l.fn.permit.turns < l.permit.turns))
