use Rattle.std.proofs.Common.{◌≡◌, ◌+◌, ◌≤◌, length}
use Rattle.nfs_server.specs.Sharing.{hosts_of}
use Rattle.nfs_server.proofs.network.sharing.hosts_of.Given as goal

-- the hosts that were counted, and those of the others
abbrev pub invariant-rests : goal.invariant-rests
invariant-rests l =
    (l.hosts + hosts_of l.rest ≡ hosts_of l.present) × (l.hosts + length l.rest ≤ length l.present)

abbrev pub decreases-rests : goal.decreases-rests
decreases-rests l = length l.rest
