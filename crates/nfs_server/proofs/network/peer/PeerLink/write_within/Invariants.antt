use Rattle.std.proofs.Common.{◌≡◌, length}
use Rattle.nfs_server.proofs.SentLineLemmas.{Writing}
use Rattle.nfs_server.proofs.network.peer.PeerLink.write_within.Given as goal

abbrev pub invariant-parts : goal.invariant-parts
invariant-parts g l =
    Writing (g.P.Peer.written l.initial.self.peer) (g.P.Peer.written l.self.peer) l.bytes l.rest
    × (g.P.Peer.unread l.self.peer ≡ g.P.Peer.unread l.initial.self.peer)
    × (l.self.host ≡ l.initial.self.host)
    × (l.self.deadline ≡ l.initial.self.deadline)

abbrev pub decreases-parts : goal.decreases-parts
decreases-parts g l = length l.rest
