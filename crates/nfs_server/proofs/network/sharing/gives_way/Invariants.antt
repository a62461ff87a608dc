use Rattle.nfs_server.proofs.SharingLemmas.{LongestOf}
use Rattle.nfs_server.proofs.network.sharing.gives_way.Given as goal

abbrev pub invariant-loop-place : goal.invariant-loop-place
invariant-loop-place l = LongestOf l.places l.host l.present l.place l.found l.longest
