use Rattle.nfs_server.proofs.SharingLemmas.{GreatestOf}
use Rattle.nfs_server.proofs.network.sharing.greatest_count.Given as goal

abbrev pub invariant-loop-place : goal.invariant-loop-place
invariant-loop-place l = GreatestOf l.present l.place l.most
