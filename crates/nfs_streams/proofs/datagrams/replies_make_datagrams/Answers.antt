use Rattle.nfs_streams.proofs.DatagramLemmas.{replies_make}
use Rattle.nfs_streams.proofs.datagrams.replies_make_datagrams.Goals as goal

pub returns : goal.returns
returns c = replies_make
