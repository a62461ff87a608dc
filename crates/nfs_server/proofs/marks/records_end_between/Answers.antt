use Rattle.nfs_server.proofs.FragmentHeaderLemmas.{records_end_between}
use Rattle.nfs_server.proofs.marks.records_end_between.Goals as goal

pub returns : goal.returns
returns c = records_end_between
