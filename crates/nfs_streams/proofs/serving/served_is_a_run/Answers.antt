use Rattle.nfs_streams.proofs.AnswersJoinLemmas.{served_run}
use Rattle.nfs_streams.proofs.serving.served_is_a_run.Goals as goal

pub returns : goal.returns
returns c = served_run
