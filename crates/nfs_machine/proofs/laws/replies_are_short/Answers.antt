use Rattle.nfs_machine.proofs.ShortReplyLemmas.{replies_short, refusals_short}
use Rattle.nfs_machine.proofs.laws.replies_are_short.Goals as goal

pub returns-clause-replies : goal.returns-clause-replies
returns-clause-replies c = replies_short

pub returns-clause-refusals : goal.returns-clause-refusals
returns-clause-refusals c = refusals_short
