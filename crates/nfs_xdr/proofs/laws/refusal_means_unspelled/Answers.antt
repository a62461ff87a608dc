use Rattle.nfs_xdr.proofs.SpellingLaws.{refusal_means_unspelled}
use Rattle.nfs_xdr.proofs.laws.refusal_means_unspelled.Goals as goal

pub returns : goal.returns
returns c = refusal_means_unspelled
