use Rattle.nfs_xdr.proofs.SpellingLaws.{spelling_is_read}
use Rattle.nfs_xdr.proofs.laws.spelling_is_read.Goals as goal

pub returns : goal.returns
returns c = spelling_is_read
