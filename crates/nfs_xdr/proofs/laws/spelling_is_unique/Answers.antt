use Rattle.nfs_xdr.proofs.SpellingLaws.{spelling_is_unique}
use Rattle.nfs_xdr.proofs.laws.spelling_is_unique.Goals as goal

pub returns : goal.returns
returns c = spelling_is_unique
