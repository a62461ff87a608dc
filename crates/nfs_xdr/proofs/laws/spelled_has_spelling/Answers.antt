use Rattle.nfs_xdr.proofs.SpellingLaws.{spelled_has_spelling}
use Rattle.nfs_xdr.proofs.laws.spelled_has_spelling.Goals as goal

pub returns : goal.returns
returns c = spelled_has_spelling
