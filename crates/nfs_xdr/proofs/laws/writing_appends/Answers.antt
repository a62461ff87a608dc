use Rattle.nfs_xdr.proofs.SpellingLaws.{writing_appends}
use Rattle.nfs_xdr.proofs.laws.writing_appends.Goals as goal

pub returns : goal.returns
returns c = writing_appends
