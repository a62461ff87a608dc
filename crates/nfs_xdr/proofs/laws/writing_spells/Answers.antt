use Rattle.nfs_xdr.proofs.SpellingLaws.{writing_spells}
use Rattle.nfs_xdr.proofs.laws.writing_spells.Goals as goal

pub returns : goal.returns
returns c = writing_spells
