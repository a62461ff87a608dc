use Rattle.nfs_xdr.proofs.SpellingLaws.{reading_finds_spelling}
use Rattle.nfs_xdr.proofs.laws.reading_finds_spelling.Goals as goal

pub returns : goal.returns
returns c = reading_finds_spelling
