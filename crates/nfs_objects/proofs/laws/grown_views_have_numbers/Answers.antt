use Rattle.nfs_objects.proofs.NewNumberLemmas.{grown-have-numbers}
use Rattle.nfs_objects.proofs.laws.grown_views_have_numbers.Goals as goal

pub returns : goal.returns
returns c = grown-have-numbers
