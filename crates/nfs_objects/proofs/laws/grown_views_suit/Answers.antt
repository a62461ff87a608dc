use Rattle.nfs_objects.proofs.ModesSuitLemmas.{grows-suitably, starts-suitably}
use Rattle.nfs_objects.proofs.laws.grown_views_suit.Goals as goal

pub returns-clause-first : goal.returns-clause-first
returns-clause-first c = starts-suitably

pub returns-clause-grown : goal.returns-clause-grown
returns-clause-grown c = grows-suitably
