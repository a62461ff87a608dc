use Rattle.std.proofs.Common.{rules}
use Rattle.nfs_objects.specs.SameLaws.{content_decides, told_so}
use Rattle.nfs_objects.proofs.object.ContentPartialEq.eq.Goals as goal

pub returns-in-Directory-Directory-clause-same : goal.returns-in-Directory-Directory-clause-same
returns-in-Directory-Directory-clause-same c =
    told_so content_decides _ _ _ (search rules)
