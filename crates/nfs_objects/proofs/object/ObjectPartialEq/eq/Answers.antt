use Rattle.std.proofs.Common.{rules}
use Rattle.nfs_objects.specs.SameLaws.{object_decides, told_so}
use Rattle.nfs_objects.proofs.object.ObjectPartialEq.eq.Goals as goal

pub returns-in-Exports-Exports-clause-same : goal.returns-in-Exports-Exports-clause-same
returns-in-Exports-Exports-clause-same c = told_so object_decides _ _ _ (search rules)

pub returns-in-Inode-Inode-clause-same : goal.returns-in-Inode-Inode-clause-same
returns-in-Inode-Inode-clause-same c = told_so object_decides _ _ _ (search rules)

pub returns-in-Mounts-Mounts-clause-same : goal.returns-in-Mounts-Mounts-clause-same
returns-in-Mounts-Mounts-clause-same c = told_so object_decides _ _ _ (search rules)

pub returns-in-Page-Page-clause-same : goal.returns-in-Page-Page-clause-same
returns-in-Page-Page-clause-same c = told_so object_decides _ _ _ (search rules)

pub returns-in-Part-Part-clause-same : goal.returns-in-Part-Part-clause-same
returns-in-Part-Part-clause-same c = told_so object_decides _ _ _ (search rules)

pub returns-in-Locks-Locks-clause-same : goal.returns-in-Locks-Locks-clause-same
returns-in-Locks-Locks-clause-same c = told_so object_decides _ _ _ (search rules)
