use Rattle.std.proofs.Common.{sym}
use Rattle.nfs_objects.proofs.HashedPartLemmas.{part-first}
use Rattle.nfs_objects.proofs.hashing.part_among.Goals as goal
use Rattle.nfs_objects.specs.Directories.{digest}

pub returns-then-width-lt2-clause-which : goal.returns-then-width-lt2-clause-which
returns-then-width-lt2-clause-which c = sym (part-first c.args.width (digest c.args.key.now c.args.name.now)
    c.if-width-lt2.true)
