use Rattle.nfs_inodes.proofs.StandsLemmas.{kind-is}
use Rattle.nfs_inodes.specs.Known.{content_at}
use Rattle.nfs_names.proofs.remove.judged.Goals as goal

pub returns-in-Remove : goal.returns-in-Remove
returns-in-Remove c = rw c.in-Remove.is (λ s k w.
    c.no_directory.ensures (content_at k.state c.args.object.now.number)
    (kind-is k.state c.args.object.now (c.requires.known s k w)))
