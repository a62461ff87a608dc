use Rattle.nfs_data.proofs.FsstatLemmas.{space-is}
use Rattle.nfs_data.proofs.fsstat.space_left.Goals as goal

pub returns : goal.returns
returns c = λ m export is.
    space-is c.args.total c.left-bytes.result c.left-files.result c.args.usage m export c.ranges.total.fits
    c.left-bytes.ensures c.left-files.ensures is
