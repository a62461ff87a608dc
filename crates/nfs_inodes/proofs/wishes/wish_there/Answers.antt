use Rattle.nfs_inodes.proofs.NextWishLemmas.{wished-there}
use Rattle.nfs_inodes.proofs.wishes.wish_there.Goals as goal

pub returns : goal.returns
returns c = wished-there c.args.draft.now c.args.address c.requires c.missing.result c.missing.ensures
