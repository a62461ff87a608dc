use Rattle.nfs_objects.proofs.PagePartAddressLemmas.{left_from}
use Rattle.nfs_inodes.proofs.wishes.gone_through.Given as goal

abbrev pub decreases-pages : goal.decreases-pages
decreases-pages l = left_from l.next
