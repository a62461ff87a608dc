use Rattle.nfs_inodes.specs.Asking.{AsksFor}
use Rattle.nfs_inodes.specs.Cuts.{IsTold}
use Rattle.nfs_inodes.proofs.content.cut.ask_page.Given as goal

abbrev pub invariant-loop-place : goal.invariant-loop-place
invariant-loop-place l =
    AsksFor l.fn.draft (IsTold l.fn.number l.fn.page l.fn.bits l.fn.from l.place)
    (IsTold l.fn.number l.fn.page l.fn.bits l.fn.from l.place)
    l.fn.asking.asked.items l.asking.asked.items
