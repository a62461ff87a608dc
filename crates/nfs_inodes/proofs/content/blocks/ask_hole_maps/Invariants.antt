use Rattle.std.proofs.Common.{[], ◌/◌, ◌⊎◌}
use Rattle.nfs_inodes.specs.Asking.{AsksFor}
use Rattle.nfs_inodes.specs.Blocks.{IsMapIn, first_of}
use Rattle.nfs_inodes.proofs.content.blocks.ask_hole_maps.Given as goal

abbrev pub invariant-loop-page : goal.invariant-loop-page
invariant-loop-page l =
    AsksFor l.fn.draft (λ a. ⊥ ⊎ IsMapIn l.fn.number (first_of l.fn.range.offset / 512) l.page a) (λ a. ⊥) []
    l.asking.asked.items
