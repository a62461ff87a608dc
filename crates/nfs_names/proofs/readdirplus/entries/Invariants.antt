use Rattle.std.proofs.Common.{◌≡◌, map, take}
use Rattle.nfs_machine.specs.PageSteps.{full_entry}
use Rattle.nfs_objects.specs.Knows.{Knows}
use Rattle.nfs_inodes.specs.Listing.{listed_entry}
use Rattle.nfs_names.proofs.readdirplus.entries.Given as goal

abbrev pub invariant-loop-entry : goal.invariant-loop-entry
invariant-loop-entry l = Knows l.draft (λ k.
    map (full_entry k.state l.draft.ctx) (map listed_entry (take l.entry-index l.list)) ≡ l.entries.items)
