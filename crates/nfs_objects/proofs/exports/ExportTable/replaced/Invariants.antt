use Rattle.nfs_objects.proofs.RenumberLemmas.{IsSoFar}
use Rattle.nfs_objects.specs.Roots.{root_choice}
use Rattle.nfs_objects.proofs.exports.ExportTable.replaced.Given as goal

-- the exports so far are renumbered
abbrev pub invariant-loop-export : goal.invariant-loop-export
invariant-loop-export l =
    IsSoFar l.fn.self (λ number. (root_choice l.fn.roots l.fn.self.last number).number) l.fn.exports l.export-index
    l.last l.list.items
