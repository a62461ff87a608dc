-- A host that the lower export does not admit is led by the upper one alone, which leaves a name to walk.
use Rattle.std.proofs.Common.{◌≡◌, ◌≤◌, ℕ, true, List, ◌++◌, length, codes, ap, arith}
use Rattle.nfs_machine.specs.Exports.{LivingExport, admits}
use Rattle.nfs_machine.specs.MountSteps.{Matches}
use Rattle.nfs_machine.specs.Paths.{parts}
use Rattle.machine_examples.specs.Worked.{two_exports, open_export}
use Rattle.nfs_machine.proofs.ExportedLemmas.{export-all}

abbrev LeavesOne : List (List ℕ) → LivingExport → Type 0
LeavesOne more e = admits e.value (codes "10.0.0.1") ≡ true → parts (codes "/a/b") ≡ parts e.path ++ more →
    1 ≤ length more

pub one_left : (number : ℕ) (more : List (List ℕ)) →
    Matches two_exports (codes "10.0.0.1") (parts (codes "/a/b")) number more → 1 ≤ length more
one_left number more leads = export-all (LeavesOne more) two_exports number leads.export
    (upper, (λ admitted begins. cc, tt)) leads.stands leads.admitted leads.begins
  where
    upper : admits open_export (codes "10.0.0.1") ≡ true →
        parts (codes "/a/b") ≡ parts open_export.path ++ more → 1 ≤ length more
    upper admitted begins = (let count = ap length begins in omega arith)
