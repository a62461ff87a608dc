use Rattle.std.proofs.Common.{[], ◌∷◌, refl}
use Rattle.nfs_machine.proofs.RunChainLemmas.{run-append}
use Rattle.nfs_machine.proofs.laws.runs_go_on.Goals as goal

pub returns : goal.returns
returns c = λ setting first old new records r run step. run-append setting first old new records (r ∷ []) run
    (new, step, refl)
