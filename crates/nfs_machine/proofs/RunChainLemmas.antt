-- A run is a chain of steps: a chain goes on where the one before it ended.
use Rattle.std.proofs.Common.{List, [], ◌∷◌, ◌++◌, refl, subst}
use Rattle.nfs_machine.specs.Chains.{RunsAreChains, Transition}
use Rattle.nfs_machine.specs.Run.{Record, Run, Setting}
use Rattle.nfs_machine.specs.State.{State}

pub run-append : (setting : Setting) (first mid last : State) (earlier later : List Record)
    → Run setting first earlier mid → Run setting mid later last → Run setting first (earlier ++ later) last
run-append setting first mid last [] later a b = let P : State → Type 0 = λ m. Run setting m later last in subst P a b
run-append setting first mid last (r ∷ earlier) later a b = (
  a.0,
  a.1,
  run-append setting a.0 mid last earlier
      later a.2 b,
)

-- the steps of a run are a chain
pub runs_are_chains : RunsAreChains
runs_are_chains setting first last [] run = ([], run, tt)
runs_are_chains setting first last (r ∷ records) (mid, executes, rest) =
    let more = runs_are_chains setting mid last records rest in
    let step : Transition = record
    { ctx = executes.ctx; call = executes.call; reply = r.reply; messages = r.messages } in (
      step ∷ more.0,
      (mid, executes.step, more.1),
      (executes.asks, refl, refl, more.2),
    )
