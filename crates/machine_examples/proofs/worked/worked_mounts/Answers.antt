use Rattle.std.proofs.Common.{refl}
use Rattle.nfs_machine.specs.MountSteps.{MountStep, walk}
use Rattle.machine_examples.proofs.worked.worked_mounts.Goals as goal

pub returns : goal.returns
unfolding walk MountStep
returns c = record {
  dump = λ m. refl;
  dumps = λ m moment limits. record { reply_is = refl; no_message = refl; state_is = refl };
  umnt = λ m moment limits. record { reply_is = refl; no_message = refl; state_is = refl };
  umnt_of_none = λ m moment limits. record { reply_is = refl; no_message = refl; state_is = refl };
  umntall = λ m moment limits. record { reply_is = refl; no_message = refl; state_is = refl };
  export = λ m moment limits. record { reply_is = refl; no_message = refl; state_is = refl };
  nothing_there = refl;
}
