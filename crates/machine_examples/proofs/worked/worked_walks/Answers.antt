use Rattle.std.proofs.Common.{refl, arith}
use Rattle.machine_examples.proofs.LongestMatchLemmas.{one_left}
use Rattle.nfs_machine.specs.MountSteps.{walk}
use Rattle.machine_examples.specs.Worked.{open_export, lower_export}
use Rattle.machine_examples.proofs.worked.worked_walks.Goals as goal

pub returns : goal.returns
unfolding walk
returns c = record {
  root = λ o e. cc;
  directory = λ o e. cc;
  file = refl;
  through_file = refl;
  nothing = refl;
  admitted = record {
    matches = record {
      export = record { number = 2; root = 2; value = lower_export };
      stands = refl;
      admitted = refl;
      begins = refl;
    };
    longest = λ other more leads. omega arith;
  };
  not_admitted = record {
    matches = record {
      export = record { number = 1; root = 1; value = open_export };
      stands = refl;
      admitted = refl;
      begins = refl;
    };
    longest = one_left;
  };
  empty_parts = record {
    matches = record {
      export = record { number = 1; root = 1; value = open_export };
      stands = refl;
      admitted = refl;
      begins = refl;
    };
    longest = λ other more leads. omega arith;
  };
}
