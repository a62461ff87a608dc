use Rattle.nfs_objects.proofs.ComparisonLemmas.{addresses, contexts, leaves, modes, mounts, numbers}
use Rattle.nfs_objects.proofs.laws.comparisons_decide.Goals as goal

pub returns : goal.returns
returns c = record {
  addresses = addresses;
  modes = modes;
  numbers = numbers;
  leaves = leaves;
  mounts = mounts;
  contexts = contexts;
}
