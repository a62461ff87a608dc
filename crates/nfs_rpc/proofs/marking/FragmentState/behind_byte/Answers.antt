-- Three digits and one more fit a word.
use Rattle.std.proofs.Common.{arith}
use Rattle.nfs_rpc.proofs.FragmentByteLemmas.{number_fits}
use Rattle.nfs_rpc.proofs.marking.FragmentState.behind_byte.Goals as goal

pub overflow_mul-number : goal.overflow_mul-number
overflow_mul-number c = omega (arith, number_fits c.args.count c.args.number 0 (omega arith) c.requires.0 c.requires.1)

pub overflow_add-number : goal.overflow_add-number
overflow_add-number c = omega (
  arith,
  number_fits c.args.count c.args.number c.args.byte (omega arith) c.requires.0
      c.requires.1,
)
