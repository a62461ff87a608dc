use Rattle.std.proofs.Common.{arith}
use Rattle.nfs_objects.proofs.BitSetLemmas.{mask-all, mask-made}
use Rattle.nfs_objects.proofs.bits.mask.Goals as goal

pub returns-then-count-lt-WORD : goal.returns-then-count-lt-WORD
returns-then-count-lt-WORD c = mask-made c.args.count (omega (arith, c.if-count-lt-WORD.true))

pub returns-else-count-lt-WORD : goal.returns-else-count-lt-WORD
returns-else-count-lt-WORD c = mask-all c.args.count (omega (arith, c.if-count-lt-WORD.false))
