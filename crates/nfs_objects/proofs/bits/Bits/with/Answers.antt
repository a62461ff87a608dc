use Rattle.std.proofs.Common.{rules}
use Rattle.nfs_objects.proofs.BitSetLemmas.{with-has}
use Rattle.nfs_objects.proofs.bits.Bits.with.Goals as goal

-- src/bits.rt:41:5
pub returns : goal.returns
returns c = with-has c.args.self.words c.args.number c.requires (search rules)
