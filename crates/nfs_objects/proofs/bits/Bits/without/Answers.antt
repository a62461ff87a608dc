use Rattle.std.proofs.Common.{rules}
use Rattle.nfs_objects.proofs.BitSetLemmas.{without-has}
use Rattle.nfs_objects.proofs.bits.Bits.without.Goals as goal

pub returns : goal.returns
returns c = without-has c.args.self.words c.args.number c.requires (search rules)
