use Rattle.std.proofs.Common.{subst}
use Rattle.nfs_objects.proofs.BitSetLemmas.{masked}
use Rattle.nfs_objects.specs.Bits.{IsMask}
use Rattle.nfs_objects.proofs.bits.Bits.word_below.Goals as goal

pub returns : goal.returns
returns c = masked c.args.self.words c.args.place c.args.number c.mask.result
    (subst (λ n. IsMask n c.mask.result) c.saturating_sub.ensures c.mask.ensures)
