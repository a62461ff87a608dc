use Rattle.std.proofs.Common.{[], ◌∷◌}
use Rattle.nfs_objects.proofs.BitSetLemmas.{at-place, below-has}
use Rattle.nfs_objects.specs.Bits.{IsWordBelow}
use Rattle.nfs_objects.proofs.bits.Bits.below.Goals as goal

pub returns : goal.returns
returns c =
    let a = c.word_below.result in let b = c.word_below-2.result in let d = c.word_below-3.result in
    let e = c.word_below-4.result in let f = c.word_below-5.result in let g = c.word_below-6.result in
    let h = c.word_below-7.result in let i = c.word_below-8.result in
    below-has c.args.self.words c.args.number (a ∷ b ∷ d ∷ e ∷ f ∷ g ∷ h ∷ i ∷ [])
    (at-place (λ k w. IsWordBelow c.args.self.words k c.args.number w) a b d e f g h i
    c.word_below.ensures c.word_below-2.ensures c.word_below-3.ensures c.word_below-4.ensures
    c.word_below-5.ensures c.word_below-6.ensures c.word_below-7.ensures c.word_below-8.ensures)
