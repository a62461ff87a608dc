use Rattle.std.proofs.Common.{ℕ, slice_index_or, bit_and, [], ◌∷◌, refl}
use Rattle.nfs_objects.proofs.BitSetLemmas.{IsWordOf, at-place, both-has}
use Rattle.nfs_objects.proofs.bits.Bits.both.Goals as goal

pub returns : goal.returns
returns c =
    let a = c.args.self.words in let b = c.args.other.words in
    let w = λ (k : ℕ). bit_and (slice_index_or a k 0) (slice_index_or b k 0) in
    both-has a b (w 0 ∷ w 1 ∷ w 2 ∷ w 3 ∷ w 4 ∷ w 5 ∷ w 6 ∷ w 7 ∷ [])
    (at-place (λ k v. IsWordOf a b k v) (w 0) (w 1) (w 2) (w 3) (w 4) (w 5) (w 6) (w 7)
    refl refl refl refl refl refl refl refl)
