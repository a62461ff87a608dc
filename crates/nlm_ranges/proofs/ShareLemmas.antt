-- Shares of a file: changes leave what may be held.
use Rattle.std.proofs.Common.{◌≡◌, Bool, true, false, not, List, [], filter, refl, ◌∙◌}
use Rattle.nfs_machine.specs.Locks.{same_sharer}
use Rattle.nfs_machine.specs.OneFile.{is_denied, shared}
use Rattle.nfs_machine.specs.State.{Share}
use Rattle.nfs_machine.proofs.ModesLemmas.{all-mapped, sharer-back, shares-left, shares-with}
use Rattle.nlm_ranges.proofs.DistinctLemmas.{left-once, more-once, none-once, passes-left}
use Rattle.nlm_ranges.specs.Held.{AreShares}

abbrev Other : Share → Share → Type 0
Other x y = same_sharer x y ≡ false

pub no-shares : AreShares []
no-shares = record { once = none-once same_sharer; apart = tt }

-- some of them
pub shares-kept : (p : Share → Bool) (shares : List Share) → AreShares shares → AreShares (filter p shares)
shares-kept p shares are = record {
  once = left-once same_sharer p shares are.once;
  apart = shares-left p shares are.apart;
}

-- a share in the place of the sharer's own
pub shares-more : (share : Share) (shares : List Share) → is_denied share shares ≡ false → AreShares shares →
    AreShares (shared share shares)
shares-more share shares free are =
    let stay : Share → Bool = λ (other : Share). not (same_sharer share other) in record {
      once = more-once same_sharer (filter stay shares) share
          (all-mapped (λ (other : Share). stay other ≡ true) (λ (other : Share). Other other share)
          (filter stay shares) (λ other stays. sharer-back other share ∙ denied (same_sharer share other) stays)
          (passes-left stay shares))
          (left-once same_sharer stay shares are.once);
      apart = shares-with stay share shares free are.apart;
    }
  where
    denied : (b : Bool) → not b ≡ true → b ≡ false
    denied true e = cc
    denied false e = refl
