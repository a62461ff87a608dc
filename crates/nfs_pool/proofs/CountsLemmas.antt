-- What a share counts.
use Rattle.std.proofs.Common.{◌≡◌, ℕ, ◌+◌, ◌^◌, arith}
use Rattle.nfs_pool.specs.Seats.{Counts}

-- nothing
pub counts-none : (amount : ℕ) → amount ≡ 0 → Counts 0 amount
counts-none amount none = (0, omega (arith, none))

-- one more receipt
pub counts-more : (receipts before after : ℕ) → Counts receipts before → after ≡ before + 2 ^ 64 →
    Counts (receipts + 1) after
counts-more receipts before after counts more = (counts.0, omega (arith, counts.1, more))

-- one share more
pub counts-merged : (m n a b c : ℕ) → Counts m a → Counts n b → c ≡ a + b → Counts (m + n) c
counts-merged m n a b c one other both = (one.0 + other.0, omega (arith, one.1, other.1, both))
