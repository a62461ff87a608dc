-- Passes of a call: what it reads, and what it comes to.
use Rattle.std.specs.Prelude.{◌≡◌, ℕ, ◌+◌, ◌^◌, ◌<◌, Option, Some, None}
use Rattle.nfs_machine.specs.Run.{Arrival}
use Rattle.nfs_engine.specs.Calls.{PendingValue, TxnValue}
use Rattle.nfs_engine.specs.declared.journal.Receipt.{Receipt}
use Rattle.nfs_engine.specs.declared.release.Then.{Then}
use Rattle.nfs_engine.specs.declared.release.Then.TheVariants as then
use Rattle.nfs_pool.specs.Seats.{IsReceiptOf}
use Rattle.nfs_pool.specs.Steps.{IsGivenUp}
use Rattle.nfs_pool.specs.declared.carrying.CallEnd.{CallEnd}
use Rattle.nfs_pool.specs.declared.carrying.CallEnd.TheVariants as ends
use Rattle.nfs_pool.specs.declared.carrying.PassEnd.{PassEnd}
use Rattle.nfs_pool.specs.declared.carrying.PassEnd.TheVariants as passed

-- ---- what a call reads
-- nothing but its view changed
abbrev pub Reads : (old new : TxnValue) → Type 0
Reads old new = new ≡ record old { view = new.view }

-- ---- what it comes to
-- the call, where it is in progress when all is let go
abbrev pub LeadsOut : Then → Option PendingValue → Type 0
LeadsOut t None = t ≡ then.Ended
LeadsOut t (Some p) = t ≡ then.Aborted p

-- the receipt is of what came in, above that number, and is counted
pub record IsNext (r : Arrival) (last before after : ℕ) (receipt : Receipt) : Type 0 where
  pub of_call : IsReceiptOf r receipt
  pub above : last < receipt.number
  pub counted : after ≡ before + 2 ^ 64

-- one pass: it is executed; or in progress still, as it came
abbrev pub ComesTo : Arrival → (last before after : ℕ) → PassEnd → Type 0
ComesTo r last before after (passed.Executed receipt) = IsNext r last before after receipt
ComesTo r last before after (passed.Again p) = (p.received ≡ r) × (after ≡ before)
ComesTo r last before after (passed.Failed p) = (p.received ≡ r) × (after ≡ before)
ComesTo r last before after (passed.Taken p a m) = (p.received ≡ r) × (after ≡ before)

-- in progress still, as it came
abbrev pub Retreats : Arrival → PassEnd → Type 0
Retreats r (passed.Executed receipt) = ⊥
Retreats r (passed.Again p) = p.received ≡ r
Retreats r (passed.Failed p) = p.received ≡ r
Retreats r (passed.Taken p a m) = p.received ≡ r

-- all passes: it is executed, or given up
abbrev pub EndsWith : Arrival → (last before after : ℕ) → CallEnd → Type 0
EndsWith r last before after (ends.Executed receipt) = IsNext r last before after receipt
EndsWith r last before after (ends.Refused refused) = IsGivenUp r refused × (after ≡ before)
