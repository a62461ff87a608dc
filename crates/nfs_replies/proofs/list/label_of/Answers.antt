use Rattle.std.proofs.Common.{◌<◌, ◌≤◌, ℕ, None, arith, rules}
use Rattle.std.proofs.lemmas.Iterator.{first_from_Range}
use Rattle.nfs_replies.specs.Lists.{HasBytes, numbered}
use Rattle.nfs_replies.proofs.list.label_of.Goals as goal

pub returns-in_err-number : goal.returns-in_err-number
returns-in_err-number c = rw c.from_residual.ensures (λ number below. none number (omega arith) below)
  where
    At : ℕ → Type 0
    At number = HasBytes c.args.bytes.now (numbered c.args.hash number) c.args.entries.now.entries

    none : (k : ℕ) → 0 ≤ k → k < c.args.numbers → At k → ⊥
    none = first_from_Range _ _ _ None At (λ k. At k → ⊥) c.in_err-number.ensures.ran (λ x q k. search rules)
        (λ x q k. search rules)
