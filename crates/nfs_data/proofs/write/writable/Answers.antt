use Rattle.std.proofs.Common.{◌≡◌, ◌+◌, ◌<◌, ◌≤◌, ℕ, ◌==◌, ◌||◌, nat_le, true, arith, sym}
use Rattle.std.proofs.Common.{◌∙◌}
use Rattle.std.proofs.lemmas.Bool.Decides.{nat_tests}
use Rattle.nfs_machine.specs.Data.{size_limit}
use Rattle.nfs_data.proofs.write.writable.Goals as goal

below : (offset count : ℕ) → ((count == 0) || nat_le (offset + count) size_limit) ≡ true → 0 < count
    → offset + count ≤ size_limit
below offset count e some = grind (arith, nat_tests)

pub returns-clause-room : goal.returns-clause-room
returns-clause-room c = record {
  there = omega (arith, c.if-arguments-len.false, c.len.ensures.value);
  below = below c.args.arguments.now.offset _ (sym c.ends_within.ensures ∙ c.if-not-ends_within.false);
}
