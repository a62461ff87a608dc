use Rattle.std.proofs.Common.{◌∙◌, ◌%◌, ◌^◌, ℕ, ap, arith}
use Rattle.std.proofs.Math.Pow.{mod-mod-pow}
use Rattle.std.proofs.Math.Seq.{take_all}
use Rattle.std.proofs.lemmas.List.Sums.{sum_by_more}
use Rattle.std.specs.Prelude.{sum_by}
use Rattle.nfs_objects.proofs.hashing.bucket_of.Goals as goal

pub loop-byte-preserved : goal.loop-byte-preserved
loop-byte-preserved c =
    let more = sum_by_more (λ (byte : ℕ). byte) c.args.name.now c.loop-byte.byte-index 0 c.loop-byte-test.true in
    omega (arith, more, c.loop-byte.invariant)

pub returns-clause-which : goal.returns-clause-which
returns-clause-which c =
    ap (λ n. n % 64) (c.loop-byte.invariant ∙ ap (λ l. sum_by (λ (byte : ℕ). byte) l % 2 ^ 8)
    (take_all c.loop-byte.byte-index c.args.name.now c.loop-byte-test.false))
    ∙ mod-mod-pow (sum_by (λ (byte : ℕ). byte) c.args.name.now) 2 6
