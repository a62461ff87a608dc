use Rattle.std.proofs.Common.{◌<◌, ◌^◌, arith}
use Rattle.std.proofs.Math.Nat.{mod-eq_of_lt}
use Rattle.nfs_objects.proofs.HashedPartLemmas.{top-within}
use Rattle.nfs_objects.proofs.hashing.top_of.Goals as goal
use Rattle.nfs_objects.specs.Directories.{top_of}

pub returns-clause-within : goal.returns-clause-within
returns-clause-within c =
    let within = top-within c.args.width c.requires c.ranges.width.fits in
    let small : top_of c.args.width < 2 ^ 32 = omega (arith, within, c.ranges.width.fits) in
    omega (arith, within, mod-eq_of_lt small)
