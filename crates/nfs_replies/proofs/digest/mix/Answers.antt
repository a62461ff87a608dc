use Rattle.std.proofs.Common.{◌<◌, ◌^◌, rules}
use Rattle.nfs_replies.specs.Keys.{mixed}
use Rattle.nfs_replies.proofs.DigestLemmas.{halves_folded}
use Rattle.nfs_replies.proofs.digest.mix.Goals as goal

pub returns : goal.returns
unfolding mixed
returns c =
    let fits : c.carrying_mul-low.result.0 < 2 ^ 64 = search rules in
    halves_folded c.carrying_mul-low.result.0 c.carrying_mul-low.result.1 _ c.rotate_left.result fits
    c.carrying_mul-low.ensures c.rotate_left.ensures
