use Rattle.std.proofs.Common.{refl}
use Rattle.nfs_pool.proofs.comparing.find_at_end.Goals as goal

pub returns-then-is_told_at : goal.returns-then-is_told_at
returns-then-is_told_at c = c.if-is_told_at.ensures.0 refl
