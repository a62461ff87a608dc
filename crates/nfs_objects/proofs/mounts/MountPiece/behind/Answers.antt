use Rattle.std.proofs.Common.{ap, drop, ◌∙◌}
use Rattle.std.proofs.lemmas.List.{take_rest}
use Rattle.nfs_objects.proofs.mounts.MountPiece.behind.Goals as goal

pub returns : goal.returns
returns c = take_rest c.as_slice.result.now c.args.count ∙ ap (drop c.args.count) c.as_slice.ensures
