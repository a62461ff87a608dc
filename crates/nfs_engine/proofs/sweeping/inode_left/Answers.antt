use Rattle.std.proofs.Common.{ℕ, Some, ap, ◌∙◌}
use Rattle.nfs_objects.specs.FileMaps.{FileMapValue}
use Rattle.nfs_objects.specs.declared.bits.Bits.{Bits}
use Rattle.nfs_engine.specs.Sweeps.{inode_left}
use Rattle.nfs_engine.proofs.sweeping.inode_left.Goals as goal

abbrev filed : (size : ℕ) → (pages remains : Bits) → FileMapValue
filed size pages remains = record { size = size; pages = pages; remains = remains }

pub returns : goal.returns
returns c =
    ap Some c.in_ok-object.ensures.ok
    ∙ ap (λ (m : FileMapValue). inode_left c.args.inode.now m) (c.with_remains-map.ensures
    ∙ (λ p. record (c.in_ok-new.ensures.value p) { remains = c.remains.ensures p })
    ∙ ap (λ (z : ℕ). filed z c.args.pages c.args.map.now.remains) c.size.ensures.value)
