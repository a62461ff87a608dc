use Rattle.std.proofs.Common.{◌∙◌}
use Rattle.nfs_objects.specs.Store.{with_writes}
use Rattle.nfs_engine.specs.Tables.{store_of}
use Rattle.nfs_engine.proofs.objects.Objects.opening.Goals as goal

pub returns : goal.returns
returns c = c.install.ensures ∙ (λ i.
    with_writes (store_of ((c.make_room.ensures.slots ∙ c.new-objects.ensures) i)) (c.in_ok-copies.ensures i))
