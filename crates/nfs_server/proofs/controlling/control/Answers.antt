-- The exports that stand at first are those that were given.
use Rattle.std.proofs.Common.{ap}
use Rattle.nfs_server.specs.Control.{DialogueValue}
use Rattle.nfs_server.proofs.controlling.control.Goals as goal

pub returns : goal.returns
returns g c = rw (ap (λ (d : DialogueValue). d.lists.standing) c.new-dialogue.ensures) at c.run.ensures
