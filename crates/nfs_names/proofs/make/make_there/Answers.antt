use Rattle.std.proofs.Common.{refl}
use Rattle.nfs_wire.specs.declared.status.NfsStatus.TheVariants as status
use Rattle.nfs_objects.proofs.PromiseLemmas.{does-nothing}
use Rattle.nfs_names.specs.Making.{IsThereEnd, there_as}
use Rattle.nfs_names.specs.declared.make.There.TheVariants as there
use Rattle.nfs_names.proofs.make.make_there.Goals as goal

pub returns-in-Refused : goal.returns-in-Refused
returns-in-Refused c =
    let d = c.args.draft.now in
    rw c.in-Refused.is (does-nothing d (IsThereEnd (there_as there.Refused d.ctx) c.args.number) status.Exists
    (λ s k w. refl))

pub returns-in-Created : goal.returns-in-Created
returns-in-Created c = rw c.in-Created.is c.create_over.ensures
