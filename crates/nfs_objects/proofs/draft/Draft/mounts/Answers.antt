use Rattle.std.proofs.Common.{sym, ap, ◌∙◌, is_some}
use Rattle.nfs_objects.proofs.SeenLemmas.{known-stands}
use Rattle.nfs_objects.specs.Stands.{mounts_in, mounts_of}
use Rattle.nfs_objects.specs.declared.address.Addr.TheVariants.{Mounts}
use Rattle.nfs_objects.proofs.draft.Draft.mounts.Goals as goal

pub returns : goal.returns
returns c = (
  ap is_some c.in_ok-find.ensures,
  λ s k possible.
      possible.stands.tables.mounts ∙ ap mounts_of
      (known-stands c.args.self.now s Mounts _ possible.fits c.in_ok-find.ensures)
      ∙ sym (ap mounts_in c.mount_table.ensures),
)
