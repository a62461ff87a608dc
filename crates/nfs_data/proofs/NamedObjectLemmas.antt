-- What an attempt knows once its handle named something.
use Rattle.std.proofs.Common.{◌≡◌, Result, Ok, IfOk, IsSome, subst}
use Rattle.nfs_wire.specs.declared.status.NfsStatus.{NfsStatus}
use Rattle.nfs_objects.specs.Values.{DraftValue, known_at}
use Rattle.nfs_objects.specs.declared.address.Addr.TheVariants as addresses
use Rattle.nfs_inodes.specs.declared.found.Known.{Known}
use Rattle.nfs_inodes.specs.Stops.{KnowsAt}

pub knows-object : (d : DraftValue) (found : Result Known NfsStatus) (x : Known) → found ≡ Ok x
    → IsSome (known_at d addresses.Exports)
    × IfOk found (λ (y : Known). IsSome (known_at d (addresses.Inode y.number)))
    → KnowsAt d x.number
knows-object d found x is reads = record {
  exports = reads.0;
  object = subst (λ f. IfOk f (λ (y : Known). IsSome (known_at d (addresses.Inode y.number)))) is reads.1;
}
