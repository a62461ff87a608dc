use Rattle.std.proofs.Common.{◌≡◌, ◌∷◌, Some, length, map}
use Rattle.nfs_machine.specs.Exports.{opening_exports}
use Rattle.nfs_objects.specs.Values.{write_value}
use Rattle.nfs_objects.specs.declared.address.Addr.TheVariants as addresses
use Rattle.nfs_objects.specs.declared.object.Object.TheVariants as objects
use Rattle.nfs_engine.specs.Opening.{root_writes}
use Rattle.nfs_engine.proofs.opening.opening_writes.Given as goal

abbrev pub invariant-loop-index : goal.invariant-loop-index
invariant-loop-index l =
    map write_value l.writes.items ≡ (
      addresses.Exports,
      Some (objects.Exports (record { exports = opening_exports l.exports; last = length l.exports })),
    )
    ∷ root_writes l.index l.time l.key
