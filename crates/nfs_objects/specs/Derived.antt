-- The comparisons that are derived, as the tests that `==` makes.
use Rattle.std.specs.Prelude.{◌≡◌, Bool}
use Rattle.std.specs.Bool.{Decides}
use Rattle.side_wire.specs.declared.mount.lists.MountBody.{MountBody}
use Rattle.nfs_machine.specs.contracts.context.CtxPartialEq.TheImpl.{eq-value as context}
use Rattle.nfs_machine.specs.declared.context.Ctx.{Ctx}
use Rattle.nfs_objects.specs.contracts.address.AddrPartialEq.TheImpl.{eq-value as address}
use Rattle.nfs_objects.specs.contracts.directory.LeafPartialEq.TheImpl.{eq-value as leaf}
use Rattle.nfs_objects.specs.contracts.modes.ModePartialEq.TheImpl.{eq-value as mode}
use Rattle.nfs_objects.specs.contracts.mounts.MountPartialEq.TheImpl.{eq-value as mount}
use Rattle.nfs_objects.specs.contracts.view.ReservedPartialEq.TheImpl.{eq-value as number}
use Rattle.nfs_objects.specs.declared.address.Addr.{Addr}
use Rattle.nfs_objects.specs.declared.directory.Leaf.{Leaf}
use Rattle.nfs_objects.specs.declared.modes.Mode.{Mode}
use Rattle.nfs_objects.specs.declared.view.Reserved.{Reserved}

-- it passes where both are one, and nowhere else
abbrev pub TellsApart : {X : Type 0} → (X → X → Bool) → Type 0
TellsApart {X = X} test = (a b : X) → Decides (test a b) (a ≡ b)

abbrev pub address_test : Addr → Addr → Bool
address_test = (address).it

abbrev pub mode_test : Mode → Mode → Bool
mode_test = (mode).it

abbrev pub number_test : Reserved → Reserved → Bool
number_test = (number).it

abbrev pub leaf_test : Leaf → Leaf → Bool
leaf_test = (leaf).it

abbrev pub mount_test : MountBody → MountBody → Bool
mount_test = (mount).it

abbrev pub context_test : Ctx → Ctx → Bool
context_test = (context).it
