-- Changes of what is kept, at one address: the makers of drafts do these.
use Rattle.std.specs.Prelude.{ℕ, ◌||◌, ◌&&◌, List, nat_le, Option, Some, None, if◌then◌else◌, ◌==◌}
use Rattle.std.specs.FinMap.{get}
use Rattle.side_wire.specs.declared.mount.lists.MountBody.{MountBody}
use Rattle.nfs_machine.specs.RemoveSteps.{without_object}
use Rattle.nfs_machine.specs.Shown.{with_object}
use Rattle.nfs_machine.specs.State.{Living}
use Rattle.nfs_objects.specs.Stands.{StoreMeaning}
use Rattle.nfs_objects.specs.Sums.{exchanged_at, shares_of}
use Rattle.nfs_objects.specs.declared.usage.Usage.{Usage}

abbrev pub set_at : (ℕ → ℕ) → ℕ → ℕ → ℕ → ℕ
set_at f n value q = if n == q then value else f q

-- this lives at a number, with so many links and this parent
abbrev pub with_living : StoreMeaning → ℕ → Living → (links parent : ℕ) → StoreMeaning
with_living k n o links parent = record {
  state = with_object k.state n o;
  links = set_at k.links n links;
  parents = set_at k.parents n parent;
  usage = k.usage;
}

-- what lives at a number, if anything does, becomes this, with so many links
abbrev pub edited : StoreMeaning → ℕ → (Living → Living) → (ℕ → ℕ) → StoreMeaning
edited k n object links = elim (get k.state.objects n) [
  | None ↦ k
  | Some o ↦ with_living k n (object o) (links (k.links n)) (k.parents n)
]

-- nothing lives at a number
abbrev pub freed : StoreMeaning → ℕ → StoreMeaning
freed k n = record {
  state = without_object k.state n;
  links = set_at k.links n 0;
  parents = set_at k.parents n 0;
  usage = k.usage;
}

-- a new object at a number, whose generations up to the object's are spent
abbrev pub with_new : StoreMeaning → ℕ → Living → (links parent : ℕ) → StoreMeaning
with_new k n o links parent = record (with_living k n o links parent) {
  state = record (with_object k.state n o)
      { spent = λ a g. k.state.spent a g || ((a == n) && nat_le g o.generation) };
}

-- what the object at a number had of each export gives way to what it has now
abbrev pub recounted : (number : ℕ) → (before after : ℕ → Usage) → StoreMeaning → StoreMeaning
recounted number before after k = record k { usage = exchanged_at number before after k.usage }

-- the same, where this lived there before
abbrev pub counted_anew : (number : ℕ) → Option Living → StoreMeaning → StoreMeaning
counted_anew number before k = recounted number (shares_of before) (shares_of (get k.state.objects number)) k

-- these are the mounts
abbrev pub with_mounts : StoreMeaning → List MountBody → StoreMeaning
with_mounts k mounts = record k { state = record k.state { mounts = mounts } }
