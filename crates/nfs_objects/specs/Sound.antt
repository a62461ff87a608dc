-- What is true of what every store of the server stands for, beside that its state is well formed.
use Rattle.std.specs.Prelude.{◌≡◌, ℕ, true, Some}
use Rattle.std.specs.FinMap.{get}
use Rattle.nfs_machine.specs.Attributes.{links_of, is_directory}
use Rattle.nfs_machine.specs.State.{Living}
use Rattle.nfs_machine.specs.WellFormed.{IsParent}
use Rattle.nfs_objects.specs.Stands.{StoreMeaning}
use Rattle.nfs_objects.specs.Sums.{usage_in}

pub record Sound (k : StoreMeaning) : Type 0 where
  -- the count of links that is kept of an object is the count that it has
  pub links : (n : ℕ) (o : Living) → get k.state.objects n ≡ Some o → k.links n ≡ links_of k.state n o.content
  -- the parent that is kept of a directory is its parent
  pub parents : (n : ℕ) (o : Living) → get k.state.objects n ≡ Some o → is_directory o.content ≡ true →
      IsParent k.state n (k.parents n)
  -- the usage that is kept of a group is that of its objects
  pub usage : (e g : ℕ) → k.usage e g ≡ usage_in k.state e g
