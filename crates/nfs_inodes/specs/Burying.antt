-- Large files that go: what stands there stays, and stands for nothing.
use Rattle.std.specs.Prelude.{◌≡◌, ◌<◌, ℕ, true, false, Some}
use Rattle.nfs_objects.specs.Bits.{has}
use Rattle.nfs_objects.specs.FileMaps.{FileMapValue}
use Rattle.nfs_objects.specs.Knows.{Shows}
use Rattle.nfs_objects.specs.Stands.{lives_in, map_in}
use Rattle.nfs_objects.specs.Values.{DraftValue}
use Rattle.nfs_objects.specs.declared.bits.Bits.{Bits}
use Rattle.nfs_objects.specs.declared.object.Content.{Content}
use Rattle.nfs_objects.specs.declared.object.Inode.{Inode}
use Rattle.nfs_inodes.specs.Known.{HasInode}

-- two numbers are in the set
pub record HasTwo (bits : Bits) : Type 0 where
  pub first : ℕ
  pub second : ℕ
  pub apart : first < second
  pub has_first : has bits first ≡ true
  pub has_second : has bits second ≡ true

-- a file with more than one map page
pub record IsLarge (content : Content) : Type 0 where
  pub map : FileMapValue
  pub is : map_in content ≡ Some map
  pub pages : HasTwo map.pages

-- what a large file leaves that lives at a number: its inode, of the export 0, which no export has
pub record IsBuried (d : DraftValue) (number : ℕ) (left : Inode) : Type 0 where
  pub was : Inode
  pub stands : HasInode d number (Some was)
  pub large : IsLarge was.content
  pub is : left ≡ record was { export = 0 }
  pub none : Shows d (λ k. lives_in k.state.exports 0 ≡ false)
