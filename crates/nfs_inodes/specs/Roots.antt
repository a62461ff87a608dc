-- What makers of roots do to what is kept, where exports are replaced.
use Rattle.std.specs.Prelude.{◌≡◌, ◌<◌, ◌≤◌, ◌^◌, ◌⊎◌, ◌+◌, ℕ, zero, suc, true, List, None}
use Rattle.nfs_wire.specs.declared.attributes.Time.{Time}
use Rattle.nfs_machine.specs.Replacing.{RootChoice, new_root}
use Rattle.nfs_machine.specs.State.{State, octal}
use Rattle.nfs_objects.specs.Directories.{bare_directory}
use Rattle.nfs_objects.specs.Edits.{counted_anew, with_new}
use Rattle.nfs_objects.specs.ExportTables.{ExportTableValue}
use Rattle.nfs_objects.specs.Stands.{StoreMeaning, lives_in}
use Rattle.nfs_objects.specs.declared.object.Content.TheVariants as contents
use Rattle.nfs_objects.specs.declared.object.Inode.{Inode}
use Rattle.nfs_objects.specs.declared.view.Reserved.{Reserved}

-- a table of exports may follow that of a state: an export that did not live has a number that was never used
pub record Follows (m : State) (table : ExportTableValue) : Type 0 where
  pub lived : (e : ℕ) → lives_in table.exports e ≡ true → (lives_in m.exports e ≡ true) ⊎ (m.last_export < e)
  pub grown : m.last_export ≤ table.last
  pub used : (e : ℕ) → lives_in m.exports e ≡ true → e ≤ m.last_export

-- the root of an export comes, as the machine chose and as its own parent, and is counted from then on
abbrev pub root_made : Time → (export : ℕ) → RootChoice → StoreMeaning → StoreMeaning
root_made now export choice k = counted_anew choice.number None
    (with_new k choice.number (new_root export choice.generation now) 2 choice.number)

-- those of so many exports come, one after the other, which are numbered behind the last
abbrev pub roots_made : Time → (choose : ℕ → RootChoice) → (last count : ℕ) → StoreMeaning → StoreMeaning
roots_made now choose last zero k = k
roots_made now choose last (suc count) k =
    root_made now (last + suc count) (choose (last + suc count)) (roots_made now choose last count k)

-- the inode of a root: "." and ".." have the cookies 1 and 2; names are placed under this key
abbrev pub inode_of_root : (export : ℕ) → Reserved → Time → (key : List ℕ) → Inode
inode_of_root export r time key = record {
  export = export;
  generation = r.generation;
  content = contents.Directory (bare_directory r.number key);
  mode = octal 7 7 7;
  uid = 0;
  gid = 0;
  links = 2;
  accessed = time;
  modified = time;
  changed = time;
  verifier = None;
}

-- both have 64 bits
pub record ReservedFits (r : Reserved) : Type 0 where
  pub number : r.number < 2 ^ 64
  pub generation : r.generation < 2 ^ 64
