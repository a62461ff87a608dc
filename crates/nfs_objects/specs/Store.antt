-- A store, and what writes make of it.
use Rattle.std.specs.Prelude.{ℕ, List, [], ◌∷◌, Option, Some, max, if◌then◌else◌, ◌==◌}
use Rattle.nfs_objects.specs.declared.address.Addr.{Addr}
use Rattle.nfs_objects.specs.declared.address.Addr.TheVariants.{Inode}
use Rattle.nfs_objects.specs.declared.object.Object.{Object}
use Rattle.nfs_objects.specs.declared.object.Object.TheVariants as objects
use Rattle.nfs_objects.specs.Values.{is_addr}

-- what stands at each address, and the greatest generation that each number was given, which stays when the object goes
pub record Store : Type 0 where
  pub at : Addr → Option Object
  pub last : ℕ → ℕ

-- this at an address, and elsewhere as before
abbrev pub put_at : (Addr → Option Object) → Addr → Option Object → Addr → Option Object
put_at at a o b = if is_addr a b then o else at b

-- a number is given the generation of the object that is put there
abbrev pub give : (ℕ → ℕ) → Addr → Option Object → ℕ → ℕ
give last (Inode n) (Some (objects.Inode i)) k = if n == k then max (last k) i.generation else last k
give last a o k = last k

-- the store after one write
abbrev pub with_write : Store → Addr → Option Object → Store
with_write s a o = record { at = put_at s.at a o; last = give s.last a o }

-- the store after each write in turn
abbrev pub with_writes : Store → List (Addr × Option Object) → Store
with_writes s [] = s
with_writes s (w ∷ ws) = with_writes (with_write s w.0 w.1) ws
