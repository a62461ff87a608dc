-- How the bytes of a file are kept: of each 4,096 a block, which may be absent, and may have fewer; what it lacks is
-- zeros.
use Rattle.std.specs.Prelude.{◌≡◌, ℕ, ◌*◌, ◌≤◌, ◌&&◌, Bool, List, length, take, drop, not}
use Rattle.nfs_machine.specs.Data.{resized}
use Rattle.nfs_objects.specs.Bits.{has}
use Rattle.nfs_objects.specs.declared.bits.Bits.{Bits}

-- how many bytes a file has, which of its map pages are there, and whose blocks are remains
pub record FileMapValue : Type 0 where
  pub size : ℕ
  pub pages : Bits
  pub remains : Bits

-- whether a map page is there, and its blocks are no remains
abbrev pub counts : FileMapValue → (page : ℕ) → Bool
counts map page = has map.pages page && not (has map.remains page)

-- how many bytes a block has at most
abbrev pub block_size : ℕ
block_size = 4096

-- the bytes of a file that lie in the block with this number, from 0
abbrev pub part_at : List ℕ → ℕ → List ℕ
part_at bytes i = take block_size (drop (i * block_size) bytes)

-- The bytes of a file of this size, where each block has stored these: so many zeros behind them make the block's part
-- of the file. Nothing stands behind the end of the file.
pub record IsContent (size : ℕ) (stored : ℕ → List ℕ) (bytes : List ℕ) : Type 0 where
  pub counted : length bytes ≡ size
  pub filled : (i : ℕ) → part_at bytes i ≡ resized (stored i) (length (part_at bytes i))
  pub short : (i : ℕ) → length (stored i) ≤ length (part_at bytes i)
