-- Sets of numbers below 512, a bit for each.
use Rattle.std.specs.Prelude.{◌≡◌, ◌<◌, ℕ, ◌+◌, ◌-◌, ◌*◌, ◌/◌, ◌%◌, Bool, true, ◌==◌, ◌&&◌}
use Rattle.std.specs.Prelude.{List, nat_lt, replicate, slice_index_or}
use Rattle.std.specs.Prelude.{if◌then◌else◌}
use Rattle.std.specs.Int.{bit_at}
use Rattle.nfs_machine.specs.Bytes.{same_bytes}
use Rattle.nfs_objects.specs.declared.bits.Bits.{Bits}

-- whether a number is in the set
abbrev pub has : Bits → ℕ → Bool
has b n = nat_lt n 512 && (bit_at (slice_index_or b.words (n / 64) 0) (n % 64) == 1)

-- the empty set
abbrev pub no_bits : Bits
no_bits = record { words = replicate 8 0 }

abbrev pub same_bits : Bits → Bits → Bool
same_bits a b = same_bytes a.words b.words

-- no number from this one on is in the set, and the one before it is, unless this is 0
pub record IsEnd (bits : Bits) (end : ℕ) : Type 0 where
  pub above : (n : ℕ) → has bits n ≡ true → n < end
  pub last : 0 < end → has bits (end - 1) ≡ true

-- the first so many bits of a word
abbrev pub IsMask : (count mask : ℕ) → Type 0
IsMask count mask = (i : ℕ) → i < 64 → bit_at mask i ≡ (if nat_lt i count then 1 else 0)

-- the word at a place has no bit of a number or of one behind it, and else those of the set
abbrev pub IsWordBelow : List ℕ → (place number word : ℕ) → Type 0
IsWordBelow words place number word = (i : ℕ) → i < 64 →
    bit_at word i ≡ (if nat_lt (place * 64 + i) number then bit_at (slice_index_or words place 0) i else 0)
