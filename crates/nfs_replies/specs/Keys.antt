-- What is hashed of a record.
use Rattle.std.specs.Prelude.{ℕ, zero, suc, ◌+◌, ◌*◌, ◌/◌, ◌%◌, ◌^◌, bit_xor, List, ◌++◌, drop, length}
use Rattle.std.specs.Prelude.{replicate}
use Rattle.std.specs.Hash as fed
use Rattle.std.specs.Int.{rotate_left, w64}
use Rattle.byteorder.specs.Endian.{little_number}
use Rattle.nfs_replies.specs.declared.digest.Lanes.{Lanes}
use Rattle.nfs_replies.specs.declared.digest.RecordKey.{RecordKey}

-- the two halves of a number of 128 bits, put together bit by bit, with the lower one turned
abbrev pub folded : ℕ → ℕ
folded product = bit_xor (product / 2 ^ 64) (rotate_left w64 (product % 2 ^ 64) 13)

-- one lane after two words: the product of two sums, folded
unfoldable pub mixed : (word lane a b : ℕ) → ℕ
mixed word lane a b = folded ((a + word) % 2 ^ 64 * ((b + lane) % 2 ^ 64))

-- a word of 64 bits
abbrev pub word : List ℕ → (at : ℕ) → ℕ
word block at = little_number 8 (drop at block)

-- the lanes after one block of 64 bytes
abbrev pub turned : (words lanes : Lanes) → List ℕ → Lanes
turned words lanes block = record {
  first = mixed words.first lanes.first (word block 0) (word block 8);
  second = mixed words.second lanes.second (word block 16) (word block 24);
  third = mixed words.third lanes.third (word block 32) (word block 40);
  fourth = mixed words.fourth lanes.fourth (word block 48) (word block 56);
}

-- the lanes after so many whole blocks, and what is behind them with as many zeros as make a block
abbrev pub behind : (blocks : ℕ) → (words lanes : Lanes) → List ℕ → Lanes
behind zero words lanes bytes = turned words lanes (bytes ++ drop (length bytes) (replicate 64 0))
behind (suc blocks) words lanes bytes = behind blocks words (turned words lanes bytes) (drop 64 bytes)

-- the hash, from the lanes at the end
abbrev pub joined : (words lanes : Lanes) → (length : ℕ) → ℕ
joined words lanes length =
    let one = mixed words.first lanes.first length lanes.second in
    mixed words.third words.fourth one (mixed words.second lanes.third one lanes.fourth)

-- the words of a key: the first bits behind the point of pi pick them
abbrev picked : RecordKey → (constant : ℕ) → ℕ
picked key constant = mixed key.first key.second constant constant

abbrev pub key_words : RecordKey → Lanes
key_words key = record {
  first = picked key 0x243f6a8885a308d3;
  second = picked key 0x13198a2e03707344;
  third = picked key 0xa4093822299f31d0;
  fourth = picked key 0x082efa98ec4e6c89;
}

abbrev pub key_lanes : RecordKey → Lanes
key_lanes key = record {
  first = picked key 0x452821e638d01377;
  second = picked key 0xbe5466cf34e90c6c;
  third = picked key 0xc0ac29b7c97c50dd;
  fourth = picked key 0x3f84d5b5b5470917;
}

-- the hash of a record under a key
unfoldable pub digest : RecordKey → List ℕ → ℕ
digest key bytes =
    joined (key_words key) (behind (length bytes / 64) (key_words key) (key_lanes key) bytes) (length bytes)

-- what a table is given of it: that number, in one write
abbrev pub digest_input : (hash : ℕ) → List (List ℕ)
digest_input hash = fed.u64 hash
