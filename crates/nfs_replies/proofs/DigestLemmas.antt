-- The blocks of a record, one after the other, and the halves of a product.
use Rattle.std.proofs.Common.{◌≡◌, ◌≤◌, ◌<◌, ◌+◌, ◌-◌, ◌*◌, ◌/◌, ◌%◌, ◌^◌, ℕ, suc, ◌&&◌, true, nat_eq, bit_xor, List}
use Rattle.std.proofs.Common.{◌++◌}
use Rattle.std.proofs.Common.{drop, length, replicate, sym, ap, ◌∙◌, arith}
use Rattle.std.proofs.Math.Nat.{div-eq-sub-div, div-eq_of_lt}
use Rattle.std.proofs.lemmas.List.{length-drop}
use Rattle.std.proofs.lemmas.Nat.{div-mul-add, mod-mul-add}
use Rattle.std.specs.Int.{rotate_left, w64}
use Rattle.std.proofs.lemmas.Bool.{and_parts, eqb-true}
use Rattle.nfs_replies.specs.Keys.{behind, digest, folded, joined, key_lanes, key_words, turned}
use Rattle.nfs_replies.specs.declared.digest.Lanes.{Lanes}
use Rattle.nfs_replies.specs.declared.digest.RecordKey.{RecordKey}

-- a whole block is one more than what is behind it
more : (bytes : List ℕ) → 64 ≤ length bytes → length bytes / 64 ≡ suc (length (drop 64 bytes) / 64)
more bytes whole =
    div-eq-sub-div (omega arith) whole ∙ plus_one ((length bytes - 64) / 64)
    ∙ ap (λ n. suc (n / 64)) (sym (length-drop 64 bytes))
  where
    plus_one : (n : ℕ) → n + 1 ≡ suc n
    plus_one n = omega arith

behind_block : (words lanes : Lanes) (bytes : List ℕ) → 64 ≤ length bytes →
    behind (length bytes / 64) words lanes bytes ≡
    behind (length (drop 64 bytes) / 64) words (turned words lanes bytes) (drop 64 bytes)
behind_block words lanes bytes whole = ap (λ n. behind n words lanes bytes) (more bytes whole)

-- less than a block is the last one
behind_last : (words lanes : Lanes) (bytes : List ℕ) → length bytes < 64 →
    behind (length bytes / 64) words lanes bytes ≡
    turned words lanes (bytes ++ drop (length bytes) (replicate 64 0))
behind_last words lanes bytes less = ap (λ n. behind n words lanes bytes) (div-eq_of_lt less)

-- one block more is read
pub block_read : (words lanes next : Lanes) (rest left : List ℕ) → 64 ≤ length rest →
    next ≡ turned words lanes rest → left ≡ drop 64 rest →
    behind (length left / 64) words next left ≡ behind (length rest / 64) words lanes rest
block_read words lanes next rest left whole turns goes =
    ap (λ l. behind (length l / 64) words next l) goes
    ∙ ap (λ n. behind (length (drop 64 rest) / 64) words n (drop 64 rest)) turns
    ∙ sym (behind_block words lanes rest whole)

-- all is read but the last one, which is joined
pub all_read : (key : RecordKey) (words lanes end : Lanes) (bytes rest last : List ℕ) (hash : ℕ) →
    words ≡ key_words key →
    behind (length rest / 64) words lanes rest ≡ behind (length bytes / 64) words (key_lanes key) bytes →
    length rest < 64 → last ≡ rest ++ drop (length rest) (replicate 64 0) → end ≡ turned words lanes last →
    hash ≡ joined words end (length bytes) → hash ≡ digest key bytes
unfolding digest
all_read key words lanes end bytes rest last hash picked so_far less filled turns is =
    is ∙ ap (λ l. joined words l (length bytes))
    (turns ∙ ap (turned words lanes) filled ∙ sym (behind_last words lanes rest less) ∙ so_far)
    ∙ ap (λ w. joined w (behind (length bytes / 64) w (key_lanes key) bytes) (length bytes)) picked

-- keys that are found equal give one hash
pub same_digest : (a b : RecordKey) (bytes : List ℕ) (hash : ℕ) →
    (nat_eq a.first b.first && nat_eq a.second b.second) ≡ true → hash ≡ digest a bytes → hash ≡ digest b bytes
same_digest a b bytes hash same is =
    let parts = and_parts (nat_eq a.first b.first) (nat_eq a.second b.second) same in
    let keys : a ≡ b = λ i. record {
      first = eqb-true a.first b.first parts.0 i;
      second = eqb-true a.second b.second parts.1 i;
    } in
    is ∙ ap (λ key. digest key bytes) keys

-- what is made of the halves of a number
halves : (f : ℕ → ℕ → ℕ) (base low high whole : ℕ) → low < base → low + high * base ≡ whole + 0 →
    f high low ≡ f (whole / base) (whole % base)
halves f base low high whole less is =
    let number : high * base + low ≡ whole = swap low (high * base) whole is in
    ap (λ h. f h low) (sym (div-mul-add high base low less) ∙ ap (λ n. n / base) number)
    ∙ ap (λ l. f (whole / base) l) (sym (mod-mul-add high base low less) ∙ ap (λ n. n % base) number)
  where
    swap : (a b c : ℕ) → a + b ≡ c + 0 → b + a ≡ c
    swap a b c sum = omega arith

pub halves_folded : (low high whole around : ℕ) → low < 2 ^ 64 → low + high * 2 ^ 64 ≡ whole + 0 →
    around ≡ rotate_left w64 low 13 → bit_xor high around ≡ folded whole
halves_folded low high whole around less is turns =
    ap (bit_xor high) turns ∙ halves (λ h l. bit_xor h (rotate_left w64 l 13)) (2 ^ 64) low high whole less is
