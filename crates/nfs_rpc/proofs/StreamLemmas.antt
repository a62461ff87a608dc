-- A stream splits into records and a rest in one way: what stands behind the earlier fragments of a record is a last
-- fragment, a header above the limit, or less than a fragment, and no two of these are the same bytes.
use Rattle.std.proofs.Common.{◌≡◌, ◌≢◌, subst, ℕ, zero, suc, ◌+◌, ◌%◌, ◌^◌, ◌<◌, ◌≤◌, Bool, true, false, List, [], ◌∷◌}
use Rattle.std.proofs.Common.{◌++◌, length, refl, ap, sym, ◌∙◌, arith, append_assoc, length-append}
use Rattle.std.specs.Int.{w32, to_be_bytes, bytes_high_first}
use Rattle.std.specs.List.{concat, flat_map}
use Rattle.nfs_rpc.specs.Records.{mark, fragment, IsMarked, BeginsNone, BeginsTooLarge, IsStream, IsTooLarge}
use Rattle.nfs_rpc.specs.Records.{EndsInHeader, EndsInBody, LeadTo}
use Rattle.nfs_rpc.specs.Held.{IsPlace}
use Rattle.nfs_rpc.specs.declared.marking.FragmentState.{FragmentState}
use Rattle.nfs_rpc.specs.declared.marking.FragmentState.TheVariants.{Header, Body, Refused}
use Rattle.nfs_rpc.specs.declared.marking.TheConstants.{RECORD_LIMIT}
use Rattle.nfs_rpc.proofs.FragmentLemmas.{word_front, header_front, fragment_front, Stops, earlier_are_one, mark_small}

length_digits : (count number : ℕ) → length (bytes_high_first count number) ≡ count
length_digits zero number = refl
length_digits (suc count) number = ap suc (length_digits count number)

-- what can stand behind earlier fragments of a record, of which so many bytes have come
data Tail : ℕ → List ℕ → Type 0 where
  last_fragment : {size : ℕ} (last back : List ℕ) → size + length last ≤ RECORD_LIMIT
      → Tail size (fragment true last ++ back)
  too_large : {size : ℕ} (number : ℕ) (back : List ℕ) → number < 2 ^ 32 → RECORD_LIMIT < size + number % 2 ^ 31
      → Tail size (to_be_bytes w32 number ++ back)
  short : {size : ℕ} (bytes : List ℕ) → length bytes < 4 → Tail size bytes
  partial : {size : ℕ} (last : Bool) (body : List ℕ) (missing : ℕ) → 0 < missing
      → size + length body + missing ≤ RECORD_LIMIT
      → Tail size (to_be_bytes w32 (mark last + (length body + missing)) ++ body)

-- a header of a fragment that is not the last, seen as a word
small_word : (number size : ℕ) (l : Bool) (n : ℕ) → n < 2 ^ 31 → number ≡ mark l + n → number % 2 ^ 31 ≡ n
small_word number size true n small is = omega arith
small_word number size false n small is = omega arith

-- none of them begins with an earlier fragment within the limit
tail_stops : (size : ℕ) (tail : List ℕ) → Tail size tail → Stops size tail
tail_stops size tail (last_fragment last back within) body after small same =
    cc ((fragment_front true false last body back after (omega arith) (omega arith) same).0)
tail_stops size tail (too_large number back word above) body after small same =
    let words = word_front number (mark false + length body) back (body ++ after) word (omega arith) (same
    ∙ append_assoc (to_be_bytes w32 (mark false + length body)) body after) in
    absurd (omega arith)
tail_stops size tail (short bytes few) body after small same =
    absurd (omega (arith, ap length same))
tail_stops size tail (partial last body' missing some within) body after small same =
    let headers = header_front last false (length body' + missing) (length body) body' (body ++ after) (omega arith)
    (omega arith) (same ∙ append_assoc (to_be_bytes w32 (mark false + length body)) body after) in
    absurd (omega (arith, ap length headers.2, length-append body after))

-- some bytes, as earlier fragments of a record and what stands behind them
record Opens (bytes : List ℕ) : Type 0 where
  earlier : List (List ℕ)
  tail : List ℕ
  whole : bytes ≡ flat_map (fragment false) earlier ++ tail
  within : length (concat earlier) ≤ RECORD_LIMIT
  stands : Tail (length (concat earlier)) tail

-- they are so in one way
opens_once : (d e : List (List ℕ)) (x y : List ℕ) → length (concat d) ≤ RECORD_LIMIT → length (concat e) ≤ RECORD_LIMIT
    → Tail (length (concat d)) x → Tail (length (concat e)) y
    → flat_map (fragment false) d ++ x ≡ flat_map (fragment false) e ++ y → (d ≡ e) × (x ≡ y)
opens_once d e x y within within' stands stands' same =
    earlier_are_one 0 (length (concat d)) (length (concat e)) d e x y (omega arith) (omega arith) within within'
    (tail_stops _ x stands) (tail_stops _ y stands') same

-- a record and what follows it
marked_opens : (content front back : List ℕ) (m : IsMarked content front)
    → front ++ back ≡ flat_map (fragment false) m.earlier ++ (fragment true m.last ++ back)
marked_opens content front back m = ap (λ bytes. bytes ++ back) m.marked
    ∙ append_assoc (flat_map (fragment false) m.earlier) (fragment true m.last) back

marked_lengths : (content front : List ℕ) (m : IsMarked content front)
    → length (concat m.earlier) + length m.last ≤ RECORD_LIMIT
marked_lengths content front m = let within = m.within in omega (
  arith,
  ap length m.joined,
  length-append
      (concat m.earlier) m.last,
)

-- two records at one front are the same
pub marked_is_one : (content content' front front' back back' : List ℕ) → IsMarked content front
    → IsMarked content' front' → front ++ back ≡ front' ++ back' → (content ≡ content') × (back ≡ back')
marked_is_one content content' front front' back back' m m' same =
    let lengths = marked_lengths content front m in
    let lengths' = marked_lengths content' front' m' in
    let opened = opens_once m.earlier m'.earlier (fragment true m.last ++ back) (fragment true m'.last ++ back')
    (omega arith) (omega arith)
    (last_fragment m.last back lengths) (last_fragment m'.last back' lengths')
    (sym (marked_opens content front back m) ∙ same ∙ marked_opens content' front' back' m') in
    let lasts = fragment_front true true m.last m'.last back back' (omega arith) (omega arith) opened.1 in
    (m.joined ∙ cc (opened.0, lasts.1) ∙ sym m'.joined, lasts.2)

-- no record begins where a header brings it above the limit
pub too_large_begins_none : (bytes : List ℕ) → BeginsTooLarge bytes → BeginsNone bytes
too_large_begins_none bytes t content front back same m =
    let lengths = marked_lengths content front m in
    let within = t.within in
    let opened = opens_once t.earlier m.earlier (to_be_bytes w32 t.number ++ t.back) (fragment true m.last ++ back)
    within (omega arith)
    (too_large t.number t.back t.is_word t.above) (last_fragment m.last back lengths) (sym t.whole ∙ same
    ∙ marked_opens content front back m) in
    let words = word_front t.number (mark true + length m.last) t.back (m.last ++ back) t.is_word (omega arith)
    (opened.1 ∙ append_assoc (to_be_bytes w32 (mark true + length m.last)) m.last back) in
    let above = t.above in
    absurd (omega (arith, ap (λ d. length (concat d)) opened.0, words.0))

-- nor does one where less than a header stands
pub header_begins_none : (count number : ℕ) (content bytes : List ℕ) → count < 4 → length content ≤ RECORD_LIMIT
    → EndsInHeader count number content bytes → BeginsNone bytes
header_begins_none count number content bytes few within h content' front back same m =
    let lengths = marked_lengths content' front m in
    let opened = opens_once h.earlier m.earlier (bytes_high_first count number) (fragment true m.last ++ back)
    (omega (arith, ap length h.joined)) (omega arith)
    (short (bytes_high_first count number) (omega (arith, length_digits count number)))
    (last_fragment m.last back lengths) (sym h.whole ∙ same ∙ marked_opens content' front back m) in
    absurd (omega (arith, ap length opened.1, length_digits count number))

-- nor does one where a body is not whole
pub body_begins_none : (last : Bool) (missing : ℕ) (content bytes : List ℕ) → 0 < missing
    → length content + missing ≤ RECORD_LIMIT → EndsInBody last missing content bytes → BeginsNone bytes
body_begins_none last missing content bytes some within b content' front back same m =
    let lengths = marked_lengths content' front m in
    let sizes : length content ≡ length (concat b.earlier) + length b.body = ap length b.joined
    ∙ length-append (concat b.earlier) b.body in
    let opened = opens_once b.earlier m.earlier (to_be_bytes w32 (mark last + (length b.body + missing)) ++ b.body)
    (fragment true m.last ++ back) (omega arith) (omega arith)
    (partial last b.body missing some (omega arith)) (last_fragment m.last back lengths) (sym b.whole ∙ same
    ∙ marked_opens content' front back m) in
    let headers = header_front last true (length b.body + missing) (length m.last) b.body (m.last ++ back) (omega arith)
    (omega arith)
    (opened.1 ∙ append_assoc (to_be_bytes w32 (mark true + length m.last)) m.last back) in
    absurd (omega (arith, ap length headers.2, length-append m.last back, headers.1))

-- less than a header brings nothing above the limit
pub header_not_too_large : (count number : ℕ) (content bytes : List ℕ) → count < 4 → length content ≤ RECORD_LIMIT
    → EndsInHeader count number content bytes → BeginsTooLarge bytes → ⊥
header_not_too_large count number content bytes few within h t =
    let opened = opens_once h.earlier t.earlier (bytes_high_first count number) (to_be_bytes w32 t.number ++ t.back)
    (omega (arith, ap length h.joined)) t.within
    (short (bytes_high_first count number) (omega (arith, length_digits count number)))
    (too_large t.number t.back t.is_word t.above) (sym h.whole ∙ t.whole) in
    omega (arith, ap length opened.1, length_digits count number)

-- nor does the header of a body that is not whole
pub body_not_too_large : (last : Bool) (missing : ℕ) (content bytes : List ℕ) → 0 < missing
    → length content + missing ≤ RECORD_LIMIT → EndsInBody last missing content bytes → BeginsTooLarge bytes → ⊥
body_not_too_large last missing content bytes some within b t =
    let sizes : length content ≡ length (concat b.earlier) + length b.body = ap length b.joined
    ∙ length-append (concat b.earlier) b.body in
    let opened = opens_once b.earlier t.earlier (to_be_bytes w32 (mark last + (length b.body + missing)) ++ b.body)
    (to_be_bytes w32 t.number ++ t.back) (omega arith) t.within
    (partial last b.body missing some (omega arith)) (too_large t.number t.back t.is_word t.above) (sym b.whole
    ∙ t.whole) in
    let words = word_front (mark last + (length b.body + missing)) t.number b.body t.back
    (mark_small last (length b.body + missing) (omega arith)) t.is_word opened.1 in
    let is = small_word t.number 0 last (length b.body + missing) (omega arith) (sym words.0) in
    let above = t.above in
    omega (arith, ap (λ d. length (concat d)) opened.0)

-- what a value holds begins no record
pub held_begins_none : (place : FragmentState) (content bytes : List ℕ) → IsPlace place (length content)
    → LeadTo bytes content place → BeginsNone bytes
held_begins_none (Header count number) content bytes sound held = header_begins_none count number content bytes sound.0
    sound.2 held
held_begins_none (Body last missing) content bytes sound held = body_begins_none last missing content bytes sound.0
    sound.1 held
held_begins_none Refused content bytes sound held = too_large_begins_none bytes held

-- and unless it is refused, no header in it is too large
pub held_not_too_large : (place : FragmentState) (content bytes : List ℕ) → IsPlace place (length content)
    → place ≢ Refused
    → LeadTo bytes content place → BeginsTooLarge bytes → ⊥
held_not_too_large (Header count number) content bytes sound taken held t = header_not_too_large count number content
    bytes sound.0 sound.2 held t
held_not_too_large (Body last missing) content bytes sound taken held t = body_not_too_large last missing content bytes
    sound.0 sound.1 held t
held_not_too_large Refused content bytes sound taken held t = taken refl

-- a stream has one splitting
pub splits_once : (stream : List ℕ) (records records' : List (List ℕ)) (rest rest' : List ℕ)
    → IsStream stream records rest → IsStream stream records' rest' → (records ≡ records') × (rest ≡ rest')
splits_once stream [] [] rest rest' s s' = (refl, s.0 ∙ sym s'.0)
splits_once stream [] (content ∷ records) rest rest' s (front, back, is, m, more) = absurd (s.1 content front back (s.0
    ∙ is) m)
splits_once stream (content ∷ records) [] rest rest' (front, back, is, m, more) s' = absurd
    (s'.1 content front back (s'.0 ∙ is) m)
splits_once stream (content ∷ records) (content' ∷ records') rest rest' (front, back, is, m, more)
    (front', back', is', m', more') =
    let firsts = marked_is_one content content' front front' back back' m m' (sym is ∙ is') in
    let others = splits_once back records records' rest rest' more (let P : List ℕ
    → Type 0 = λ b. IsStream b records' rest' in subst P (sym firsts.1) more') in
    (cc (firsts.0, others.0), others.1)

-- a stream goes on behind its rest
pub goes_on : (stream piece : List ℕ) (records more : List (List ℕ)) (rest rest' : List ℕ)
    → IsStream stream records rest → IsStream (rest ++ piece) more rest'
    → IsStream (stream ++ piece) (records ++ more) rest'
goes_on stream piece [] more rest rest' s next = let P : List ℕ
    → Type 0 = λ b. IsStream (b ++ piece) more rest' in subst P s.0 next
goes_on stream piece (content ∷ records) more rest rest' (front, back, is, m, others) next = (
  front,
  back ++ piece,
  ap (λ bytes. bytes ++ piece) is ∙ append_assoc front back piece,
  m,
  goes_on back piece
      records more rest rest' others next,
)

-- where the rest begins too large, the stream is
pub not_too_large : (stream : List ℕ) (records : List (List ℕ)) (rest : List ℕ) → IsStream stream records rest
    → (BeginsTooLarge rest → ⊥) → IsTooLarge stream → ⊥
not_too_large stream records rest s fine (records', rest', s', t) =
    let one = splits_once stream records records' rest rest' s s' in
    fine (let P : List ℕ → Type 0 = λ b. BeginsTooLarge b in subst P (sym one.1) t)

-- whatever follows a header that is too large
pub exceeds_on : (bytes more : List ℕ) → BeginsTooLarge bytes → BeginsTooLarge (bytes ++ more)
exceeds_on bytes more t = record {
  earlier = t.earlier;
  number = t.number;
  back = t.back ++ more;
  is_word = t.is_word;
  whole = ap (λ l. l ++ more) t.whole
      ∙ append_assoc (flat_map (fragment false) t.earlier) (to_be_bytes w32 t.number ++ t.back) more;
  within = t.within;
  above = t.above;
}

pub too_large_goes_on : (stream more : List ℕ) → IsTooLarge stream → IsTooLarge (stream ++ more)
too_large_goes_on stream more (records, rest, s, t) =
    let beyond = exceeds_on rest more t in (
      records ++ [],
      rest ++ more,
      goes_on stream more records [] rest (rest ++ more) s
          (refl, too_large_begins_none (rest ++ more) beyond),
      beyond,
    )
