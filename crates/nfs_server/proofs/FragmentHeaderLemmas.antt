-- The header of a fragment tells how many bytes it has, and behind those the next one begins.
use Rattle.std.proofs.Common.{◌≡◌, ◌∙◌, ℕ, zero, suc, ◌+◌, ◌-◌, ◌*◌, ◌%◌, ◌^◌, ◌<◌, ◌≤◌, Bool, true, false, List, []}
use Rattle.std.proofs.Common.{◌∷◌, ◌++◌, length, drop, max, refl, ap, arith, subst, sym, tests, append_assoc}
use Rattle.std.proofs.Common.{length-append, nat_le}
use Rattle.std.specs.Int.{w32, to_be_bytes, byte_at}
use Rattle.std.specs.List.{concat, flat_map}
use Rattle.nfs_rpc.specs.Records.{IsMarked, fragment, mark}
use Rattle.nfs_server.proofs.FragmentPieceLemmas.{body_more, skip_leads}
use Rattle.nfs_server.specs.Stages.{RecordsEndBetween, behind, behind_header, in_body}
use Rattle.nfs_server.specs.declared.marks.Stage.TheVariants.{Between, Header, Body}

drop_front : (xs ys : List ℕ) → drop (length xs) (xs ++ ys) ≡ ys
drop_front [] ys = refl
drop_front (x ∷ xs) ys = drop_front xs ys

number_is : (n : ℕ) → n < 2 ^ 32 →
    ((((0 * 256 + byte_at 3 n) % 2 ^ 32 * 256 + byte_at 2 n) % 2 ^ 32 * 256 + byte_at 1 n) % 2 ^ 32 * 256 + byte_at 0 n)
    % 2 ^ 32 ≡ n
number_is n small = omega (arith, small)

header_leads : (n : ℕ) (rest : List ℕ) → n < 2 ^ 32 →
    behind (Header 0 0) (to_be_bytes w32 n ++ rest) ≡ behind (behind_header n) rest
header_leads n rest small = ap (λ m. behind (behind_header m) rest) (number_is n small)

marks_body : (last : Bool) (size : ℕ) → size < 2 ^ 31 → behind_header (mark last + size) ≡ in_body last size
marks_body true size small =
    let large : nat_le (2 ^ 31) (2 ^ 31 + size) ≡ true = grind (arith, tests) in
    let low : (2 ^ 31 + size) % 2 ^ 31 ≡ size = omega (arith, small) in
    λ i. in_body (large i) (low i)
marks_body false size small =
    let large : nat_le (2 ^ 31) (0 + size) ≡ false = grind (arith, tests, small) in
    let low : (0 + size) % 2 ^ 31 ≡ size = omega (arith, small) in
    λ i. in_body (large i) (low i)

body_leads : (last : Bool) (body rest : List ℕ) →
    behind (in_body last (length body)) (body ++ rest) ≡ behind (in_body last 0) rest
body_leads last [] rest = refl
body_leads last (byte ∷ body) rest =
    let none : length (byte ∷ body) - length (byte ∷ body) ≡ 0 = omega arith in
    ap (λ stage. behind stage ((byte ∷ body) ++ rest)) (body_more last (length (byte ∷ body)) (omega arith))
    ∙ skip_leads last (length (byte ∷ body)) (length (byte ∷ body)) ((byte ∷ body) ++ rest) (omega arith)
    (omega (arith, length-append (byte ∷ body) rest)) (omega arith)
    ∙ (λ i. behind (in_body last (none i)) (drop_front (byte ∷ body) rest i))

small_mark : (last : Bool) (size : ℕ) → size < 2 ^ 31 → mark last + size < 2 ^ 32
small_mark true size small = omega (arith, small)
small_mark false size small = omega (arith, small)

fragment_leads : (last : Bool) (body rest : List ℕ) → length body < 2 ^ 31 →
    behind (Header 0 0) (fragment last body ++ rest) ≡ behind (in_body last 0) rest
fragment_leads last body rest small =
    ap (behind (Header 0 0)) (append_assoc (to_be_bytes w32 (mark last + length body)) body rest)
    ∙ header_leads (mark last + length body) (body ++ rest) (small_mark last (length body) small)
    ∙ ap (λ stage. behind stage (body ++ rest)) (marks_body last (length body) small)
    ∙ body_leads last body rest

-- earlier fragments, and a last one
record_leads : (earlier : List (List ℕ)) (last rest : List ℕ) → length (concat earlier ++ last) < 2 ^ 31 →
    behind (Header 0 0) ((flat_map (fragment false) earlier ++ fragment true last) ++ rest) ≡ behind Between rest
record_leads [] last rest small = fragment_leads true last rest small
record_leads (body ∷ earlier) last rest small =
    let sizes : length ((body ++ concat earlier) ++ last) ≡ (length body + length (concat earlier)) + length last =
    length-append (body ++ concat earlier) last ∙ ap (λ n. n + length last) (length-append body (concat earlier)) in
    ap (behind (Header 0 0))
    (ap (λ l. l ++ rest) (append_assoc (fragment false body) (flat_map (fragment false) earlier) (fragment true last))
    ∙ append_assoc (fragment false body) (flat_map (fragment false) earlier ++ fragment true last) rest)
    ∙ fragment_leads false body ((flat_map (fragment false) earlier ++ fragment true last) ++ rest)
    (omega (arith, sizes, small))
    ∙ record_leads earlier last rest (omega (arith, sizes, small, length-append (concat earlier) last))

begins_same : (bytes : List ℕ) → 0 < length bytes → behind Between bytes ≡ behind (Header 0 0) bytes
begins_same [] some = absurd (omega (arith, some))
begins_same (byte ∷ bytes) some = refl

some_bytes : (front : List ℕ) (n : ℕ) (body rest : List ℕ) →
    0 < length ((front ++ (to_be_bytes w32 n ++ body)) ++ rest)
some_bytes [] n body rest = omega arith
some_bytes (byte ∷ front) n body rest = omega arith

pub records_end_between : RecordsEndBetween
records_end_between content bytes rest marked =
    let small : length (concat marked.earlier ++ marked.last) < 2 ^ 31 =
    omega (arith, marked.within, ap length marked.joined) in
    ap (λ b. behind Between (b ++ rest)) marked.marked
    ∙ begins_same ((flat_map (fragment false) marked.earlier ++ fragment true marked.last) ++ rest)
    (some_bytes (flat_map (fragment false) marked.earlier) (mark true + length marked.last) marked.last rest)
    ∙ record_leads marked.earlier marked.last rest small
