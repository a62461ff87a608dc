-- The 32 bytes of a handle are five numbers of fixed lengths, so they are cut at fixed places, and each number and its
-- bytes determine each other.
use Rattle.std.proofs.Common.{
  ◌≡◌,
  ℕ,
  ◌+◌,
  ◌<◌,
  ◌≤◌,
  Bool,
  true,
  false,
  cond,
  ◌&&◌,
  List,
  ◌++◌,
  length,
  get_or,
  take,
  drop,
  Some,
  None,
  w32,
  w64,
  refl,
  sym,
  ◌∙◌,
  ap,
  arith,
  inl,
  inr,
  length-drop,
  length-take,
}
use Rattle.std.proofs.lemmas.Bool.{eqb-true, eq-eqb, cases_lt}
use Rattle.std.proofs.lemmas.List.{drop-drop, get_or_past, take-append-drop, take_all}
use Rattle.std.proofs.lemmas.List.Elements.{All-drop, All-take}
use Rattle.std.proofs.lemmas.Nat.{be_bytes_4, be_bytes_8}
use Rattle.std.specs.Int.{from_be_bytes}
use Rattle.std.specs.List.{All}
use Rattle.nfs_machine.specs.Handles.{handle_bytes, handle_of, handle_mark}
use Rattle.nfs_machine.specs.declared.handle.Handle.{Handle}

abbrev handle : (word hyper : List ℕ → ℕ) → (export start fileid generation : List ℕ) → Handle
handle word hyper export start fileid generation =
    record { export = word export; start = hyper start; fileid = hyper fileid; generation = hyper generation }

some_if : {A : Type 0} (length_fits mark_fits : Bool) (x : A) → length_fits ≡ true → mark_fits ≡ true
    → cond (length_fits && mark_fits) (Some x) None ≡ Some x
some_if length_fits mark_fits x l m = rw (l, m) refl

same_handle : (word hyper : List ℕ → ℕ) (export start fileid generation export' start' fileid' generation' : List ℕ)
    → export ≡ export' → start ≡ start' → fileid ≡ fileid' → generation ≡ generation'
    → Some (handle word hyper export start fileid generation) ≡ Some (handle word hyper export' start' fileid'
    generation')
same_handle word hyper export start fileid generation export' start' fileid' generation' e s f g = rw (e, s, f, g) refl

-- what chunk after chunk gives
pub handle_of-chunks : (bytes first rest0 export rest1 start rest2 fileid rest3 generation : List ℕ)
    → first ≡ take 4 bytes → rest0 ≡ drop 4 bytes → export ≡ take 4 rest0 → rest1 ≡ drop 4 rest0 → start ≡ take 8 rest1
    → rest2 ≡ drop 8 rest1
    → fileid ≡ take 8 rest2 → rest3 ≡ drop 8 rest2 → generation ≡ take 8 rest3 → length bytes ≡ 32
    → from_be_bytes w32 first ≡ handle_mark
    → Some (handle (from_be_bytes w32) (from_be_bytes w64) export start fileid generation) ≡ handle_of bytes
handle_of-chunks bytes first rest0 export rest1 start rest2 fileid rest3 generation f r0 e r1 s r2 i r3 g l m =
    let d8 : rest1 ≡ drop 8 bytes = r1 ∙ (ap (drop 4) r0 ∙ drop-drop 4 4 bytes) in
    let d16 : rest2 ≡ drop 16 bytes = r2 ∙ (ap (drop 8) d8 ∙ drop-drop 8 8 bytes) in
    let d24 : rest3 ≡ drop 24 bytes = r3 ∙ (ap (drop 8) d16 ∙ drop-drop 8 16 bytes) in
    let is_marked : from_be_bytes w32 (take 4 bytes) ≡ handle_mark = ap (from_be_bytes w32) (sym f) ∙ m in
    same_handle (from_be_bytes w32) (from_be_bytes w64) _ _ _ _ _ _ _ _ (e ∙ ap (take 4) r0) (s ∙ ap (take 8) d8) (i
    ∙ ap (take 8) d16) (g ∙ ap (take 8) d24)
    ∙ sym (some_if _ _ _ (eq-eqb _ _ l) (eq-eqb _ _ is_marked))

passed : {A : Type 0} (length_fits mark_fits : Bool) (x y : A) → cond (length_fits && mark_fits) (Some x) None ≡ Some y
    → (length_fits ≡ true) × (mark_fits ≡ true) × (x ≡ y)
passed true true x y e = (refl, refl, cc)
passed true false x y e = cc
passed false mark_fits x y e = cc

-- the bytes from a place on are a chunk and the rest
chunk : (bytes rest : List ℕ) (place size : ℕ) → rest ≡ drop (place + size) bytes
    → take size (drop place bytes) ++ rest ≡ drop place bytes
chunk bytes rest place size e =
    ap (λ (x : List ℕ). take size (drop place bytes) ++ x) (e ∙ sym (drop-drop size place bytes))
    ∙ take-append-drop size (drop place bytes)

cut : (bytes : List ℕ) → length bytes ≡ 32
    → bytes ≡ take 4 bytes ++
    (take 4 (drop 4 bytes) ++ (take 8 (drop 8 bytes) ++ (take 8 (drop 16 bytes) ++ take 8 (drop 24 bytes))))
cut bytes l =
    let last : take 8 (drop 24 bytes) ≡ drop 24 bytes = take_all 8 (drop 24 bytes) (rw length-drop (omega arith)) in
    sym (chunk bytes _ 0 4 (chunk bytes _ 4 4 (chunk bytes _ 8 8 (chunk bytes _ 16 8 last))))

are_small : (xs : List ℕ) → All (λ b. b < 256) xs → (i : ℕ) → get_or xs i 0 < 256
are_small xs small i = elim (cases_lt i (length xs)) [
  | inl h ↦ small i 0 h
  | inr h ↦ rw (get_or_past xs i 0 h) (omega arith)
]

small_chunk : (bytes : List ℕ) (place size : ℕ) → All (λ b. b < 256) bytes → (i : ℕ)
    → get_or (take size (drop place bytes)) i 0 < 256
small_chunk bytes place size small = are_small _ (All-take (λ (b : ℕ). b < 256) size (drop place bytes)
    (All-drop (λ (b : ℕ). b < 256) place bytes small))

chunk_len : (bytes : List ℕ) (place size : ℕ) → place + size ≤ length bytes
    → length (take size (drop place bytes)) ≡ size
chunk_len bytes place size h = simp (length-take, length-drop) (omega arith)

joined : (a b c d e a' b' c' d' e' : List ℕ) → a' ≡ a → b' ≡ b → c' ≡ c → d' ≡ d → e' ≡ e
    → a ++ (b ++ (c ++ (d ++ e))) ≡ a' ++ (b' ++ (c' ++ (d' ++ e')))
joined a b c d e a' b' c' d' e' p q r s t = rw (p, q, r, s, t) refl

pub handle_of-written : (bytes : List ℕ) (h : Handle) → All (λ b. b < 256) bytes → handle_of bytes ≡ Some h
    → bytes ≡ handle_bytes h
handle_of-written bytes h small e =
    let found = passed _ _ _ h e in
    let l : length bytes ≡ 32 = eqb-true _ _ found.0 in
    let is_marked : from_be_bytes w32 (take 4 bytes) ≡ handle_mark = eqb-true _ _ found.1 in
    cut bytes l ∙ joined _ _ _ _ _ _ _ _ _ _
    (be_bytes_4 (take 4 bytes) handle_mark (chunk_len bytes 0 4 (omega arith)) (small_chunk bytes 0 4 small)
    (sym is_marked))
    (be_bytes_4 (take 4 (drop 4 bytes)) h.export (chunk_len bytes 4 4 (omega arith)) (small_chunk bytes 4 4 small)
    (ap (λ (x : Handle). x.export) (sym found.2)))
    (be_bytes_8 (take 8 (drop 8 bytes)) h.start (chunk_len bytes 8 8 (omega arith)) (small_chunk bytes 8 8 small)
    (ap (λ (x : Handle). x.start) (sym found.2)))
    (be_bytes_8 (take 8 (drop 16 bytes)) h.fileid (chunk_len bytes 16 8 (omega arith)) (small_chunk bytes 16 8 small)
    (ap (λ (x : Handle). x.fileid) (sym found.2)))
    (be_bytes_8 (take 8 (drop 24 bytes)) h.generation (chunk_len bytes 24 8 (omega arith))
    (small_chunk bytes 24 8 small) (ap (λ (x : Handle). x.generation) (sym found.2)))
