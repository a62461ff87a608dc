-- Exports that are numbered in the order given are found by their places, and no two of a faultless list are alike.
use Rattle.std.proofs.Common.{◌≡◌, ◌==◌, ℕ, zero, suc, ◌+◌, ◌≤◌, ◌<◌, Bool, true}
use Rattle.std.proofs.Common.{false, not, ◌&&◌, ◌||◌, cond, List, [], ◌∷◌, ◌++◌, length, drop, map}
use Rattle.std.proofs.Common.{Option, Some, None, refl, sym, ◌∙◌, ap, subst, arith, nat_le, nat_lt, filter}
use Rattle.std.proofs.lemmas.Bool.{and_parts, ltb-false, or_parts}
use Rattle.std.proofs.lemmas.List.{length-map}
use Rattle.std.specs.Cmp.{unsigned_Decides}
use Rattle.std.specs.Cmp.Lexicographic.{bytes_decides}
use Rattle.std.specs.List.{AllByRecursion, list_all, list_any, slice_get}
use Rattle.std.specs.Option.{option_map, option_or}
use Rattle.nfs_machine.specs.Bytes.{same_bytes}
use Rattle.nfs_machine.specs.ExportFaults.{AreFaultless, export_fault, export_of, fault_of, first_fault}
use Rattle.nfs_machine.specs.ExportFaults.{is_export_mode, is_export_part, is_export_path, are_export_hosts}
use Rattle.nfs_machine.specs.Exports.{ExportValue, LivingExport, export_at, numbered_exports, opening_exports}
use Rattle.nfs_machine.specs.Paths.{begins_with_slash, in_front, parts, pieces, slash}
use Rattle.nfs_machine.specs.WellFormed.{AllApart, AreApart}
use Rattle.nfs_machine.specs.declared.exports.ExportError.TheVariants.{BadPath, BadMode, NoHost, DoublePath, TooMany}
use Rattle.nfs_machine.specs.declared.exports.ExportText.{ExportText}
use Rattle.nfs_machine.proofs.MapChangeLemmas.{apart, itself}
use Rattle.nfs_machine.proofs.WellFormedLemmas.{all_map}

-- ---- numbers
abbrev pub with_number : ℕ → ExportValue → LivingExport
with_number n e = record { number = n; root = n; value = e }

pub numbered_from : (es : List ExportValue) (k i : ℕ) →
    export_at (numbered_exports k es) (k + i) ≡ option_map (with_number (k + i)) (slice_get es i)
numbered_from [] k i = refl
numbered_from (e ∷ es) k zero =
    let none : k + 0 ≡ k = omega arith in
    subst (λ n. cond (k == n) (Some (with_number k e)) (export_at (numbered_exports (k + 1) es) n) ≡ Some
    (with_number n e)) (sym none)
    (ap (λ b. cond b (Some (with_number k e)) (export_at (numbered_exports (k + 1) es) k)) (itself k))
numbered_from (e ∷ es) k (suc i) =
    let next : k + suc i ≡ k + 1 + i = omega arith in
    ap (λ b. cond b (Some (with_number k e)) (export_at (numbered_exports (k + 1) es) (k + suc i)))
    (apart k (k + suc i) (λ same. omega (arith, same)))
    ∙ subst (λ n. export_at (numbered_exports (k + 1) es) n ≡ option_map (with_number n) (slice_get es i))
    (sym next) (numbered_from es (k + 1) i)

none-below : (es : List ExportValue) (k n : ℕ) → n < k → export_at (numbered_exports k es) n ≡ None
none-below [] k n less = refl
none-below (e ∷ es) k n less =
    ap (λ b. cond b (Some (with_number k e)) (export_at (numbered_exports (k + 1) es) n))
    (apart k n (λ same. omega (arith, same, less))) ∙ none-below es (k + 1) n (omega (arith, less))

-- the number of an export is one above its place
pub opened-at : (es : List ExportValue) (i : ℕ) →
    export_at (opening_exports es) (1 + i) ≡ option_map (with_number (1 + i)) (slice_get es i)
opened-at es i = numbered_from es 1 i

pub length-numbered : (es : List ExportValue) (k : ℕ) → length (numbered_exports k es) ≡ length es
length-numbered [] k = refl
length-numbered (e ∷ es) k = ap suc (length-numbered es (k + 1))

-- what is true of the export at each place is true of all
pub all-numbered : (P : LivingExport → Type 0) (es : List ExportValue) (k : ℕ) →
    ((n : ℕ) (e : ExportValue) → k ≤ n → n < k + length es → P (with_number n e)) →
    AllByRecursion P (numbered_exports k es)
all-numbered P [] k each = tt
all-numbered P (e ∷ es) k each = (
  each k e (omega arith) (omega arith),
  all-numbered P es (k + 1) (λ n x low high. each n x (omega (arith, low)) (omega (arith, high))),
)

-- ---- faults
abbrev pub DiffersFrom : ExportText → ExportText → Type 0
DiffersFrom text earlier = same_bytes earlier.path text.path ≡ false

-- a text with a sound path, which none of these has
abbrev IsFaultlessText : List ExportText → ExportText → Type 0
IsFaultlessText earlier text = (is_export_path text.path ≡ true) × AllByRecursion (DiffersFrom text) earlier

none-of : (test : ExportText → Bool) (list : List ExportText) → list_any test list ≡ false →
    AllByRecursion (λ x. test x ≡ false) list
none-of test [] none = tt
none-of test (x ∷ list) none =
    (let both = or_parts (test x) (list_any test list) none in (both.0, none-of test list both.1))

faultless-text : (earlier : List ExportText) (text : ExportText) → fault_of earlier text ≡ None →
    IsFaultlessText earlier text
faultless-text earlier text none =
    judged (is_export_path text.path) (is_export_mode text.mode) (are_export_hosts text.hosts.items)
    (list_any (λ (e : ExportText). same_bytes e.path text.path) earlier) refl refl none
  where
    judged : (a b c d : Bool) → is_export_path text.path ≡ a →
        list_any (λ (e : ExportText). same_bytes e.path text.path) earlier ≡ d
        → cond (not a) (Some (BadPath (length earlier + 1)))
        (cond (not b) (Some (BadMode (length earlier + 1)))
        (cond (not c) (Some (NoHost (length earlier + 1))) (cond d (Some (DoublePath (length earlier + 1))) None)))
        ≡ None
        → IsFaultlessText earlier text
    judged false b c d path other is = cc
    judged true false c d path other is = cc
    judged true true false d path other is = cc
    judged true true true true path other is = cc
    judged true true true false path other is =
        (path, none-of (λ (e : ExportText). same_bytes e.path text.path) earlier other)

both-none : {A : Type 0} (a b : Option A) → option_or a b ≡ None → (a ≡ None) × (b ≡ None)
both-none None b none = (refl, none)
both-none (Some x) b none = cc

all-front : {A : Type 0} (P : A → Type 0) (xs ys : List A) → AllByRecursion P (xs ++ ys) → AllByRecursion P xs
all-front P [] ys all = tt
all-front P (x ∷ xs) ys all = (all.0, all-front P xs ys all.1)

all-back : {A : Type 0} (P : A → Type 0) (xs ys : List A) → AllByRecursion P (xs ++ ys) → AllByRecursion P ys
all-back P [] ys all = all
all-back P (x ∷ xs) ys all = all-back P xs ys all.1

faultless-all : (earlier list : List ExportText) → first_fault earlier list ≡ None →
    AllByRecursion (IsFaultlessText earlier) list
faultless-all earlier [] none = tt
faultless-all earlier (text ∷ list) none =
    let both = both-none (fault_of earlier text) (first_fault (earlier ++ text ∷ []) list) none in (
      faultless-text earlier text both.0,
      all_map (IsFaultlessText (earlier ++ text ∷ [])) (IsFaultlessText earlier)
          (λ x sound. (sound.0, all-front (DiffersFrom x) earlier (text ∷ []) sound.1)) list
          (faultless-all (earlier ++ text ∷ []) list both.1),
    )

-- ---- paths with the same parts are the same
-- each part behind a slash
abbrev with_slashes : List (List ℕ) → List ℕ
with_slashes [] = []
with_slashes (part ∷ parts) = slash ∷ (part ++ with_slashes parts)

abbrev rebuilt : List (List ℕ) → List ℕ
rebuilt [] = slash ∷ []
rebuilt (part ∷ parts) = with_slashes (part ∷ parts)

pieces-joined : (text : List ℕ) → with_slashes (pieces text) ≡ slash ∷ text
pieces-joined [] = refl
pieces-joined (b ∷ text) =
    elim (b == slash) as
    (λ t. (b == slash) ≡ t →
    with_slashes (cond t ([] ∷ pieces text) (in_front b (pieces text))) ≡ slash ∷ b ∷ text) [
      | true ↦ λ t. ap (λ x. slash ∷ x) (pieces-joined text) ∙ ap (λ k. slash ∷ k ∷ text)
          (sym ((unsigned_Decides b slash).0 t))
      | false ↦ λ t. fronted (pieces text) (pieces-joined text)
    ] refl
  where
    fronted : (ps : List (List ℕ)) → with_slashes ps ≡ slash ∷ text →
        with_slashes (in_front b ps) ≡ slash ∷ b ∷ text
    fronted [] e = cc
    fronted (p ∷ ps) e = (let tail : p ++ with_slashes ps ≡ text = cc in ap (λ x. slash ∷ b ∷ x) tail)

-- no part of an export's path is empty
all-stay : (ps : List (List ℕ)) → list_all is_export_part ps ≡ true →
    filter (λ piece. not (length piece == 0)) ps ≡ ps
all-stay [] all = refl
all-stay (p ∷ ps) all =
    let both = and_parts (is_export_part p) (list_all is_export_part ps) all in
    let rest = all-stay ps both.1 in
    let some : nat_le 1 (length p) ≡ true = (and_parts _ _ (and_parts _ _ (and_parts _ _ both.0).0).0).0 in
    kept p some rest
  where
    kept : (p : List ℕ) → nat_le 1 (length p) ≡ true → filter (λ piece. not (length piece == 0)) ps ≡ ps →
        filter (λ piece. not (length piece == 0)) (p ∷ ps) ≡ p ∷ ps
    kept [] some rest = cc
    kept (x ∷ p) some rest = ap
        (λ b. cond (not b) ((x ∷ p) ∷ filter (λ piece. not (length piece == 0)) ps)
        (filter (λ piece. not (length piece == 0)) ps)) (apart (suc (length p)) 0 (λ z. omega (arith, z))) ∙ ap
        (λ xs. (x ∷ p) ∷ xs) rest

path-rebuilt : (path : List ℕ) → is_export_path path ≡ true → rebuilt (parts path) ≡ path
path-rebuilt path is =
    let first = and_parts (nat_le (length path) 1024 && begins_with_slash path)
    (same_bytes path (slash ∷ []) || list_all is_export_part (pieces (drop 1 path))) is in
    begun path (and_parts (nat_le (length path) 1024) (begins_with_slash path) first.0).1 first.1
  where
    begun : (path : List ℕ) → begins_with_slash path ≡ true →
        (same_bytes path (slash ∷ []) || list_all is_export_part (pieces (drop 1 path))) ≡ true →
        rebuilt (parts path) ≡ path
    begun [] begins is = cc
    begun (b ∷ text) begins is =
        let first : b ≡ slash = (unsigned_Decides b slash).0 begins in
        subst (λ k. rebuilt (parts (k ∷ text)) ≡ k ∷ text) (sym first)
        (elim (same_bytes (b ∷ text) (slash ∷ [])) as
        (λ t. same_bytes (b ∷ text) (slash ∷ []) ≡ t →
        (t || list_all is_export_part (pieces text)) ≡ true →
        rebuilt (parts (slash ∷ text)) ≡ slash ∷ text) [
          | true ↦ λ t i. (let none : text ≡ [] =
              (let whole : b ∷ text ≡ slash ∷ [] = (bytes_decides (b ∷ text) (slash ∷ [])).0 t in cc) in subst
              (λ x. rebuilt (parts (slash ∷ x)) ≡ slash ∷ x) (sym none) refl)
          | false ↦ λ t i. ap rebuilt (all-stay (pieces text) i) ∙ nonempty (pieces text) (pieces-joined text)
        ] refl is)
      where
        nonempty : (ps : List (List ℕ)) → with_slashes ps ≡ slash ∷ text → rebuilt ps ≡ slash ∷ text
        nonempty [] e = cc
        nonempty (p ∷ ps) e = e

parts-differ : (a b : List ℕ) → is_export_path a ≡ true → is_export_path b ≡ true →
    same_bytes a b ≡ false → parts a ≡ parts b → ⊥
parts-differ a b one other differ same =
    let equal : a ≡ b = sym (path-rebuilt a one) ∙ ap rebuilt same ∙ path-rebuilt b other in
    let no : true ≡ false = sym ((bytes_decides a b).1 equal) ∙ differ in
    cc

-- ---- a faultless list opens exports that are apart
abbrev OtherPath : ExportText → ExportText → Type 0
OtherPath a b = parts a.path ≡ parts b.path → ⊥

all-apart : (earlier list : List ExportText) (k : ℕ) → first_fault earlier list ≡ None →
    AllApart (numbered_exports k (map export_of list))
all-apart earlier [] k none = tt
all-apart earlier (text ∷ list) k none =
    let both = both-none (fault_of earlier text) (first_fault (earlier ++ text ∷ []) list) none in
    let own = faultless-text earlier text both.0 in
    let others = all_map (IsFaultlessText (earlier ++ text ∷ [])) (OtherPath text)
    (λ x sound. parts-differ text.path x.path own.0 sound.0 (all-back (DiffersFrom x) earlier (text ∷ []) sound.1).0)
    list (faultless-all (earlier ++ text ∷ []) list both.1) in
    (apart-from list (k + 1) (omega arith) others, all-apart (earlier ++ text ∷ []) list (k + 1) both.1)
  where
    apart-from : (rest : List ExportText) (n : ℕ) → k < n → AllByRecursion (OtherPath text) rest →
        AllByRecursion (AreApart (with_number k (export_of text))) (numbered_exports n (map export_of rest))
    apart-from [] n less others = tt
    apart-from (x ∷ rest) n less others = (
      record {
        numbers = apart k n (λ same. omega (arith, same, less));
        roots = apart k n (λ same. omega (arith, same, less));
        paths = others.0;
      },
      apart-from rest (n + 1) (omega (arith, less)) others.1,
    )

not-too-many : (list : List ExportText) → export_fault list ≡ None → (length list ≤ 64) ×
    (first_fault [] list ≡ None)
not-too-many list none = few (nat_lt 64 (length list)) refl none
  where
    few : (b : Bool) → nat_lt 64 (length list) ≡ b → cond b (Some TooMany) (first_fault [] list) ≡ None →
        (length list ≤ 64) × (first_fault [] list ≡ None)
    few true e is = cc
    few false e is = (ltb-false 64 (length list) e, is)

pub opened-apart : (es : List ExportValue) → AreFaultless es → (length es ≤ 64) × AllApart (opening_exports es)
opened-apart es (list, none, is) =
    let all = not-too-many list none in
    subst (λ (xs : List ExportValue). (length xs ≤ 64) × AllApart (opening_exports xs)) (sym is) (
      (let same : length (map export_of list) ≡ length list = length-map list export_of in omega
          (arith, same, all.0)),
      all-apart [] list 1 all.1,
    )
