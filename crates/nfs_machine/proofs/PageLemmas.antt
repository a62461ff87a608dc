-- The page of a list of entries: there is one, and it ends where the next entry no longer fits.
use Rattle.std.proofs.Common.{
  Result,
  subst,
  take,
  drop,
  zero,
  suc,
  ◌==◌,
  ◌∙◌,
  ◌≡◌,
  ℕ,
  ◌+◌,
  ◌≤◌,
  Bool,
  true,
  false,
  ◌&&◌,
  List,
  [],
  ◌∷◌,
  ◌++◌,
  length,
  length-append,
  map,
  min,
  Ok,
  Err,
  nat_le,
  refl,
  sym,
  ap,
  arith,
}
use Rattle.std.proofs.lemmas.Bool.{leb-true, le-leb}
use Rattle.std.proofs.Math.Seq.{take-append_seam}
use Rattle.std.proofs.lemmas.List.{length-take, nil_from_length, take-append-drop}
use Rattle.std.proofs.lemmas.List.Sums.{sum_by-append}
use Rattle.std.specs.Cmp.{first_so, unsigned_Decides}
use Rattle.std.specs.List.{sum_by}
use Rattle.nfs_wire.specs.declared.calls.ReaddirArguments.{ReaddirArguments}
use Rattle.nfs_wire.specs.declared.calls.ReaddirplusArguments.{ReaddirplusArguments}
use Rattle.nfs_wire.specs.declared.replies.NfsReply.{NfsReply}
use Rattle.nfs_wire.specs.declared.replies.NfsReply.TheVariants as replies
use Rattle.nfs_wire.specs.declared.replies.Page.{Page}
use Rattle.nfs_wire.specs.declared.replies.PagePlus.{PagePlus}
use Rattle.nfs_wire.specs.declared.status.NfsStatus.{NfsStatus}
use Rattle.nfs_wire.specs.declared.status.NfsStatus.TheVariants as status
use Rattle.side_wire.specs.declared.message.Message.{Message}
use Rattle.nfs_machine.specs.Checks.{◌>>=◌}
use Rattle.nfs_machine.specs.DataSteps.{verifier_of}
use Rattle.nfs_machine.specs.PageSteps.{PageStep, full_entry, page_entry}
use Rattle.nfs_machine.specs.Pages.{DirectoryPage, IsPage, Pages, entry_size, fits, fits_full, full_entry_size}
use Rattle.nfs_machine.specs.Paging.{PagesAreOne, PagesExist}
use Rattle.nfs_machine.specs.State.{Entry, State}
use Rattle.nfs_machine.specs.declared.context.Ctx.{Ctx}
use Rattle.nfs_machine.proofs.ChecksPassedLemmas.{are_none, no-entry, some-entry}

-- what READDIR and READDIRPLUS answer of a page, and their steps
abbrev pub readdir_page : Ctx → Result DirectoryPage NfsStatus → Result Page NfsStatus
readdir_page ctx page = page >>= λ p. Ok
    (record { verifier = verifier_of ctx; entries = map page_entry p.entries; eof = p.eof })

abbrev pub readdirplus_page : State → Ctx → Result DirectoryPage NfsStatus → Result PagePlus NfsStatus
readdirplus_page m ctx page = page >>= λ p. Ok
    (record { verifier = verifier_of ctx; entries = map (full_entry m ctx) p.entries; eof = p.eof })

abbrev pub ReaddirStep : State → Ctx → ReaddirArguments → NfsReply → List Message → State → Type 0
ReaddirStep old ctx a = PageStep old ctx a.directory a.cookie a.verifier (fits a.count)
    (λ attributes page. replies.Readdir (record { attributes = attributes; result = readdir_page ctx page }))

abbrev pub ReaddirplusStep : State → Ctx → ReaddirplusArguments → NfsReply → List Message → State → Type 0
ReaddirplusStep old ctx a = PageStep old ctx a.directory a.cookie a.verifier (fits_full a.directory_count a.most)
    (λ attributes page. replies.Readdirplus
    (record { attributes = attributes; result = readdirplus_page old ctx page }))

-- the page of the entries that are left, as a step has it
abbrev pub PagesOf : (fit : List Entry → Bool) → Result (List Entry) NfsStatus → Result DirectoryPage NfsStatus → Type 0
PagesOf fit left page = elim left as (λ r. Type 0) [ Ok entries ↦ Pages fit entries page | Err e ↦ page ≡ Err e ]

-- what fits still fits with less
abbrev pub Shrinks : (List Entry → Bool) → Type 0
Shrinks fit = (front more : List Entry) → fit (front ++ more) ≡ true → fit front ≡ true

both : (a b c d : Bool) → (a ≡ true → c ≡ true) → (b ≡ true → d ≡ true) → (a && b) ≡ true → (c && d) ≡ true
both true true c d f g h = let x = f refl in let y = g refl in cc
both true false c d f g h = cc
both false b c d f g h = cc

grows : (size : Entry → ℕ) (front more : List Entry) → sum_by size front ≤ sum_by size (front ++ more)
grows size front more = let sum = sum_by-append size front more in omega (arith, sum)

less : (m n count : ℕ) → m ≤ n → nat_le n count ≡ true → nat_le m count ≡ true
less m n count below h = let le = leb-true n count h in le-leb m count (omega (arith, below, le))

pub fits-shrinks : (count : ℕ) → Shrinks (fits count)
fits-shrinks count front more h =
    let more_bytes = grows entry_size front more in
    less (104 + sum_by entry_size front) (104 + sum_by entry_size (front ++ more)) (min count 65536)
    (omega (arith, more_bytes)) h

pub full-shrinks : (directory_count most : ℕ) → Shrinks (fits_full directory_count most)
full-shrinks directory_count most front more h =
    let more_bytes = grows full_entry_size front more in
    both _ _ _ _ (less (104 + sum_by full_entry_size front) (104 + sum_by full_entry_size (front ++ more))
    (min most 65536) (omega (arith, more_bytes)))
    (less (sum_by entry_size front) (sum_by entry_size (front ++ more)) directory_count (grows entry_size front more)) h

-- a front that cannot go on is the longest
pub longest : (fit : List Entry → Bool) → Shrinks fit → (front rest other more : List Entry)
    → front ++ rest ≡ other ++ more
    → ((x : Entry) (xs : List Entry) → rest ≡ x ∷ xs → fit (front ++ x ∷ []) ≡ false) → fit other ≡ true
    → length other ≤ length front
longest fit shrinks front rest [] more same stops h = omega arith
longest fit shrinks [] rest (o ∷ other) more same stops h =
    let no = stops o (other ++ more) same in
    let yes = shrinks (o ∷ []) other h in
    absurd cc
longest fit shrinks (x ∷ front) rest (o ∷ other) more same stops h =
    let heads : x ≡ o = cc in
    let tails : front ++ rest ≡ other ++ more = cc in
    let inner = longest (λ l. fit (x ∷ l)) (λ a b. shrinks (x ∷ a) b) front rest other more tails stops
    (ap (λ y. fit (y ∷ other)) heads ∙ h) in
    omega (arith, inner)

-- a page that goes on behind it, and the last
pub page-stops : (fit : List Entry → Bool) → Shrinks fit
    → (f : Entry) (front : List Entry) (x : Entry) (rest : List Entry) → fit (f ∷ front) ≡ true
    → fit (f ∷ front ++ x ∷ []) ≡ false
    → Pages fit (f ∷ front ++ x ∷ rest) (Ok (record { entries = f ∷ front; eof = false }))
page-stops fit shrinks f front x rest here next = (
  x ∷ rest,
  (refl, here, λ none. cc),
  λ other more is. longest fit shrinks (f ∷ front) (x ∷ rest) other more is.0
      (λ y ys same. (let head : x ≡ y = cc in ap (λ z. fit (f ∷ front ++ z ∷ [])) (sym head) ∙ next)) is.1,
  sym
      (some-entry x rest),
)

pub page-ends : (fit : List Entry → Bool) (front : List Entry) → fit front ≡ true
    → Pages fit front (Ok (record { entries = front; eof = true }))
page-ends fit front here = (
  [],
  (sym (append-nil front), here, λ none. refl),
  λ other more
      is. (let whole = ap length is.0 in let sum = length-append other more in omega (arith, whole, sum)),
  refl,
)
  where
    append-nil : (xs : List Entry) → xs ++ [] ≡ xs
    append-nil [] = refl
    append-nil (x ∷ xs) = ap (λ ys. x ∷ ys) (append-nil xs)

-- there is no page where nothing fits, nor where the first entry does not
pub page-none : (fit : List Entry → Bool) → Shrinks fit → (entries : List Entry) → fit [] ≡ false
    → Pages fit entries (Err status.TooSmall)
page-none fit shrinks entries none = (λ front rest is. (let yes = shrinks [] front is.1 in absurd cc), refl)

pub page-first : (fit : List Entry → Bool) → Shrinks fit → (x : Entry) (entries : List Entry) → fit (x ∷ []) ≡ false
    → Pages fit (x ∷ entries) (Err status.TooSmall)
page-first fit shrinks x entries none = (λ front rest is. first front rest is, refl)
  where
    first : (front rest : List Entry) → IsPage fit (x ∷ entries) front rest → ⊥
    first [] rest is = let gone = is.2 refl in let begins = is.0 in absurd cc
    first (f ∷ front) rest is =
        let head : x ≡ f = let begins = is.0 in cc in
        let yes = shrinks (f ∷ []) front is.1 in
        let no = ap (λ y. fit (y ∷ [])) (sym head) ∙ none in
        absurd cc

-- ---- there is one page, or there is none
heads-alike : (xs ys more rest : List Entry) → xs ++ more ≡ ys ++ rest → length xs ≡ length ys → (xs ≡ ys)
    × (more ≡ rest)
heads-alike [] [] more rest same lengths = (refl, same)
heads-alike [] (y ∷ ys) more rest same lengths = absurd (omega (arith, lengths))
heads-alike (x ∷ xs) [] more rest same lengths = absurd (omega (arith, lengths))
heads-alike (x ∷ xs) (y ∷ ys) more rest same lengths =
    let heads : x ≡ y = cc in
    let tails : xs ++ more ≡ ys ++ rest = cc in
    let inner = heads-alike xs ys more rest tails (omega (arith, lengths)) in
    let first = inner.0 in
    (cc, inner.1)

pub one-page : PagesAreOne
one-page fit entries (Ok p) (Ok q) a b =
    let le = a.2 q.entries b.0 b.1 in
    let ge = b.2 p.entries a.0 a.1 in
    let same = heads-alike p.entries q.entries a.0 b.0 (sym a.1.0 ∙ b.1.0) (omega (arith, le, ge)) in
    let fronts = same.0 in
    let ends : p.eof ≡ q.eof = a.3 ∙ ap are_none same.1 ∙ sym b.3 in
    ap (λ es. Ok (record p { entries = es })) fronts ∙ ap (λ e. Ok (record q { eof = e })) ends
one-page fit entries (Ok p) (Err e) a b = absurd (b.0 p.entries a.0 a.1)
one-page fit entries (Err e) (Ok q) a b = absurd (a.0 q.entries b.0 b.1)
one-page fit entries (Err e) (Err e') a b = ap Err (a.1 ∙ sym b.1)

module _ (fit : List Entry → Bool) (entries : List Entry) where
  -- no page is longer than so many entries
  abbrev Bounded : ℕ → Type 0
  Bounded n = (other more : List Entry) → IsPage fit entries other more → length other ≤ n

  abbrev Paged : Type 0
  Paged = (page : Result DirectoryPage NfsStatus) × Pages fit entries page

  front-of : (other more : List Entry) → IsPage fit entries other more → other ≡ take (length other) entries
  front-of other more is = sym (ap (take (length other)) is.0 ∙ take-append_seam other more)

  whole : (n : ℕ) → take n entries ++ drop n entries ≡ entries
  whole n = take-append-drop n entries

  long : (n : ℕ) → n ≤ length entries → length (take n entries) ≡ n
  long n le = let l = length-take n entries in omega (arith, l, le)

  find-page : (n : ℕ) → n ≤ length entries → Bounded n → Paged
  find-page zero le bounded =
      elim (fit [] && are_none entries) as (λ t. (fit [] && are_none entries) ≡ t → Paged) [
        | true ↦ λ is. (
          Ok (record { entries = []; eof = true }),
          ([], (none (fit []) entries is, first_so (fit []) (are_none entries) is, λ e. refl), bounded, refl),
        )
        | false ↦ λ is. (
          Err status.TooSmall,
          (
            λ front rest page. (
                let empty = nil_from_length front (let below = bounded front rest page in omega (arith, below)) in
                let fits = subst (λ (f : List Entry). fit f ≡ true) empty page.1 in
                let over = page.2 empty in
                let begins : entries ≡ [] = page.0 ∙ ap (λ f. f ++ rest) empty ∙ over in
                let gone = ap are_none begins in
                clash (fit []) (are_none entries) fits gone is
                ),
            refl,
          ),
        )
      ] refl
    where
      none : (t : Bool) (es : List Entry) → (t && are_none es) ≡ true → es ≡ []
      none true es is = no-entry es is
      none false es is = absurd cc

      clash : (a b : Bool) → a ≡ true → b ≡ true → (a && b) ≡ false → ⊥
      clash true true x y is = absurd cc
      clash true false x y is = absurd cc
      clash false b x y is = absurd cc
  find-page (suc n) le bounded =
      elim (fit (take (suc n) entries)) as (λ t. fit (take (suc n) entries) ≡ t → Paged) [
        | true ↦ λ is. (
          Ok (record { entries = take (suc n) entries; eof = are_none (drop (suc n) entries) }),
          (
            drop (suc n) entries,
            (
              sym (whole (suc n)),
              is,
              λ e. absurd (let l = long (suc n) le in let z = ap length e in omega
                  (arith, l, z)),
            ),
            λ other more page. (let l = long (suc n) le in let below = bounded other more page in omega
                (arith, l, below)),
            refl,
          ),
        )
        | false ↦ λ is. find-page n (omega (arith, le)) (λ other more page. shorter other more page
            (length other == suc n) refl is)
      ] refl
    where
      apart : true ≡ false → ⊥
      apart e = absurd cc

      lower : (k n : ℕ) → k ≤ suc n → (k ≡ suc n → ⊥) → k ≤ n
      lower k n below differ = omega (arith, below, differ)

      shorter : (other more : List Entry) → IsPage fit entries other more → (t : Bool) → (length other == suc n) ≡ t
          → fit (take (suc n) entries) ≡ false → length other ≤ n
      shorter other more page true same is =
          let size = (unsigned_Decides (length other) (suc n)).0 same in
          let front = front-of other more page ∙ ap (λ k. take k entries) size in
          let fits = sym page.1 ∙ ap fit front ∙ is in
          absurd (apart fits)
      shorter other more page false same is =
          let below = bounded other more page in
          let differ : length other ≡ suc n
          → ⊥ = λ e. (let holds = (unsigned_Decides (length other) (suc n)).1 e in apart (sym holds ∙ same)) in
          lower (length other) n below differ

pub some-page : PagesExist
some-page fit entries = find-page fit entries (length entries) (omega arith)
    (λ other more page. (let whole = ap length page.0 in let sum = length-append other more in omega
    (arith, whole, sum)))
