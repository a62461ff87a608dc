-- The page that fits, entry by entry; and what is listed is a step of the machine.
use Rattle.std.proofs.Common.{◌≡◌, ℕ, suc, ◌+◌, ◌*◌, ◌/◌, ◌≤◌, ◌==◌, ◌&&◌, Bool, true, false, List, [], ◌∷◌, ◌++◌, map}
use Rattle.std.proofs.Common.{min, nat_le}
use Rattle.std.proofs.Common.{Option, Some, None, append-nil, append_assoc, length, length-append}
use Rattle.std.proofs.Common.{Result, Ok, Err, IfOk, arith, refl, sym, ◌∙◌, ap, subst}
use Rattle.std.proofs.Math.Nat.{mul-suc}
use Rattle.std.proofs.lemmas.Bool.{lt-leb}
use Rattle.std.proofs.lemmas.List.Sums.{sum_by-cons, sum_by_push}
use Rattle.std.specs.List.{AllByRecursion, sum_by}
use Rattle.nfs_wire.specs.declared.attributes.Attributes.{Attributes}
use Rattle.nfs_wire.specs.declared.replies.NfsReply.{NfsReply}
use Rattle.nfs_wire.specs.declared.status.NfsStatus.{NfsStatus}
use Rattle.nfs_wire.specs.declared.status.NfsStatus.TheVariants as status
use Rattle.nfs_machine.proofs.ChecksPassedLemmas.{some-entry}
use Rattle.nfs_machine.proofs.PageLemmas.{Shrinks, fits-shrinks, full-shrinks, longest, page-first, page-stops}
use Rattle.nfs_machine.specs.Attributes.{entries_of}
use Rattle.nfs_machine.specs.Checks.{◌>>=◌, DirectoryEntries}
use Rattle.nfs_machine.specs.PageSteps.{PageStep}
use Rattle.nfs_machine.specs.Pages.{DirectoryPage, IsPage, Pages, all_entries, behind, entry_size, fits, fits_full}
use Rattle.nfs_machine.specs.Pages.{full_entry_size}
use Rattle.nfs_machine.specs.Resolve.{Named}
use Rattle.nfs_machine.specs.State.{Entry, State}
use Rattle.nfs_machine.specs.WellFormed.{WellFormed}
use Rattle.nfs_objects.proofs.KnowsLemmas.{failed}
use Rattle.nfs_objects.specs.Asks.{IsThere}
use Rattle.nfs_objects.specs.Knows.{Knows, Possible}
use Rattle.nfs_objects.specs.Stands.{StoreMeaning}
use Rattle.nfs_objects.specs.Store.{Store}
use Rattle.nfs_objects.specs.Values.{DraftValue, ViewValue}
use Rattle.nfs_objects.specs.declared.address.Addr.TheVariants as addresses
use Rattle.nfs_inodes.proofs.StandsLemmas.{kind-is}
use Rattle.nfs_inodes.specs.Gathers.{EachLives}
use Rattle.nfs_inodes.specs.Known.{IsKnown, Means, content_at, entries_found}
use Rattle.nfs_inodes.specs.Listing.{IsFrontOf, listed_entry}
use Rattle.nfs_inodes.specs.declared.content.listing.ListedEntry.{ListedEntry}
use Rattle.nfs_inodes.specs.declared.found.Known.{Known}
use Rattle.nfs_inodes.specs.declared.kinds.KnownDirectory.{KnownDirectory}
use Rattle.nfs_names.specs.Checking.{ComesTo}
use Rattle.nfs_names.specs.Pages.{IsPageOf, KnowsPage, Lists, fit_of, front_page, left_in, list_checked, page_cut}
use Rattle.nfs_names.specs.Pages.{page_found, result_size, sizes_fit, sizes_of}
use Rattle.nfs_names.specs.declared.page.Budget.{Budget}
use Rattle.nfs_names.specs.declared.page.Budget.TheVariants as budgets
use Rattle.nfs_names.specs.declared.page.Front.{Front}
use Rattle.nfs_names.specs.declared.page.PageAsked.{PageAsked}
use Rattle.nfs_names.specs.declared.page.Sizes.{Sizes}

-- ---- sizes
pub fits-by-sizes : (budget : Budget) (front : List Entry) →
    fit_of budget front ≡ sizes_fit budget (sizes_of budget front)
fits-by-sizes (budgets.Names count) front = refl
fits-by-sizes (budgets.Full directory_count most) front = refl

pub budget-shrinks : (budget : Budget) → Shrinks (fit_of budget)
budget-shrinks (budgets.Names count) = fits-shrinks count
budget-shrinks (budgets.Full directory_count most) = full-shrinks directory_count most

below : (budget : Budget) (e : Entry) → entry_size e ≤ result_size budget e
below (budgets.Names count) e = omega arith
below (budgets.Full directory_count most) e = omega arith

sums-below : (budget : Budget) (front : List Entry) → sum_by entry_size front ≤ sum_by (result_size budget) front
sums-below budget [] = omega arith
sums-below budget (e ∷ front) =
    let one = below budget e in
    let rest = sums-below budget front in
    let names = sum_by-cons entry_size e front in
    let whole = sum_by-cons (result_size budget) e front in
    omega (arith, one, rest, names, whole)

pub names-below : (budget : Budget) (front : List Entry) →
    (sizes_of budget front).names ≤ (sizes_of budget front).whole
names-below budget front = let le = sums-below budget front in omega (arith, le)

-- one entry more
pub sizes-more : (budget : Budget) (front : List Entry) (e : Entry) (old new : Sizes) →
    old ≡ sizes_of budget front →
    new.whole ≡ old.whole + result_size budget e → new.names ≡ old.names + entry_size e →
    new ≡ sizes_of budget (front ++ e ∷ [])
sizes-more budget front e old new is whole names =
    let all = sum_by_push (result_size budget) front e in
    let listed = sum_by_push entry_size front e in
    let old_whole = ap (λ (s : Sizes). s.whole) is in
    let old_names = ap (λ (s : Sizes). s.names) is in
    let w : new.whole ≡ 104 + sum_by (result_size budget) (front ++ e ∷ []) = omega (arith, all, whole, old_whole) in
    let n : new.names ≡ sum_by entry_size (front ++ e ∷ []) = omega (arith, listed, names, old_names) in
    λ i. record { whole = w i; names = n i }

-- ---- where the page ends
-- what does not fit ends it
pub stops-here : (fit : List Entry → Bool) → Shrinks fit → (front : List Entry) (x : Entry) (rest : List Entry) →
    fit front ≡ true → fit (front ++ x ∷ []) ≡ false → Pages fit (front ++ x ∷ rest) (page_cut front)
stops-here fit shrinks [] x rest here next = page-first fit shrinks x rest next
stops-here fit shrinks (f ∷ front) x rest here next = page-stops fit shrinks f front x rest here next

-- ---- so many entries never fit
module _ (size : Entry → ℕ) where
  least-of : (least : ℕ) → ((e : Entry) → least ≤ size e) → (es : List Entry) → least * length es ≤ sum_by size es
  least-of least each [] = omega arith
  least-of least each (e ∷ es) =
      let one = each e in
      let rest = least-of least each es in
      let all = sum_by-cons size e es in
      let more = mul-suc least (length es) in
      omega (arith, one, rest, all, more)

least-names : (es : List Entry) → 24 * length es ≤ sum_by entry_size es
least-names es = least-of entry_size 24 (λ e. omega arith) es

least-full : (es : List Entry) → 152 * length es ≤ sum_by full_entry_size es
least-full es = least-of full_entry_size 152 (λ e. omega arith) es

pub many-names : (count n : ℕ) (es : List Entry) → n ≡ min count 65536 / 24 + 1 → n ≤ length es →
    fits count es ≡ false
many-names count n es is many =
    let sum = least-names es in
    lt-leb (104 + sum_by entry_size es) (min count 65536) (omega (arith, sum, is, many))

pub many-full : (directory_count most n : ℕ) (es : List Entry) → n ≡ min most 65536 / 152 + 1 → n ≤ length es →
    fits_full directory_count most es ≡ false
many-full directory_count most n es is many =
    let sum = least-full es in
    ap (λ b. b && nat_le (sum_by entry_size es) directory_count)
    (lt-leb (104 + sum_by full_entry_size es) (min most 65536) (omega (arith, sum, is, many)))

-- ---- the page of the first entries, which do not all fit, is that of all
module _ (fit : List Entry → Bool) (shrinks : Shrinks fit) where
  -- an entry that is left behind the longest page does not fit behind it
  next-stops : (front done : List Entry) (y : Entry) (left : List Entry) → front ≡ done ++ y ∷ left →
      ((other more : List Entry) → IsPage fit front other more → length other ≤ length done) →
      fit (done ++ y ∷ []) ≡ false
  next-stops front done y left is longest-one = by (fit (done ++ y ∷ [])) refl
    where
      some : (xs : List Entry) → xs ++ y ∷ [] ≡ [] → ⊥
      some [] e = cc
      some (x ∷ xs) e = cc

      by : (b : Bool) → fit (done ++ y ∷ []) ≡ b → b ≡ false
      by false other = refl
      by true fits-more =
          let longer = longest-one (done ++ y ∷ []) left
          (is ∙ sym (append_assoc done (y ∷ []) left), fits-more, λ none. absurd (some done none)) in
          let one = length-append done (y ∷ []) in
          absurd (omega (arith, longer, one))

  page-behind : (front rest done left : List Entry) (eof : Bool) → fit front ≡ false →
      IsPage fit front done left →
      ((other more : List Entry) → IsPage fit front other more → length other ≤ length done) →
      eof ≡ (length left == 0) → Pages fit (front ++ rest) (Ok (record { entries = done; eof = eof }))
  page-behind front rest done [] eof over is longest-one ends =
      (let same : front ≡ done = is.0 ∙ append-nil done in
      let no : true ≡ false = sym is.1 ∙ ap fit (sym same) ∙ over in cc)
  page-behind front rest done (y ∷ left) eof over is longest-one ends = (
    y ∷ left ++ rest,
    (
      ap (λ es. es ++ rest) is.0 ∙ append_assoc done (y ∷ left) rest,
      is.1,
      λ none. (let no : y ∷ left ≡ [] = is.2 none in cc),
    ),
    λ other more page. longest fit shrinks done (y ∷ left ++ rest) other more
        (sym (ap (λ es. es ++ rest) is.0 ∙ append_assoc done (y ∷ left) rest) ∙ page.0)
        (λ x xs same. (let head : y ≡ x = cc in
        ap (λ z. fit (done ++ z ∷ [])) (sym head) ∙ next-stops front done y left is.0 longest-one)) page.1,
    ends ∙ some-entry y left ∙ sym (some-entry y (left ++ rest)),
  )

  none-behind : (front rest : List Entry) (e : NfsStatus) → fit front ≡ false → Pages fit front (Err e) →
      Pages fit (front ++ rest) (Err e)
  none-behind [] rest e over none = (
    λ other more is. (let yes = shrinks [] other is.1 in let no : true ≡ false = sym yes ∙ over in cc),
    none.1,
  )
  none-behind (x ∷ front) rest e over none = (λ other more is. by other more is, none.1)
    where
      by : (other more : List Entry) → IsPage fit (x ∷ front ++ rest) other more → ⊥
      by [] more is = (let gone = is.2 refl in let begins = is.0 in absurd cc)
      by (o ∷ other) more is =
          let head : x ≡ o = (let begins = is.0 in cc) in
          let one : fit (x ∷ []) ≡ true = ap (λ z. fit (z ∷ [])) head ∙ shrinks (o ∷ []) other is.1 in
          none.0 (x ∷ []) front (refl, one, λ none. cc)

  pub page-of_front : (enough : ℕ) → ((es : List Entry) → enough ≤ length es → fit es ≡ false) →
      (front : List Entry) (is_all : Bool) (entries : List Entry) → IsFrontOf front is_all enough entries →
      (page : Result DirectoryPage NfsStatus) → Pages fit front page → Pages fit entries page
  page-of_front enough never front true entries is page pages =
      subst (λ es. Pages fit es page) (sym (is.whole ∙ ap (λ r. front ++ r) (is.all refl) ∙ append-nil front)) pages
  page-of_front enough never front false entries is (Ok page) pages =
      subst (λ es. Pages fit es (Ok page)) (sym is.whole)
      (page-behind front is.rest page.entries pages.0 page.eof (never front (is.many refl)) pages.1 pages.2 pages.3)
  page-of_front enough never front false entries is (Err e) pages =
      subst (λ es. Pages fit es (Err e)) (sym is.whole)
      (none-behind front is.rest e (never front (is.many refl)) pages)

-- the page that is cut
pub cut-listed : (entries : List ListedEntry) → (entries ≡ [] → ⊥) →
    Ok (record { entries = map listed_entry entries; eof = false }) ≡ page_cut (map listed_entry entries)
cut-listed [] some = absurd (some refl)
cut-listed (e ∷ entries) some = refl

-- something lives at the number of each of its entries
front-each : (P : Entry → Type 0) (front rest : List Entry) → AllByRecursion P (front ++ rest) → AllByRecursion P front
front-each P [] rest each = tt
front-each P (e ∷ front) rest each = (each.0, front-each P front rest each.1)

pub front-lives : (view : ViewValue) (fit : List Entry → Bool) (left : List Entry) (found : Result Front NfsStatus) →
    EachLives view left → Pages fit left (page_found found) →
    IfOk found (λ (front : Front). EachLives view (front_page front).entries)
front-lives view fit left (Ok front) each pages =
    front-each (λ (e : Entry). IsThere view (addresses.Inode e.number)) (front_page front).entries pages.0
    (subst (EachLives view) pages.1.0 each)
front-lives view fit left (Err e) each pages = tt

-- ---- the directory
module _ (d : DraftValue) (x : Known) (asked : PageAsked) (known : Knows d (λ k. IsKnown k.state x)) where
  abbrev rest : StoreMeaning → DirectoryEntries → Result (List Entry) NfsStatus
  rest k entries = Ok (behind asked.cookie (all_entries x.number (k.parents x.number) entries.list))

  -- the checks decide, or the rest
  left-is : (checked : Result KnownDirectory NfsStatus) → ComesTo (list_checked d.ctx asked) x checked →
      (s : Store) (k : StoreMeaning) → Possible d s k →
      left_in k d.ctx x asked ≡ entries_found (content_at k.state x.number) (rest k) checked
  left-is checked comes s k w = comes (content_at k.state x.number) (rest k) (kind-is k.state x (known s k w))

  pub page-refused : (e : NfsStatus) → ComesTo {B = KnownDirectory} (list_checked d.ctx asked) x (Err e) →
      KnowsPage d x asked (Err e)
  page-refused e comes s k w formed =
      subst (λ left. IsPageOf asked.budget left (Err e)) (sym (left-is (Err e) comes s k w)) refl

  pub page-listed : (directory : KnownDirectory) → ComesTo (list_checked d.ctx asked) x (Ok directory) →
      (left : List Entry) (is_all : Bool) (enough : ℕ) →
      ((es : List Entry) → enough ≤ length es → fit_of asked.budget es ≡ false) →
      Knows d (λ k. WellFormed k.state → IsFrontOf left is_all enough
      (behind asked.cookie (all_entries x.number (k.parents x.number) (entries_of (content_at k.state x.number))))) →
      (page : Result DirectoryPage NfsStatus) → Pages (fit_of asked.budget) left page →
      KnowsPage d x asked page
  page-listed directory comes left is_all enough never is page pages s k w formed =
      subst (λ l. IsPageOf asked.budget l page) (sym (left-is (Ok directory) comes s k w))
      (page-of_front (fit_of asked.budget) (budget-shrinks asked.budget) enough never left is_all
      (behind asked.cookie (all_entries x.number (k.parents x.number) (entries_of (content_at k.state x.number))))
      (is s k w formed) page pages)

  -- ---- the step
  module _ {A : Type 0} (show : State → DirectoryPage → A) (handle : List ℕ)
      (named : Knows d (Means d.ctx handle (Ok x))) (result : Result A NfsStatus)
      (lists : Lists d x asked show result) where
    pub page-step : (reply_of : Option Attributes → Result A NfsStatus → NfsReply) → (s : Store) (k : StoreMeaning) →
        Possible d s k → WellFormed k.state →
        PageStep k.state d.ctx handle asked.cookie asked.verifier (fit_of asked.budget)
        (λ attributes page. reply_of attributes (page >>= λ p. Ok (show k.state p)))
        (reply_of (Some x.attributes) result) [] k.state
    page-step reply_of s k w formed = record {
      parent = k.parents x.number;
      is_parent = (named s k w).parent;
      page = lists.page;
      is_page = subst (λ left. IsPageOf asked.budget left lists.page)
          (sym (ap (λ r. r >>= λ (n : Named). list_checked d.ctx asked n.object
          (λ entries. Ok (behind asked.cookie (all_entries n.number (k.parents x.number) entries.list))))
          (named s k w).names)) (lists.is_page s k w formed);
      answers = record {
        reply_is = ap (reply_of (Some x.attributes)) (sym (lists.shows s k w))
            ∙ ap (λ a. reply_of a (lists.page >>= λ p. Ok (show k.state p))) (sym (named s k w).shows);
        no_message = refl;
        state_is = refl;
      };
    }

-- a handle that names nothing lists nothing
pub nothing-step : {A : Type 0} (d : DraftValue) (asked : PageAsked) (show : State → DirectoryPage → A)
    (handle : List ℕ) (e : NfsStatus) → Knows d (Means d.ctx handle (Err e)) →
    (reply_of : Option Attributes → Result A NfsStatus → NfsReply) → (s : Store) (k : StoreMeaning) → Possible d s k →
    PageStep k.state d.ctx handle asked.cookie asked.verifier (fit_of asked.budget)
    (λ attributes page. reply_of attributes (page >>= λ p. Ok (show k.state p)))
    (reply_of None (Err e)) [] k.state
nothing-step d asked show handle e refused reply_of s k w = record {
  parent = 0;
  is_parent = (refused s k w).parent 0;
  page = Err e;
  is_page = subst (λ left. IsPageOf asked.budget left (Err e)) (sym (failed _ (refused s k w).refused)) refl;
  answers = record {
    reply_is = ap (λ a. reply_of a (Err e)) (sym ((refused s k w).shows_after k.state));
    no_message = refl;
    state_is = refl;
  };
}
