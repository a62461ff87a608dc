-- What is true of locks, shares, requests that wait and pending grants in every state, but that nothing conflicts and
-- that what waits is held up: changes of one file's lists keep it.
use Rattle.std.proofs.Common.{◌≡◌, ◌==◌, ℕ, ◌+◌, ◌≤◌, Bool, true, false, not, ◌&&◌, ◌||◌, cond}
use Rattle.std.proofs.Common.{List, [], ◌∷◌, ◌++◌}
use Rattle.std.proofs.Common.{Some, None, filter, unwrap_or, is_ok, is_some, nat_le, refl, sym, ◌∙◌, ap, subst}
use Rattle.std.proofs.Common.{arith}
use Rattle.std.proofs.lemmas.List.Sums.{sum_by-append, sum_by-cons}
use Rattle.std.specs.Cmp.{unsigned_Decides}
use Rattle.std.specs.FinMap.{FinMap, contains_key, entries, get, insert, remove, values}
use Rattle.std.specs.List.{AllByRecursion, IsDistinct, list_any, sum_by}
use Rattle.std.specs.Ordering.{nat_cmp}
use Rattle.nfs_machine.specs.FileLists.{all_but, grants_but, of_file, relisted, with_list}
use Rattle.nfs_machine.specs.Grants.{AllHeldUp, at_file, ending_grants, with_grants}
use Rattle.nfs_machine.specs.OneFile.{FileLocks, IsGranted, Settles, requested}
use Rattle.nfs_machine.specs.Locks.{AreListed, IsRange, lies_within, same_sharer}
use Rattle.nfs_machine.specs.LocksFormed.{AreOfFiles, AreWaiting, IsFile, IsPending, LocksFormed, NoConflict, count_of}
use Rattle.nfs_machine.specs.LocksFormed.{uses_of}
use Rattle.nfs_machine.specs.LockSteps.{is_grant_number, is_request, same_request}
use Rattle.nfs_machine.specs.Checks.{bytes_in}
use Rattle.nfs_machine.specs.RemoveSteps.{losing_name, without_object}
use Rattle.nfs_machine.specs.Shown.{touched, with_object}
use Rattle.nfs_machine.specs.State.{Content, Directory, Entry, Living, Lock, PendingGrant, Range, Request, Share}
use Rattle.nfs_machine.specs.State.{State}
use Rattle.nfs_wire.specs.declared.attributes.Time.{Time}
use Rattle.side_wire.specs.declared.mount.lists.MountBody.{MountBody}
use Rattle.nfs_machine.proofs.MapChangeLemmas.{differs-insert, differs-remove, flipped, itself}
use Rattle.nfs_machine.proofs.DistinctLemmas.{distinct-last, distinct-left, distinct-none, distinct-removed}
use Rattle.nfs_machine.proofs.FileMapLemmas.{count-left, differs-with, each-relisted, each-with, get-relisted}
use Rattle.nfs_machine.proofs.FileMapLemmas.{grants-left, has-left, kept, kept-some, remade, total-entries, with-itself}
use Rattle.nfs_machine.proofs.FileMapLemmas.{total-with}
use Rattle.nfs_machine.proofs.SettlingLemmas.{settles-count, settles-keep, settles-none}
use Rattle.nfs_machine.proofs.ModesLemmas.{all-joined, all-left, all-middle, all-removed, none-passes}

-- ---- files that live on
-- each regular file is one in the other state too
abbrev pub FilesOn : (base other : FinMap nat_cmp Living) → Type 0
FilesOn base other = (n : ℕ) → IsFile base n → IsFile other n

module _ (base other : FinMap nat_cmp Living) (on : FilesOn base other) where
  put-on : (number : ℕ) (o : Living) → (IsFile base number → is_ok (bytes_in o.content) ≡ true)
      → FilesOn base (insert other number o)
  put-on number o regular n f =
      elim (n == number) as (λ b. (n == number) ≡ b → IsFile (insert other number o) n) [
        | true ↦ λ e. record {
          object = o;
          lives = differs-insert other number o n ∙ ap (λ b. cond b (Some o) (get other n)) e;
          regular = regular (subst (IsFile base) ((unsigned_Decides n number).0 e) f);
        }
        | false ↦ λ e. (let x = on n f in record {
          object = x.object;
          lives = differs-insert other number o n ∙ ap (λ b. cond b (Some o) (get other n)) e ∙ x.lives;
          regular = x.regular;
        })
      ] refl

  -- over what lived there
  pub put-over : (number : ℕ) (was is : Living) → get base number ≡ Some was
      → (is_ok (bytes_in was.content) ≡ true → is_ok (bytes_in is.content) ≡ true) →
      FilesOn base (insert other number is)
  put-over number was is at regular = put-on number is (λ f.
      let both : Some f.object ≡ Some was = sym f.lives ∙ at in
      let same : f.object ≡ was = cc in
      regular (subst (λ (o : Living). is_ok (bytes_in o.content) ≡ true) same f.regular))

  -- over a directory
  pub put-directory : (number : ℕ) (was is : Living) (entries : List Entry) (last : ℕ) →
      get base number ≡ Some was
      → was.content ≡ Directory entries last → FilesOn base (insert other number is)
  put-directory number was is entries last at content = put-over number was is at (λ regular.
      let none : false ≡ true = sym (ap (λ (c : Content). is_ok (bytes_in c)) content) ∙ regular in cc)

  -- where nothing lived
  pub put-new : (number : ℕ) (o : Living) → get base number ≡ None → FilesOn base (insert other number o)
  put-new number o none = put-on number o (λ f. (let no : None ≡ Some f.object = sym none ∙ f.lives in cc))

-- one goes
gone-on : (objects : FinMap nat_cmp Living) (number n : ℕ) → (n == number) ≡ false → IsFile objects n
    → IsFile (remove objects number) n
gone-on objects number n other f = record {
  object = f.object;
  lives = differs-remove objects number n ∙ ap (λ b. cond b None (get objects n)) other ∙ f.lives;
  regular = f.regular;
}

-- ---- lists of living files
module _ {A : Type 0} (objects : FinMap nat_cmp Living) (lists : FinMap nat_cmp (List A))
    (of : AreOfFiles objects lists) where
  -- where a file has something, it lives
  pub file-of : (file : ℕ) (earlier : List A) (x : A) (later : List A) →
      of_file lists file ≡ earlier ++ x ∷ later
      → IsFile objects file
  file-of file earlier x later is =
      elim (get lists file) as
      (λ o. get lists file ≡ o → unwrap_or o [] ≡ earlier ++ x ∷ later → IsFile objects file) [
        | None ↦ λ at e. absurd (none earlier e)
        | Some list ↦ λ at e. of.files file list at
      ] refl is
    where
      none : (xs : List A) → [] ≡ xs ++ x ∷ later → ⊥
      none [] e = cc
      none (y ∷ ys) e = cc

  pub files-with : (file : ℕ) → IsFile objects file → (list : List A) →
      AreOfFiles objects (with_list lists file list)
  files-with file living list = record {
    files = λ q l at.
        elim (q == file) as (λ b. (q == file) ≡ b → cond b (kept list) (get lists q) ≡ Some l →
        IsFile objects q) [
          | true ↦ λ e there. subst (IsFile objects) (sym ((unsigned_Decides q file).0 e)) living
          | false ↦ λ e there. of.files q l there
        ] refl (sym (differs-with lists file list q) ∙ at);
    some = λ q at.
        elim (q == file) as (λ b. cond b (kept list) (get lists q) ≡ Some [] → ⊥) [
          | true ↦ kept-some list
          | false ↦ of.some q
        ] (sym (differs-with lists file list q) ∙ at);
  }

  -- less of a list, or the same, is of a file that has something
  pub files-less : (file : ℕ) (p : A → Bool) →
      AreOfFiles objects (with_list lists file (filter p (of_file lists file)))
  files-less file p =
      elim (of_file lists file) as
      (λ l. of_file lists file ≡ l → AreOfFiles objects (with_list lists file (filter p l))) [
        | [] ↦ λ is. files-none
        | (x ∷ xs) ↦ λ is. files-with file (file-of file [] x xs is) (filter p (x ∷ xs))
      ] refl
    where
      files-none : AreOfFiles objects (with_list lists file [])
      files-none = record {
        files = λ q l at.
            elim (q == file) as (λ b. cond b None (get lists q) ≡ Some l → IsFile objects q) [
              | true ↦ λ there. cc
              | false ↦ λ there. of.files q l there
            ] (sym (differs-with lists file [] q) ∙ at);
        some = λ q at.
            elim (q == file) as (λ b. cond b None (get lists q) ≡ Some [] → ⊥) [
              | true ↦ λ there. cc
              | false ↦ of.some q
            ] (sym (differs-with lists file [] q) ∙ at);
      }

  pub files-relisted : (anew : ℕ → List A → List A) → AreOfFiles objects (relisted anew lists)
  files-relisted anew = record {
    files = λ q l at.
        elim (get lists q) as (λ o. get lists q ≡ o → remade anew q o ≡ Some l → IsFile objects q) [
          | None ↦ λ is e. cc
          | Some list ↦ λ is e. of.files q list is
        ] refl (sym (get-relisted anew lists q) ∙ at);
    some = λ q at.
        elim (get lists q) as (λ o. remade anew q o ≡ Some [] → ⊥) [
          | None ↦ λ e. cc
          | Some list ↦ kept-some (anew q list)
        ] (sym (get-relisted anew lists q) ∙ at);
  }

  -- a file goes, and what it had
  pub files-gone : (number : ℕ) → AreOfFiles (remove objects number) (remove lists number)
  files-gone number = record {
    files = λ q l at.
        elim (q == number) as (λ b. (q == number) ≡ b → cond b None (get lists q) ≡ Some l
        → IsFile (remove objects number) q) [
          | true ↦ λ e there. cc
          | false ↦ λ e there. gone-on objects number q e (of.files q l there)
        ] refl (sym (differs-remove lists number q) ∙ at);
    some = λ q at.
        elim (q == number) as (λ b. cond b None (get lists q) ≡ Some [] → ⊥) [
          | true ↦ λ there. cc
          | false ↦ of.some q
        ] (sym (differs-remove lists number q) ∙ at);
  }

  -- where all files that have something live on
  pub files-on : (new : FinMap nat_cmp Living) → ((n : ℕ) → IsFile objects n → IsFile new n) →
      AreOfFiles new lists
  files-on new on = record { files = λ q l at. on q (of.files q l at); some = of.some }

-- ---- what one file lists
pub none-listed : AreListed []
none-listed = record { ranges = tt; once = λ owner offset. omega arith }

abbrev OfRange : Request → Type 0
OfRange r = IsRange (requested r)

abbrev Suits : (file : ℕ) → Request → Type 0
Suits file r = is_grant_number file r.number ≡ true

pub none-waiting : (file : ℕ) → AreWaiting file []
none-waiting file = record { ranges = tt; suit = tt; once = distinct-none same_request }

waiting-left : (file : ℕ) (p : Request → Bool) (xs : List Request) → AreWaiting file xs →
    AreWaiting file (filter p xs)
waiting-left file p xs w = record {
  ranges = all-left OfRange OfRange p xs (λ r e h. h) w.ranges;
  suit = all-left (Suits file) (Suits file) p xs (λ r e h. h) w.suit;
  once = distinct-left same_request p xs w.once;
}

waiting-removed : (file : ℕ) (xs : List Request) (r : Request) (ys : List Request) →
    AreWaiting file (xs ++ r ∷ ys) → AreWaiting file (xs ++ ys)
waiting-removed file xs r ys w = record {
  ranges = all-removed OfRange OfRange xs r ys (λ q h. h) w.ranges;
  suit = all-removed (Suits file) (Suits file) xs r ys (λ q h. h) w.suit;
  once = distinct-removed same_request xs r ys w.once;
}

waiting-last : (file : ℕ) (xs : List Request) (r : Request) → OfRange r → Suits file r →
    list_any (is_request r.exclusive r.asked) xs ≡ false → AreWaiting file xs → AreWaiting file (xs ++ r ∷ [])
waiting-last file xs r range suits first w = record {
  ranges = all-joined OfRange xs (r ∷ []) w.ranges (range, tt);
  suit = all-joined (Suits file) xs (r ∷ []) w.suit (suits, tt);
  once = distinct-last same_request xs r (none-passes (is_request r.exclusive r.asked) xs first) w.once;
}

-- ---- all but conflicts
pub record Firm (m : State) : Type 0 where
  pub locks : AreOfFiles m.objects m.locks
  pub shares : AreOfFiles m.objects m.shares
  pub waiting : AreOfFiles m.objects m.waiting
  pub listed : (file : ℕ) → AreListed (of_file m.locks file)
  pub sharers : (file : ℕ) → IsDistinct same_sharer (of_file m.shares file)
  pub requests : (file : ℕ) → AreWaiting file (of_file m.waiting file)
  pub pending : (number : ℕ) (grant : PendingGrant) → get m.granted number ≡ Some grant →
      IsPending m.objects number grant
  pub numbers : (number : ℕ) → uses_of m number ≤ cond (m.spent_grants number) 1 0

pub firm-of : (m : State) → LocksFormed m → Firm m
firm-of m l = record {
  locks = l.locks;
  shares = l.shares;
  waiting = l.waiting;
  listed = l.listed;
  sharers = l.sharers;
  requests = l.requests;
  pending = l.pending;
  numbers = l.numbers;
}

pub formed-of : (m : State) → Firm m → NoConflict m → AllHeldUp m → LocksFormed m
formed-of m f apart held = record {
  locks = f.locks;
  shares = f.shares;
  waiting = f.waiting;
  listed = f.listed;
  sharers = f.sharers;
  requests = f.requests;
  apart = apart;
  held_up = held;
  pending = f.pending;
  numbers = f.numbers;
}

abbrev waiting_total : FinMap nat_cmp (List Request) → ℕ → ℕ
waiting_total waiting number = sum_by (count_of number) (values waiting)

abbrev pending_count : FinMap nat_cmp PendingGrant → ℕ → ℕ
pending_count granted number = cond (contains_key granted number) 1 0

-- one list of what waits changes: how often a number is used
waiting-changed : (m : State) (file : ℕ) (list : List Request) (number : ℕ)
    → waiting_total (with_list m.waiting file list) number + count_of number (of_file m.waiting file)
    ≡ waiting_total m.waiting number + count_of number list
waiting-changed m file list number = total-with (count_of number) refl m.waiting file list

-- of what waits for a file nothing more is left
less-numbers : (m : State) (file : ℕ) (list : List Request) (granted : FinMap nat_cmp PendingGrant) (number : ℕ)
    → count_of number list ≤ count_of number (of_file m.waiting file)
    → pending_count granted number ≤ pending_count m.granted number
    → uses_of m number ≤ cond (m.spent_grants number) 1 0
    → waiting_total (with_list m.waiting file list) number +
    pending_count granted number ≤ cond (m.spent_grants number) 1 0
less-numbers m file list granted number less fewer was =
    let changed = waiting-changed m file list number in
    omega (arith, changed, less, fewer, was)

-- ---- grants
-- the state with what a file has now, and what was granted of it
abbrev pub granting : State → (file : ℕ) → FileLocks → (granted : List Request) → State
granting m file after granted = record m {
  locks = with_list m.locks file after.locks;
  waiting = with_list m.waiting file after.waiting;
  granted = with_grants m.granted file granted;
}

abbrev Formed : (file : ℕ) → FileLocks → Type 0
Formed file x = AreListed x.locks × AreWaiting file x.waiting

abbrev IsGood : (file : ℕ) → Request → Type 0
IsGood file r = OfRange r × Suits file r

granted-formed : (file : ℕ) (before after : FileLocks) (r : Request) → IsGranted before r after →
    Formed file before →
    Formed file after × IsGood file r
granted-formed file before after r g formed =
    let all : AreWaiting file (g.earlier ++ r ∷ g.later) = subst (AreWaiting file) g.waits formed.1 in (
      (g.lists.listed, subst (AreWaiting file) (sym g.waiting) (waiting-removed file g.earlier r g.later all)),
      (all-middle OfRange g.earlier r g.later all.ranges, all-middle (Suits file) g.earlier r g.later all.suit),
    )

-- each pending grant is one that was pending, or was granted now
pending-with : (objects : FinMap nat_cmp Living) (file : ℕ) → IsFile objects file → (granted : List Request)
    → AllByRecursion (IsGood file) granted → (pending : FinMap nat_cmp PendingGrant)
    → ((n : ℕ) (x : PendingGrant) → get pending n ≡ Some x → IsPending objects n x)
    → (n : ℕ) (x : PendingGrant) → get (with_grants pending file granted) n ≡ Some x → IsPending objects n x
pending-with objects file living [] good pending all = all
pending-with objects file living (r ∷ granted) good pending all =
    pending-with objects file living granted good.1 (insert pending r.number grant) (λ n x at.
    elim (n == r.number) as (λ b. (n == r.number) ≡ b → cond b (Some grant) (get pending n) ≡ Some x
    → IsPending objects n x) [
      | true ↦ λ e there.
          let is : n ≡ r.number = (unsigned_Decides n r.number).0 e in
          let same : grant ≡ x = cc in
          subst (IsPending objects n) same (record {
            file = living;
            range = good.0.0;
            own = sym is;
            suits = ap (is_grant_number file) is ∙ good.0.1;
          })
      | false ↦ λ e there. all n x there
    ] refl (sym (differs-insert pending r.number grant n) ∙ at))
  where
    grant : PendingGrant
    grant = record { file = file; request = r }

pending-more : (file : ℕ) (granted : List Request) (pending : FinMap nat_cmp PendingGrant) (n : ℕ) →
    pending_count (with_grants pending file granted) n ≤ pending_count pending n + count_of n granted
pending-more file [] pending n = omega arith
pending-more file (r ∷ granted) pending n =
    let grant : PendingGrant = record { file = file; request = r } in
    let has : pending_count (insert pending r.number grant) n ≡ cond
    (is_some (cond (n == r.number) (Some grant) (get pending n))) 1 0 =
    ap (λ o. cond {A = ℕ} (is_some o) 1 0) (differs-insert pending r.number grant n) in
    let one : cond {A = ℕ} (is_some (cond (n == r.number) (Some grant) (get pending n))) 1 0
    ≤ pending_count pending n + cond (r.number == n) 1 0 =
    elim (n == r.number) as (λ b. (n == r.number) ≡ b
    → cond {A = ℕ} (is_some (cond b (Some grant) (get pending n))) 1 0
    ≤ pending_count pending n + cond (r.number == n) 1 0) [
      | true ↦ λ e.
          let is : n ≡ r.number = (unsigned_Decides n r.number).0 e in
          let one : cond {A = ℕ} (r.number == n) 1 0 ≡ 1 =
          ap (λ k. cond {A = ℕ} (r.number == k) 1 0) is ∙ ap (λ b. cond {A = ℕ} b 1 0) (itself r.number) in
          omega (arith, one)
      | false ↦ λ e. omega arith
    ] refl in
    let rest = pending-more file granted (insert pending r.number grant) n in
    omega (arith, has, one, rest, sum_by-cons (λ (q : Request). cond {A = ℕ} (q.number == n) 1 0) r granted)

module _ (m : State) (f : Firm m) where
  -- its shares
  pub firm-shares : (file : ℕ) → IsFile m.objects file → (shares : List Share) → IsDistinct same_sharer shares
      → Firm (record m { shares = with_list m.shares file shares })
  firm-shares file living shares once = record {
    locks = f.locks;
    shares = files-with m.objects m.shares f.shares file living shares;
    waiting = f.waiting;
    listed = f.listed;
    sharers = each-with m.shares file shares (λ q (l : List Share). IsDistinct same_sharer l) once f.sharers;
    requests = f.requests;
    pending = f.pending;
    numbers = f.numbers;
  }

  -- some of its requests wait no more
  pub firm-cancelled : (file : ℕ) (p : Request → Bool)
      → Firm (record m { waiting = with_list m.waiting file (filter p (of_file m.waiting file)) })
  firm-cancelled file p =
      let left = filter p (of_file m.waiting file) in record {
        locks = f.locks;
        shares = f.shares;
        waiting = files-less m.objects m.waiting f.waiting file p;
        listed = f.listed;
        sharers = f.sharers;
        requests = each-with m.waiting file left AreWaiting
            (waiting-left file p (of_file m.waiting file) (f.requests file)) f.requests;
        pending = f.pending;
        numbers = λ number. less-numbers m file left m.granted number
            (count-left (λ (r : Request). r.number == number) p (of_file m.waiting file)) (omega arith)
            (f.numbers number);
      }

  -- a grant that is answered
  pub firm-answered : (number : ℕ) → Firm (record m { granted = remove m.granted number })
  firm-answered number = record {
    locks = f.locks;
    shares = f.shares;
    waiting = f.waiting;
    listed = f.listed;
    sharers = f.sharers;
    requests = f.requests;
    pending = λ n g at.
        elim (n == number) as (λ b. cond b None (get m.granted n) ≡ Some g → IsPending m.objects n g) [
          | true ↦ λ there. cc
          | false ↦ λ there. f.pending n g there
        ] (sym (differs-remove m.granted number n) ∙ at);
    numbers = λ n.
        let fewer : pending_count (remove m.granted number) n ≤ pending_count m.granted n =
        subst (λ o. cond {A = ℕ} (is_some o) 1 0 ≤ pending_count m.granted n)
        (sym (differs-remove m.granted number n))
        (elim (n == number) as
        (λ b. cond {A = ℕ} (is_some (cond b None (get m.granted n))) 1 0 ≤ pending_count m.granted n) [
          | true ↦ omega arith
          | false ↦ omega arith
        ]) in
        let was = f.numbers n in
        omega (arith, fewer, was);
  }

  -- grants that are pending no more
  pub firm-ended : (file : ℕ) (r : Range) → Firm (ending_grants m file r)
  firm-ended file r =
      let ends : PendingGrant → Bool = λ (g : PendingGrant). (g.file == file) && lies_within r (requested g.request) in
      record {
        locks = f.locks;
        shares = f.shares;
        waiting = f.waiting;
        listed = f.listed;
        sharers = f.sharers;
        requests = f.requests;
        pending = λ n g at. f.pending n g (grants-left ends m.granted n g at).0;
        numbers = λ n. (let was = f.numbers n in let fewer = has-left ends m.granted n in omega (arith, was, fewer));
      }

  -- a request that begins to wait, under a number that was not given
  module _ (file : ℕ) (living : IsFile m.objects file) (r : Request) (range : IsRange (requested r))
      (suits : is_grant_number file r.number ≡ true)
      (first : list_any (is_request r.exclusive r.asked) (of_file m.waiting file) ≡ false)
      (unspent : m.spent_grants r.number ≡ false) where
    abbrev longer : List Request
    longer = of_file m.waiting file ++ r ∷ []

    abbrev spent_now : ℕ → Bool
    spent_now n = (n == r.number) || m.spent_grants n

    one-more : (n : ℕ) →
        waiting_total (with_list m.waiting file longer) n ≡ waiting_total m.waiting n + cond (r.number == n) 1 0
    one-more n =
        let changed = waiting-changed m file longer n in
        let joined = sum_by-append (λ (q : Request). cond {A = ℕ} (q.number == n) 1 0) (of_file m.waiting file)
        (r ∷ []) in
        let one : count_of n (r ∷ []) ≡ cond (r.number == n) 1 0 = omega arith in
        omega (arith, changed, joined, one)

    uses-now : (n : ℕ) →
        waiting_total (with_list m.waiting file longer) n + pending_count m.granted n ≤ cond (spent_now n) 1 0
    uses-now n =
        elim (n == r.number) as (λ b. (n == r.number) ≡ b
        → waiting_total (with_list m.waiting file longer) n +
        pending_count m.granted n ≤ cond (b || m.spent_grants n) 1 0) [
          | true ↦ λ e.
              let is : n ≡ r.number = (unsigned_Decides n r.number).0 e in
              let none : cond {A = ℕ} (m.spent_grants n) 1 0 ≡ 0 = ap
              (λ k. cond {A = ℕ} (m.spent_grants k) 1 0) is
              ∙ ap (λ b. cond {A = ℕ} b 1 0) unspent in
              let one : cond {A = ℕ} (r.number == n) 1 0 ≤ 1 = at_most (r.number == n) in
              let was = f.numbers n in
              omega (arith, none, one, was, one-more n)
          | false ↦ λ e.
              let other : cond {A = ℕ} (r.number == n) 1 0 ≡ 0 = ap (λ b. cond {A = ℕ} b 1 0)
              (flipped n r.number e) in
              let was = f.numbers n in
              omega (arith, other, was, one-more n)
        ] refl
      where
        at_most : (b : Bool) → cond {A = ℕ} b 1 0 ≤ 1
        at_most true = omega arith
        at_most false = omega arith

    pub firm-waits : Firm (record m { waiting = with_list m.waiting file longer; spent_grants = spent_now })
    firm-waits = record {
      locks = f.locks;
      shares = f.shares;
      waiting = files-with m.objects m.waiting f.waiting file living longer;
      listed = f.listed;
      sharers = f.sharers;
      requests = each-with m.waiting file longer AreWaiting
          (waiting-last file (of_file m.waiting file) r range suits first (f.requests file)) f.requests;
      pending = f.pending;
      numbers = uses-now;
    }

  -- a file comes to have other locks, and some of what waited for it is granted
  module _ (file : ℕ) (living : IsFile m.objects file) (before after : FileLocks) (granted : List Request)
      (settles : Settles before granted after) (listed : AreListed before.locks)
      (waited : before.waiting ≡ of_file m.waiting file) where
    formed : Formed file after × AllByRecursion (IsGood file) granted
    formed = settles-keep (Formed file) (IsGood file) (granted-formed file) before after granted settles
        (listed, subst (AreWaiting file) (sym waited) (f.requests file))

    pub firm-granted : Firm (granting m file after granted)
    firm-granted = record {
      locks = files-with m.objects m.locks f.locks file living after.locks;
      shares = f.shares;
      waiting = files-with m.objects m.waiting f.waiting file living after.waiting;
      listed = each-with m.locks file after.locks (λ q (l : List Lock). AreListed l) formed.0.0 f.listed;
      sharers = f.sharers;
      requests = each-with m.waiting file after.waiting AreWaiting formed.0.1 f.requests;
      pending = pending-with m.objects file living granted formed.1 m.granted f.pending;
      numbers = λ n.
          let changed = waiting-changed m file after.waiting n in
          let left = settles-count n before after granted settles in
          let had : count_of n before.waiting ≡ count_of n (of_file m.waiting file) = ap (count_of n) waited in
          let more = pending-more file granted m.granted n in
          let was = f.numbers n in
          omega (arith, changed, left, had, more, was);
    }

  -- what waits for a file is tried
  pub firm-settled : (file : ℕ) (after : FileLocks) (granted : List Request) →
      Settles (at_file m file) granted after → Firm (granting m file after granted)
  firm-settled file after granted settles =
      elim (of_file m.waiting file) as (λ l. of_file m.waiting file ≡ l → Firm (granting m file after granted)) [
        | [] ↦ λ none.
            let s = settles-none (at_file m file) after granted settles none in
            let same : granting m file after granted ≡ m =
            ap (λ (x : FileLocks). granting m file x granted) s.1 ∙ ap (granting m file (at_file m file)) s.0
            ∙ (λ i. record m {
              locks = with-itself m.locks f.locks.some file i;
              waiting = with-itself m.waiting f.waiting.some file i;
            }) in
            subst Firm (sym same) f
        | (r ∷ rest) ↦ λ is. firm-granted file (file-of m.objects m.waiting f.waiting file [] r rest is)
            (at_file m file) after granted settles (f.listed file) refl
      ] refl

  -- a caller has nothing more
  module _ (locks : ℕ → List Lock) (listed : (file : ℕ) → AreListed (locks file)) (shares : Share → Bool)
      (waits : Request → Bool) (goes : PendingGrant → Bool) where
    abbrev waiting_left : FinMap nat_cmp (List Request)
    waiting_left = relisted (λ file. all_but waits) m.waiting

    fewer-wait : (n : ℕ) → waiting_total waiting_left n ≤ waiting_total m.waiting n
    fewer-wait n = total-entries (count_of n) refl (λ file. all_but waits)
        (λ q list. count-left (λ (r : Request). r.number == n) (λ r. not (waits r)) list) (entries m.waiting)

    pub firm-freed : Firm (record m {
      locks = relisted (λ file _. locks file) m.locks;
      shares = relisted (λ file. all_but shares) m.shares;
      waiting = waiting_left;
      granted = grants_but goes m.granted;
    })
    firm-freed = record {
      locks = files-relisted m.objects m.locks f.locks (λ file _. locks file);
      shares = files-relisted m.objects m.shares f.shares (λ file. all_but shares);
      waiting = files-relisted m.objects m.waiting f.waiting (λ file. all_but waits);
      listed = each-relisted (λ file _. locks file) m.locks (λ q (l : List Lock). AreListed l)
          (λ q. none-listed) (λ q h. listed q) f.listed;
      sharers = each-relisted (λ file. all_but shares) m.shares (λ q (l : List Share). IsDistinct same_sharer l)
          (λ q. distinct-none same_sharer)
          (λ q. distinct-left same_sharer (λ s. not (shares s)) (of_file m.shares q)) f.sharers;
      requests = each-relisted (λ file. all_but waits) m.waiting AreWaiting none-waiting
          (λ q. waiting-left q (λ r. not (waits r)) (of_file m.waiting q)) f.requests;
      pending = λ n g at. f.pending n g (grants-left goes m.granted n g at).0;
      numbers = λ n.
          let was = f.numbers n in
          let fewer = has-left goes m.granted n in
          omega (arith, was, fewer, fewer-wait n);
    }

  -- what is beside them changes, and each living file lives on
  pub firm-on : (objects : FinMap nat_cmp Living) → FilesOn m.objects objects → (spent : ℕ → ℕ → Bool)
      → (mounts : List MountBody) → Firm (record m { objects = objects; spent = spent; mounts = mounts })
  firm-on objects on spent mounts = record {
    locks = files-on m.objects m.locks f.locks objects on;
    shares = files-on m.objects m.shares f.shares objects on;
    waiting = files-on m.objects m.waiting f.waiting objects on;
    listed = f.listed;
    sharers = f.sharers;
    requests = f.requests;
    pending = λ n g at.
        (let p = f.pending n g at in record
        { file = on g.file p.file; range = p.range; own = p.own; suits = p.suits });
    numbers = f.numbers;
  }

-- an object goes, and all that it had
firm-gone : (m : State) → Firm m → (number : ℕ) → Firm (without_object m number)
firm-gone m f number = record {
  locks = files-gone m.objects m.locks f.locks number;
  shares = files-gone m.objects m.shares f.shares number;
  waiting = files-gone m.objects m.waiting f.waiting number;
  listed = each-with m.locks number [] (λ q (l : List Lock). AreListed l) none-listed f.listed;
  sharers = each-with m.shares number [] (λ q (l : List Share). IsDistinct same_sharer l)
      (distinct-none same_sharer) f.sharers;
  requests = each-with m.waiting number [] AreWaiting (none-waiting number) f.requests;
  pending = λ n g at.
      let left = grants-left (λ (x : PendingGrant). x.file == number) m.granted n g at in
      let p = f.pending n g left.0 in
      record { file = gone-on m.objects number g.file left.1 p.file; range = p.range; own = p.own; suits = p.suits };
  numbers = λ n. less-numbers m number [] (grants_but (λ (x : PendingGrant). x.file == number) m.granted) n
      (omega arith)
      (has-left (λ (x : PendingGrant). x.file == number) m.granted n) (f.numbers n);
}

-- an object loses a name while others change
pub firm-losing : (m : State) → Firm m → (objects : FinMap nat_cmp Living) → FilesOn m.objects objects
    → (names : ℕ) (now : Time) (number : ℕ) (o : Living) → get m.objects number ≡ Some o
    → Firm (losing_name (record m { objects = objects }) names now number o)
firm-losing m f objects on names now number o at =
    let mid : State = record m { objects = objects } in
    elim (nat_le names 1) as
    (λ b. Firm (cond b (without_object mid number) (with_object mid number (touched o now)))) [
      | true ↦ firm-gone mid (firm-on m f objects on m.spent m.mounts) number
      | false ↦ firm-on m f (insert objects number (touched o now))
          (put-over m.objects objects on number o (touched o now) at (λ e. e)) m.spent m.mounts
    ]
