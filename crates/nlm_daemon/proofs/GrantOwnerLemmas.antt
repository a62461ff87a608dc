-- What a file has changes: whose the numbers of its grants are then, and what the machine comes to.
use Rattle.std.proofs.Common.{◌≡◌, ◌==◌, ◌&&◌, ◌⊎◌, ℕ, zero, ◌+◌, ◌≤◌, Bool, true, false, cond, not, List, [], ◌∷◌}
use Rattle.std.proofs.Common.{◌++◌, Option, Some, None, inl, inr, is_some, map, refl, sym, ◌∙◌, ap, subst, arith}
use Rattle.std.proofs.lemmas.List.Elements.{Contains-append_cases, Contains-append_left, Contains-append_right}
use Rattle.std.proofs.lemmas.List.Sums.{sum_by-cons}
use Rattle.std.specs.Cmp.{unsigned_Decides}
use Rattle.std.specs.FinMap.{FinMap, contains_key, get, remove}
use Rattle.std.specs.List.{Contains}
use Rattle.std.specs.Ordering.{nat_cmp}
use Rattle.side_wire.specs.declared.message.Message.{Message}
use Rattle.nfs_machine.specs.FileLists.{all_but, of_file, with_list}
use Rattle.nfs_machine.specs.Grants.{ChangesLocks, Grants, SettlesFile, ending_grants, grant_message}
use Rattle.nfs_machine.specs.Locks.{Mode, is_in, lies_within}
use Rattle.nfs_machine.specs.LocksFormed.{count_of}
use Rattle.nfs_machine.specs.OneFile.{AreHeldUp, FileLocks, SetsMode, Settles, requested}
use Rattle.nfs_machine.specs.State.{PendingGrant, Range, Request, Share, State}
use Rattle.nfs_machine.proofs.MapChangeLemmas.{differs-remove}
use Rattle.nfs_machine.proofs.FileMapLemmas.{count-joined, of-other, total-with}
use Rattle.nfs_machine.proofs.FirmLemmas.{Firm, firm-answered, firm-ended, granting, none-listed}
use Rattle.nlm_ranges.specs.Files.{FileValue, no_file}
use Rattle.nlm_ranges.specs.Granting.{IsSet, IsSettled, granted_in}
use Rattle.nlm_ranges.specs.declared.file.Settled.{Settled}
use Rattle.nfs_objects.specs.Stands.{IsPendingIn}
use Rattle.nfs_inodes.proofs.BucketStoreLemmas.{cons-cases, later}
use Rattle.nfs_inodes.specs.Locks.{AreOwnNumbers, HasLocks, with_file}
use Rattle.nlm_daemon.proofs.FilesTellStateLemmas.{AreFresh, IsLaid, SameLists, ended-still, fewer_grants, filter-has}
use Rattle.nlm_daemon.proofs.FilesTellStateLemmas.{laid-as}
use Rattle.nlm_daemon.proofs.FilesTellStateLemmas.{laid-ended, laid-granted, laid-known, laid-put, laid-removed}
use Rattle.nlm_daemon.proofs.FilesTellStateLemmas.{laid-same, put-has}
use Rattle.nlm_daemon.proofs.FilesTellStateLemmas.{put_there}

-- ---- how often a number is used
module _ (number : ℕ) where
  abbrev one_if : Bool → ℕ
  one_if b = cond b 1 0

  abbrev is_it : Request → Bool
  is_it r = r.number == number

  one-counts : (r : Request) → r.number ≡ number → one_if (is_it r) ≡ 1
  one-counts r is = ap one_if ((unsigned_Decides r.number number).1 is)

  counted : (xs : List Request) (r : Request) → Contains xs r → r.number ≡ number → 1 ≤ count_of number xs
  counted [] r (k, within, at) is = absurd (omega (arith, within))
  counted (x ∷ xs) r has is =
      let sum = sum_by-cons (λ (q : Request). one_if (is_it q)) x xs in
      elim (cons-cases x xs r has) [
        | inl same ↦ (let one = one-counts x (ap (λ (q : Request). q.number) same ∙ is) in omega (arith, sum, one))
        | inr rest ↦ (let more = counted xs r rest is in omega (arith, sum, more))
      ]

  counted-once : (xs : List Request) → count_of number xs ≤ 1 → (r q : Request) → Contains xs r → Contains xs q →
      r.number ≡ number → q.number ≡ number → r ≡ q
  counted-once [] most r q (k, within, at) second r-is q-is = absurd (omega (arith, within))
  counted-once (x ∷ xs) most r q first second r-is q-is =
      let sum : count_of number (x ∷ xs) ≡ one_if (is_it x) + count_of number xs =
      sum_by-cons (λ (y : Request). one_if (is_it y)) x xs in
      let never : (y z : Request) → x ≡ y → y.number ≡ number → Contains xs z → z.number ≡ number → ⊥ =
      λ y z same y-is there z-is.
      (let one = one-counts x (ap (λ (w : Request). w.number) same ∙ y-is) in
      let more = counted xs z there z-is in omega (arith, most, sum, one, more)) in
      let rest = counted-once xs (omega (arith, most, sum)) r q in
      elim (cons-cases x xs r first) [
        | inl a ↦ elim (cons-cases x xs q second) [
          | inl b ↦ sym a ∙ b
          | inr b ↦ absurd (never r q a r-is b q-is)
        ]
        | inr a ↦ elim (cons-cases x xs q second) [
          | inl b ↦ absurd (never q r b q-is a r-is)
          | inr b ↦ rest a b r-is q-is
        ]
      ]

module _ (m : State) (firm : Firm m) (file : ℕ) where
  -- a request that waits has a number of its own
  used-once : (number : ℕ) →
      count_of number (of_file m.waiting file) + cond (contains_key m.granted number) 1 0 ≤ 1
  used-once number =
      let whole = total-with (count_of number) refl m.waiting file [] in
      let most : cond {A = ℕ} (m.spent_grants number) 1 0 ≤ 1 = at_most (m.spent_grants number) in
      let used = firm.numbers number in
      omega (arith, whole, most, used)
    where
      at_most : (b : Bool) → cond {A = ℕ} b 1 0 ≤ 1
      at_most true = omega arith
      at_most false = omega arith

  module _ (granted : List Request)
      (fewer : (number : ℕ) → count_of number granted ≤ count_of number (of_file m.waiting file)) where
    pub fresh-granted : AreFresh m.granted granted
    fresh-granted = record {
      once = λ r q mine theirs same.
          counted-once q.number granted
          (let few = fewer q.number in let used = used-once q.number in omega (arith, few, used))
          r q mine theirs same refl;
      free = λ r mine. none r mine (get m.granted r.number) refl;
    }
      where
        none : (r : Request) → Contains granted r → (o : Option PendingGrant) → get m.granted r.number ≡ o →
            get m.granted r.number ≡ None
        none r mine None at = at
        none r mine (Some g) at =
            let has : cond {A = ℕ} (contains_key m.granted r.number) 1 0 ≡ 1 =
            ap (λ (o : Option PendingGrant). cond {A = ℕ} (is_some o) 1 0) at in
            let one = counted r.number granted r mine refl in
            let few = fewer r.number in
            let used = used-once r.number in
            absurd (omega (arith, has, one, few, used))

-- ---- whose the numbers are
abbrev grant_for : ℕ → Request → PendingGrant
grant_for file r = record { file = file; request = r }

module _ (m : State) (n : ℕ) (old : FileValue) (has : HasLocks m n old) where
  -- those of some of what is pending
  pub own-some : (pending : List Request) → ((r : Request) → Contains pending r → Contains old.pending r) →
      AreOwnNumbers m n pending
  own-some pending from = record {
    once = λ r q mine theirs same.
        let first : get m.granted r.number ≡ Some (grant_for n r) = (has.pending r.number r).1 (from r mine, refl) in
        let second : get m.granted r.number ≡ Some (grant_for n q) =
        (has.pending r.number q).1 (from q theirs, sym same) in
        let both : Some (grant_for n r) ≡ Some (grant_for n q) = sym first ∙ second in
        let one : grant_for n r ≡ grant_for n q = cc in
        ap (λ (g : PendingGrant). g.request) one;
    own = λ r mine other q at.
        let first : get m.granted r.number ≡ Some (grant_for n r) = (has.pending r.number r).1 (from r mine, refl) in
        let both : Some (grant_for other q) ≡ Some (grant_for n r) = sym at ∙ first in
        let one : grant_for other q ≡ grant_for n r = cc in
        ap (λ (g : PendingGrant). g.file) one;
  }

  pub own-still : AreOwnNumbers m n old.pending
  own-still = own-some old.pending (λ r mine. mine)

  -- those of some more
  pub own-more : (granted : List Request) → AreFresh m.granted granted → AreOwnNumbers m n (old.pending ++ granted)
  own-more granted fresh = record {
    once = λ r q mine theirs same.
        either r q same (Contains-append_cases old.pending granted r mine)
        (Contains-append_cases old.pending granted q theirs);
    own = λ r mine other q at. elim (Contains-append_cases old.pending granted r mine) [
      | inl before ↦ own-still.own r before other q at
      | inr now ↦ (let no : None ≡ Some (grant_for other q) = sym (fresh.free r now) ∙ at in absurd cc)
    ];
  }
    where
      either : (r q : Request) → r.number ≡ q.number → Contains old.pending r ⊎ Contains granted r →
          Contains old.pending q ⊎ Contains granted q → r ≡ q
      either r q same (inl a) (inl b) = own-still.once r q a b same
      either r q same (inl a) (inr b) =
          let no : None ≡ Some (grant_for n r) =
          sym (fresh.free q b) ∙ ap (get m.granted) (sym same) ∙ (has.pending r.number r).1 (a, refl) in absurd cc
      either r q same (inr a) (inl b) =
          let no : None ≡ Some (grant_for n q) = sym (fresh.free r a) ∙ (has.pending r.number q).1 (b, sym same) in
          absurd cc
      either r q same (inr a) (inr b) = fresh.once r q a b same

-- ---- whose a request is
module _ (m : State) (firm : Firm m) (had : ℕ → FileValue) (laid : IsLaid m had) where
  -- it waits for a file, or its grant is pending
  abbrev pub IsMine : ℕ → Request → Type 0
  IsMine q r = Contains (had q).pending r ⊎ Contains (had q).held.waiting r

  abbrev waiting : ℕ → List Request
  waiting q = of_file m.waiting q

  waits : (q : ℕ) (r : Request) → Contains (had q).held.waiting r → Contains (waiting q) r
  waits q r has = subst (λ (f : FileLocks). Contains f.waiting r) (sym (laid.held q)) has

  -- a request that waits has no grant
  apart-granted : (n o : ℕ) (r p : Request) → Contains (had n).pending r → Contains (had o).held.waiting p →
      r.number ≡ p.number → ⊥
  apart-granted n o r p pending has same =
      let at : get m.granted r.number ≡ Some (grant_for n r) = (laid.pending r.number n r).1 (pending, refl) in
      let one : cond {A = ℕ} (contains_key m.granted r.number) 1 0 ≡ 1 =
      ap (λ (g : Option PendingGrant). cond {A = ℕ} (is_some g) 1 0) at in
      let used = used-once m firm o r.number in
      let some = counted r.number (waiting o) p (waits o p has) (sym same) in omega (arith, one, used, some)

  -- nor does one wait for another file under its number
  apart-waiting : (n o : ℕ) (r p : Request) → (o == n) ≡ false → Contains (had n).held.waiting r →
      Contains (had o).held.waiting p → r.number ≡ p.number → ⊥
  apart-waiting n o r p other first second same =
      let number : ℕ = r.number in
      let mine = counted number (waiting n) r (waits n r first) refl in
      let theirs = counted number (waiting o) p (waits o p second) (sym same) in
      let whole = total-with (count_of number) refl m.waiting n [] in
      let rest = total-with (count_of number) refl (with_list m.waiting n []) o [] in
      let there : count_of number (of_file (with_list m.waiting n []) o) ≡ count_of number (waiting o) =
      ap (count_of number) (of-other m.waiting n [] o other) in
      let most : cond {A = ℕ} (m.spent_grants number) 1 0 ≤ 1 = at-most (m.spent_grants number) in
      let used = firm.numbers number in
      omega (arith, mine, theirs, whole, rest, there, most, used)
    where
      at-most : (b : Bool) → cond {A = ℕ} b 1 0 ≤ 1
      at-most true = omega arith
      at-most false = omega arith

  -- so it is told by its number
  pub mine-once : (n o : ℕ) (r p : Request) → IsMine n r → IsMine o p → r.number ≡ p.number → (o ≡ n) × (r ≡ p)
  mine-once n o r p (inl a) (inl b) same =
      let first : get m.granted r.number ≡ Some (grant_for n r) = (laid.pending r.number n r).1 (a, refl) in
      let second : get m.granted r.number ≡ Some (grant_for o p) = (laid.pending r.number o p).1 (b, sym same) in
      let both : Some (grant_for n r) ≡ Some (grant_for o p) = sym first ∙ second in
      let one : grant_for n r ≡ grant_for o p = cc in
      (ap (λ (g : PendingGrant). g.file) (sym one), ap (λ (g : PendingGrant). g.request) one)
  mine-once n o r p (inl a) (inr b) same = absurd (apart-granted n o r p a b same)
  mine-once n o r p (inr a) (inl b) same = absurd (apart-granted o n p r b a (sym same))
  mine-once n o r p (inr a) (inr b) same =
      elim (o == n) as (λ t. (o == n) ≡ t → (o ≡ n) × (r ≡ p)) [
        | true ↦ λ is.
            (let here : o ≡ n = (unsigned_Decides o n).0 is in
            let used = used-once m firm n r.number in (
              here,
              counted-once r.number (waiting n) (omega (arith, used)) r p (waits n r a)
                  (subst (λ q. Contains (waiting q) p) here (waits o p b)) refl (sym same),
            ))
        | false ↦ λ other. absurd (apart-waiting n o r p other a b same)
      ] refl

  -- where each file has pending what is its own, so have the numbers of what is put
  abbrev pub AllMine : (ℕ → FileValue) → Type 0
  AllMine there = (q : ℕ) (r : Request) → Contains (there q).pending r → IsMine q r

  pub own-mine : (x : State) (there : ℕ → FileValue) → IsLaid x there → AllMine there → (n : ℕ)
      (pending : List Request) → ((r : Request) → Contains pending r → IsMine n r) → AreOwnNumbers x n pending
  own-mine x there stands all n pending mine = record {
    once = λ r q first second same. (mine-once n n r q (mine r first) (mine q second) same).1;
    own = λ r has other q at.
        let its = (stands.pending r.number other q).0 at in
        (mine-once n other r q (mine r has) (all other q its.0) (sym its.1)).0;
  }

-- ---- requests of a file are granted
-- what waited waits still, or is granted
settles-count : (n : ℕ) (a b : FileLocks) (granted : List Request) → Settles a granted b →
    count_of n b.waiting + count_of n granted ≡ count_of n a.waiting
settles-count n a b [] (held, is) =
    let same : count_of n b.waiting ≡ count_of n a.waiting = ap (λ (f : FileLocks). count_of n f.waiting) is in
    omega (arith, same)
settles-count n a b (r ∷ granted) (mid, one, rest) =
    let more = settles-count n mid b granted rest in
    let left : count_of n mid.waiting ≡ count_of n (one.earlier ++ one.later) = ap (count_of n) one.waiting in
    let had : count_of n a.waiting ≡ count_of n (one.earlier ++ r ∷ one.later) = ap (count_of n) one.waits in
    let joined = count-joined (λ (q : Request). q.number == n) one.earlier r one.later in
    let sum = sum_by-cons (λ (q : Request). cond {A = ℕ} (q.number == n) 1 0) r granted in
    omega (arith, more, left, had, joined, sum)

-- what is granted waited
pub settles-waited : (a b : FileLocks) (granted : List Request) (r : Request) → Settles a granted b →
    Contains granted r → Contains a.waiting r
settles-waited a b [] r settles (k, within, at) = absurd (omega (arith, within))
settles-waited a b (q ∷ granted) r (mid, one, rest) has = elim (cons-cases q granted r has) [
  | inl same ↦
      subst (Contains a.waiting) same (subst (λ l. Contains l q) (sym one.waits)
      (Contains-append_right one.earlier (q ∷ one.later) q (zero, omega arith, refl)))
  | inr there ↦
      subst (λ l. Contains l r) (sym one.waits)
      (elim (Contains-append_cases one.earlier one.later r
      (subst (λ l. Contains l r) one.waiting (settles-waited mid b granted r rest there))) [
        | inl early ↦ Contains-append_left one.earlier (q ∷ one.later) r early
        | inr late ↦ Contains-append_right one.earlier (q ∷ one.later) r (later q one.later r late)
      ])
]

-- in the end what waits is held up
pub settles-held : (a b : FileLocks) (granted : List Request) → Settles a granted b → AreHeldUp b
settles-held a b [] (held, is) = subst AreHeldUp (sym is) held
settles-held a b (r ∷ granted) (mid, one, rest) = settles-held mid b granted rest

settles-shares : (a b : FileLocks) (granted : List Request) → Settles a granted b → b.shares ≡ a.shares
settles-shares a b [] (held, is) = ap (λ (f : FileLocks). f.shares) is
settles-shares a b (r ∷ granted) (mid, one, rest) = settles-shares mid b granted rest ∙ one.shares

abbrev pub grants_told : Settled → List Message
grants_told settled = map grant_message (granted_in settled)

module _ (m : State) (there : ℕ → FileValue) (laid : IsLaid m there) (firm : Firm m) (n : ℕ) (old : FileValue)
    (has : HasLocks m n old) where
  module _ (settled : Settled) (before : FileLocks)
      (settles : Settles before (granted_in settled) settled.file.held) (shares : before.shares ≡ old.held.shares)
      (waiting : before.waiting ≡ old.held.waiting) (pending : settled.file.pending ≡ old.pending ++ granted_in settled)
    where
      fresh : AreFresh m.granted (granted_in settled)
      fresh = fresh-granted m firm n (granted_in settled) (λ number.
          let left = settles-count number before settled.file.held (granted_in settled) settles in
          let had : count_of number before.waiting ≡ count_of number (of_file m.waiting n) =
          ap (count_of number) (waiting ∙ sym (ap (λ (f : FileLocks). f.waiting) has.held)) in
          omega (arith, left, had))

      settled-own : AreOwnNumbers m n settled.file.pending
      settled-own = subst (AreOwnNumbers m n) (sym pending) (own-more m n old has (granted_in settled) fresh)

      settled-grants : Grants m n settled.file.held (granted_in settled) (grants_told settled)
          (with_file m n settled.file)
      settled-grants =
          let same = laid-same (with_file m n settled.file) (granting m n settled.file.held (granted_in settled))
          (put_there there n settled.file) (laid-put m there laid n settled.file settled-own)
          (laid-granted m there laid n old has settled.file (granted_in settled)
          (settles-shares before settled.file.held (granted_in settled) settles ∙ shares) pending fresh) in record {
            messages_are = refl;
            state_is = λ i. record m {
              locks = same.locks i;
              shares = same.shares i;
              waiting = same.waiting i;
              granted = same.granted i;
            };
          }

  -- a range's owner has it in another mode
  module _ (r : Range) (mode : Mode) (settled : Settled) (set : IsSet old r mode settled) where
    pub set-own : AreOwnNumbers m n settled.file.pending
    set-own = settled-own settled (record old.held { locks = set.sets.locks }) set.sets.settles refl refl set.pending

    pub set-changes : ChangesLocks m n r mode (grants_told settled) (with_file m n settled.file)
    set-changes = record {
      after = settled.file.held;
      granted = granted_in settled;
      sets = subst (λ f. SetsMode f r mode (granted_in settled) settled.file.held) (sym has.held) set.sets;
      grants = settled-grants settled (record old.held { locks = set.sets.locks }) set.sets.settles refl refl
          set.pending;
    }

  -- what waits is tried
  module _ (settled : Settled) (is : IsSettled old settled) where
    pub tried-own : AreOwnNumbers m n settled.file.pending
    tried-own = settled-own settled old.held is.settles refl refl is.pending

    pub tried-settles : SettlesFile m n (grants_told settled) (with_file m n settled.file)
    tried-settles = record {
      after = settled.file.held;
      granted = granted_in settled;
      settles = subst (λ f. Settles f (granted_in settled) settled.file.held) (sym has.held) is.settles;
      grants = settled-grants settled old.held is.settles refl refl is.pending;
    }

  -- ---- what a file has already
  pub known-same : SameLists (with_file m n old) m
  known-same = laid-same (with_file m n old) m (put_there there n old)
      (laid-put m there laid n old (own-still m n old has)) (laid-known m there laid n old has)

  -- only what waits is another
  pub waits-instead : (waiting : List Request) →
      with_file m n (record old { held = record old.held { waiting = waiting } })
      ≡ record m { waiting = with_list m.waiting n waiting }
  waits-instead waiting = λ i. record m {
    locks = known-same.locks i;
    shares = known-same.shares i;
    waiting = with_list m.waiting n waiting;
    granted = known-same.granted i;
  }

  -- only the shares are others
  pub shares-instead : (shares : List Share) →
      with_file m n (record old { held = record old.held { shares = shares } })
      ≡ record m { shares = with_list m.shares n shares }
  shares-instead shares = λ i. record m {
    locks = known-same.locks i;
    shares = with_list m.shares n shares;
    waiting = known-same.waiting i;
    granted = known-same.granted i;
  }

  pub shares-still : m ≡ record m { shares = with_list m.shares n old.held.shares }
  shares-still = λ i. record m { shares = sym known-same.shares i }

  -- ---- a grant is answered
  module _ (number : ℕ) (request : Request) (stands : IsPendingIn m number n request) where
    abbrev pub left : FileValue
    left = record old { pending = all_but (λ (r : Request). r.number == number) old.pending }

    abbrev removed : State
    removed = record m { granted = remove m.granted number }

    gone : IsLaid removed (put_there there n left)
    gone = laid-removed m there laid n old has number request stands

    pub left-own : AreOwnNumbers m n left.pending
    left-own = own-some m n old has left.pending
        (λ r mine. (filter-has (λ (x : Request). not (x.number == number)) old.pending r mine).0)

    pub left-is : with_file m n left ≡ removed
    left-is =
        let same = laid-same (with_file m n left) removed (put_there there n left)
        (laid-put m there laid n left left-own) gone in
        λ i. record m {
          locks = same.locks i;
          shares = same.shares i;
          waiting = same.waiting i;
          granted = same.granted i;
        }

    -- what is another's where the grant is gone was another's before
    own-before : (pending : List Request) → AreOwnNumbers removed n pending → AreOwnNumbers m n pending
    own-before pending own = record {
      once = own.once;
      own = λ r mine other q at.
          elim (r.number == number) as (λ b. (r.number == number) ≡ b → other ≡ n) [
            | true ↦ λ same.
                (let both : Some (grant_for other q) ≡ Some (grant_for n request) =
                sym at ∙ ap (get m.granted) ((unsigned_Decides r.number number).0 same) ∙ stands in
                let one : grant_for other q ≡ grant_for n request = cc in ap (λ (g : PendingGrant). g.file) one)
            | false ↦ λ apart.
                own.own r mine other q (differs-remove m.granted number r.number
                ∙ ap (λ b. cond b None (get m.granted r.number)) apart ∙ at)
          ] refl;
    }

-- a file's locks change where some of its grants ended before
module _ (m : State) (there : ℕ → FileValue) (laid : IsLaid m there) (granted : FinMap nat_cmp PendingGrant) (n : ℕ)
    (less : FileValue) (laid-less : IsLaid (record m { granted = granted }) (put_there there n less))
    (firm : Firm (record m { granted = granted })) (r : Range) (mode : Mode) (settled : Settled)
    (set : IsSet less r mode settled) where
  abbrev ended : State
  ended = record m { granted = granted }

  has-less : HasLocks ended n less
  has-less = put-has ended there n less laid-less

  pub own-less : AreOwnNumbers ended n settled.file.pending
  own-less = set-own ended (put_there there n less) laid-less firm n less has-less r mode settled set

  pub changes-less : AreOwnNumbers m n settled.file.pending →
      ChangesLocks ended n r mode (grants_told settled) (with_file m n settled.file)
  changes-less own =
      let twice : (q : ℕ) → put_there (put_there there n less) n settled.file q ≡ put_there there n settled.file q =
      λ q. elim (q == n) as (λ b. cond b settled.file (cond b less (there q)) ≡ cond b settled.file (there q)) [
        | true ↦ refl
        | false ↦ refl
      ] in
      let same = laid-same (with_file ended n settled.file) (with_file m n settled.file)
      (put_there there n settled.file)
      (laid-as (with_file ended n settled.file) _ (put_there there n settled.file) twice
      (laid-put ended (put_there there n less) laid-less n settled.file own-less))
      (laid-put m there laid n settled.file own) in
      subst (ChangesLocks ended n r mode (grants_told settled))
      (λ i. record m {
        locks = same.locks i;
        shares = same.shares i;
        waiting = same.waiting i;
        granted = same.granted i;
      })
      (set-changes ended (put_there there n less) laid-less firm n less has-less r mode settled set)

-- the lock of a grant that is answered is given back
module _ (m : State) (there : ℕ → FileValue) (laid : IsLaid m there) (firm : Firm m) (n : ℕ) (old : FileValue)
    (has : HasLocks m n old) (number : ℕ) (request : Request) (stands : IsPendingIn m number n request) (r : Range)
    (settled : Settled) where
  abbrev less : FileValue
  less = left m there laid firm n old has number request stands

  abbrev without : State
  without = record m { granted = remove m.granted number }

  laid-without : IsLaid without (put_there there n less)
  laid-without = laid-removed m there laid n old has number request stands

  firm-without : Firm without
  firm-without = firm-answered m firm number

  module _ (set : IsSet less r None settled) where
    pub back-own : AreOwnNumbers m n settled.file.pending
    back-own = own-before m there laid firm n old has number request stands settled.file.pending
        (own-less m there laid without.granted n less laid-without firm-without r None settled set)

    pub back-changes : ChangesLocks without n r None (grants_told settled) (with_file m n settled.file)
    back-changes =
        changes-less m there laid without.granted n less laid-without firm-without r None settled set back-own

-- a range's owner has it in another mode, and its pending grants within the range ended before
module _ (m : State) (there : ℕ → FileValue) (laid : IsLaid m there) (firm : Firm m) (n : ℕ) (old : FileValue)
    (has : HasLocks m n old) (r : Range) (mode : Mode) (settled : Settled) where
  abbrev fewer : FileValue
  fewer = fewer_grants old r

  abbrev no_more : State
  no_more = ending_grants m n r

  laid-fewer : IsLaid no_more (put_there there n fewer)
  laid-fewer = laid-ended m there laid n old has r

  module _ (set : IsSet fewer r mode settled) where
    -- what is another's where the grants ended was another's before
    pub ended-own : AreOwnNumbers m n settled.file.pending
    ended-own =
        let own = own-less m there laid no_more.granted n fewer laid-fewer (firm-ended m firm n r) r mode settled
        set in record {
          once = own.once;
          own = λ x mine other q at.
              elim (other == n) as (λ b. (other == n) ≡ b → other ≡ n) [
                | true ↦ λ same. (unsigned_Decides other n).0 same
                | false ↦ λ apart. own.own x mine other q (ended-still m there laid n old has r x.number other q at
                    (ap (λ b. b && lies_within r (requested q)) apart))
              ] refl;
        }

    pub ended-changes : ChangesLocks no_more n r mode (grants_told settled) (with_file m n settled.file)
    ended-changes = changes-less m there laid no_more.granted n fewer laid-fewer (firm-ended m firm n r) r mode
        settled set ended-own

-- ---- a file that has nothing
nothing-set : (r : Range) → SetsMode no_file.held r None [] no_file.held
nothing-set r = record {
  locks = [];
  lists = record {
    modes_are = λ owner offset. elim (is_in r owner offset) as
        (λ b. ◌≡◌ {A = Mode} None (cond b None None)) [
          | true ↦ refl
          | false ↦ refl
        ];
    listed = none-listed;
  };
  settles = (tt, refl);
}

pub nothing-changes : (m : State) (there : ℕ → FileValue) → IsLaid m there → (n : ℕ) → HasLocks m n no_file →
    (r : Range) → ChangesLocks (ending_grants m n r) n r None [] m
nothing-changes m there laid n has r =
    subst (λ x. ChangesLocks x n r None [] m) (λ i. record m { granted = sym none.granted i }) changes
  where
    -- no grant of it is pending
    none : SameLists (ending_grants m n r) m
    none = laid-same (ending_grants m n r) m (put_there there n no_file) (laid-ended m there laid n no_file has r)
        (laid-known m there laid n no_file has)

    same : SameLists (with_file m n no_file) m
    same = laid-same (with_file m n no_file) m (put_there there n no_file)
        (laid-put m there laid n no_file (own-still m n no_file has)) (laid-known m there laid n no_file has)

    changes : ChangesLocks m n r None [] m
    changes = record {
      after = no_file.held;
      granted = [];
      sets = subst (λ f. SetsMode f r None [] no_file.held) (sym has.held) (nothing-set r);
      grants = record {
        messages_are = refl;
        state_is = λ i. record m {
          locks = sym same.locks i;
          waiting = sym same.waiting i;
        };
      };
    }
