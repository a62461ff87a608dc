-- What calls of NLM come to, from what a draft knows of the file.
use Rattle.std.proofs.Common.{◌≡◌, ◌==◌, ◌||◌, ◌≤◌, ℕ, Bool, true, false, cond, List, [], ◌∷◌, ◌++◌, None, Some, Result}
use Rattle.std.proofs.Common.{Ok}
use Rattle.std.proofs.Common.{Err, inl, inr, refl, sym, ◌∙◌, ap, append-nil, arith, nat_le, subst}
use Rattle.std.proofs.lemmas.Bool.{and_parts, leb-true}
use Rattle.std.specs.List.{list_any}
use Rattle.side_wire.specs.declared.message.Message.{Message}
use Rattle.side_wire.specs.declared.nlm.CancelArguments.{CancelArguments}
use Rattle.side_wire.specs.declared.nlm.LockArguments.{LockArguments}
use Rattle.side_wire.specs.declared.nlm.NlmStatus.{NlmStatus}
use Rattle.side_wire.specs.declared.nlm.NlmStatus.TheVariants as statuses
use Rattle.side_wire.specs.declared.nlm.ShareArguments.{ShareArguments}
use Rattle.side_wire.specs.declared.nlm.ShareMode.TheVariants as modes
use Rattle.side_wire.specs.declared.nlm.TestArguments.{TestArguments}
use Rattle.side_wire.specs.declared.nlm.TestStatus.{TestStatus}
use Rattle.side_wire.specs.declared.nlm.TestStatus.TheVariants as tested
use Rattle.side_wire.specs.declared.nlm.UnlockArguments.{UnlockArguments}
use Rattle.nfs_machine.specs.Answers.{Answers}
use Rattle.nfs_machine.specs.FileLists.{all_but, of_file, with_list}
use Rattle.nfs_machine.specs.LockSteps.{CancelEnds, HeldUp, LockEnds, LockFault, ShareEnds, TestEnds, UnlockEnds}
use Rattle.nfs_machine.specs.LockSteps.{UnshareEnds, file_checked, is_request, lock_checked}
use Rattle.nfs_machine.specs.LockSteps.{nlm_status_of, share_of, test_status_of}
use Rattle.nfs_machine.specs.Locks.{Conflicts, Mode, denies, mode_at, range_of}
use Rattle.nfs_machine.specs.OneFile.{FileLocks, is_denied, shared, unshared}
use Rattle.nfs_machine.specs.State.{Lock, Range, Request, State}
use Rattle.nfs_machine.specs.WellFormed.{WellFormed}
use Rattle.nfs_machine.specs.declared.context.Ctx.{Ctx}
use Rattle.nfs_machine.proofs.NlmChecksLemmas.{CancelOf, LockOf, ShareOf, TestOf, UnlockOf, UnshareOf}
use Rattle.nfs_machine.proofs.FirmLemmas.{firm-of}
use Rattle.nfs_machine.proofs.ModesLemmas.{none-left}
use Rattle.nlm_ranges.specs.Files.{FileValue, no_file}
use Rattle.nlm_ranges.specs.Granting.{IsSet}
use Rattle.nlm_ranges.specs.Held.{IsInTheWay}
use Rattle.nlm_ranges.specs.declared.file.Settled.{Settled}
use Rattle.nfs_objects.specs.Knows.{Knows, Possible, TurnsWhere}
use Rattle.nfs_objects.specs.Stands.{StoreMeaning, file_there}
use Rattle.nfs_objects.specs.Store.{Store, with_writes}
use Rattle.nfs_objects.specs.Values.{DraftValue}
use Rattle.nfs_inodes.specs.Locks.{HasLocks, IsFileAt, IsNextNumber, MayHave, NoNumberIsLeft, locks_set, number_spent}
use Rattle.nlm_daemon.proofs.GrantOwnerLemmas.{ended-changes, ended-own, grants_told, nothing-changes, own-still}
use Rattle.nlm_daemon.proofs.GrantOwnerLemmas.{shares-instead, shares-still, waits-instead}
use Rattle.nlm_daemon.proofs.NlmPromiseLemmas.{comes-as, comes-unchanged, sent-comes}
use Rattle.nlm_daemon.proofs.FilesTellStateLemmas.{IsLaid, fewer_grants, laid-there}
use Rattle.nlm_daemon.proofs.LockChangeLemmas.{sends-nothing, set-sound, spent-sound}
use Rattle.nlm_daemon.specs.Comes.{ComesTo, KnowsEnd, TurnsSending}
use Rattle.nlm_daemon.specs.Holders.{holder_of}

-- each file has what it has in the store
pub laid-at : (d : DraftValue) (s : Store) (k : StoreMeaning) → Possible d s k → WellFormed k.state →
    IsLaid k.state (file_there (with_writes s d.writes) k.state.exports)
laid-at d s k w formed = laid-there (with_writes s d.writes) k.state w.stands.locks (firm-of k.state formed.locks)

-- the file at a number may have this
abbrev pub May : (n export : ℕ) → FileValue → StoreMeaning → Type 0
May n export f k = MayHave k.state (record { number = n; export = export; file = f })

-- ---- checks
-- where a check found a file, the call goes on with it
goes-on : (E : Result ℕ LockFault → Type 0) (checked : Result ℕ LockFault) (file : ℕ) → checked ≡ Ok file →
    E (Ok file) → E checked
goes-on E checked file is ends = subst E (sym is) ends

-- what is answered where nothing changes
unchanged : {Status : Type 0} (s : Status) (m : State) → Answers s m s [] m
unchanged s m = record { reply_is = refl; no_message = refl; state_is = refl }

-- ---- TEST
module _ (d : DraftValue) (a : TestArguments) where
  abbrev pub TestsSo : State → TestStatus → List Message → State → Type 0
  TestsSo m = TestEnds m d.ctx a

  pub test-fault : (fault : LockFault) → Knows d (λ k. lock_checked k.state d.ctx false a.lock ≡ Err fault) →
      KnowsEnd d TestsSo (test_status_of fault)
  test-fault fault known s k w formed =
      subst (λ c. TestOf k.state a c (test_status_of fault) [] k.state) (sym (known s k w))
      (unchanged (test_status_of fault) k.state)

  module _ (n : ℕ) (found : Knows d (λ k. lock_checked k.state d.ctx false a.lock ≡ Ok n)) (f : FileValue)
      (has : Knows d (λ k. HasLocks k.state n f)) where
    -- what the file has of locks
    locks-are : (s : Store) (k : StoreMeaning) → Possible d s k → f.held.locks ≡ of_file k.state.locks n
    locks-are s k w = sym (ap (λ (x : FileLocks). x.locks) (has s k w).held)

    pub test-free : (Conflicts f.held.locks (range_of a.lock) (Some a.exclusive) → ⊥) →
        KnowsEnd d TestsSo tested.Granted
    test-free free s k w formed =
        goes-on (λ c. TestOf k.state a c tested.Granted [] k.state) (lock_checked k.state d.ctx false a.lock) n
        (found s k w) (
          subst (λ l. Conflicts l (range_of a.lock) (Some a.exclusive) → ⊥) (locks-are s k w) free,
          refl,
          refl,
        )

    pub test-held : (l : Lock) → IsInTheWay f.held.locks (range_of a.lock) (Some a.exclusive) l →
        KnowsEnd d TestsSo (tested.Denied (holder_of l))
    test-held l way s k w formed =
        let here = subst (λ x. IsInTheWay x (range_of a.lock) (Some a.exclusive) l) (locks-are s k w) way in
        goes-on (λ c. TestOf k.state a c (tested.Denied (holder_of l)) [] k.state)
        (lock_checked k.state d.ctx false a.lock) n (found s k w) (
          record {
            conflict = here.conflict;
            owner_is = ap (λ o. o.owner) here.owner_is;
            process_is = ap (λ o. o.process) here.owner_is;
            last = l.last;
            length_is = refl;
            is_shown = here.is_shown;
            has = λ offset within.
                subst (λ o. mode_at (of_file k.state.locks n) o offset ≡ Some l.exclusive) here.owner_is
                (here.has offset within);
          },
          refl,
          refl,
        )

-- what stands in the way has an offset
pub way-rises : (locks : List Lock) (r : Range) (mode : Mode) (l : Lock) → IsInTheWay locks r mode l → l.first ≤ l.last
way-rises locks r mode l way =
    let both = and_parts (nat_le l.first way.conflict.offset) (nat_le way.conflict.offset l.last) way.is_shown in
    let low = leb-true l.first way.conflict.offset both.0 in
    let high = leb-true way.conflict.offset l.last both.1 in omega (arith, low, high)

-- and so there is a conflict
pub way-stands : (locks : List Lock) (r : Range) (mode : Mode) (l : Lock) → IsInTheWay locks r mode l →
    Conflicts locks r mode
way-stands locks r mode l way = way.conflict

-- nothing stands in the way where nothing is held
pub nothing-held : (r : Range) (mode : Mode) → Conflicts [] r mode → ⊥
nothing-held r mode c = (let no : false ≡ true = sym (none-left mode) ∙ c.conflict in cc)

-- ---- LOCK
pub comes-known : {Status : Type 0} (d : DraftValue) (IsEnd : State → Status → List Message → State → Type 0)
    (status : Status) → KnowsEnd d IsEnd status → ComesTo d d IsEnd status
comes-known d IsEnd status ends = comes-unchanged d IsEnd status ends (sym (append-nil d.messages))

-- a call at fault
fault-comes : (d : DraftValue) (E : State → Result ℕ LockFault → NlmStatus → List Message → State → Type 0)
    (checked : State → Result ℕ LockFault) (fault : LockFault) → Knows d (λ k. checked k.state ≡ Err fault) →
    ((m : State) → E m (Err fault) (nlm_status_of fault) [] m) →
    ComesTo d d (λ m. E m (checked m)) (nlm_status_of fault)
fault-comes d E checked fault known always =
    comes-known d (λ m. E m (checked m)) (nlm_status_of fault) (λ s k w formed.
    subst (λ c. E k.state c (nlm_status_of fault) [] k.state) (sym (known s k w)) (always k.state))

module _ (d : DraftValue) (fault : LockFault) where
  pub lock-fault : (a : LockArguments) (by_message : Bool) →
      Knows d (λ k. lock_checked k.state d.ctx a.exclusive a.lock ≡ Err fault) →
      ComesTo d d (λ m. LockEnds m d.ctx a by_message) (nlm_status_of fault)
  lock-fault a by_message known =
      fault-comes d (λ m c. LockOf m d.ctx a by_message c) (λ m. lock_checked m d.ctx a.exclusive a.lock) fault known
      (λ m. unchanged (nlm_status_of fault) m)

  pub cancel-fault : (a : CancelArguments) → Knows d (λ k. lock_checked k.state d.ctx false a.lock ≡ Err fault) →
      ComesTo d d (λ m. CancelEnds m d.ctx a) (nlm_status_of fault)
  cancel-fault a known =
      fault-comes d (λ m c. CancelOf m a c) (λ m. lock_checked m d.ctx false a.lock) fault known
      (λ m. unchanged (nlm_status_of fault) m)

  pub unlock-fault : (a : UnlockArguments) → Knows d (λ k. lock_checked k.state d.ctx false a.lock ≡ Err fault) →
      ComesTo d d (λ m. UnlockEnds m d.ctx a) (nlm_status_of fault)
  unlock-fault a known =
      fault-comes d (λ m c. UnlockOf m a c) (λ m. lock_checked m d.ctx false a.lock) fault known
      (λ m. unchanged (nlm_status_of fault) m)

  pub share-fault : (a : ShareArguments) →
      Knows d (λ k. file_checked k.state d.ctx a.share.file true (denies modes.DenyWrite a.share.access) ≡ Err fault) →
      ComesTo d d (λ m. ShareEnds m d.ctx a) (nlm_status_of fault)
  share-fault a known =
      fault-comes d (λ m c. ShareOf m a.share c)
      (λ m. file_checked m d.ctx a.share.file true (denies modes.DenyWrite a.share.access)) fault known
      (λ m. unchanged (nlm_status_of fault) m)

  pub unshare-fault : (a : ShareArguments) →
      Knows d (λ k. file_checked k.state d.ctx a.share.file true false ≡ Err fault) →
      ComesTo d d (λ m. UnshareEnds m d.ctx a) (nlm_status_of fault)
  unshare-fault a known =
      fault-comes d (λ m c. UnshareOf m a.share c) (λ m. file_checked m d.ctx a.share.file true false) fault known
      (λ m. unchanged (nlm_status_of fault) m)

module _ (old new : DraftValue) (a : LockArguments) (by_message : Bool) where
  abbrev pub LocksSo : State → NlmStatus → List Message → State → Type 0
  LocksSo m = LockEnds m old.ctx a by_message

  abbrev lock_of : State → Result ℕ LockFault
  lock_of m = lock_checked m old.ctx a.exclusive a.lock

  abbrev Stands : List Lock → Type 0
  Stands locks = Conflicts locks (range_of a.lock) (Some a.exclusive)

  abbrev pub HeldSo : (n : ℕ) → State → NlmStatus → List Message → State → Type 0
  HeldSo n m = HeldUp m old.ctx a by_message n a.block
      (list_any (is_request a.exclusive a.lock) (of_file m.waiting n))

  module _ (n : ℕ) (found : Knows old (λ k. lock_of k.state ≡ Ok n)) (f : FileValue)
      (has : Knows old (λ k. HasLocks k.state n f)) where
    stands-as : (s : Store) (k : StoreMeaning) → Possible old s k → f.held.locks ≡ of_file k.state.locks n
    stands-as s k w = sym (ap (λ (x : FileLocks). x.locks) (has s k w).held)

    pub lock-granted : (e : ℕ) → Knows old (λ k. IsFileAt k.state n e) → (settled : Settled) →
        (Stands f.held.locks → ⊥) → (left : FileValue) → left ≡ fewer_grants f (range_of a.lock) →
        IsSet left (range_of a.lock) (Some a.exclusive) settled →
        TurnsSending (May n e settled.file) old new (grants_told settled) (locks_set n settled.file) →
        ComesTo old new LocksSo statuses.Granted
    lock-granted e lives settled free left is sets sending =
        let set : IsSet (fewer_grants f (range_of a.lock)) (range_of a.lock) (Some a.exclusive) settled =
        subst (λ x. IsSet x (range_of a.lock) (Some a.exclusive) settled) is sets in
        sent-comes old new LocksSo statuses.Granted (May n e settled.file)
        (grants_told settled) (locks_set n settled.file) sending (set-sound n settled.file) (λ s k w formed.
        let laid = laid-at old s k w formed in
        let firm = firm-of k.state formed.locks in
        let there = file_there (with_writes s old.writes) k.state.exports in (
          record {
            lives = lives s k w;
            own = ended-own k.state there laid firm n f (has s k w) (range_of a.lock) (Some a.exclusive) settled set;
          },
          goes-on (λ c. LockOf k.state old.ctx a by_message c statuses.Granted (grants_told settled)
              (locks_set n settled.file k).state) (lock_of k.state) n (found s k w)
              (inl (
                subst (λ l. Stands l → ⊥) (stands-as s k w) free,
                refl,
                ended-changes k.state there laid firm n f (has s k w) (range_of a.lock) (Some a.exclusive) settled set,
              )),
        ))

    pub lock-held : (status : NlmStatus) → Stands f.held.locks → ComesTo old new (HeldSo n) status →
        ComesTo old new LocksSo status
    lock-held status stands comes =
        comes-as old new (HeldSo n) LocksSo status (λ s k w formed messages after ends.
        goes-on (λ c. LockOf k.state old.ctx a by_message c status messages after) (lock_of k.state) n (found s k w)
        (inr (subst Stands (stands-as s k w) stands, ends))) comes

-- ---- LOCK that conflicts
module _ (old : DraftValue) (a : LockArguments) (by_message : Bool) (n : ℕ) (f : FileValue)
    (has : Knows old (λ k. HasLocks k.state n f)) where
  abbrev Held : State → NlmStatus → List Message → State → Type 0
  Held = HeldSo old old a by_message n

  abbrev held_so : (block waits : Bool) → State → NlmStatus → List Message → State → Type 0
  held_so block waits m = HeldUp m old.ctx a by_message n block waits

  abbrev is_equal : Request → Bool
  is_equal = is_request a.exclusive a.lock

  waits-as : (s : Store) (k : StoreMeaning) → Possible old s k → f.held.waiting ≡ of_file k.state.waiting n
  waits-as s k w = sym (ap (λ (x : FileLocks). x.waiting) (has s k w).held)

  pub held-denied : a.block ≡ false → KnowsEnd old Held statuses.Denied
  held-denied none s k w formed =
      subst (λ b. held_so b (list_any is_equal (of_file k.state.waiting n)) k.state statuses.Denied [] k.state)
      (sym none)
      (unchanged statuses.Denied k.state)

  module _ (blocks : a.block ≡ true) where
    held-as : (waits : Bool) → list_any is_equal f.held.waiting ≡ waits → (s : Store) (k : StoreMeaning)
        → Possible old s k →
        (status : NlmStatus) (messages : List Message) (after : State) →
        held_so true waits k.state status messages after → Held k.state status messages after
    held-as waits is s k w status messages after ends =
        subst (λ b. held_so b (list_any is_equal (of_file k.state.waiting n)) k.state status messages after)
        (sym blocks)
        (subst (λ b. held_so true b k.state status messages after)
        (sym (ap (list_any is_equal) (sym (waits-as s k w)) ∙ is)) ends)

    pub held-blocked : list_any is_equal f.held.waiting ≡ true → KnowsEnd old Held statuses.Blocked
    held-blocked is s k w formed =
        held-as true is s k w statuses.Blocked [] k.state (unchanged statuses.Blocked k.state)

    module _ (first : list_any is_equal f.held.waiting ≡ false) where
      pub held-none : Knows old (λ k. NoNumberIsLeft k.state n) → KnowsEnd old Held statuses.DeniedNoLocks
      held-none none s k w formed =
          held-as false first s k w statuses.DeniedNoLocks [] k.state
          (inr (none s k w, unchanged statuses.DeniedNoLocks k.state))

      module _ (new : DraftValue) (number : ℕ) (next : Knows old (λ k. IsNextNumber k.state n number)) (e : ℕ)
          (lives : Knows old (λ k. IsFileAt k.state n e)) where
        abbrev asked : Request
        asked = record {
          number = number;
          host = old.ctx.host;
          exclusive = a.exclusive;
          asked = a.lock;
          by_message = by_message;
        }

        abbrev longer : FileValue
        longer = record f { held = record f.held { waiting = f.held.waiting ++ asked ∷ [] } }

        abbrev waits_now : StoreMeaning → StoreMeaning
        waits_now k = locks_set n longer (number_spent number k)

        abbrev Own : StoreMeaning → Type 0
        Own k = May n e longer k

        pub held-waits : TurnsWhere Own old new waits_now → ComesTo old new Held statuses.Blocked
        held-waits puts =
            sent-comes old new Held statuses.Blocked Own [] waits_now (sends-nothing old new waits_now Own puts)
            (λ k sound. set-sound n longer (number_spent number k) (spent-sound number k sound)) (λ s k w formed.
            let laid = laid-at old s k w formed in
            let firm = firm-of k.state formed.locks in
            let there = file_there (with_writes s old.writes) k.state.exports in (
              record { lives = lives s k w; own = own-still k.state n f (has s k w) },
              held-as false first s k w statuses.Blocked [] (waits_now k).state
                  (inl (record {
                    number = number;
                    suits = (next s k w).suits;
                    unspent = (next s k w).unspent;
                    answers = record {
                      reply_is = refl;
                      no_message = refl;
                      state_is =
                          ap (λ (m : State). record m
                          { spent_grants = λ q. (q == number) || k.state.spent_grants q })
                          (waits-instead k.state there laid firm n f (has s k w) (f.held.waiting ++ asked ∷ []))
                          ∙ ap (λ l. record k.state {
                            waiting = with_list k.state.waiting n (l ++ asked ∷ []);
                            spent_grants = λ q. (q == number) || k.state.spent_grants q;
                          }) (waits-as s k w);
                    };
                  })),
            ))

        -- the same as it is put
        pub longer-is : (request : Request) (locks : FileValue) (ctx : Ctx) → ctx ≡ old.ctx → request ≡ record {
          number = number;
          host = ctx.host;
          exclusive = a.exclusive;
          asked = a.lock;
          by_message = by_message;
        } → locks ≡ record f { held = record f.held { waiting = f.held.waiting ++ request ∷ [] } } → locks ≡ longer
        longer-is request locks ctx same is made =
            made
            ∙ ap (λ (r : Request). record f { held = record f.held { waiting = f.held.waiting ++ r ∷ [] } })
            (is ∙ (λ i. record asked { host = (same i).host }))

        pub held-put : (locks : FileValue) → locks ≡ longer →
            TurnsWhere (May n e locks) old new (λ k. locks_set n locks (number_spent number k)) →
            ComesTo old new Held statuses.Blocked
        held-put locks is puts =
            held-waits
            (subst (λ x. TurnsWhere (May n e x) old new (λ k. locks_set n x (number_spent number k))) is puts)

-- ---- what is put of a file
module _ (old new : DraftValue) (IsEnd : State → NlmStatus → List Message → State → Type 0) (status : NlmStatus) (n : ℕ)
    (f : FileValue) where
  pub put-comes : (e : ℕ) → TurnsWhere (May n e f) old new (locks_set n f) →
      ((s : Store) (k : StoreMeaning) → Possible old s k → WellFormed k.state →
      May n e f k × IsEnd k.state status [] (locks_set n f k).state) →
      ComesTo old new IsEnd status
  put-comes e turns ends =
      sent-comes old new IsEnd status (May n e f) [] (locks_set n f)
      (sends-nothing old new (locks_set n f) (May n e f) turns) (set-sound n f) ends

-- ---- CANCEL
module _ (old new : DraftValue) (a : CancelArguments) where
  abbrev pub CancelsSo : State → NlmStatus → List Message → State → Type 0
  CancelsSo m = CancelEnds m old.ctx a

  abbrev lock_there : State → Result ℕ LockFault
  lock_there m = lock_checked m old.ctx false a.lock

  module _ (n : ℕ) (found : Knows old (λ k. lock_there k.state ≡ Ok n)) (f : FileValue)
      (has : Knows old (λ k. HasLocks k.state n f)) where
    abbrev cancels : Request → Bool
    cancels = is_request a.exclusive a.lock

    abbrev canceled_to : State → Bool → NlmStatus → List Message → State → Type 0
    canceled_to m some = Answers (cond some statuses.Granted statuses.Denied)
        (cond some (record m { waiting = with_list m.waiting n (all_but cancels (of_file m.waiting n)) }) m)

    canceled-as : (some : Bool) → list_any cancels f.held.waiting ≡ some → (s : Store) (k : StoreMeaning)
        → Possible old s k →
        (status : NlmStatus) (messages : List Message) (after : State) →
        canceled_to k.state some status messages after → CancelsSo k.state status messages after
    canceled-as some is s k w status messages after ends =
        goes-on (λ c. CancelOf k.state a c status messages after) (lock_there k.state) n (found s k w)
        (subst (λ b. canceled_to k.state b status messages after)
        (sym (ap (λ (x : FileLocks). list_any cancels x.waiting) (has s k w).held ∙ is)) ends)

    pub cancel-denied : list_any cancels f.held.waiting ≡ false → KnowsEnd old CancelsSo statuses.Denied
    cancel-denied none s k w formed =
        canceled-as false none s k w statuses.Denied [] k.state (unchanged statuses.Denied k.state)

    abbrev fewer : FileValue
    fewer = record f { held = record f.held { waiting = all_but cancels f.held.waiting } }

    pub cancel-granted : list_any cancels f.held.waiting ≡ true → (e : ℕ) → Knows old (λ k. IsFileAt k.state n e) →
        TurnsWhere (May n e fewer) old new (locks_set n fewer) → ComesTo old new CancelsSo statuses.Granted
    cancel-granted some e lives turns =
        put-comes old new CancelsSo statuses.Granted n fewer e turns (λ s k w formed.
        let laid = laid-at old s k w formed in
        let firm = firm-of k.state formed.locks in
        let there = file_there (with_writes s old.writes) k.state.exports in (
          record { lives = lives s k w; own = own-still k.state n f (has s k w) },
          canceled-as true some s k w statuses.Granted [] (locks_set n fewer k).state (record {
            reply_is = refl;
            no_message = refl;
            state_is =
                waits-instead k.state there laid firm n f (has s k w) (all_but cancels f.held.waiting)
                ∙ ap (λ l. record k.state { waiting = with_list k.state.waiting n (all_but cancels l) })
                (sym (ap (λ (x : FileLocks). x.waiting) (has s k w).held));
          }),
        ))

    pub cancel-put : list_any cancels f.held.waiting ≡ true → (e : ℕ) → Knows old (λ k. IsFileAt k.state n e) →
        (locks : FileValue) → locks ≡ fewer → TurnsWhere (May n e locks) old new (locks_set n locks) →
        ComesTo old new CancelsSo statuses.Granted
    cancel-put some e lives locks is turns =
        cancel-granted some e lives (subst (λ x. TurnsWhere (May n e x) old new (locks_set n x)) is turns)

-- a file of which nothing waits cancels nothing
pub nothing-waits : (p : Request → Bool) → list_any p no_file.held.waiting ≡ false
nothing-waits p = refl

-- ---- UNLOCK
module _ (old new : DraftValue) (a : UnlockArguments) where
  abbrev pub UnlocksSo : State → NlmStatus → List Message → State → Type 0
  UnlocksSo m = UnlockEnds m old.ctx a

  abbrev lock_named : State → Result ℕ LockFault
  lock_named m = lock_checked m old.ctx false a.lock

  module _ (n : ℕ) (found : Knows old (λ k. lock_named k.state ≡ Ok n)) where
    pub unlock-nothing : Knows old (λ k. HasLocks k.state n no_file) → KnowsEnd old UnlocksSo statuses.Granted
    unlock-nothing has s k w formed =
        goes-on (λ c. UnlockOf k.state a c statuses.Granted [] k.state) (lock_named k.state) n (found s k w) (
          refl,
          nothing-changes k.state (file_there (with_writes s old.writes) k.state.exports) (laid-at old s k w formed) n
              (has s k w) (range_of a.lock),
        )

    pub unlock-granted : (f : FileValue) → Knows old (λ k. HasLocks k.state n f) → (e : ℕ) →
        Knows old (λ k. IsFileAt k.state n e) →
        (settled : Settled) (left : FileValue) → left ≡ fewer_grants f (range_of a.lock) →
        IsSet left (range_of a.lock) None settled →
        TurnsSending (May n e settled.file) old new (grants_told settled) (locks_set n settled.file) →
        ComesTo old new UnlocksSo statuses.Granted
    unlock-granted f has e lives settled left is sets sending =
        let set : IsSet (fewer_grants f (range_of a.lock)) (range_of a.lock) None settled =
        subst (λ x. IsSet x (range_of a.lock) None settled) is sets in
        sent-comes old new UnlocksSo statuses.Granted (May n e settled.file)
        (grants_told settled) (locks_set n settled.file) sending (set-sound n settled.file) (λ s k w formed.
        let laid = laid-at old s k w formed in
        let firm = firm-of k.state formed.locks in
        let there = file_there (with_writes s old.writes) k.state.exports in (
          record {
            lives = lives s k w;
            own = ended-own k.state there laid firm n f (has s k w) (range_of a.lock) None settled set;
          },
          goes-on (λ c. UnlockOf k.state a c statuses.Granted (grants_told settled) (locks_set n settled.file k).state)
              (lock_named k.state) n (found s k w)
              (refl, ended-changes k.state there laid firm n f (has s k w) (range_of a.lock) None settled set),
        ))

-- ---- SHARE
module _ (old new : DraftValue) (a : ShareArguments) where
  abbrev pub SharesSo : State → NlmStatus → List Message → State → Type 0
  SharesSo m = ShareEnds m old.ctx a

  abbrev share_there : State → Result ℕ LockFault
  share_there m = file_checked m old.ctx a.share.file true (denies modes.DenyWrite a.share.access)

  module _ (n : ℕ) (found : Knows old (λ k. share_there k.state ≡ Ok n)) (f : FileValue)
      (has : Knows old (λ k. HasLocks k.state n f)) where
    abbrev shared_to : State → Bool → NlmStatus → List Message → State → Type 0
    shared_to m denied = Answers (cond denied statuses.Denied statuses.Granted)
        (cond denied m (record m { shares = with_list m.shares n (shared (share_of a.share) (of_file m.shares n)) }))

    shared-as : (denied : Bool) → is_denied (share_of a.share) f.held.shares ≡ denied → (s : Store) (k : StoreMeaning) →
        Possible old s k → (status : NlmStatus) (messages : List Message) (after : State) →
        shared_to k.state denied status messages after → SharesSo k.state status messages after
    shared-as denied is s k w status messages after ends =
        goes-on (λ c. ShareOf k.state a.share c status messages after) (share_there k.state) n (found s k w)
        (subst (λ b. shared_to k.state b status messages after)
        (sym (ap (λ (x : FileLocks). is_denied (share_of a.share) x.shares) (has s k w).held ∙ is)) ends)

    pub share-denied : is_denied (share_of a.share) f.held.shares ≡ true → KnowsEnd old SharesSo statuses.Denied
    share-denied is s k w formed =
        shared-as true is s k w statuses.Denied [] k.state (unchanged statuses.Denied k.state)

    abbrev sharing : FileValue
    sharing = record f { held = record f.held { shares = shared (share_of a.share) f.held.shares } }

    pub share-granted : is_denied (share_of a.share) f.held.shares ≡ false → (e : ℕ) →
        Knows old (λ k. IsFileAt k.state n e) →
        TurnsWhere (May n e sharing) old new (locks_set n sharing) → ComesTo old new SharesSo statuses.Granted
    share-granted is e lives turns =
        put-comes old new SharesSo statuses.Granted n sharing e turns (λ s k w formed.
        let laid = laid-at old s k w formed in
        let firm = firm-of k.state formed.locks in
        let there = file_there (with_writes s old.writes) k.state.exports in (
          record { lives = lives s k w; own = own-still k.state n f (has s k w) },
          shared-as false is s k w statuses.Granted [] (locks_set n sharing k).state (record {
            reply_is = refl;
            no_message = refl;
            state_is =
                shares-instead k.state there laid firm n f (has s k w) (shared (share_of a.share) f.held.shares)
                ∙ ap (λ l. record k.state { shares = with_list k.state.shares n (shared (share_of a.share) l) })
                (sym (ap (λ (x : FileLocks). x.shares) (has s k w).held));
          }),
        ))

    pub share-put : is_denied (share_of a.share) f.held.shares ≡ false → (e : ℕ) →
        Knows old (λ k. IsFileAt k.state n e) →
        (locks : FileValue) → locks ≡ sharing → TurnsWhere (May n e locks) old new (locks_set n locks) →
        ComesTo old new SharesSo statuses.Granted
    share-put free e lives locks is turns =
        share-granted free e lives (subst (λ x. TurnsWhere (May n e x) old new (locks_set n x)) is turns)

-- ---- UNSHARE
module _ (old new : DraftValue) (a : ShareArguments) where
  abbrev pub UnsharesSo : State → NlmStatus → List Message → State → Type 0
  UnsharesSo m = UnshareEnds m old.ctx a

  abbrev share_named : State → Result ℕ LockFault
  share_named m = file_checked m old.ctx a.share.file true false

  module _ (n : ℕ) (found : Knows old (λ k. share_named k.state ≡ Ok n)) (f : FileValue)
      (has : Knows old (λ k. HasLocks k.state n f)) where
    abbrev unsharing : FileValue
    unsharing = record f { held = record f.held { shares = unshared (share_of a.share) f.held.shares } }

    unshared-as : (s : Store) (k : StoreMeaning) → Possible old s k → (after : State) →
        after ≡ record k.state { shares = with_list k.state.shares n (unshared (share_of a.share) f.held.shares) } →
        UnsharesSo k.state statuses.Granted [] after
    unshared-as s k w after is =
        goes-on (λ c. UnshareOf k.state a.share c statuses.Granted [] after) (share_named k.state) n (found s k w)
        (record {
          reply_is = refl;
          no_message = refl;
          state_is = is
              ∙ ap (λ l. record k.state { shares = with_list k.state.shares n (unshared (share_of a.share) l) })
              (sym (ap (λ (x : FileLocks). x.shares) (has s k w).held));
        })

    pub unshare-granted : (e : ℕ) → Knows old (λ k. IsFileAt k.state n e) →
        TurnsWhere (May n e unsharing) old new (locks_set n unsharing) → ComesTo old new UnsharesSo statuses.Granted
    unshare-granted e lives turns =
        put-comes old new UnsharesSo statuses.Granted n unsharing e turns (λ s k w formed. (
          record { lives = lives s k w; own = own-still k.state n f (has s k w) },
          unshared-as s k w (locks_set n unsharing k).state
              (shares-instead k.state (file_there (with_writes s old.writes) k.state.exports)
              (laid-at old s k w formed) (firm-of k.state formed.locks) n f (has s k w)
              (unshared (share_of a.share) f.held.shares)),
        ))

    pub unshare-put : (e : ℕ) → Knows old (λ k. IsFileAt k.state n e) →
        (locks : FileValue) → locks ≡ unsharing → TurnsWhere (May n e locks) old new (locks_set n locks) →
        ComesTo old new UnsharesSo statuses.Granted
    unshare-put e lives locks is turns =
        unshare-granted e lives (subst (λ x. TurnsWhere (May n e x) old new (locks_set n x)) is turns)

    -- a file that has no share loses none
    pub unshare-nothing : f.held.shares ≡ [] → KnowsEnd old UnsharesSo statuses.Granted
    unshare-nothing none s k w formed =
        unshared-as s k w k.state
        (shares-still k.state (file_there (with_writes s old.writes) k.state.exports)
        (laid-at old s k w formed) (firm-of k.state formed.locks) n f (has s k w)
        ∙ ap (λ l. record k.state { shares = with_list k.state.shares n l })
        (none ∙ ap (unshared (share_of a.share)) (sym none)))
