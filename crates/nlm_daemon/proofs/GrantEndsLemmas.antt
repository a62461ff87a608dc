-- How a grant ends that a host answers, and what GRANTED_RES and FREE_ALL come to.
use Rattle.std.proofs.Common.{◌≡◌, ◌==◌, ℕ, Bool, true, false, cond, List, [], Option, Some, None, append-nil, refl}
use Rattle.std.proofs.Common.{sym, ◌∙◌}
use Rattle.std.proofs.Common.{ap, inr, subst, ◌%◌, IsSome, Err}
use Rattle.std.specs.Arc.{arc_value}
use Rattle.std.specs.FinMap.{get, remove}
use Rattle.std.specs.List.{Contains}
use Rattle.std.specs.Int.{w64, from_be_bytes}
use Rattle.side_wire.specs.declared.message.Message.{Message}
use Rattle.side_wire.specs.declared.nlm.FreeAllArguments.{FreeAllArguments}
use Rattle.side_wire.specs.declared.nlm.NlmCall.TheVariants as nlm
use Rattle.side_wire.specs.declared.nlm.NlmReply.TheVariants as replies
use Rattle.side_wire.specs.declared.nlm.NlmResult.{NlmResult}
use Rattle.side_wire.specs.declared.nlm.NlmStatus.{NlmStatus}
use Rattle.side_wire.specs.declared.nlm.NlmStatus.TheVariants as statuses
use Rattle.nfs_machine.specs.FileLists.{all_but}
use Rattle.nfs_machine.specs.Grants.{ChangesLocks}
use Rattle.nfs_machine.specs.LockSteps.{Frees, GrantAnswered, GrantEnds, is_answered}
use Rattle.nfs_machine.specs.OneFile.{requested}
use Rattle.nfs_machine.specs.State.{PendingGrant, Range, Request, State}
use Rattle.nfs_machine.specs.WellFormed.{WellFormed}
use Rattle.nfs_machine.specs.declared.calls.Call.{Call}
use Rattle.nfs_machine.specs.declared.calls.Call.TheVariants as calls
use Rattle.nfs_machine.specs.declared.calls.Reply.TheVariants as answers
use Rattle.nfs_machine.proofs.FirmLemmas.{firm-of}
use Rattle.nlm_ranges.specs.Buckets.{bucket_count, file_in}
use Rattle.nlm_ranges.specs.Files.{FileValue}
use Rattle.nlm_ranges.specs.Granting.{IsSet}
use Rattle.nlm_ranges.specs.declared.file.Settled.{Settled}
use Rattle.nfs_objects.specs.Attempt.{EndsCall}
use Rattle.nfs_objects.specs.Begins.{Begins}
use Rattle.nfs_objects.specs.Calls.{locks_at}
use Rattle.nfs_objects.specs.Knows.{Knows, TurnsWhere}
use Rattle.nfs_objects.specs.Promise.{Given, Held, IsPromised}
use Rattle.nfs_objects.specs.Stands.{IsPendingIn, StoreMeaning, StandLocks, bucket_at, exported_file, file_there}
use Rattle.nfs_objects.specs.Store.{Store, with_writes}
use Rattle.nfs_objects.specs.Values.{ChangeValue, DraftValue, done_value}
use Rattle.nfs_objects.specs.declared.address.Addr.TheVariants as addresses
use Rattle.nfs_objects.specs.declared.change.Missing.{Missing}
use Rattle.nfs_objects.specs.declared.object.Object.{Object}
use Rattle.nfs_inodes.proofs.NamedHaltLemmas.{asking}
use Rattle.nfs_inodes.specs.Stops.{StopsAt}
use Rattle.nfs_inodes.specs.Locks.{locks_set}
use Rattle.nlm_daemon.proofs.NlmPromiseLemmas.{possible-before, promised-comes, sent-comes}
use Rattle.nlm_daemon.proofs.NlmEndsLemmas.{May, laid-at}
use Rattle.nlm_daemon.proofs.AnsweredGrantLemmas.{nothing-in}
use Rattle.nlm_daemon.proofs.GrantOwnerLemmas.{back-changes, back-own, grants_told, left-is, left-own}
use Rattle.nlm_daemon.proofs.NlmAnswerLemmas.{step-frees, step-granted-res, told-promised}
use Rattle.nlm_daemon.proofs.LockChangeLemmas.{sends-nothing, set-sound}
use Rattle.nlm_daemon.specs.Comes.{ComesTo, TurnsSending}
use Rattle.nlm_daemon.specs.Granted.{FindsGrant, IsPendingNow, grant_of}
use Rattle.nlm_daemon.specs.declared.granting.FoundGrant.{FoundGrant}

-- a status other than GRANTED gives the lock back
ends-back : (m : State) (number : ℕ) (g : PendingGrant) (status : NlmStatus) (messages : List Message) (after : State) →
    (status ≡ statuses.Granted → ⊥) →
    ChangesLocks (record m { granted = remove m.granted number }) g.file (requested g.request) None messages after →
    GrantEnds m number (Some g) status messages after
ends-back m number g statuses.Granted messages after other ends = absurd (other refl)
ends-back m number g statuses.Denied messages after other ends = ends
ends-back m number g statuses.DeniedNoLocks messages after other ends = ends
ends-back m number g statuses.Blocked messages after other ends = ends
ends-back m number g statuses.DeniedGracePeriod messages after other ends = ends
ends-back m number g statuses.Deadlock messages after other ends = ends
ends-back m number g statuses.ReadOnly messages after other ends = ends
ends-back m number g statuses.StaleHandle messages after other ends = ends
ends-back m number g statuses.FileTooBig messages after other ends = ends
ends-back m number g statuses.Failed messages after other ends = ends

module _ (old new : DraftValue) (pending : FoundGrant)
    (now : Knows old (λ k. WellFormed k.state → IsPendingNow k.state pending)) where
  abbrev request : Request
  request = arc_value pending.request

  abbrev file : ℕ
  file = pending.file.number

  abbrev export : ℕ
  export = pending.file.export

  abbrev pub EndsGrant : NlmStatus → State → Unit {0} → List Message → State → Type 0
  EndsGrant status m u = GrantEnds m request.number (Some (grant_of pending)) status

  abbrev pub fewer : FileValue
  fewer = record pending.file.file
      { pending = all_but (λ (r : Request). r.number == request.number) pending.file.file.pending }

  -- it is pending no more
  pub grant-kept : (u : Unit {0}) (status : NlmStatus) → status ≡ statuses.Granted → (locks : FileValue) →
      locks ≡ fewer → (n e : ℕ) → n ≡ file → e ≡ export →
      TurnsWhere (May n e locks) old new (locks_set n locks) → ComesTo old new (EndsGrant status) u
  grant-kept u status granted locks is n e n-is e-is turns =
      subst (λ s. ComesTo old new (EndsGrant s) u) (sym granted)
      (sent-comes old new (EndsGrant statuses.Granted) u (May file export fewer) [] (locks_set file fewer)
      (sends-nothing old new (locks_set file fewer) (May file export fewer)
      (subst (λ x. TurnsWhere (May file export x) old new (locks_set file x)) is
      (subst (λ x. TurnsWhere (May file x locks) old new (locks_set file locks)) e-is
      (subst (λ x. TurnsWhere (May x e locks) old new (locks_set x locks)) n-is turns))))
      (set-sound file fewer) (λ s k w formed.
      let pends = now s k w formed in
      let laid = laid-at old s k w formed in
      let firm = firm-of k.state formed.locks in
      let there = file_there (with_writes s old.writes) k.state.exports in (
        record {
          lives = pends.lives;
          own = left-own k.state there laid firm file pending.file.file pends.file request.number request pends.stands;
        },
        (refl, left-is k.state there laid firm file pending.file.file pends.file request.number request pends.stands),
      )))

  -- or its lock is given back
  pub grant-back : (u : Unit {0}) (status : NlmStatus) → (status ≡ statuses.Granted → ⊥) → (settled : Settled)
      (left : FileValue) → left ≡ fewer → (r : Range) → r ≡ requested request → IsSet left r None settled →
      (n e : ℕ) → n ≡ file → e ≡ export →
      TurnsSending (May n e settled.file) old new (grants_told settled) (locks_set n settled.file) →
      ComesTo old new (EndsGrant status) u
  grant-back u status other settled left is r r-is sets n e n-is e-is sending =
      let set : IsSet fewer (requested request) None settled =
      subst (λ x. IsSet x (requested request) None settled) is (subst (λ x. IsSet left x None settled) r-is sets) in
      sent-comes old new (EndsGrant status) u (May file export settled.file) (grants_told settled)
      (locks_set file settled.file)
      (subst (λ x. TurnsSending (May file x settled.file) old new (grants_told settled) (locks_set file settled.file))
      e-is
      (subst (λ x. TurnsSending (May x e settled.file) old new (grants_told settled) (locks_set x settled.file)) n-is
      sending)) (set-sound file settled.file) (λ s k w formed.
      let pends = now s k w formed in
      let laid = laid-at old s k w formed in
      let firm = firm-of k.state formed.locks in
      let there = file_there (with_writes s old.writes) k.state.exports in (
        record {
          lives = pends.lives;
          own = back-own k.state there laid firm file pending.file.file pends.file request.number request pends.stands
              (requested request) settled set;
        },
        ends-back k.state request.number (grant_of pending) status (grants_told settled)
            (locks_set file settled.file k).state other
            (back-changes k.state there laid firm file pending.file.file pends.file request.number request pends.stands
            (requested request) settled set),
      ))

-- ---- GRANTED_RES
-- something stands where a grant does
bucket-of : (s : Store) (k : StoreMeaning) (n number : ℕ) (r : Request) → StandLocks s k.state →
    IsPendingIn k.state number n r → IsSome (s.at (addresses.Locks (n % bucket_count)))
bucket-of s k n number r stand pends =
    by (s.at (addresses.Locks (n % bucket_count))) ((stand.pending number n r).0 pends).0
  where
    by : (o : Option Object) → Contains (exported_file k.state.exports (file_in (bucket_at o) n)).pending r → IsSome o
    by None mine = absurd (nothing-in r mine)
    by (Some o) mine = refl

cond-some : {A : Type 0} (b : Bool) (o : Option A) (x : A) → cond b o None ≡ Some x → o ≡ Some x
cond-some true o x is = is
cond-some false o x is = absurd cc

module _ (d : DraftValue) (r : NlmResult) (begins : Begins (calls.Nlm (nlm.GrantedRes r)) d) where
  abbrev call : Call
  call = calls.Nlm (nlm.GrantedRes r)

  abbrev Answered : State → Unit {0} → List Message → State → Type 0
  Answered m u = GrantAnswered m d.ctx r.cookie r.status

  -- no grant of this host has that cookie
  pub none-promised : (change : ChangeValue) →
      Knows d (λ k. WellFormed k.state → FindsGrant k.state d.ctx.host r.cookie None) →
      change ≡ record { writes = d.writes; messages = d.messages; reply = answers.Nlm replies.GrantedRes } →
      Held d.view d.writes → Given d.view d.writes → IsPromised (done_value call d.ctx d.view change)
  none-promised change finds is held given =
      told-promised d call begins Answered tt
      (λ s k w formed. subst
      (λ o. GrantEnds k.state (from_be_bytes w64 r.cookie) o r.status [] k.state) (sym (finds s k w formed))
      (refl, refl))
      (answers.Nlm replies.GrantedRes) [] change (ap (λ (c : ChangeValue). c.writes) is)
      (ap (λ (c : ChangeValue). c.messages) is ∙ sym (append-nil d.messages)) (ap (λ (c : ChangeValue). c.reply) is)
      held given (λ m ends. step-granted-res m d.ctx r [] m ends)

  -- what it has to hold for the grant stands somewhere
  pub grant-stopped : (pending : FoundGrant) →
      Knows d (λ k. WellFormed k.state → FindsGrant k.state d.ctx.host r.cookie (Some pending)) → (halt : Missing) →
      StopsAt d (locks_at pending.file.number) halt → EndsCall call d.ctx d.view (Err halt)
  grant-stopped pending finds halt stops =
      asking d call halt begins (locks_at pending.file.number) (
        inr (λ s k fits stands sound formed.
            let now = (finds s k (possible-before d begins.none s k fits stands sound) formed).1 in
            bucket-of s k pending.file.number (arc_value pending.request).number (arc_value pending.request)
            stands.locks
            now.stands),
        tt,
      ) stops

  -- the grant that it answers ends
  pub some-promised : (change : ChangeValue) (pending : FoundGrant) (new : DraftValue) (u : Unit {0}) →
      Knows d (λ k. WellFormed k.state → FindsGrant k.state d.ctx.host r.cookie (Some pending)) →
      ComesTo d new (λ m u. GrantEnds m (arc_value pending.request).number (Some (grant_of pending)) r.status) u →
      change ≡ record { writes = new.writes; messages = new.messages; reply = answers.Nlm replies.GrantedRes } →
      Held new.view new.writes → Given new.view new.writes → IsPromised (done_value call d.ctx d.view change)
  some-promised change pending new u finds comes is held given =
      promised-comes d new
      (λ m u. GrantEnds m (arc_value pending.request).number (Some (grant_of pending)) r.status) u begins.none
      begins.quiet comes call (answers.Nlm replies.GrantedRes) [] change (ap (λ (c : ChangeValue). c.writes) is)
      (ap (λ (c : ChangeValue). c.messages) is ∙ sym (append-nil new.messages)) (ap (λ (c : ChangeValue). c.reply) is)
      held given (λ s k w formed ends.
      let found = (finds s k w formed).0 in
      let at : get k.state.granted (from_be_bytes w64 r.cookie) ≡ Some (grant_of pending) =
      cond-some
      (is_answered d.ctx.host r.cookie (from_be_bytes w64 r.cookie) (get k.state.granted (from_be_bytes w64 r.cookie)))
      (get k.state.granted (from_be_bytes w64 r.cookie)) (grant_of pending) found in
      let same : (arc_value pending.request).number ≡ from_be_bytes w64 r.cookie =
      (formed.locks.pending (from_be_bytes w64 r.cookie) (grant_of pending) at).own in
      step-granted-res k.state d.ctx r comes.messages (comes.op k).state
      (subst (λ o. GrantEnds k.state (from_be_bytes w64 r.cookie) o r.status comes.messages (comes.op k).state)
      (sym found)
      (subst (λ n. GrantEnds k.state n (Some (grant_of pending)) r.status comes.messages (comes.op k).state) same
      ends)))

-- ---- FREE_ALL
pub freed-promised : (d new : DraftValue) (a : FreeAllArguments) (begins : Begins (calls.Nlm (nlm.FreeAll a)) d)
    (change : ChangeValue) (u : Unit {0}) → ComesTo d new (λ m u. Frees m a.name) u →
    change ≡ record { writes = new.writes; messages = new.messages; reply = answers.Nlm replies.FreeAll } →
    Held new.view new.writes → Given new.view new.writes →
    IsPromised (done_value (calls.Nlm (nlm.FreeAll a)) d.ctx d.view change)
freed-promised d new a begins change u comes is held given =
    promised-comes d new (λ m u. Frees m a.name) u begins.none begins.quiet comes (calls.Nlm (nlm.FreeAll a))
    (answers.Nlm replies.FreeAll) [] change (ap (λ (c : ChangeValue). c.writes) is)
    (ap (λ (c : ChangeValue). c.messages) is ∙ sym (append-nil new.messages)) (ap (λ (c : ChangeValue). c.reply) is)
    held given (λ s k w formed ends. step-frees k.state d.ctx a comes.messages (comes.op k).state ends)
