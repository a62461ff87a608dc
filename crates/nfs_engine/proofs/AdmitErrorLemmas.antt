-- Why a call does not begin.
use Rattle.std.proofs.Common.{◌≡◌, ◌≢◌, ℕ, ◌-◌, ◌^◌, Bool, true, false, cond, List, [], Option, Some, None, IfSome}
use Rattle.std.proofs.Common.{IsSome, Ok, Err, inl, inr, refl, sym, ap, subst, ◌∙◌}
use Rattle.nfs_machine.specs.Changing.{is_changing}
use Rattle.nfs_machine.specs.Run.{Arrival, FromHost, NewExports, Setting, context_of}
use Rattle.nfs_machine.specs.declared.calls.Call.{Call}
use Rattle.nfs_machine.specs.declared.context.Limits.{Limits}
use Rattle.nfs_replies.specs.Kept.ReplyEvent.{Repeated}
use Rattle.nfs_replies.specs.Replies.{IsAfter, RepliesValue}
use Rattle.nfs_replies.specs.declared.origins.Origin.{Origin}
use Rattle.nfs_engine.specs.Arrivals.{ArrivalValue, incoming_value, received_value}
use Rattle.nfs_engine.specs.Book.{Admits, AsksChange, BeginsCall, BookValue, IsNoRepeat, IsUnknown, IsWant, Repeats}
use Rattle.nfs_engine.specs.Book.{StillRuns, book_value}
use Rattle.nfs_engine.specs.Calls.{TxnValue}
use Rattle.nfs_engine.specs.Candidates.{IsAskedSo, IsCandidate, candidate_value}
use Rattle.nfs_engine.specs.Journal.{JournalValue}
use Rattle.nfs_engine.specs.Repeats.{RepeatValue, kept_for, origin_in, origin_of}
use Rattle.nfs_engine.specs.Running.{CallsValue, IsBegun, IsInProgress, Joins}
use Rattle.nfs_engine.specs.declared.arrival.Incoming.{Incoming}
use Rattle.nfs_engine.specs.declared.arrival.Incoming.TheVariants as incoming
use Rattle.nfs_engine.specs.declared.arrival.Reading.{Reading}
use Rattle.nfs_engine.specs.declared.arrival.Reading.TheVariants.{Asks, Faulted}
use Rattle.nfs_engine.specs.declared.arrival.Received.{Received}
use Rattle.nfs_engine.specs.declared.asking.Asked.{Asked}
use Rattle.nfs_engine.specs.declared.request.Request.{Request}
use Rattle.nfs_engine.specs.declared.running.CallSlot.{CallSlot}
use Rattle.nfs_engine.specs.declared.running.AdmitError.{AdmitError}
use Rattle.nfs_engine.specs.declared.running.AdmitError.TheVariants.{Memory, Spent}

asks_same : (x y : Asked) → Asks x ≡ Asks y → x ≡ y
asks_same x y same = ap (λ (r : Reading). elim r [ Asks asked ↦ asked | Faulted answer ↦ x ]) same

module _ (b : BookValue) (received : Arrival) (asked : Asked) where
  abbrev pub arrival : ArrivalValue
  arrival = record { received = received; reading = Asks asked }

  -- what would begin is no repeat
  pub no_repeat : (origin : Option Origin) → origin ≡ origin_of received asked.call → IfSome origin (IsUnknown b) →
      IsNoRepeat b arrival
  no_repeat origin is unknown other same =
      subst (λ (x : Asked). IfSome (origin_of received x.call) (IsUnknown b)) (asks_same asked other same)
      (subst (λ (o : Option Origin). IfSome o (IsUnknown b)) is unknown)

  -- no number is left
  pub spent : (origin : Option Origin) → origin ≡ origin_of received asked.call → IfSome origin (IsUnknown b) →
      b.next_id ≡ 2 ^ 64 - 1 → Admits b b arrival (Err (Spent, arrival))
  spent origin is unknown last = (
    record { asked = asked; asks = refl; handed = refl; unchanged = refl },
    (last, no_repeat origin is unknown),
  )

  -- there is no memory, and a number is left
  pub wanting : (origin : Option Origin) → origin ≡ origin_of received asked.call → IfSome origin (IsUnknown b) →
      b.next_id ≢ 2 ^ 64 - 1 → Admits b b arrival (Err (Memory, arrival))
  wanting origin is unknown left = (
    record { asked = asked; asks = refl; handed = refl; unchanged = refl },
    inr (left, no_repeat origin is unknown),
  )

-- a call that was not begun is turned away
module _ (journal : JournalValue) (replies : RepliesValue) (calls : CallsValue) (setting : Setting) (limit : ℕ) where
  abbrev with_calls : CallsValue → BookValue
  with_calls later = book_value journal replies later setting limit

  pub turned : (received : Arrival) (asked : Asked) (later : CallsValue) (origin : Option Origin)
      (error : AdmitError) → IsBegun calls later origin (Err error) → origin ≡ origin_of received asked.call →
      IfSome origin (IsUnknown (with_calls calls)) →
      Admits (with_calls calls) (with_calls later) (arrival (with_calls calls) received asked)
      (Err (error, arrival (with_calls calls) received asked))
  turned received asked later origin Memory same is unknown = subst
      (λ (c : CallsValue). Admits (with_calls calls) (with_calls c) (arrival (with_calls calls) received asked)
      (Err (Memory, arrival (with_calls calls) received asked)))
      (sym same.0) (wanting (with_calls calls) received asked origin is unknown same.1)
  turned received asked later origin Spent same is unknown = subst
      (λ (c : CallsValue). Admits (with_calls calls) (with_calls c) (arrival (with_calls calls) received asked)
      (Err (Spent, arrival (with_calls calls) received asked)))
      (sym same.0) (spent (with_calls calls) received asked origin is unknown same.1)

-- ---- candidates
-- where a repeat would come with this, the call changes something
comes_with : (received : Arrival) (call : Call) (o : Origin) → origin_of received call ≡ Some o →
    (is_changing call ≡ true) × (o ≡ origin_in received)
comes_with (FromHost received) call o some = by (is_changing call) some
  where
    by : (t : Bool) → cond t (Some (origin_in (FromHost received))) None ≡ Some o →
        (t ≡ true) × (o ≡ origin_in (FromHost received))
    by true e = (refl, let same : o ≡ origin_in (FromHost received) = cc in same)
    by false e = cc
comes_with (NewExports exports moment) call o some = cc

module _ (r : Request) (origin : Option Origin) (is : IsCandidate r origin) where
  abbrev asked_by : Asked
  asked_by = record { xid = r.xid; ids = r.ctx.ids; call = r.call }

  -- what one would begin is no repeat, where nothing is known of what it came with
  pub none_known : (b : BookValue) → IfSome origin (IsUnknown b) → IsNoRepeat b (candidate_value r)
  none_known b unknown = no_repeat b (incoming_value r.received) asked_by origin is.origin_is unknown

  -- and the other way round
  pub known_of : (b : BookValue) → IsNoRepeat b (candidate_value r) → IfSome origin (IsUnknown b)
  known_of b none = subst (λ (o : Option Origin). IfSome o (IsUnknown b)) (sym is.origin_is) (none asked_by refl)

  -- where a repeat would come with this, it changes something
  pub changes_with : (o : Origin) → origin ≡ Some o →
      (is_changing r.call ≡ true) × (o ≡ origin_in (incoming_value r.received))
  changes_with o some = comes_with (incoming_value r.received) r.call o (sym is.origin_is ∙ some)

  pub asks_change : (o : Origin) → origin ≡ Some o → AsksChange (candidate_value r)
  asks_change o some = record { asked = asked_by; asks = refl; changes = (changes_with o some).0 }

  -- what is known of what it came with, as the book tells it
  module _ (old new : BookValue) (o x : Origin) (some : origin ≡ Some o) (same : x ≡ o) where
    came : x ≡ origin_in (incoming_value r.received)
    came = same ∙ (changes_with o some).1

    pub recalled_kept : (reply : List ℕ) (kept : RepeatValue) → (kept_for old.replies x ≡ Some reply) ×
        IsAfter (Repeated x.host x.bytes) old.replies new.replies × (new ≡ record old { replies = new.replies }) →
        kept ≡ record { received = incoming_value r.received; reply = reply } →
        Repeats old new (candidate_value r) kept
    recalled_kept reply kept known is_kept = record {
      asks = asks_change o some;
      received = ap (λ (k : RepeatValue). k.received) is_kept;
      reply = ap (kept_for old.replies) (sym came) ∙ known.0 ∙
          ap (λ (k : RepeatValue). Some k.reply) (sym is_kept);
      front = subst (λ (y : Origin). IsAfter (Repeated y.host y.bytes) old.replies new.replies) came known.1;
      rest = known.2;
    }

    pub recalled_running : (back : ArrivalValue) → (kept_for old.replies x ≡ None) × IsInProgress old.living x ×
        (new ≡ old) →
        back ≡ candidate_value r → StillRuns old new (candidate_value r) back
    recalled_running back known handed = record {
      asks = asks_change o some;
      unkept = ap (kept_for old.replies) (sym came) ∙ known.0;
      running = subst (IsInProgress old.living) came known.1;
      handed = handed;
      unchanged = known.2;
    }

    pub recalled_wanting : (back : ArrivalValue) → IsSome (kept_for old.replies x) × (new ≡ old) →
        back ≡ candidate_value r → Admits old new (candidate_value r) (Err (Memory, back))
    recalled_wanting back known handed = (
      record { asked = asked_by; asks = refl; handed = handed; unchanged = known.1 },
      inl (record {
        asks = asks_change o some;
        kept = subst (λ (y : Origin). IsSome (kept_for old.replies y)) came known.0;
      }),
    )

-- what it is made under is no part of what it asks
pub begun_asked : (r s t : Request) (origin : Option Origin) → IsCandidate r origin → (start : ℕ) (limits : Limits) →
    s ≡ r → t ≡ record s { ctx = record (s.ctx) { start = start; limits = limits } } → IsAskedSo t
begun_asked r s t origin is start limits same began =
    subst IsAskedSo (sym began) (subst
    (λ (x : Request). IsAskedSo (record x { ctx = record (x.ctx) { start = start; limits = limits } }))
    (sym same) (record { arrival = is.arrival; host = is.host; moment = is.moment }))

-- ---- calls for which there was no memory
-- what changes nothing comes with nothing
pub unchanging : (received : Arrival) (call : Call) → is_changing call ≡ false → origin_of received call ≡ None
unchanging (FromHost received) call same =
    ap (λ t. cond t (Some (origin_in (FromHost received))) None) same
unchanging (NewExports exports moment) call same = refl

-- exports come with nothing
pub of_exports : (came : Incoming) (call : Call) → ((received : Received) → came ≢ incoming.Record received) →
    origin_of (incoming_value came) call ≡ None
of_exports (incoming.Record received) call other = absurd (other received refl)
of_exports (incoming.Exports exports moment) call other = refl

module _ (r : Request) where
  abbrev asked_of : Asked
  asked_of = record { xid = r.xid; ids = r.ctx.ids; call = r.call }

  -- nothing is known of what came with this
  pub unknown_away : (b : BookValue) (origin : Option Origin) (error : AdmitError) (back : ArrivalValue) →
      origin ≡ origin_of (incoming_value r.received) r.call → IfSome origin (IsUnknown b) → IsWant b error →
      back ≡ candidate_value r → Admits b b (candidate_value r) (Err (error, back))
  unknown_away b origin error back is unknown want handed =
      subst (λ (a : ArrivalValue). Admits b b (candidate_value r) (Err (error, a))) (sym handed) (by error want)
    where
      by : (error : AdmitError) → IsWant b error → Admits b b (candidate_value r) (Err (error, candidate_value r))
      by Memory left = wanting b (incoming_value r.received) asked_of origin is unknown left
      by Spent last = spent b (incoming_value r.received) asked_of origin is unknown last

  -- a record that asks a call that changes something comes with its host and its bytes
  pub comes_changing : IsAskedSo r → (received : Received) → r.received ≡ incoming.Record received →
      is_changing r.call ≡ true → IsCandidate r (Some (origin_in (FromHost (received_value received))))
  comes_changing is received came changes = record {
    arrival = is.arrival;
    host = is.host;
    moment = is.moment;
    origin_is = sym (ap (λ i. origin_of (incoming_value i) r.call) came ∙
        ap (λ t. cond t (Some (origin_in (FromHost (received_value received)))) None) changes);
  }

-- nothing is known of what it came with, and there is no memory for it
pub recalled_unknown : (r : Request) (origin : Option Origin) → IsCandidate r origin → (old new : BookValue)
    (o x : Origin) → origin ≡ Some o → x ≡ o → (error : AdmitError) (back : ArrivalValue) →
    IsUnknown old x × (new ≡ old) → IsWant new error → back ≡ candidate_value r →
    Admits old new (candidate_value r) (Err (error, back))
recalled_unknown r origin is old new o x some same error back known want handed =
    subst (λ (b : BookValue). Admits b new (candidate_value r) (Err (error, back))) known.1
    (unknown_away r new origin error back is.origin_is unknown want handed)
  where
    unknown : IfSome origin (IsUnknown new)
    unknown = subst (λ (p : Option Origin). IfSome p (IsUnknown new)) (sym some) (subst (IsUnknown new) same
        (subst (λ (b : BookValue). IsUnknown b x) (sym known.1) known.0))

-- a call that begins is made under what the server was started with
pub entered : (journal : JournalValue) (replies : RepliesValue) (calls later : CallsValue) (setting : Setting)
    (limit : ℕ) (r : Request) (origin : Option Origin) (t : TxnValue) (place : CallSlot) → IsCandidate r origin →
    IsNoRepeat (book_value journal replies calls setting limit) (candidate_value r) →
    IsBegun calls later origin (Ok place) → t ≡ record {
      id = place.id;
      key = place.key;
      received = incoming_value r.received;
      xid = r.xid;
      call = r.call;
      ctx = record (r.ctx) { start = setting.start; limits = setting.limits };
      view = record { entries = []; reserved = [] };
    } → BeginsCall (book_value journal replies calls setting limit) (book_value journal replies later setting limit)
    (candidate_value r) t
entered journal replies calls later setting limit r origin t place is none began txn = record {
  asked = asked_by r origin is;
  asks = refl;
  txn = txn ∙ (λ i. let u : TxnValue = record {
    id = began.0 i;
    key = key_is i;
    received = incoming_value r.received;
    xid = r.xid;
    call = r.call;
    ctx = context_of setting (is.host i) r.ctx.ids (is.moment i);
    view = record { entries = []; reserved = [] };
  } in u);
  unknown = none (asked_by r origin is) refl;
  joins = subst (λ (p : Option Origin). Joins calls.living later.living t.key t.id p) is.origin_is
      (subst (λ n. Joins calls.living later.living t.key n origin) (sym (ap (λ (u : TxnValue). u.id) txn))
      (subst (λ n. Joins calls.living later.living n place.id origin) key_is began.2));
  rest = λ i. book_value journal replies (let c : CallsValue = record
      { living = later.living; next_id = began.1 i } in c) setting limit;
}
  where
    key_is : place.key ≡ t.key
    key_is = sym (ap (λ (u : TxnValue). u.key) txn)
