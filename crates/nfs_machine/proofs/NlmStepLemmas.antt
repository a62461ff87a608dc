-- NLM leaves the objects as they are, and lets no two owners conflict.
use Rattle.std.proofs.Common.{◌≡◌, ◌==◌, ℕ, ◌+◌, ◌-◌, ◌^◌, ◌<◌, ◌≤◌, Bool}
use Rattle.std.proofs.Common.{true, false, not, List, []}
use Rattle.std.proofs.Common.{◌∷◌, Option, Some, cond, nat_le, arith}
use Rattle.std.proofs.Common.{None, Result, Ok, Err}
use Rattle.std.proofs.Common.{IfOk, filter, unwrap_or, is_ok, if◌then◌else◌, inl, inr, refl, sym, ◌∙◌}
use Rattle.std.proofs.Common.{ap, subst, ◌||◌}
use Rattle.std.proofs.lemmas.Bool.{and_parts, leb-true}
use Rattle.std.specs.FinMap.{get, remove}
use Rattle.std.specs.Int.{w64, from_be_bytes}
use Rattle.std.specs.List.{IsDistinct, list_any}
use Rattle.side_wire.specs.declared.message.Message.{Message}
use Rattle.side_wire.specs.declared.nlm.CancelArguments.{CancelArguments}
use Rattle.side_wire.specs.declared.message.NlmLock.{NlmLock}
use Rattle.side_wire.specs.declared.nlm.LockArguments.{LockArguments}
use Rattle.side_wire.specs.declared.nlm.NlmCall.{NlmCall}
use Rattle.side_wire.specs.declared.nlm.NlmCall.TheVariants as calls
use Rattle.side_wire.specs.declared.nlm.NlmReply.{NlmReply}
use Rattle.side_wire.specs.declared.nlm.NlmShare.{NlmShare}
use Rattle.side_wire.specs.declared.nlm.NlmStatus.{NlmStatus}
use Rattle.side_wire.specs.declared.nlm.NlmStatus.TheVariants as status
use Rattle.side_wire.specs.declared.nlm.ShareMode.TheVariants as mode
use Rattle.side_wire.specs.declared.nlm.TestArguments.{TestArguments}
use Rattle.side_wire.specs.declared.nlm.TestStatus.{TestStatus}
use Rattle.side_wire.specs.declared.mount.lists.MountBody.{MountBody}
use Rattle.nfs_machine.specs.Exports.{LivingExport}
use Rattle.side_wire.specs.declared.nlm.UnlockArguments.{UnlockArguments}
use Rattle.nfs_machine.specs.Bytes.{same_bytes}
use Rattle.nfs_machine.specs.Checks.{◌>>=◌, bytes_in, holding, is_writable}
use Rattle.nfs_machine.specs.FileLists.{of_file, with_list}
use Rattle.nfs_machine.specs.Grants.{ChangesLocks, Grants, SettleInOrder, SettlesFile, at_file, ending_grants}
use Rattle.nfs_machine.specs.OneFile.{FileLocks, requested}
use Rattle.nfs_machine.specs.OneFile as one
use Rattle.nfs_machine.specs.Laws.{KeepsExports}
use Rattle.nfs_machine.specs.Locks.{Conflicts, HasModes, IsRange, Mode, denies, fits_offsets, modes_without, range_of}
use Rattle.nfs_machine.specs.Locks.{same_sharer}
use Rattle.nfs_machine.specs.LocksFormed.{IsFile, NoConflict, NoLocksConflict, NoSharesConflict}
use Rattle.nfs_machine.specs.LockSteps.{Frees, GrantEnds, HeldUp, LockFault, NotRegular, RangeTooBig, ReadOnly}
use Rattle.nfs_machine.specs.LockSteps.{StaleHandle}
use Rattle.nfs_machine.specs.LockSteps.{file_checked, freed_with, is_answered, is_request, lock_checked, share_of}
use Rattle.nfs_machine.specs.NlmSteps.{NlmStep}
use Rattle.nfs_machine.specs.Resolve.{BadHandle, Names, Resolved, Stale, resolve}
use Rattle.nfs_machine.specs.State.{Living, Lock, PendingGrant, Range, Request, Share, State}
use Rattle.nfs_machine.specs.declared.context.Ctx.{Ctx}
use Rattle.nfs_machine.proofs.NlmChecksLemmas.{
  CancelOf,
  Cancels,
  LockOf,
  ShareOf,
  ShareAnswers,
  TestOf,
  UnlockOf,
  UnshareOf,
}
use Rattle.nfs_machine.proofs.NlmChecksLemmas.{found-pending}
use Rattle.nfs_machine.proofs.DistinctLemmas.{distinct-last, distinct-left, passes-left}
use Rattle.nfs_machine.proofs.FileMapLemmas.{each-relisted, each-with, get-relisted, kept-is, remade}
use Rattle.nfs_machine.proofs.FirmLemmas.{Firm, firm-answered, firm-cancelled, firm-ended, firm-freed, firm-granted}
use Rattle.nfs_machine.proofs.FirmLemmas.{firm-settled, firm-shares, firm-waits, granting}
use Rattle.nfs_machine.proofs.ModesLemmas.{all-mapped, apart-with, apart-without, sharer-back, shares-left, shares-with}
use Rattle.nfs_machine.proofs.ModesLemmas.{unlocking-free}
use Rattle.nfs_machine.proofs.ResolveLemmas.{resolved-lives}
use Rattle.nfs_machine.proofs.SettlingLemmas.{settles-apart}

-- what stands beside objects and locks: the mounts and the exports
abbrev pub kept_beside : State → List MountBody × List LivingExport × ℕ
kept_beside m = (m.mounts, m.exports, m.last_export)

pub record Untouched (old new : State) : Type 0 where
  pub objects : new.objects ≡ old.objects
  pub spent : new.spent ≡ old.spent
  pub mounts : new.mounts ≡ old.mounts
  pub exports : KeepsExports old new
  pub apart : NoConflict old → NoConflict new
  pub firm : Firm old → Firm new

same : (old new : State) → new ≡ old → Untouched old new
same old new e = record {
  objects = ap (λ (m : State). m.objects) e;
  spent = ap (λ (m : State). m.spent) e;
  mounts = ap (λ (m : State). m.mounts) e;
  exports = record { exports = ap (λ (m : State). m.exports) e; last = ap (λ (m : State). m.last_export) e };
  apart = λ h. subst NoConflict (sym e) h;
  firm = λ h. subst Firm (sym e) h;
}

joined : (a b c : State) → Untouched a b → Untouched b c → Untouched a c
joined a b c x y = record {
  objects = y.objects ∙ x.objects;
  spent = y.spent ∙ x.spent;
  mounts = y.mounts ∙ x.mounts;
  exports = record
      { exports = y.exports.exports ∙ x.exports.exports; last = y.exports.last ∙ x.exports.last };
  apart = λ h. y.apart (x.apart h);
  firm = λ h. y.firm (x.firm h);
}

-- from a state with the same objects
from : (old after new : State) → after.objects ≡ old.objects → after.spent ≡ old.spent →
    kept_beside after ≡ kept_beside old
    → (NoConflict old → NoConflict after) → (Firm old → Firm after) → new ≡ after → Untouched old new
from old after new objects spent kept apart firm e = joined old after new (record {
  objects = objects;
  spent = spent;
  mounts = ap (λ k. k.0) kept;
  exports = record { exports = ap (λ k. k.1) kept; last = ap (λ k. k.2) kept };
  apart = apart;
  firm = firm;
}) (same after new e)

-- what a call names is a living regular file
pub checked-file : (old : State) (ctx : Ctx) (handle : List ℕ) (fits writes : Bool)
    → IfOk (file_checked old ctx handle fits writes) (IsFile old.objects)
checked-file old ctx handle fits writes = of (resolve old ctx handle) refl
  where
    regular : (number : ℕ) (o : Living) → get old.objects number ≡ Some o → (b : Bool) →
        is_ok (bytes_in o.content) ≡ b
        → IfOk (holding b NotRegular >>= λ _. holding fits RangeTooBig >>= λ _.
        holding (not writes || is_writable old.exports o) ReadOnly >>= λ _. Ok number) (IsFile old.objects)
    regular number o at false is = tt
    regular number o at true is =
        elim fits as (λ f. IfOk (holding f RangeTooBig >>= λ _.
        holding (not writes || is_writable old.exports o) ReadOnly >>= λ _. Ok number) (IsFile old.objects)) [
          | true ↦ elim (not writes || is_writable old.exports o) as (λ w. IfOk (holding w ReadOnly >>= λ _. Ok number)
              (IsFile old.objects)) [
                | true ↦ record { object = o; lives = at; regular = is }
                | false ↦ tt
              ]
          | false ↦ tt
        ]

    of : (r : Resolved) → resolve old ctx handle ≡ r
        → IfOk (elim r as (λ r. Result ℕ LockFault) [
          | Names number object ↦
              holding (is_ok (bytes_in object.content)) NotRegular >>= λ _.
              holding fits RangeTooBig >>= λ _.
              holding (not writes || is_writable old.exports object) ReadOnly >>= λ _.
              Ok number
          | other ↦ Err StaleHandle
        ]) (IsFile old.objects)
    of BadHandle is = tt
    of Stale is = tt
    of (Names number o) is = regular number o (resolved-lives old ctx handle number o is)
        (is_ok (bytes_in o.content)) refl

-- and its range fits offsets
checked-fits : (old : State) (ctx : Ctx) (handle : List ℕ) (fits writes : Bool)
    → IfOk (file_checked old ctx handle fits writes) (λ file. fits ≡ true)
checked-fits old ctx handle fits writes = of (resolve old ctx handle)
  where
    goes-on : (number : ℕ) (regular writable b : Bool) → fits ≡ b → IfOk (holding regular NotRegular >>= λ _.
        holding b RangeTooBig >>= λ _. holding writable ReadOnly >>= λ _. Ok number) (λ file. fits ≡ true)
    goes-on number false writable b is = tt
    goes-on number true writable false is = tt
    goes-on number true false true is = tt
    goes-on number true true true is = is

    of : (r : Resolved) → IfOk (elim r as (λ r. Result ℕ LockFault) [
      | Names number object ↦
          holding (is_ok (bytes_in object.content)) NotRegular >>= λ _.
          holding fits RangeTooBig >>= λ _.
          holding (not writes || is_writable old.exports object) ReadOnly >>= λ _.
          Ok number
      | other ↦ Err StaleHandle
    ]) (λ file. fits ≡ true)
    of BadHandle = tt
    of Stale = tt
    of (Names number o) =
        goes-on number (is_ok (bytes_in o.content)) (not writes || is_writable old.exports o) fits refl

-- what is asked for and conflicts is a range
asked-range : (l : NlmLock) (locks : List Lock) (mode : Mode) → fits_offsets l ≡ true →
    Conflicts locks (range_of l) mode → IsRange (range_of l)
asked-range l locks mode fits c =
    let within = and_parts (nat_le l.offset c.offset) (nat_le c.offset (range_of l).last) c.is_inside in
    let low : l.offset ≤ c.offset = leb-true l.offset c.offset within.0 in
    let high : c.offset ≤ (range_of l).last = leb-true c.offset (range_of l).last within.1 in
    let sum : l.offset + l.length ≤ 2 ^ 64 = leb-true (l.offset + l.length) (2 ^ 64) fits in record {
      rises = omega (arith, low, high);
      fits = elim (l.length == 0) as (λ b. cond b (2 ^ 64 - 1) (l.offset + l.length - 1) < 2 ^ 64) [
        | true ↦ omega arith
        | false ↦ omega (arith, sum)
      ];
    }

-- one file's locks change, and conflict with nothing
locks-apart : (old : State) (file : ℕ) (locks : List Lock) → NoLocksConflict locks → NoConflict old
    → NoConflict (record old { locks = with_list old.locks file locks })
locks-apart old file locks here h q =
    (each-with old.locks file locks (λ n (l : List Lock). NoLocksConflict l) here (λ n. (h n).0) q, (h q).1)

shares-apart : (old : State) (file : ℕ) (shares : List Share) → NoSharesConflict shares → NoConflict old
    → NoConflict (record old { shares = with_list old.shares file shares })
shares-apart old file shares here h q =
    ((h q).0, each-with old.shares file shares (λ n (l : List Share). NoSharesConflict l) here (λ n. (h n).1) q)

-- a file comes to have other locks, and some of what waited for it is granted
file-granted : (old : State) (file : ℕ) (after : FileLocks) (granted : List Request) (messages : List Message)
    (new : State)
    → Grants old file after granted messages new → (NoConflict old → NoLocksConflict after.locks)
    → (Firm old → Firm (granting old file after granted)) → Untouched old new
file-granted old file after granted messages new g apart firm =
    from old (granting old file after granted) new refl refl refl
    (λ h. locks-apart old file after.locks (apart h) h) firm g.state_is

settled : (old : State) (file : ℕ) (messages : List Message) (new : State) → SettlesFile old file messages new →
    Untouched old new
settled old file messages new s = file-granted old file s.after s.granted messages new s.grants
    (λ h. settles-apart (at_file old file) s.after s.granted s.settles (h file).0)
    (λ f. firm-settled old f file s.after s.granted s.settles)

settled-all : (old : State) (files : List ℕ) (messages : List Message) (new : State) →
    SettleInOrder old files messages new
    → Untouched old new
settled-all old [] messages new (held, none, e) = same old new e
settled-all old (file ∷ files) messages new (rise, mid, first, more, are, settles, rest) =
    joined old mid new (settled old file first mid settles) (settled-all mid files more new rest)

-- the locks of a file change, and then what waits for it is tried
module _ (old : State) (file : ℕ) (r : Range) (mode : Mode) (messages : List Message) (new : State)
    (c : ChangesLocks old file r mode messages new) where
  abbrev changed_file : FileLocks
  changed_file = record (at_file old file) { locks = c.sets.locks }

  changed-apart : (Conflicts (of_file old.locks file) r mode → ⊥) → NoConflict old →
      NoLocksConflict c.after.locks
  changed-apart free h = settles-apart changed_file c.after c.granted c.sets.settles
      (apart-with (of_file old.locks file) r mode free c.sets.locks c.sets.lists (h file).0)

  changed-firm : Firm old → IsFile old.objects file → Firm (granting old file c.after c.granted)
  changed-firm f living =
      firm-granted old f file living changed_file c.after c.granted c.sets.settles c.sets.lists.listed refl

  changed : (Firm old → IsFile old.objects file) → (Conflicts (of_file old.locks file) r mode → ⊥) →
      Untouched old new
  changed living free = file-granted old file c.after c.granted messages new c.grants (changed-apart free)
      (λ f. changed-firm f (living f))

-- the same where its owner's grants within the range end before
changed-ended : (old : State) (file : ℕ) (r : Range) (mode : Mode) (messages : List Message) (new : State) →
    ChangesLocks (ending_grants old file r) file r mode messages new → (Firm old → IsFile old.objects file)
    → (Conflicts (of_file old.locks file) r mode → ⊥) → Untouched old new
changed-ended old file r mode messages new c living free =
    let mid : State = ending_grants old file r in
    from old (granting mid file c.after c.granted) new refl refl refl
    (λ h. locks-apart mid file c.after.locks (changed-apart mid file r mode messages new c free h) h)
    (λ f. changed-firm mid file r mode messages new c (firm-ended old f file r) (living f))
    c.grants.state_is

tested : (old : State) (a : TestArguments) (checked : Result ℕ LockFault) (s : TestStatus) (messages : List Message)
    (new : State) → TestOf old a checked s messages new → Untouched old new
tested old a (Err fault) s messages new step = same old new step.state_is
tested old a (Ok file) s messages new step = same old new step.2

held-up : (old : State) (ctx : Ctx) (a : LockArguments) (by_message : Bool) (file : ℕ) (block waits : Bool)
    (s : NlmStatus)
    (messages : List Message) (new : State) → IsFile old.objects file → IsRange (range_of a.lock)
    → list_any (is_request a.exclusive a.lock) (of_file old.waiting file) ≡ waits
    → HeldUp old ctx a by_message file block waits s messages new → Untouched old new
held-up old ctx a by_message file false waits s messages new living range is step = same old new step.state_is
held-up old ctx a by_message file true true s messages new living range is step = same old new step.state_is
held-up old ctx a by_message file true false s messages new living range is (inl waits) =
    let r : Request = record {
      number = waits.number;
      host = ctx.host;
      exclusive = a.exclusive;
      asked = a.lock;
      by_message = by_message;
    } in
    from old _ new refl refl refl (λ h. h)
    (λ f. firm-waits old f file living r range waits.suits is waits.unspent) waits.answers.state_is
held-up old ctx a by_message file true false s messages new living range is (inr none) =
    same old new none.1.state_is

locked : (old : State) (ctx : Ctx) (a : LockArguments) (by_message : Bool) (checked : Result ℕ LockFault)
    (s : NlmStatus)
    (messages : List Message) (new : State) → IfOk checked (IsFile old.objects)
    → IfOk checked (λ file. fits_offsets a.lock ≡ true)
    → LockOf old ctx a by_message checked s messages new → Untouched old new
locked old ctx a by_message (Err fault) s messages new living fits step = same old new step.state_is
locked old ctx a by_message (Ok file) s messages new living fits (inl free) =
    changed-ended old file (range_of a.lock) (Some a.exclusive) messages new free.2 (λ f. living) free.0
locked old ctx a by_message (Ok file) s messages new living fits (inr held) =
    held-up old ctx a by_message file a.block (list_any (is_request a.exclusive a.lock) (of_file old.waiting file)) s
    messages new living (asked-range a.lock (of_file old.locks file) (Some a.exclusive) fits held.0) refl held.1

cancels : (old : State) (file : ℕ) (goes : Request → Bool) (some : Bool) (s : NlmStatus) (messages : List Message)
    (new : State) → Cancels old file goes some s messages new → Untouched old new
cancels old file goes true s messages new step = from old _ new refl refl refl (λ h. h)
    (λ f. firm-cancelled old f file (λ (r : Request). not (goes r))) step.state_is
cancels old file goes false s messages new step = same old new step.state_is

cancelled : (old : State) (a : CancelArguments) (checked : Result ℕ LockFault) (s : NlmStatus)
    (messages : List Message)
    (new : State) → CancelOf old a checked s messages new → Untouched old new
cancelled old a (Err fault) s messages new step = same old new step.state_is
cancelled old a (Ok file) s messages new step =
    cancels old file (is_request a.exclusive a.lock)
    (list_any (is_request a.exclusive a.lock) (of_file old.waiting file)) s messages new step

unlocked : (old : State) (a : UnlockArguments) (checked : Result ℕ LockFault) (s : NlmStatus)
    (messages : List Message)
    (new : State) → IfOk checked (IsFile old.objects) → UnlockOf old a checked s messages new → Untouched old new
unlocked old a (Err fault) s messages new living step = same old new step.state_is
unlocked old a (Ok file) s messages new living step =
    changed-ended old file (range_of a.lock) None messages new step.1 (λ f. living)
    (unlocking-free (of_file old.locks file) (range_of a.lock))

answered : (old : State) (number : ℕ) (found : Option PendingGrant) (s : NlmStatus) (messages : List Message)
    (new : State)
    → ((grant : PendingGrant) → found ≡ Some grant → get old.granted number ≡ Some grant)
    → GrantEnds old number found s messages new → Untouched old new
answered old number None s messages new there step = same old new step.1
answered old number (Some grant) status.Granted messages new there step =
    from old _ new refl refl refl (λ h. h) (λ f. firm-answered old f number) step.1
answered old number (Some grant) s messages new there step =
    let mid : State = record old { granted = remove old.granted number } in
    let r : Range = requested grant.request in
    from old (granting mid grant.file step.after step.granted) new refl refl refl
    (λ h. locks-apart mid grant.file step.after.locks
    (changed-apart mid grant.file r None messages new step (unlocking-free (of_file old.locks grant.file) r) h) h)
    (λ f. changed-firm mid grant.file r None messages new step (firm-answered old f number)
    (f.pending number grant (there grant refl)).file)
    step.grants.state_is

-- a share in the place of the sharer's own
sharers-with : (share : Share) (shares : List Share) → IsDistinct same_sharer shares →
    IsDistinct same_sharer (one.shared share shares)
sharers-with share shares once =
    let stay : Share → Bool = λ (other : Share). not (same_sharer share other) in
    distinct-last same_sharer (filter stay shares) share
    (all-mapped (λ (other : Share). stay other ≡ true) (λ (other : Share). same_sharer other share ≡ false)
    (filter stay shares) (λ other stays. sharer-back other share ∙ denied (same_sharer share other) stays)
    (passes-left stay shares))
    (distinct-left same_sharer stay shares once)
  where
    denied : (b : Bool) → not b ≡ true → b ≡ false
    denied true e = cc
    denied false e = refl

share-untouched : (old : State) (file : ℕ) (share : Share) (conflicts : Bool) (s : NlmStatus)
    (messages : List Message)
    (new : State) → IsFile old.objects file →
    one.is_denied share (of_file old.shares file) ≡ conflicts
    → ShareAnswers old file share conflicts s messages new → Untouched old new
share-untouched old file share true s messages new living is step = same old new step.state_is
share-untouched old file share false s messages new living is step =
    let shares : List Share = one.shared share (of_file old.shares file) in
    from old _ new refl refl refl
    (λ h. shares-apart old file shares (shares-with (λ (other : Share). not (same_sharer share other)) share
    (of_file old.shares file) is (h file).1) h)
    (λ f. firm-shares old f file living shares (sharers-with share (of_file old.shares file) (f.sharers file)))
    step.state_is

shared : (old : State) (asked : NlmShare) (checked : Result ℕ LockFault) (s : NlmStatus) (messages : List Message)
    (new : State) → IfOk checked (IsFile old.objects) → ShareOf old asked checked s messages new →
    Untouched old new
shared old asked (Err fault) s messages new living step = same old new step.state_is
shared old asked (Ok file) s messages new living step =
    share-untouched old file (share_of asked) (one.is_denied (share_of asked) (of_file old.shares file)) s
    messages new living refl step

unshared : (old : State) (asked : NlmShare) (checked : Result ℕ LockFault) (s : NlmStatus) (messages : List Message)
    (new : State) → IfOk checked (IsFile old.objects) → UnshareOf old asked checked s messages new →
    Untouched old new
unshared old asked (Err fault) s messages new living step = same old new step.state_is
unshared old asked (Ok file) s messages new living step =
    let stay : Share → Bool = λ (other : Share). not (same_sharer (share_of asked) other) in
    let shares : List Share = filter stay (of_file old.shares file) in
    from old _ new refl refl refl
    (λ h. shares-apart old file shares (shares-left stay (of_file old.shares file) (h file).1) h)
    (λ f. firm-shares old f file living shares (distinct-left same_sharer stay (of_file old.shares file)
    (f.sharers file)))
    step.state_is

-- the locks of a file without those of a caller
freed-apart : (name : List ℕ) (new : ℕ → List Lock) (file : ℕ) (o : Option (List Lock))
    → HasModes (new file) (modes_without (unwrap_or o []) name) → NoLocksConflict (unwrap_or o [])
    → NoLocksConflict (unwrap_or (remade (λ q _. new q) file o) [])
freed-apart name new file None lists h = λ a b offset other. refl
freed-apart name new file (Some list) lists h =
    subst NoLocksConflict (sym (kept-is (new file))) (apart-without list name (new file) lists h)

freed : (old : State) (name : List ℕ) (messages : List Message) (new : State) → Frees old name messages new →
    Untouched old new
freed old name messages new f =
    joined old (freed_with old name f.locks) new (record {
      objects = refl;
      spent = refl;
      mounts = refl;
      exports = record { exports = refl; last = refl };
      apart = λ h q. (
        subst (λ o. NoLocksConflict (unwrap_or o [])) (sym (get-relisted (λ file _. f.locks file) old.locks q))
            (freed-apart name f.locks q (get old.locks q) (f.lists q) (h q).0),
        each-relisted (λ file. one.shares_without name) old.shares
            (λ n (l : List Share). NoSharesConflict l) (λ n. tt)
            (λ n shares. shares-left (λ (s : Share). not (same_bytes s.caller_name name))
            (of_file old.shares n) shares)
            (λ n. (h n).1) q,
      );
      firm = λ firm. firm-freed old firm f.locks (λ file. (f.lists file).listed)
          (λ (s : Share). same_bytes s.caller_name name) (λ (r : Request). same_bytes r.asked.caller_name name)
          (λ (g : PendingGrant). same_bytes g.request.asked.caller_name name);
    })
    (settled-all (freed_with old name f.locks) f.files messages new f.settle)

pub nlm-touches : (old : State) (ctx : Ctx) (call : NlmCall) (reply : NlmReply) (messages : List Message) (new : State)
    → NlmStep old ctx call reply messages new → Untouched old new
unfolding NlmStep
nlm-touches old ctx calls.Null reply messages new step = same old new step.state_is
nlm-touches old ctx (calls.Test a) reply messages new step =
    tested old a (lock_checked old ctx false a.lock) step.0 messages new step.1
nlm-touches old ctx (calls.Lock a) reply messages new step =
    locked old ctx a false (lock_checked old ctx a.exclusive a.lock) step.0 messages new
    (checked-file old ctx a.lock.file (fits_offsets a.lock) a.exclusive)
    (checked-fits old ctx a.lock.file (fits_offsets a.lock) a.exclusive) step.1
nlm-touches old ctx (calls.Cancel a) reply messages new step =
    cancelled old a (lock_checked old ctx false a.lock) step.0 messages new step.1
nlm-touches old ctx (calls.Unlock a) reply messages new step =
    unlocked old a (lock_checked old ctx false a.lock) step.0 messages new
    (checked-file old ctx a.lock.file (fits_offsets a.lock) false) step.1
nlm-touches old ctx (calls.Granted a) reply messages new step = same old new step.1.state_is
nlm-touches old ctx (calls.TestMsg a) reply messages new step =
    tested old a (lock_checked old ctx false a.lock) step.0 step.1 new step.2
nlm-touches old ctx (calls.LockMsg a) reply messages new step =
    locked old ctx a true (lock_checked old ctx a.exclusive a.lock) step.0 step.1 new
    (checked-file old ctx a.lock.file (fits_offsets a.lock) a.exclusive)
    (checked-fits old ctx a.lock.file (fits_offsets a.lock) a.exclusive) step.2
nlm-touches old ctx (calls.CancelMsg a) reply messages new step =
    cancelled old a (lock_checked old ctx false a.lock) step.0 step.1 new step.2
nlm-touches old ctx (calls.UnlockMsg a) reply messages new step =
    unlocked old a (lock_checked old ctx false a.lock) step.0 step.1 new
    (checked-file old ctx a.lock.file (fits_offsets a.lock) false) step.2
nlm-touches old ctx (calls.GrantedMsg a) reply messages new step = same old new step.2.state_is
nlm-touches old ctx (calls.TestRes r) reply messages new step = same old new step.state_is
nlm-touches old ctx (calls.LockRes r) reply messages new step = same old new step.state_is
nlm-touches old ctx (calls.CancelRes r) reply messages new step = same old new step.state_is
nlm-touches old ctx (calls.UnlockRes r) reply messages new step = same old new step.state_is
nlm-touches old ctx (calls.GrantedRes r) reply messages new step =
    let number : ℕ = from_be_bytes w64 r.cookie in let found = get old.granted number in
    answered old number (if is_answered ctx.host r.cookie number found then found else None) r.status messages new
    (λ grant is. found-pending old ctx.host r.cookie number found refl grant is) step.1
nlm-touches old ctx (calls.Share a) reply messages new step =
    let writes = denies mode.DenyWrite a.share.access in
    shared old a.share (file_checked old ctx a.share.file true writes) step.0 messages new
    (checked-file old ctx a.share.file true writes) step.1
nlm-touches old ctx (calls.Unshare a) reply messages new step =
    unshared old a.share (file_checked old ctx a.share.file true false) step.0 messages new
    (checked-file old ctx a.share.file true false) step.1
nlm-touches old ctx (calls.NmLock a) reply messages new step =
    locked old ctx a false (lock_checked old ctx a.exclusive a.lock) step.0 messages new
    (checked-file old ctx a.lock.file (fits_offsets a.lock) a.exclusive)
    (checked-fits old ctx a.lock.file (fits_offsets a.lock) a.exclusive) step.1
nlm-touches old ctx (calls.FreeAll a) reply messages new step = freed old a.name messages new step.1
