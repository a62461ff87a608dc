-- After a LOCK that is granted, or an UNLOCK, what is pending of its owner within its range was granted by it.
use Rattle.std.proofs.Common.{◌≡◌, ◌==◌, ◌&&◌, ◌⊎◌, ℕ, zero, Bool, true, false, cond, List, [], ◌∷◌, Some}
use Rattle.std.proofs.Common.{None, IfOk, Result, Ok, Err, inl, inr, map, sym, ◌∙◌, ap, subst, arith}
use Rattle.std.proofs.lemmas.List.Elements.{Contains-append_right}
use Rattle.std.specs.Cmp.{unsigned_Decides}
use Rattle.std.specs.FinMap.{FinMap, get, insert}
use Rattle.std.specs.List.{Contains, list_any}
use Rattle.std.specs.Ordering.{nat_cmp}
use Rattle.side_wire.specs.declared.message.Message.{Message}
use Rattle.side_wire.specs.declared.nlm.LockArguments.{LockArguments}
use Rattle.side_wire.specs.declared.nlm.NlmStatus.TheVariants as status
use Rattle.side_wire.specs.declared.nlm.UnlockArguments.{UnlockArguments}
use Rattle.nfs_machine.specs.FileLists.{of_file}
use Rattle.nfs_machine.specs.Grants.{ChangesLocks, ending_grants, grant_message, with_grants}
use Rattle.nfs_machine.specs.Locks.{Mode, lies_within, range_of}
use Rattle.nfs_machine.specs.LockLaws.{AreTold, LocksEndGrants, UnlocksEndGrants}
use Rattle.nfs_machine.specs.LockSteps.{HeldUp, LockFault, is_request, lock_checked}
use Rattle.nfs_machine.specs.OneFile.{requested}
use Rattle.nfs_machine.specs.State.{PendingGrant, Range, Request, State}
use Rattle.nfs_machine.specs.declared.context.Ctx.{Ctx}
use Rattle.nfs_machine.proofs.MapChangeLemmas.{differs-insert}
use Rattle.nfs_machine.proofs.NlmChecksLemmas.{LockOf, UnlockOf}
use Rattle.nfs_machine.proofs.FileMapLemmas.{grants-left}

abbrev tells : Request → Message
tells = grant_message

-- what is pending is told of, or was pending
told : (file : ℕ) (granted : List Request) (base : FinMap nat_cmp PendingGrant) (n : ℕ) (g : PendingGrant)
    → get (with_grants base file granted) n ≡ Some g
    → Contains (map tells granted) (tells g.request) ⊎ (get base n ≡ Some g)
told file [] base n g at = inr at
told file (r ∷ granted) base n g at =
    let one : PendingGrant = record { file = file; request = r } in
    elim (told file granted (insert base r.number one) n g at) [
      | inl has ↦ inl (Contains-append_right (tells r ∷ []) (map tells granted) (tells g.request) has)
      | inr was ↦ elim (n == r.number) as (λ b. cond b (Some one) (get base n) ≡ Some g →
          Contains (tells r ∷ map tells granted) (tells g.request) ⊎ (get base n ≡ Some g)) [
            | true ↦ λ same.
                (let is : one ≡ g = cc in inl (zero, omega arith, ap (λ (x : PendingGrant). tells x.request) is))
            | false ↦ λ before. inr before
          ] (sym (differs-insert base r.number one n) ∙ was)
    ]

-- the grants that end are none of those that are left
ended-told : (old : State) (file : ℕ) (r : Range) (mode : Mode) (messages : List Message) (new : State)
    → ChangesLocks (ending_grants old file r) file r mode messages new → AreTold new file r messages
ended-told old file r mode messages new c n g at here part =
    let mid : State = ending_grants old file r in
    let ends : PendingGrant → Bool = λ (x : PendingGrant). (x.file == file) && lies_within r (requested x.request) in
    let now : get (with_grants mid.granted file c.granted) n ≡ Some g =
    ap (λ (m : State). get m.granted n) (sym c.grants.state_is) ∙ at in
    elim (told file c.granted mid.granted n g now) [
      | inl has ↦ subst (λ ms. Contains ms (tells g.request)) (sym c.grants.messages_are) has
      | inr was ↦
          (let left = grants-left ends old.granted n g was in
          let no : true ≡ false = (λ i. sym ((unsigned_Decides g.file file).1 here) i && sym part i) ∙ left.1 in
          absurd cc)
    ]

-- what waits is not granted
never-granted : (old : State) (ctx : Ctx) (a : LockArguments) (by_message : Bool) (file : ℕ) (block waits : Bool)
    (messages : List Message) (new : State)
    → HeldUp old ctx a by_message file block waits status.Granted messages new → ⊥
never-granted old ctx a by_message file false waits messages new step =
    let no : status.Granted ≡ status.Denied = step.reply_is in cc
never-granted old ctx a by_message file true true messages new step =
    let no : status.Granted ≡ status.Blocked = step.reply_is in cc
never-granted old ctx a by_message file true false messages new (inl waits) =
    let no : status.Granted ≡ status.Blocked = waits.answers.reply_is in cc
never-granted old ctx a by_message file true false messages new (inr none) =
    let no : status.Granted ≡ status.DeniedNoLocks = none.1.reply_is in cc

lock-told : (old : State) (ctx : Ctx) (a : LockArguments) (by_message : Bool) (checked : Result ℕ LockFault)
    (messages : List Message) (new : State) → LockOf old ctx a by_message checked status.Granted messages new
    → IfOk checked (λ file. AreTold new file (range_of a.lock) messages)
lock-told old ctx a by_message (Err fault) messages new step = tt
lock-told old ctx a by_message (Ok file) messages new (inl free) =
    ended-told old file (range_of a.lock) (Some a.exclusive) messages new free.2
lock-told old ctx a by_message (Ok file) messages new (inr held) =
    absurd (never-granted old ctx a by_message file a.block
    (list_any (is_request a.exclusive a.lock) (of_file old.waiting file)) messages new held.1)

unlock-told : (old : State) (a : UnlockArguments) (checked : Result ℕ LockFault) (messages : List Message)
    (new : State) → UnlockOf old a checked status.Granted messages new
    → IfOk checked (λ file. AreTold new file (range_of a.lock) messages)
unlock-told old a (Err fault) messages new step = tt
unlock-told old a (Ok file) messages new step = ended-told old file (range_of a.lock) None messages new step.1

pub locks_end_grants : LocksEndGrants
locks_end_grants old ctx a by_message messages new step =
    lock-told old ctx a by_message (lock_checked old ctx a.exclusive a.lock) messages new step

pub unlocks_end_grants : UnlocksEndGrants
unlocks_end_grants old ctx a messages new step =
    unlock-told old a (lock_checked old ctx false a.lock) messages new step
