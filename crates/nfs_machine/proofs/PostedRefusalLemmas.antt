-- What a MSG call of NLM is refused by stands last in its messages, and nothing else was put or changed; the messages
-- of other calls are grants.
use Rattle.std.proofs.Common.{◌≡◌, ℕ, Bool, true, false, cond, if◌then◌else◌, List, [], ◌∷◌}
use Rattle.std.proofs.Common.{◌++◌, Option, Some, None, Result, Ok, Err, inl, inr, refl, sym, ◌∙◌}
use Rattle.std.proofs.Common.{ap, map, subst}
use Rattle.std.specs.FinMap.{get, remove}
use Rattle.std.specs.Int.{w64, from_be_bytes}
use Rattle.std.specs.List.{AllByRecursion, list_any}
use Rattle.side_wire.specs.declared.message.Callback.{Callback}
use Rattle.side_wire.specs.declared.message.Callback.TheVariants as callbacks
use Rattle.side_wire.specs.declared.message.Message.{Message}
use Rattle.side_wire.specs.declared.nlm.CancelArguments.{CancelArguments}
use Rattle.side_wire.specs.declared.nlm.LockArguments.{LockArguments}
use Rattle.side_wire.specs.declared.nlm.NlmCall.TheVariants as nlm
use Rattle.side_wire.specs.declared.nlm.NlmReply.{NlmReply}
use Rattle.side_wire.specs.declared.nlm.NlmReply.TheVariants as nlm_replies
use Rattle.side_wire.specs.declared.nlm.NlmShare.{NlmShare}
use Rattle.side_wire.specs.declared.nlm.NlmStatus.{NlmStatus}
use Rattle.side_wire.specs.declared.nlm.NlmStatus.TheVariants as status
use Rattle.side_wire.specs.declared.nlm.ShareMode.TheVariants as mode
use Rattle.side_wire.specs.declared.nlm.TestArguments.{TestArguments}
use Rattle.side_wire.specs.declared.nlm.UnlockArguments.{UnlockArguments}
use Rattle.nfs_machine.specs.Answers.{Answers}
use Rattle.nfs_machine.specs.Grants.{ChangesLocks, SettleInOrder, ending_grants, grant_cookie, grant_message}
use Rattle.nfs_machine.specs.OneFile.{requested}
use Rattle.nfs_machine.specs.Locks.{Mode, denies, range_of}
use Rattle.nfs_machine.specs.FileLists.{of_file}
use Rattle.nfs_machine.specs.LockSteps.{CancelEnds, GrantEnds, HeldUp, LockEnds, LockFault, TestEnds, UnlockEnds}
use Rattle.nfs_machine.specs.LockSteps.{file_checked, freed_with, is_answered, is_request, lock_checked}
use Rattle.nfs_machine.specs.NlmSteps.{NlmStep, Posts, result_with}
use Rattle.nfs_machine.specs.SideLaws.{PostedRefusalsChangeNothing, is_posted_refusal}
use Rattle.nfs_machine.specs.State.{PendingGrant, Range, Request, State}
use Rattle.nfs_machine.specs.declared.context.Ctx.{Ctx}
use Rattle.nfs_machine.proofs.NlmChecksLemmas.{CancelOf, LockOf, ShareOf, UnlockOf, UnshareOf}
use Rattle.nfs_machine.proofs.ModesLemmas.{all-joined}
use Rattle.nfs_machine.proofs.SideReplyLemmas.{cancel-unchanged, lock-unchanged, test-unchanged, unlock-unchanged}

-- ---- messages that are no refusals
abbrev IsGrant : Message → Type 0
IsGrant x = is_posted_refusal x.call ≡ false

none-posted : {A : Type 0} (earlier : List Message) (x : Message) → earlier ++ x ∷ [] ≡ [] → A
none-posted [] x e = cc
none-posted (y ∷ ys) x e = cc

last-of : (earlier : List Message) (x : Message) → AllByRecursion IsGrant (earlier ++ x ∷ []) → IsGrant x
last-of [] x all = all.0
last-of (y ∷ ys) x all = last-of ys x all.1

no-refusal : {A : Type 0} (earlier : List Message) (x : Message) → AllByRecursion IsGrant (earlier ++ x ∷ []) →
    is_posted_refusal x.call ≡ true → A
no-refusal earlier x all e = (let no : false ≡ true = sym (last-of earlier x all) ∙ e in cc)

none : (messages : List Message) → messages ≡ [] → AllByRecursion IsGrant messages
none messages e = subst (AllByRecursion IsGrant) (sym e) tt

grant-is : (r : Request) → IsGrant (grant_message r)
grant-is r =
    let arguments : TestArguments = record { cookie = grant_cookie r.number; exclusive = r.exclusive; lock = r.asked }
    in
    elim r.by_message as
    (λ b. is_posted_refusal ((cond b callbacks.GrantedMsg callbacks.Granted) arguments) ≡ false) [
      | true ↦ refl
      | false ↦ refl
    ]

grants-are : (granted : List Request) → AllByRecursion IsGrant (map grant_message granted)
grants-are [] = tt
grants-are (r ∷ granted) = (grant-is r, grants-are granted)

settled-all : (old : State) (files : List ℕ) (messages : List Message) (new : State) →
    SettleInOrder old files messages new → AllByRecursion IsGrant messages
settled-all old [] messages new step = none messages step.1
settled-all old (file ∷ files) messages new (rise, mid, first, more, are, settles, rest) =
    subst (AllByRecursion IsGrant) (sym are)
    (all-joined IsGrant first more (subst (AllByRecursion IsGrant) (sym settles.grants.messages_are)
    (grants-are settles.granted)) (settled-all mid files more new rest))

held : (old : State) (ctx : Ctx) (a : LockArguments) (by_message : Bool) (file : ℕ) (block waits : Bool)
    (s : NlmStatus)
    (messages : List Message) (new : State) → HeldUp old ctx a by_message file block waits s messages new
    → AllByRecursion IsGrant messages
held old ctx a by_message file false waits s messages new step = none messages step.no_message
held old ctx a by_message file true true s messages new step = none messages step.no_message
held old ctx a by_message file true false s messages new (inl waits) = none messages waits.answers.no_message
held old ctx a by_message file true false s messages new (inr full) = none messages full.1.no_message

changed : (old : State) (file : ℕ) (r : Range) (mode : Mode) (messages : List Message) (new : State)
    → ChangesLocks old file r mode messages new → AllByRecursion IsGrant messages
changed old file r mode messages new c =
    subst (AllByRecursion IsGrant) (sym c.grants.messages_are) (grants-are c.granted)

locked : (old : State) (ctx : Ctx) (a : LockArguments) (by_message : Bool) (checked : Result ℕ LockFault)
    (s : NlmStatus)
    (messages : List Message) (new : State) → LockOf old ctx a by_message checked s messages new
    → AllByRecursion IsGrant messages
locked old ctx a by_message (Err fault) s messages new step = none messages step.no_message
locked old ctx a by_message (Ok file) s messages new (inl free) =
    changed (ending_grants old file (range_of a.lock)) file (range_of a.lock) (Some a.exclusive) messages new free.2
locked old ctx a by_message (Ok file) s messages new (inr up) =
    held old ctx a by_message file a.block (list_any (is_request a.exclusive a.lock) (of_file old.waiting file)) s
    messages new up.1

cancelled : (old : State) (a : CancelArguments) (checked : Result ℕ LockFault) (s : NlmStatus)
    (messages : List Message)
    (new : State) → CancelOf old a checked s messages new → messages ≡ []
cancelled old a (Err fault) s messages new step = step.no_message
cancelled old a (Ok file) s messages new step = step.no_message

unlocked : (old : State) (a : UnlockArguments) (checked : Result ℕ LockFault) (s : NlmStatus)
    (messages : List Message)
    (new : State) → UnlockOf old a checked s messages new → AllByRecursion IsGrant messages
unlocked old a (Err fault) s messages new step = none messages step.no_message
unlocked old a (Ok file) s messages new step =
    changed (ending_grants old file (range_of a.lock)) file (range_of a.lock) None messages new step.1

answered : (old : State) (number : ℕ) (found : Option PendingGrant) (s : NlmStatus) (messages : List Message)
    (new : State)
    → GrantEnds old number found s messages new → AllByRecursion IsGrant messages
answered old number None s messages new step = none messages step.0
answered old number (Some grant) status.Granted messages new step = none messages step.0
answered old number (Some grant) s messages new step =
    changed (record old { granted = remove old.granted number }) grant.file
    (requested grant.request) None messages new step

shared : (old : State) (asked : NlmShare) (checked : Result ℕ LockFault) (s : NlmStatus) (messages : List Message)
    (new : State) → ShareOf old asked checked s messages new → messages ≡ []
shared old asked (Err fault) s messages new step = step.no_message
shared old asked (Ok file) s messages new step = step.no_message

unshared : (old : State) (asked : NlmShare) (checked : Result ℕ LockFault) (s : NlmStatus) (messages : List Message)
    (new : State) → UnshareOf old asked checked s messages new → messages ≡ []
unshared old asked (Err fault) s messages new step = step.no_message
unshared old asked (Ok file) s messages new step = step.no_message

-- ---- a message that is put last
last-same : (xs ys : List Message) (x y : Message) → xs ++ x ∷ [] ≡ ys ++ y ∷ [] → (xs ≡ ys) × (x ≡ y)
last-same [] [] x y e = (refl, cc)
last-same [] (z ∷ zs) x y e = (let none-left : zs ++ y ∷ [] ≡ [] = cc in none-posted zs y none-left)
last-same (z ∷ zs) [] x y e = (let none-left : zs ++ x ∷ [] ≡ [] = cc in none-posted zs x none-left)
last-same (z ∷ zs) (w ∷ ws) x y e =
    let heads : z ≡ w = cc in
    let tails : zs ++ x ∷ [] ≡ ws ++ y ∷ [] = cc in
    let same = last-same zs ws x y tails in
    let fronts : zs ≡ ws = same.0 in
    (cc, same.1)

module _ (old new : State) (reply : NlmReply) (earlier : List Message) (posted : Message)
    (e : is_posted_refusal posted.call ≡ true) where
  unchanged : {Status : Type 0} (Ends : Status → List Message → State → Type 0) (host : List ℕ)
      (result_of : Status → Callback) (void : NlmReply)
      → ((s : Status) (granted : List Message) → Ends s granted new → is_posted_refusal (result_of s) ≡ true →
      (new ≡ old) × (granted ≡ []))
      → Posts Ends host result_of void reply (earlier ++ posted ∷ []) new → (new ≡ old) × (earlier ≡ [])
  unchanged Ends host result_of void ends (s, granted, step, is, messages) =
      let same = last-same earlier granted posted (record { host = host; call = result_of s }) messages in
      let nothing = ends s granted step (sym (ap (λ (x : Message). is_posted_refusal x.call) same.1) ∙ e) in
      (nothing.0, same.0 ∙ nothing.1)

pub posted_refusals_unchanged : PostedRefusalsChangeNothing
unfolding NlmStep
posted_refusals_unchanged old ctx nlm.Null reply earlier posted new step e = none-posted earlier posted step.no_message
posted_refusals_unchanged old ctx (nlm.Test a) reply earlier posted new step e =
    none-posted earlier posted
    (test-unchanged old a (lock_checked old ctx false a.lock) step.0 (earlier ++ posted ∷ []) new step.1).1
posted_refusals_unchanged old ctx (nlm.Lock a) reply earlier posted new step e =
    no-refusal earlier posted
    (locked old ctx a false (lock_checked old ctx a.exclusive a.lock) step.0 (earlier ++ posted ∷ []) new step.1)
    e
posted_refusals_unchanged old ctx (nlm.Cancel a) reply earlier posted new step e =
    none-posted earlier posted
    (cancelled old a (lock_checked old ctx false a.lock) step.0 (earlier ++ posted ∷ []) new step.1)
posted_refusals_unchanged old ctx (nlm.Unlock a) reply earlier posted new step e =
    no-refusal earlier posted
    (unlocked old a (lock_checked old ctx false a.lock) step.0 (earlier ++ posted ∷ []) new step.1) e
posted_refusals_unchanged old ctx
    (nlm.Granted a) reply earlier posted new step e = none-posted earlier posted step.1.no_message
posted_refusals_unchanged old ctx (nlm.TestMsg a) reply earlier posted new step e =
    unchanged old new reply earlier posted e (TestEnds old ctx a) _ _ _
    (λ s granted ends refused. test-unchanged old a (lock_checked old ctx false a.lock) s granted new ends) step
posted_refusals_unchanged old ctx (nlm.LockMsg a) reply earlier posted new step e =
    unchanged old new reply earlier posted e (LockEnds old ctx a true) _ _ _
    (λ s granted ends refused. lock-unchanged old ctx a true
    (lock_checked old ctx a.exclusive a.lock) s granted new ends refused) step
posted_refusals_unchanged old ctx (nlm.CancelMsg a) reply earlier posted new step e =
    unchanged old new reply earlier posted e (CancelEnds old ctx a) _ _ _
    (λ s granted ends refused. cancel-unchanged old a
    (lock_checked old ctx false a.lock) s granted new ends refused) step
posted_refusals_unchanged old ctx (nlm.UnlockMsg a) reply earlier posted new step e =
    unchanged old new reply earlier posted e (UnlockEnds old ctx a) _ _ _
    (λ s granted ends refused. unlock-unchanged old a
    (lock_checked old ctx false a.lock) s granted new ends refused) step
posted_refusals_unchanged old ctx (nlm.GrantedMsg a) reply earlier posted new step e =
    unchanged old new reply earlier posted e (Answers status.Denied old) ctx.host
    (λ s. callbacks.GrantedRes (result_with a.cookie s)) nlm_replies.GrantedMsg
    (λ s granted ends refused. (ends.state_is, ends.no_message)) step
posted_refusals_unchanged old ctx
    (nlm.TestRes r) reply earlier posted new step e = none-posted earlier posted step.no_message
posted_refusals_unchanged old ctx
    (nlm.LockRes r) reply earlier posted new step e = none-posted earlier posted step.no_message
posted_refusals_unchanged old ctx
    (nlm.CancelRes r) reply earlier posted new step e = none-posted earlier posted step.no_message
posted_refusals_unchanged old ctx
    (nlm.UnlockRes r) reply earlier posted new step e = none-posted earlier posted step.no_message
posted_refusals_unchanged old ctx (nlm.GrantedRes r) reply earlier posted new step e =
    let number : ℕ = from_be_bytes w64 r.cookie in let found = get old.granted number in
    no-refusal earlier posted (answered old number (if is_answered ctx.host r.cookie number found then found else None)
    r.status (earlier ++ posted ∷ []) new step.1) e
posted_refusals_unchanged old ctx (nlm.Share a) reply earlier posted new step e =
    none-posted earlier posted
    (shared old a.share (file_checked old ctx a.share.file true (denies mode.DenyWrite a.share.access)) step.0
    (earlier ++ posted ∷ []) new step.1)
posted_refusals_unchanged old ctx (nlm.Unshare a) reply earlier posted new step e =
    none-posted earlier posted
    (unshared old a.share (file_checked old ctx a.share.file true false) step.0
    (earlier ++ posted ∷ []) new step.1)
posted_refusals_unchanged old ctx (nlm.NmLock a) reply earlier posted new step e =
    no-refusal earlier posted
    (locked old ctx a false (lock_checked old ctx a.exclusive a.lock) step.0 (earlier ++ posted ∷ []) new step.1)
    e
posted_refusals_unchanged old ctx (nlm.FreeAll a) reply earlier posted new step e =
    no-refusal earlier posted
    (settled-all (freed_with old a.name (step.1).locks) (step.1).files (earlier ++ posted ∷ []) new
    (step.1).settle) e
