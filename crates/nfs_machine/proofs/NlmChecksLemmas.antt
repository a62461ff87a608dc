-- What calls of NLM come to, over any outcome of their checks.
use Rattle.std.proofs.Common.{◌≡◌, ℕ, Bool, true, false, List, [], Option, Some, None}
use Rattle.std.proofs.Common.{Result}
use Rattle.std.proofs.Common.{if◌then◌else◌, ◌⊎◌}
use Rattle.std.specs.FinMap.{get}
use Rattle.std.specs.List.{list_any}
use Rattle.side_wire.specs.declared.message.Message.{Message}
use Rattle.side_wire.specs.declared.nlm.CancelArguments.{CancelArguments}
use Rattle.side_wire.specs.declared.nlm.LockArguments.{LockArguments}
use Rattle.side_wire.specs.declared.nlm.NlmShare.{NlmShare}
use Rattle.side_wire.specs.declared.nlm.NlmStatus.{NlmStatus}
use Rattle.side_wire.specs.declared.nlm.NlmStatus.TheVariants as status
use Rattle.side_wire.specs.declared.nlm.TestArguments.{TestArguments}
use Rattle.side_wire.specs.declared.nlm.TestStatus.{TestStatus}
use Rattle.side_wire.specs.declared.nlm.UnlockArguments.{UnlockArguments}
use Rattle.nfs_machine.specs.Answers.{Answers}
use Rattle.nfs_machine.specs.FileLists.{all_but, of_file, with_list}
use Rattle.nfs_machine.specs.Grants.{ChangesLocks, ending_grants}
use Rattle.nfs_machine.specs.Locks.{Conflicts, range_of}
use Rattle.nfs_machine.specs.LockSteps.{Checked, HeldUp, LockFault, Tests, is_answered, is_request, nlm_status_of}
use Rattle.nfs_machine.specs.LockSteps.{share_of, test_status_of}
use Rattle.nfs_machine.specs.OneFile.{is_denied, shared, unshared}
use Rattle.nfs_machine.specs.State.{PendingGrant, Request, Share, State}
use Rattle.nfs_machine.specs.declared.context.Ctx.{Ctx}

abbrev pub TestOf : State → TestArguments → Result ℕ LockFault → TestStatus → List Message → State →
    Type 0
TestOf old a checked = Checked test_status_of old checked (λ file s messages new.
    Tests (of_file old.locks file) (range_of a.lock) (Some a.exclusive) s × (messages ≡ []) × (new ≡ old))

abbrev pub LockOf : State → Ctx → LockArguments → Bool → Result ℕ LockFault → NlmStatus → List Message →
    State → Type 0
LockOf old ctx a by_message checked = Checked nlm_status_of old checked (λ file s messages new.
    let Stands = Conflicts (of_file old.locks file) (range_of a.lock) (Some a.exclusive) in
    ((Stands → ⊥) × (s ≡ status.Granted) ×
    ChangesLocks (ending_grants old file (range_of a.lock)) file (range_of a.lock) (Some a.exclusive) messages new)
    ⊎ (Stands × HeldUp old ctx a by_message file a.block
    (list_any (is_request a.exclusive a.lock) (of_file old.waiting file)) s messages new))

abbrev pub Cancels : State → (file : ℕ) → (Request → Bool) → (cancels : Bool) → NlmStatus →
    List Message → State → Type 0
Cancels old file goes cancels = Answers (if cancels then status.Granted else status.Denied)
    (if cancels then record old { waiting = with_list old.waiting file (all_but goes (of_file old.waiting file)) } else
    old)

abbrev pub CancelOf : State → CancelArguments → Result ℕ LockFault → NlmStatus → List Message → State →
    Type 0
CancelOf old a checked = Checked nlm_status_of old checked (λ file. Cancels old file (is_request a.exclusive a.lock)
    (list_any (is_request a.exclusive a.lock) (of_file old.waiting file)))

abbrev pub UnlockOf : State → UnlockArguments → Result ℕ LockFault → NlmStatus → List Message → State →
    Type 0
UnlockOf old a checked = Checked nlm_status_of old checked (λ file s messages new.
    (s ≡ status.Granted) ×
    ChangesLocks (ending_grants old file (range_of a.lock)) file (range_of a.lock) None messages new)

abbrev pub ShareAnswers : State → (file : ℕ) → Share → (conflicts : Bool) → NlmStatus → List Message → State →
    Type 0
ShareAnswers old file share conflicts = Answers (if conflicts then status.Denied else status.Granted)
    (if conflicts then old else record old
    { shares = with_list old.shares file (shared share (of_file old.shares file)) })

abbrev pub ShareOf : State → NlmShare → Result ℕ LockFault → NlmStatus → List Message → State → Type 0
ShareOf old s checked = Checked nlm_status_of old checked (λ file.
    ShareAnswers old file (share_of s) (is_denied (share_of s) (of_file old.shares file)))

abbrev pub UnshareOf : State → NlmShare → Result ℕ LockFault → NlmStatus → List Message → State → Type 0
UnshareOf old s checked = Checked nlm_status_of old checked (λ file. Answers status.Granted (record old
    { shares = with_list old.shares file (unshared (share_of s) (of_file old.shares file)) }))

-- what is answered is pending under its number
pub found-pending : (old : State) (host cookie : List ℕ) (number : ℕ) (found : Option PendingGrant)
    → get old.granted number ≡ found
    → (grant : PendingGrant) → (if is_answered host cookie number found then found else None) ≡ Some grant
    → get old.granted number ≡ Some grant
found-pending old host cookie number None at grant is = cc
found-pending old host cookie number (Some g) at grant is =
    elim (is_answered host cookie number (Some g)) as (λ b. (if b then Some g else None) ≡ Some grant
    → get old.granted number ≡ Some grant) [
      | true ↦ λ e. cc
      | false ↦ λ e. cc
    ] is
