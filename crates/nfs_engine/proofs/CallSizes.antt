-- In how many bytes calls of NLM are written: those of their parts together.
use Rattle.std.proofs.Common.{◌≡◌, ℕ, ℤ, Bool, ◌+◌, ◌-◌, ◌*◌, ◌/◌, ◌%◌, ◌^◌, ◌<◌, ◌≤◌, ◌∙◌, min, nat_le, List, length}
use Rattle.std.proofs.Common.{length-append, ap, arith, get_or, refl, subst, sym, take}
use Rattle.std.proofs.lemmas.List.{length-replicate}
use Rattle.std.proofs.lemmas.List.Elements.{All-from_recursion, All-get_or}
use Rattle.std.proofs.lemmas.List.Sums.{sum_by_more}
use Rattle.nfs_xdr.proofs.WrittenBytesLemmas.{appends}
use Rattle.nfs_xdr.specs.Types.{Enum, Flag, Hyper, Int as IntType, Pair, Value, Word, Xdr, padding}
use Rattle.nfs_xdr.specs.Writing.{appended, with_arm, with_hyper, with_padded, with_word, write}
use Rattle.side_wire.specs.Messages.{HasCallbackForm, HasLockForm, HasTestArgumentsForm, call_header, header_value}
use Rattle.side_wire.specs.Messages.{call_of, callback_arguments, message_bytes}
use Rattle.side_wire.specs.Nlm.{HasTestResultForm, HasTestStatusForm, IsNetobj, nlm_procedure_of}
use Rattle.side_wire.specs.NlmTypes.{holder_value, lock_value, netobj, nlm4_holder, nlm4_lock, nlm4_res, nlm4_testargs}
use Rattle.side_wire.specs.NlmTypes.{nlm4_testres, nlm4_testrply, nlm_status_number, result_value, test_result_value}
use Rattle.side_wire.specs.NlmTypes.{test_status_value, test_value}
use Rattle.side_wire.specs.declared.message.Callback.{Callback}
use Rattle.side_wire.specs.declared.message.Callback.TheVariants as callbacks
use Rattle.side_wire.specs.declared.message.Message.{Message}
use Rattle.side_wire.specs.declared.message.NlmLock.{NlmLock}
use Rattle.side_wire.specs.declared.nlm.LockHolder.{LockHolder}
use Rattle.side_wire.specs.declared.nlm.NlmResult.{NlmResult}
use Rattle.side_wire.specs.declared.nlm.TestArguments.{TestArguments}
use Rattle.side_wire.specs.declared.nlm.TestResult.{TestResult}
use Rattle.side_wire.specs.declared.nlm.TestStatus.{TestStatus}
use Rattle.side_wire.specs.declared.nlm.TestStatus.TheVariants as tested
use Rattle.nfs_engine.specs.Posting.{HaveForms, posted_bytes}

-- ---- parts

pub pair-size : (a b : Xdr) (v : Value a) (w : Value b) →
    length (write (Pair a b) (v, w)) ≡ length (write a v) + length (write b w)
unfolding appended
pair-size a b v w = ap length (appends b w (write a v)) ∙ length-append (write a v) (write b w)

pub int-size : (z : ℤ) → length (write IntType z) ≡ 4
unfolding appended with_word
int-size z = simp length-append (omega arith)

pub flag-size : (b : Bool) → length (write Flag b) ≡ 4
unfolding appended with_word
flag-size b = simp length-append (omega arith)

pub enum-size : (known : ℕ → Bool) (n : ℕ) → length (write (Enum known) n) ≡ 4
unfolding appended with_word
enum-size known n = simp length-append (omega arith)

pub hyper-size : (n : ℕ) → length (write Hyper n) ≡ 8
unfolding appended with_hyper
hyper-size n = simp length-append (omega arith)

-- bytes behind their length, filled up to whole words
pub opaque-size : (bytes : List ℕ) → length (write netobj bytes) ≡ 4 + length bytes + padding (length bytes)
unfolding appended with_padded with_word
opaque-size bytes = simp (length-append, length-replicate) (omega arith)

pub opaque-bound : (bytes : List ℕ) → IsNetobj bytes → length (write netobj bytes) ≤ 1028
opaque-bound bytes small = omega (arith, opaque-size bytes, small)

-- ---- structs

abbrev of_opaque : List ℕ → ℕ
of_opaque bytes = length (write netobj bytes)

pub lock-size : (l : NlmLock) → length (write nlm4_lock (lock_value l)) ≡
    of_opaque l.caller_name + of_opaque l.file + of_opaque l.owner + 20
lock-size l =
    let range = Pair Hyper Hyper in
    let process = Pair IntType range in
    let owner = Pair netobj process in
    omega (
      arith,
      pair-size netobj (Pair netobj owner) l.caller_name (l.file, (l.owner, (l.process, (l.offset, l.length)))),
      pair-size netobj owner l.file (l.owner, (l.process, (l.offset, l.length))),
      pair-size netobj process l.owner (l.process, (l.offset, l.length)),
      pair-size IntType range l.process (l.offset, l.length),
      pair-size Hyper Hyper l.offset l.length,
      int-size l.process,
      hyper-size l.offset,
      hyper-size l.length,
    )

pub granted-size : (a : TestArguments) → length (write nlm4_testargs (test_value a)) ≡
    of_opaque a.cookie + 4 + length (write nlm4_lock (lock_value a.lock))
granted-size a =
    omega (
      arith,
      pair-size netobj (Pair Flag nlm4_lock) a.cookie (a.exclusive, lock_value a.lock),
      pair-size Flag nlm4_lock a.exclusive (lock_value a.lock),
      flag-size a.exclusive,
    )

pub plain-size : (r : NlmResult) → length (write nlm4_res (result_value r)) ≡ of_opaque r.cookie + 4
plain-size r =
    let status = nlm_status_number r.status in
    omega (arith, pair-size netobj (Enum (λ n. nat_le n 9)) r.cookie status, enum-size (λ n. nat_le n 9) status)

holder-size : (h : LockHolder) → length (write nlm4_holder (holder_value h)) ≡ of_opaque h.owner + 24
holder-size h =
    let range = Pair Hyper Hyper in
    let owner = Pair netobj range in
    let process = Pair IntType owner in
    omega (
      arith,
      pair-size Flag process h.exclusive (h.process, (h.owner, (h.offset, h.length))),
      pair-size IntType owner h.process (h.owner, (h.offset, h.length)),
      pair-size netobj range h.owner (h.offset, h.length),
      pair-size Hyper Hyper h.offset h.length,
      flag-size h.exclusive,
      int-size h.process,
      hyper-size h.offset,
      hyper-size h.length,
    )

-- a status with its arm
abbrev pub status_size : TestStatus → ℕ
status_size (tested.Denied holder) = of_opaque holder.owner + 28
status_size _ = 4

denied-size : (h : LockHolder) → length (write nlm4_testrply (1, holder_value h)) ≡ 4 + length
    (write nlm4_holder (holder_value h))
unfolding appended with_arm with_word
denied-size h = ap length (appends nlm4_holder (holder_value h) (write Word 1))
    ∙ length-append (write Word 1) (write nlm4_holder (holder_value h))

answer-size : (s : TestStatus) → length (write nlm4_testrply (test_status_value s)) ≡ status_size s
unfolding appended with_arm with_word
answer-size (tested.Denied holder) = omega (arith, denied-size holder, holder-size holder)
answer-size tested.Granted = omega arith
answer-size tested.DeniedNoLocks = omega arith
answer-size tested.Blocked = omega arith
answer-size tested.DeniedGracePeriod = omega arith
answer-size tested.Deadlock = omega arith
answer-size tested.ReadOnly = omega arith
answer-size tested.StaleHandle = omega arith
answer-size tested.FileTooBig = omega arith
answer-size tested.Failed = omega arith

pub tested-size : (r : TestResult) → length (write nlm4_testres (test_result_value r)) ≡
    of_opaque r.cookie + status_size r.status
tested-size r =
    omega (arith, pair-size netobj nlm4_testrply r.cookie (test_status_value r.status), answer-size r.status)

-- ---- calls

header-size : (xid procedure : ℕ) → length (write call_header (header_value xid procedure)) ≡ 40
unfolding appended with_padded with_word
header-size xid procedure = simp (length-append, length-replicate) (omega arith)

pub message-size : (m : Message) → length (message_bytes 0 m) ≡
    40 + length (write (callback_arguments m.call).0 (callback_arguments m.call).1)
message-size m =
    let procedure = nlm_procedure_of (call_of m.call) in
    omega (
      arith,
      header-size 0 procedure,
      pair-size call_header (callback_arguments m.call).0
          (header_value 0 procedure) (callback_arguments m.call).1,
    )

-- ---- lists of messages

pub form-at : (ms : List Message) (i : ℕ) (m : Message) → HaveForms ms → i < length ms → m ≡ get_or ms i m →
    HasCallbackForm m.call
form-at ms i m forms within is =
    let HasForm : Message → Type 0 = λ (x : Message). HasCallbackForm x.call in
    subst HasForm (sym is) (All-get_or HasForm ms i m within (All-from_recursion HasForm ms forms))

pub sizes-more : (ms : List Message) (i : ℕ) (m : Message) (size one : ℕ) → i < length ms → m ≡ get_or ms i m →
    size ≡ min (posted_bytes (take i ms)) (2 ^ 64 - 1) → one ≡ length (message_bytes 0 m) →
    min (size + one) (2 ^ 64 - 1) ≡ min (posted_bytes (take (i + 1) ms)) (2 ^ 64 - 1)
sizes-more ms i m size one within is so_far its =
    let bytes : Message → ℕ = λ (x : Message). length (message_bytes 0 x) in
    omega (arith, sum_by_more bytes ms i m within, ap bytes is, so_far, its)

-- ---- sums that stop at 2^64 - 1, which is far off

abbrev limit : ℕ
limit = 2 ^ 64 - 1

pub opaque-is : (bytes : List ℕ) (count words product sum : ℕ) → IsNetobj bytes → count ≡ length bytes →
    words ≡ count / 4 + min 1 (count % 4) → product ≡ min (words * 4) limit → sum ≡ min (product + 4) limit →
    sum ≡ length (write netobj bytes)
opaque-is bytes count words product sum small count_is words_are product_is sum_is =
    omega (arith, opaque-size bytes, small, count_is, words_are, product_is, sum_is)

pub plain-is : (r : NlmResult) (cookie sum : ℕ) → IsNetobj r.cookie → cookie ≡ of_opaque r.cookie →
    sum ≡ min (cookie + 4) limit → sum ≡ length (write nlm4_res (result_value r))
plain-is r cookie sum small cookie_is sum_is =
    omega (arith, plain-size r, opaque-bound r.cookie small, cookie_is, sum_is)

pub lock-is : (l : NlmLock) (host file first owner second sum : ℕ) → HasLockForm l →
    host ≡ of_opaque l.caller_name → file ≡ of_opaque l.file → first ≡ min (host + file) limit →
    owner ≡ of_opaque l.owner → second ≡ min (first + owner) limit → sum ≡ min (second + 20) limit →
    sum ≡ length (write nlm4_lock (lock_value l))
lock-is l host file first owner second sum form host_is file_is first_is owner_is second_is sum_is =
    omega (
      arith,
      lock-size l,
      opaque-bound l.caller_name form.0,
      opaque-bound l.file form.1,
      opaque-bound l.owner form.2,
      host_is,
      file_is,
      first_is,
      owner_is,
      second_is,
      sum_is,
    )

lock-bound : (l : NlmLock) → HasLockForm l → length (write nlm4_lock (lock_value l)) ≤ 3104
lock-bound l form = omega (
  arith,
  lock-size l,
  opaque-bound l.caller_name form.0,
  opaque-bound l.file form.1,
  opaque-bound l.owner form.2,
)

pub granted-is : (a : TestArguments) (cookie first lock sum : ℕ) → HasTestArgumentsForm a →
    cookie ≡ of_opaque a.cookie → first ≡ min (cookie + 4) limit →
    lock ≡ length (write nlm4_lock (lock_value a.lock)) → sum ≡ min (first + lock) limit →
    sum ≡ length (write nlm4_testargs (test_value a))
granted-is a cookie first lock sum form cookie_is first_is lock_is sum_is =
    omega (
      arith,
      granted-size a,
      opaque-bound a.cookie form.0,
      lock-bound a.lock form.1,
      cookie_is,
      first_is,
      lock_is,
      sum_is,
    )

status-bound : (s : TestStatus) → HasTestStatusForm s → status_size s ≤ 1056
status-bound (tested.Denied holder) form = omega (arith, opaque-bound holder.owner form)
status-bound tested.Granted form = omega arith
status-bound tested.DeniedNoLocks form = omega arith
status-bound tested.Blocked form = omega arith
status-bound tested.DeniedGracePeriod form = omega arith
status-bound tested.Deadlock form = omega arith
status-bound tested.ReadOnly form = omega arith
status-bound tested.StaleHandle form = omega arith
status-bound tested.FileTooBig form = omega arith
status-bound tested.Failed form = omega arith

pub denied-is : (r : TestResult) (h : LockHolder) (cookie first owner second sum : ℕ) → r.status ≡ tested.Denied h →
    HasTestResultForm r → cookie ≡ of_opaque r.cookie → first ≡ min (cookie + 4) limit →
    (IsNetobj h.owner → owner ≡ of_opaque h.owner) → second ≡ min (first + owner) limit →
    sum ≡ min (second + 24) limit → sum ≡ length (write nlm4_testres (test_result_value r))
denied-is r h cookie first owner second sum is form cookie_is first_is owner_is second_is sum_is =
    let small : IsNetobj h.owner = subst HasTestStatusForm is form.1 in
    omega (
      arith,
      tested-size r,
      ap status_size is,
      opaque-bound r.cookie form.0,
      opaque-bound h.owner small,
      cookie_is,
      first_is,
      owner_is small,
      second_is,
      sum_is,
    )

undenied : (s : TestStatus) → ((h : LockHolder) → s ≡ tested.Denied h → ⊥) → status_size s ≡ 4
undenied (tested.Denied holder) other = absurd (other holder refl)
undenied tested.Granted other = refl
undenied tested.DeniedNoLocks other = refl
undenied tested.Blocked other = refl
undenied tested.DeniedGracePeriod other = refl
undenied tested.Deadlock other = refl
undenied tested.ReadOnly other = refl
undenied tested.StaleHandle other = refl
undenied tested.FileTooBig other = refl
undenied tested.Failed other = refl

pub undenied-is : (r : TestResult) (cookie sum : ℕ) → ((h : LockHolder) → r.status ≡ tested.Denied h → ⊥) →
    HasTestResultForm r → cookie ≡ of_opaque r.cookie → sum ≡ min (cookie + 4) limit →
    sum ≡ length (write nlm4_testres (test_result_value r))
undenied-is r cookie sum other form cookie_is sum_is =
    omega (arith, tested-size r, undenied r.status other, opaque-bound r.cookie form.0, cookie_is, sum_is)

plain-bound : (r : NlmResult) → IsNetobj r.cookie → length (write nlm4_res (result_value r)) ≤ 5000
plain-bound r small = omega (arith, plain-size r, opaque-bound r.cookie small)

arguments-bound : (c : Callback) → HasCallbackForm c →
    length (write (callback_arguments c).0 (callback_arguments c).1) ≤ 5000
arguments-bound (callbacks.Granted a) form =
    omega (arith, granted-size a, opaque-bound a.cookie form.0, lock-bound a.lock form.1)
arguments-bound (callbacks.GrantedMsg a) form =
    omega (arith, granted-size a, opaque-bound a.cookie form.0, lock-bound a.lock form.1)
arguments-bound (callbacks.TestRes r) form =
    omega (arith, tested-size r, opaque-bound r.cookie form.0, status-bound r.status form.1)
arguments-bound (callbacks.LockRes r) form = plain-bound r form
arguments-bound (callbacks.CancelRes r) form = plain-bound r form
arguments-bound (callbacks.UnlockRes r) form = plain-bound r form
arguments-bound (callbacks.GrantedRes r) form = plain-bound r form

pub message-is : (m : Message) (arguments sum : ℕ) → HasCallbackForm m.call →
    arguments ≡ length (write (callback_arguments m.call).0 (callback_arguments m.call).1) →
    sum ≡ min (40 + arguments) limit → sum ≡ length (message_bytes 0 m)
message-is m arguments sum form arguments_are sum_is =
    omega (arith, message-size m, arguments-bound m.call form, arguments_are, sum_is)
