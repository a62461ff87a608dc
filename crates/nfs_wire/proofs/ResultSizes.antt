-- How many bytes results have at most: the parts of a result add theirs one after the other.
use Rattle.std.proofs.Common.{ℕ, ◌+◌, ◌≤◌, Bool, List, [], length, length-append, Option, Some, None, Result, Ok, Err}
use Rattle.std.proofs.Common.{IfOk, IfSome, arith}
use Rattle.std.proofs.lemmas.List.{length-replicate}
use Rattle.nfs_xdr.specs.Types.{Xdr, Void, Word, Hyper, Flag, Enum, Fixed, Opaque, Pair, Optional, Value, padding}
use Rattle.nfs_xdr.specs.Writing.{appended, with_word, with_hyper, with_padded, with_arm}
use Rattle.nfs_wire.specs.Arguments.{nfs_fh3, count3, stable_how, verf3, unbounded, stability_number}
use Rattle.nfs_wire.specs.declared.replies.Found.{Found}
use Rattle.nfs_wire.specs.declared.replies.Made.{Made}
use Rattle.nfs_wire.specs.declared.replies.ReadData.{ReadData}
use Rattle.nfs_wire.specs.declared.replies.Written.{Written}
use Rattle.nfs_wire.specs.Attributes.{fattr3, post_op_attr, wcc_data, pre_op_attr, wcc_attr, attributes_value}
use Rattle.nfs_wire.specs.Attributes.{after_value, before_value, weak_value, wcc_value}
use Rattle.nfs_wire.specs.Replies.{result_bytes, HasLookupForm, HasMadeForm, IsHandle}
use Rattle.nfs_wire.specs.Results.{outcome, done_value, refused_value, post_op_fh3}
use Rattle.nfs_wire.specs.declared.attributes.Attributes.{Attributes}
use Rattle.nfs_wire.specs.declared.attributes.Wcc.{Wcc}
use Rattle.nfs_wire.specs.declared.attributes.WeakAttributes.{WeakAttributes}
use Rattle.nfs_wire.specs.declared.replies.NfsReply.TheVariants as nfs
use Rattle.nfs_wire.specs.Status.{status_number}
use Rattle.nfs_wire.specs.declared.status.NfsStatus.{NfsStatus}
use Rattle.nfs_wire.specs.declared.status.NfsStatus.TheVariants.{Permission}

-- at most so many bytes are appended
abbrev pub Adds : (t : Xdr) → Value t → ℕ → Type 0
Adds t v n = (old : List ℕ) → length (appended t v old) ≤ length old + n

pub adds-word : (n : ℕ) → Adds Word n 4
unfolding appended with_word
adds-word n old = simp length-append (omega arith)

pub adds-hyper : (n : ℕ) → Adds Hyper n 8
unfolding appended with_hyper
adds-hyper n old = simp length-append (omega arith)

pub adds-flag : (b : Bool) → Adds Flag b 4
unfolding appended with_word
adds-flag b old = simp length-append (omega arith)

pub adds-enum : (known : ℕ → Bool) (n : ℕ) → Adds (Enum known) n 4
unfolding appended with_word
adds-enum known n old = simp length-append (omega arith)

pub adds-void : Adds Void tt 0
unfolding appended
adds-void old = omega arith

pub adds-pair : (a b : Xdr) (v : Value a) (w : Value b) (m n : ℕ) → Adds a v m → Adds b w n
    → Adds (Pair a b) (v, w) (m + n)
unfolding appended
adds-pair a b v w m n first second old = omega (arith, first old, second (appended a v old))

pub adds-none : (a : Xdr) → Adds (Optional a) None 4
unfolding appended with_word
adds-none a old = simp length-append (omega arith)

pub adds-some : (a : Xdr) (v : Value a) (n : ℕ) → Adds a v n → Adds (Optional a) (Some v) (4 + n)
unfolding appended
adds-some a v n inner old = omega (arith, adds-word 1 old, inner (appended Word 1 old))

-- bytes with their length and at most three of padding
pub adds-opaque : (max : ℕ) (bytes : List ℕ) (n : ℕ) → length bytes ≤ n → Adds (Opaque max) bytes (n + 7)
unfolding appended with_padded with_word
adds-opaque max bytes n h old = simp (length-append, length-replicate) (let p : padding (length bytes) ≤ 3 = omega arith
    in omega (arith, h, p))

pub adds-fixed : (size : ℕ) (bytes : List ℕ) (n : ℕ) → length bytes ≤ n → Adds (Fixed size) bytes (n + 3)
unfolding appended with_padded
adds-fixed size bytes n h old = simp (length-append, length-replicate) (let p : padding (length bytes) ≤ 3 = omega arith
    in omega (arith, h, p))

pub adds-attributes : (a : Attributes) → Adds fattr3 (attributes_value a) 84
unfolding appended with_word with_hyper
adds-attributes a old = simp length-append (omega arith)

pub adds-after : (a : Option Attributes) → Adds post_op_attr (after_value a) 88
adds-after None old = omega (arith, adds-none fattr3 old)
adds-after (Some a) old = adds-some fattr3 (attributes_value a) 84 (adds-attributes a) old

pub adds-weak : (w : WeakAttributes) → Adds wcc_attr (weak_value w) 24
unfolding appended with_word with_hyper
adds-weak w old = simp length-append (omega arith)

pub adds-handle : (handle : Option (List ℕ)) → IfSome handle IsHandle → Adds post_op_fh3 handle 75
adds-handle None form old = omega (arith, adds-none nfs_fh3 old)
adds-handle (Some handle) form old = adds-some nfs_fh3 handle 71 (adds-opaque 64 handle 64 form) old

pub adds-before : (w : Option WeakAttributes) → Adds pre_op_attr (before_value w) 28
adds-before None old = omega (arith, adds-none wcc_attr old)
adds-before (Some w) old = adds-some wcc_attr (weak_value w) 24 (adds-weak w) old

pub adds-wcc : (w : Wcc) → Adds wcc_data (wcc_value w) 116
adds-wcc w = adds-pair pre_op_attr post_op_attr (before_value w.before) (after_value w.after) 28 88
    (adds-before w.before) (adds-after w.after)

-- a result: the status and its arm
pub adds-done : (done refused : Xdr) (value : Value done) (n : ℕ) → Adds done value n
    → Adds (outcome done refused) (done_value done refused value) (4 + n)
unfolding appended with_arm done_value
adds-done done refused value n arm old = omega (arith, adds-word 0 old, arm (appended Word 0 old))

pub adds-refused : (done refused : Xdr) (status : NfsStatus) (value : Value refused) (n : ℕ) → Adds refused value n
    → Adds (outcome done refused) (status_number status, refused_value done refused status value) (4 + n)
unfolding appended with_arm
adds-refused done refused Permission value n arm old = omega (arith, adds-word 1 old, arm (appended Word 1 old))
adds-refused done refused status value n arm old = omega (
  arith,
  adds-word (status_number status) old,
  arm
      (appended Word (status_number status) old),
)

-- The results of procedures, where their parts have these lengths.
pub getattr-size : (result : Result Attributes NfsStatus) → length (result_bytes (nfs.Getattr result)) ≤ 88
getattr-size (Ok a) = adds-done fattr3 Void (attributes_value a) 84 (adds-attributes a) []
getattr-size (Err e) = omega (arith, adds-refused fattr3 Void e tt 0 adds-void [])

pub lookup-size : (directory : Option Attributes) (result : Result Found NfsStatus)
    → HasLookupForm (record { directory = directory; result = result })
    → length (result_bytes (nfs.Lookup (record { directory = directory; result = result }))) ≤ 251
lookup-size directory (Ok found) form =
    adds-done _ post_op_attr _ _
    (adds-pair nfs_fh3 (Pair post_op_attr post_op_attr) found.object _ 71 176 (adds-opaque 64 found.object 64 form)
    (adds-pair post_op_attr post_op_attr _ _ 88 88 (adds-after found.attributes) (adds-after directory)))
    []
lookup-size directory (Err e) form = omega (
  arith,
  adds-refused (Pair nfs_fh3 (Pair post_op_attr post_op_attr))
      post_op_attr e _ 88 (adds-after directory) [],
)

pub read-size : (attributes : Option Attributes) (result : Result ReadData NfsStatus) (n : ℕ)
    → IfOk result (λ read. length read.«data» ≤ n)
    → length (result_bytes (nfs.Read (record { attributes = attributes; result = result }))) ≤ n + 107
read-size attributes (Ok read) n short =
    omega (
      arith,
      adds-done _ post_op_attr _ _
          (adds-pair post_op_attr (Pair count3 (Pair Flag (Opaque unbounded))) _ _ 88 (4 + (4 + (n + 7)))
          (adds-after attributes)
          (adds-pair count3 (Pair Flag (Opaque unbounded)) read.count _ 4 (4 + (n + 7)) (adds-word read.count)
          (adds-pair Flag (Opaque unbounded) _ _ 4 (n + 7) (adds-flag read.eof)
          (adds-opaque unbounded read.«data» n short)))) [],
    )
read-size attributes (Err e) n short = omega (
  arith,
  adds-refused (Pair post_op_attr (Pair count3 (Pair Flag (Opaque unbounded)))) post_op_attr e _ 88
      (adds-after attributes) [],
)

pub write-size : (w : Wcc) (result : Result Written NfsStatus)
    → IfOk result (λ written. length written.verifier.bytes ≤ 8)
    → length (result_bytes (nfs.Write (record { wcc = w; result = result }))) ≤ 150
write-size w (Ok written) short =
    omega (
      arith,
      adds-done _ wcc_data _ _
          (adds-pair wcc_data (Pair count3 (Pair stable_how verf3)) _ _ 116 19 (adds-wcc w)
          (adds-pair count3 (Pair stable_how verf3) _ _ 4 15 (adds-word written.count)
          (adds-pair stable_how verf3 _ _ 4 11 (adds-enum _ (stability_number written.committed))
          (adds-fixed 8 written.verifier.bytes 8 short)))) [],
    )
write-size w (Err e) short = omega (
  arith,
  adds-refused (Pair wcc_data (Pair count3 (Pair stable_how verf3))) wcc_data e
      _ 116 (adds-wcc w) [],
)

pub made-size : (w : Wcc) (result : Result Made NfsStatus) → HasMadeForm (record { directory = w; result = result })
    → length (result_bytes (nfs.Create (record { directory = w; result = result }))) ≤ 283
made-size w (Ok made) form =
    omega (
      arith,
      adds-done _ wcc_data _ _
          (adds-pair post_op_fh3 (Pair post_op_attr wcc_data) made.object _ 75 204 (adds-handle made.object form)
          (adds-pair post_op_attr wcc_data _ _ 88 116 (adds-after made.attributes) (adds-wcc w))) [],
    )
made-size w (Err e) form = omega (
  arith,
  adds-refused (Pair post_op_fh3 (Pair post_op_attr wcc_data)) wcc_data e _ 116
      (adds-wcc w) [],
)
