-- How many bytes the results of calls that set attributes and tell of objects have at most.
use Rattle.std.proofs.Common.{ℕ, ◌+◌, ◌≤◌, List, [], length, length-append, Option, Result, Ok, Err, IfOk, arith}
use Rattle.nfs_xdr.specs.Types.{Pair, Word}
use Rattle.nfs_xdr.specs.Writing.{appended, with_word, with_hyper}
use Rattle.nfs_wire.proofs.ResultSizes.{
  Adds,
  adds-after,
  adds-done,
  adds-fixed,
  adds-opaque,
  adds-pair,
  adds-refused,
  adds-wcc,
  adds-word,
}
use Rattle.nfs_wire.specs.Arguments.{nfspath3, unbounded, verf3}
use Rattle.nfs_wire.specs.Attributes.{post_op_attr, wcc_data}
use Rattle.nfs_wire.specs.Replies.{result_bytes}
use Rattle.nfs_wire.specs.Results.{
  space3,
  space_value,
  file_system3,
  file_system_value,
  path_limits3,
  path_limits_value,
}
use Rattle.nfs_wire.specs.declared.attributes.Attributes.{Attributes}
use Rattle.nfs_wire.specs.declared.attributes.Wcc.{Wcc}
use Rattle.nfs_wire.specs.declared.calls.Verifier.{Verifier}
use Rattle.nfs_wire.specs.declared.replies.FileSystem.{FileSystem}
use Rattle.nfs_wire.specs.declared.replies.NfsReply.TheVariants as nfs
use Rattle.nfs_wire.specs.declared.replies.PathLimits.{PathLimits}
use Rattle.nfs_wire.specs.declared.replies.Space.{Space}
use Rattle.nfs_wire.specs.declared.status.NfsStatus.{NfsStatus}

pub setattr-size : (w : Wcc) (result : Result (Unit {0}) NfsStatus)
    → length (result_bytes (nfs.Setattr (record { wcc = w; result = result }))) ≤ 120
setattr-size w (Ok done) = adds-done wcc_data wcc_data _ 116 (adds-wcc w) []
setattr-size w (Err e) = adds-refused wcc_data wcc_data e _ 116 (adds-wcc w) []

pub access-size : (attributes : Option Attributes) (result : Result ℕ NfsStatus)
    → length (result_bytes (nfs.Access (record { attributes = attributes; result = result }))) ≤ 96
access-size attributes (Ok rights) = adds-done _ post_op_attr _ _
    (adds-pair post_op_attr Word _ _ 88 4 (adds-after attributes) (adds-word rights)) []
access-size attributes (Err e) = omega (
  arith,
  adds-refused (Pair post_op_attr Word) post_op_attr e _ 88
      (adds-after attributes) [],
)

pub readlink-size : (attributes : Option Attributes) (result : Result (List ℕ) NfsStatus) (n : ℕ)
    → IfOk result (λ text. length text ≤ n)
    → length (result_bytes (nfs.Readlink (record { attributes = attributes; result = result }))) ≤ n + 99
readlink-size attributes (Ok text) n short =
    omega (
      arith,
      adds-done _ post_op_attr _ _ (adds-pair post_op_attr nfspath3 _ _ 88 (n + 7) (adds-after attributes)
          (adds-opaque unbounded text n short)) [],
    )
readlink-size attributes (Err e) n short = omega (
  arith,
  adds-refused (Pair post_op_attr nfspath3) post_op_attr e _ 88
      (adds-after attributes) [],
)

adds-space : (s : Space) → Adds space3 (space_value s) 52
unfolding appended with_word with_hyper
adds-space s old = simp length-append (omega arith)

adds-file_system : (f : FileSystem) → Adds file_system3 (file_system_value f) 48
unfolding appended with_word with_hyper
adds-file_system f old = simp length-append (omega arith)

adds-path_limits : (p : PathLimits) → Adds path_limits3 (path_limits_value p) 24
unfolding appended with_word
adds-path_limits p old = simp length-append (omega arith)

pub fsstat-size : (attributes : Option Attributes) (result : Result Space NfsStatus)
    → length (result_bytes (nfs.Fsstat (record { attributes = attributes; result = result }))) ≤ 144
fsstat-size attributes (Ok s) = adds-done _ post_op_attr _ _ (adds-pair post_op_attr space3 _ _ 88 52
    (adds-after attributes) (adds-space s)) []
fsstat-size attributes (Err e) = omega (
  arith,
  adds-refused (Pair post_op_attr space3) post_op_attr e _ 88
      (adds-after attributes) [],
)

pub fsinfo-size : (attributes : Option Attributes) (result : Result FileSystem NfsStatus)
    → length (result_bytes (nfs.Fsinfo (record { attributes = attributes; result = result }))) ≤ 140
fsinfo-size attributes (Ok f) = adds-done _ post_op_attr _ _ (adds-pair post_op_attr file_system3 _ _ 88 48
    (adds-after attributes) (adds-file_system f)) []
fsinfo-size attributes (Err e) = omega (
  arith,
  adds-refused (Pair post_op_attr file_system3) post_op_attr e _ 88
      (adds-after attributes) [],
)

pub pathconf-size : (attributes : Option Attributes) (result : Result PathLimits NfsStatus)
    → length (result_bytes (nfs.Pathconf (record { attributes = attributes; result = result }))) ≤ 116
pathconf-size attributes (Ok p) = adds-done _ post_op_attr _ _ (adds-pair post_op_attr path_limits3 _ _ 88 24
    (adds-after attributes) (adds-path_limits p)) []
pathconf-size attributes (Err e) = omega (
  arith,
  adds-refused (Pair post_op_attr path_limits3) post_op_attr e _ 88
      (adds-after attributes) [],
)

pub commit-size : (w : Wcc) (result : Result Verifier NfsStatus) → IfOk result (λ (v : Verifier). length v.bytes ≤ 8)
    → length (result_bytes (nfs.Commit (record { wcc = w; result = result }))) ≤ 131
commit-size w (Ok v) short = adds-done _ wcc_data _ _ (adds-pair wcc_data verf3 _ _ 116 11 (adds-wcc w)
    (adds-fixed 8 v.bytes 8 short)) []
commit-size w (Err e) short = omega (arith, adds-refused (Pair wcc_data verf3) wcc_data e _ 116 (adds-wcc w) [])
