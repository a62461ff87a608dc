-- How many bytes the results have that show objects and tell nothing else: those of REMOVE, RMDIR, RENAME and LINK.
use Rattle.std.proofs.Common.{◌≤◌, [], length, Option, Result, Ok, Err}
use Rattle.nfs_xdr.specs.Types.{Pair}
use Rattle.nfs_wire.proofs.ResultSizes.{adds-after, adds-done, adds-pair, adds-refused, adds-wcc}
use Rattle.nfs_wire.specs.Attributes.{post_op_attr, wcc_data, after_value, wcc_value}
use Rattle.nfs_wire.specs.Replies.{result_bytes}
use Rattle.nfs_wire.specs.declared.attributes.Attributes.{Attributes}
use Rattle.nfs_wire.specs.declared.attributes.Wcc.{Wcc}
use Rattle.nfs_wire.specs.declared.replies.NfsReply.TheVariants as replies
use Rattle.nfs_wire.specs.declared.status.NfsStatus.{NfsStatus}

pub removed-size : (w : Wcc) (result : Result (Unit {0}) NfsStatus)
    → length (result_bytes (replies.Remove (record { directory = w; result = result }))) ≤ 120
removed-size w (Ok done) = adds-done wcc_data wcc_data (wcc_value w) 116 (adds-wcc w) []
removed-size w (Err e) = adds-refused wcc_data wcc_data e (wcc_value w) 116 (adds-wcc w) []

pub renamed-size : (from to : Wcc) (result : Result (Unit {0}) NfsStatus)
    → length (result_bytes (replies.Rename (record { from = from; to = to; result = result }))) ≤ 236
renamed-size from to (Ok done) =
    adds-done (Pair wcc_data wcc_data) (Pair wcc_data wcc_data) (wcc_value from, wcc_value to) 232
    (adds-pair wcc_data wcc_data (wcc_value from) (wcc_value to) 116 116 (adds-wcc from) (adds-wcc to)) []
renamed-size from to (Err e) =
    adds-refused (Pair wcc_data wcc_data) (Pair wcc_data wcc_data) e (wcc_value from, wcc_value to) 232
    (adds-pair wcc_data wcc_data (wcc_value from) (wcc_value to) 116 116 (adds-wcc from) (adds-wcc to)) []

pub linked-size : (file : Option Attributes) (w : Wcc) (result : Result (Unit {0}) NfsStatus)
    → length (result_bytes (replies.Link (record { attributes = file; directory = w; result = result }))) ≤ 208
linked-size file w (Ok done) =
    adds-done (Pair post_op_attr wcc_data) (Pair post_op_attr wcc_data) (after_value file, wcc_value w) 204
    (adds-pair post_op_attr wcc_data (after_value file) (wcc_value w) 88 116 (adds-after file) (adds-wcc w)) []
linked-size file w (Err e) =
    adds-refused (Pair post_op_attr wcc_data) (Pair post_op_attr wcc_data) e (after_value file, wcc_value w) 204
    (adds-pair post_op_attr wcc_data (after_value file) (wcc_value w) 88 116 (adds-after file) (adds-wcc w)) []
