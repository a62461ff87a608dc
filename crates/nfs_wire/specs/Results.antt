-- The XDR types of the results of calls (RFC 1813, sections 2.5 and 3.3), and the value of each.
use Rattle.std.specs.Prelude.{ℕ, Result, Ok, Err, ◌==◌, if◌then◌else◌, map}
use Rattle.nfs_xdr.specs.Types.{Xdr, Void, Word, Flag, Opaque, Pair, Optional, Entries, Union, Value, ◌&◌}
use Rattle.nfs_wire.specs.Arguments.{unbounded, nfs_fh3, filename3, nfspath3, cookie3, count3, verf3, stable_how}
use Rattle.nfs_wire.specs.Arguments.{verifier_value, stability_number}
use Rattle.nfs_wire.specs.Attributes.{fattr3, size3, fileid3, nfstime3, post_op_attr, wcc_data, attributes_value}
use Rattle.nfs_wire.specs.Attributes.{after_value, wcc_value, time_value}
use Rattle.nfs_wire.specs.Status.{is_status, status_number}
use Rattle.nfs_wire.specs.declared.attributes.Attributes.{Attributes}
use Rattle.nfs_wire.specs.declared.entries.FullEntry.{FullEntry}
use Rattle.nfs_wire.specs.declared.entries.PageEntry.{PageEntry}
use Rattle.nfs_wire.specs.declared.replies.AccessReply.{AccessReply}
use Rattle.nfs_wire.specs.declared.replies.CommitReply.{CommitReply}
use Rattle.nfs_wire.specs.declared.replies.FileSystem.{FileSystem}
use Rattle.nfs_wire.specs.declared.replies.Found.{Found}
use Rattle.nfs_wire.specs.declared.replies.FsinfoReply.{FsinfoReply}
use Rattle.nfs_wire.specs.declared.replies.FsstatReply.{FsstatReply}
use Rattle.nfs_wire.specs.declared.replies.LinkedReply.{LinkedReply}
use Rattle.nfs_wire.specs.declared.replies.LookupReply.{LookupReply}
use Rattle.nfs_wire.specs.declared.replies.Made.{Made}
use Rattle.nfs_wire.specs.declared.replies.MadeReply.{MadeReply}
use Rattle.nfs_wire.specs.declared.replies.Page.{Page}
use Rattle.nfs_wire.specs.declared.replies.PagePlus.{PagePlus}
use Rattle.nfs_wire.specs.declared.replies.PathLimits.{PathLimits}
use Rattle.nfs_wire.specs.declared.replies.PathconfReply.{PathconfReply}
use Rattle.nfs_wire.specs.declared.replies.ReadData.{ReadData}
use Rattle.nfs_wire.specs.declared.replies.ReadReply.{ReadReply}
use Rattle.nfs_wire.specs.declared.replies.ReaddirReply.{ReaddirReply}
use Rattle.nfs_wire.specs.declared.replies.ReaddirplusReply.{ReaddirplusReply}
use Rattle.nfs_wire.specs.declared.replies.ReadlinkReply.{ReadlinkReply}
use Rattle.nfs_wire.specs.declared.replies.RemovedReply.{RemovedReply}
use Rattle.nfs_wire.specs.declared.replies.RenamedReply.{RenamedReply}
use Rattle.nfs_wire.specs.declared.replies.SetattrReply.{SetattrReply}
use Rattle.nfs_wire.specs.declared.replies.Space.{Space}
use Rattle.nfs_wire.specs.declared.replies.WriteReply.{WriteReply}
use Rattle.nfs_wire.specs.declared.replies.Written.{Written}
use Rattle.nfs_wire.specs.declared.status.NfsStatus.{NfsStatus}
use Rattle.nfs_wire.specs.declared.status.NfsStatus.TheVariants.{Permission}

-- the arm of a status: one for NFS3_OK, and one for every other
abbrev pub arm : Xdr → Xdr → ℕ → Xdr
arm done refused status = if status == 0 then done else refused

-- a result: a union on the status (RFC 1813, 3.3)
abbrev pub outcome : Xdr → Xdr → Xdr
outcome done refused = Union is_status (arm done refused)

-- the value of a result that is NFS3_OK with its arm
unfoldable pub done_value : (done refused : Xdr) → Value done → Value (outcome done refused)
done_value done refused value = (0, value)

-- the value of the arm of a status other than NFS3_OK
abbrev pub refused_value : (done refused : Xdr) → (status : NfsStatus) → Value refused →
    Value (arm done refused (status_number status))
refused_value done refused Permission value = value
refused_value done refused _ value = value

-- the value of a result: what was done, or the status with the value of the other arm
abbrev pub outcome_value : {A : Type 0} → (done refused : Xdr) → (A → Value done) → Value refused →
    Result A NfsStatus → Value (outcome done refused)
outcome_value done refused view other (Ok x) = done_value done refused (view x)
outcome_value done refused view other (Err status) = (status_number status, refused_value done refused status other)

-- the type and the value of a result
abbrev pub result_as : {A : Type 0} → (done refused : Xdr) → (A → Value done) → Value refused →
    Result A NfsStatus → (t : Xdr) × Value t
result_as done refused view other result = (outcome done refused, outcome_value done refused view other result)

-- post_op_fh3 (RFC 1813, 2.5): a union on a bool, as optional data is
abbrev pub post_op_fh3 : Xdr
post_op_fh3 = Optional nfs_fh3

-- GETATTR3res (RFC 1813, 3.3.1): obj_attributes; void
abbrev pub getattr_result : Result Attributes NfsStatus → (t : Xdr) × Value t
getattr_result result = result_as fattr3 Void attributes_value tt result

-- SETATTR3res (RFC 1813, 3.3.2): obj_wcc; the same
abbrev pub setattr_result : SetattrReply → (t : Xdr) × Value t
setattr_result r = result_as wcc_data wcc_data (λ _. wcc_value r.wcc) (wcc_value r.wcc) r.result

-- LOOKUP3res (RFC 1813, 3.3.3): object, obj_attributes, dir_attributes; dir_attributes
abbrev pub lookup_result : LookupReply → (t : Xdr) × Value t
lookup_result r =
    result_as (Pair nfs_fh3 (Pair post_op_attr post_op_attr)) post_op_attr
    (λ (found : Found). (found.object, (after_value found.attributes, after_value r.directory)))
    (after_value r.directory) r.result

-- ACCESS3res (RFC 1813, 3.3.4): obj_attributes, access; obj_attributes
abbrev pub access_result : AccessReply → (t : Xdr) × Value t
access_result r =
    result_as (Pair post_op_attr Word) post_op_attr
    (λ rights. (after_value r.attributes, rights))
    (after_value r.attributes) r.result

-- READLINK3res (RFC 1813, 3.3.5): symlink_attributes, data; symlink_attributes
abbrev pub readlink_result : ReadlinkReply → (t : Xdr) × Value t
readlink_result r =
    result_as (Pair post_op_attr nfspath3) post_op_attr
    (λ text. (after_value r.attributes, text))
    (after_value r.attributes) r.result

-- READ3res (RFC 1813, 3.3.6): file_attributes, count, eof, data; file_attributes
abbrev pub read_result : ReadReply → (t : Xdr) × Value t
read_result r =
    result_as (Pair post_op_attr (Pair count3 (Pair Flag (Opaque unbounded)))) post_op_attr
    (λ (read : ReadData). (after_value r.attributes, (read.count, (read.eof, read.«data»))))
    (after_value r.attributes) r.result

-- WRITE3res (RFC 1813, 3.3.7): file_wcc, count, committed, verf; file_wcc
abbrev pub written_result : WriteReply → (t : Xdr) × Value t
written_result r =
    result_as (Pair wcc_data (Pair count3 (Pair stable_how verf3))) wcc_data
    (λ (written : Written).
    wcc_value r.wcc & written.count & stability_number written.committed & verifier_value written.verifier)
    (wcc_value r.wcc) r.result

-- CREATE3res, MKDIR3res, SYMLINK3res and MKNOD3res (RFC 1813, 3.3.8 to 3.3.11): obj, obj_attributes, dir_wcc; dir_wcc
abbrev pub made_result : MadeReply → (t : Xdr) × Value t
made_result r =
    result_as (Pair post_op_fh3 (Pair post_op_attr wcc_data)) wcc_data
    (λ (made : Made). (made.object, (after_value made.attributes, wcc_value r.directory)))
    (wcc_value r.directory) r.result

-- REMOVE3res and RMDIR3res (RFC 1813, 3.3.12 and 3.3.13): dir_wcc; the same
abbrev pub removed_result : RemovedReply → (t : Xdr) × Value t
removed_result r = result_as wcc_data wcc_data (λ _. wcc_value r.directory) (wcc_value r.directory) r.result

-- RENAME3res (RFC 1813, 3.3.14): fromdir_wcc, todir_wcc; the same
abbrev pub renamed_result : RenamedReply → (t : Xdr) × Value t
renamed_result r =
    result_as (Pair wcc_data wcc_data) (Pair wcc_data wcc_data)
    (λ _. (wcc_value r.from, wcc_value r.to))
    (wcc_value r.from, wcc_value r.to) r.result

-- LINK3res (RFC 1813, 3.3.15): file_attributes, linkdir_wcc; the same
abbrev pub linked_result : LinkedReply → (t : Xdr) × Value t
linked_result r =
    result_as (Pair post_op_attr wcc_data) (Pair post_op_attr wcc_data)
    (λ _. (after_value r.attributes, wcc_value r.directory))
    (after_value r.attributes, wcc_value r.directory) r.result

-- entry3 (RFC 1813, 3.3.16) but for nextentry: fileid, name, cookie
abbrev pub entry3 : Xdr
entry3 = Pair fileid3 (Pair filename3 cookie3)

abbrev pub entry_value : PageEntry → Value entry3
entry_value entry = (entry.fileid, (entry.name, entry.cookie))

-- READDIR3res (RFC 1813, 3.3.16): dir_attributes, cookieverf, entries, eof; dir_attributes
abbrev pub readdir_result : ReaddirReply → (t : Xdr) × Value t
readdir_result r =
    result_as (Pair post_op_attr (Pair verf3 (Pair (Entries entry3) Flag))) post_op_attr
    (λ (page : Page).
    after_value r.attributes & verifier_value page.verifier & map entry_value page.entries & page.eof)
    (after_value r.attributes) r.result

-- entryplus3 (RFC 1813, 3.3.17) but for nextentry: fileid, name, cookie, name_attributes, name_handle
abbrev pub entryplus3 : Xdr
entryplus3 = Pair fileid3 (Pair filename3 (Pair cookie3 (Pair post_op_attr post_op_fh3)))

abbrev pub full_entry_value : FullEntry → Value entryplus3
full_entry_value full =
    (full.entry.fileid, (full.entry.name, (full.entry.cookie, (after_value full.attributes, full.object))))

-- READDIRPLUS3res (RFC 1813, 3.3.17): dir_attributes, cookieverf, entries, eof; dir_attributes
abbrev pub readdirplus_result : ReaddirplusReply → (t : Xdr) × Value t
readdirplus_result r =
    result_as (Pair post_op_attr (Pair verf3 (Pair (Entries entryplus3) Flag))) post_op_attr
    (λ (page : PagePlus).
    after_value r.attributes & verifier_value page.verifier & map full_entry_value page.entries & page.eof)
    (after_value r.attributes) r.result

-- tbytes, fbytes, abytes, tfiles, ffiles, afiles, invarsec (RFC 1813, 3.3.18)
abbrev pub space3 : Xdr
space3 = Pair size3 (Pair size3 (Pair size3 (Pair size3 (Pair size3 (Pair size3 Word)))))

abbrev pub space_value : Space → Value space3
space_value s =
    s.total_bytes & s.free_bytes & s.available_bytes & s.total_files & s.free_files & s.available_files &
    s.unchanged_for

-- FSSTAT3res (RFC 1813, 3.3.18): obj_attributes and the rest; obj_attributes
abbrev pub fsstat_result : FsstatReply → (t : Xdr) × Value t
fsstat_result r =
    result_as (Pair post_op_attr space3) post_op_attr
    (λ space. (after_value r.attributes, space_value space))
    (after_value r.attributes) r.result

-- rtmax, rtpref, rtmult, wtmax, wtpref, wtmult, dtpref, maxfilesize, time_delta, properties (RFC 1813, 3.3.19)
abbrev pub file_system3 : Xdr
file_system3 =
    Pair Word (Pair Word (Pair Word (Pair Word (Pair Word (Pair Word (Pair Word (Pair size3 (Pair nfstime3 Word))))))))

abbrev pub file_system_value : FileSystem → Value file_system3
file_system_value f =
    f.read_most & f.read_preferred & f.read_multiple & f.write_most & f.write_preferred & f.write_multiple &
    f.directory_preferred & f.largest_file & time_value f.time_step & f.properties

-- FSINFO3res (RFC 1813, 3.3.19): obj_attributes and the rest; obj_attributes
abbrev pub fsinfo_result : FsinfoReply → (t : Xdr) × Value t
fsinfo_result r =
    result_as (Pair post_op_attr file_system3) post_op_attr
    (λ system. (after_value r.attributes, file_system_value system))
    (after_value r.attributes) r.result

-- linkmax, name_max, no_trunc, chown_restricted, case_insensitive, case_preserving (RFC 1813, 3.3.20)
abbrev pub path_limits3 : Xdr
path_limits3 = Pair Word (Pair Word (Pair Flag (Pair Flag (Pair Flag Flag))))

abbrev pub path_limits_value : PathLimits → Value path_limits3
path_limits_value p =
    (p.most_links, (p.longest_name, (p.no_truncation, (p.chown_restricted, (p.case_insensitive, p.case_preserving)))))

-- PATHCONF3res (RFC 1813, 3.3.20): obj_attributes and the rest; obj_attributes
abbrev pub pathconf_result : PathconfReply → (t : Xdr) × Value t
pathconf_result r =
    result_as (Pair post_op_attr path_limits3) post_op_attr
    (λ limits. (after_value r.attributes, path_limits_value limits))
    (after_value r.attributes) r.result

-- COMMIT3res (RFC 1813, 3.3.21): file_wcc, verf; file_wcc
abbrev pub commit_result : CommitReply → (t : Xdr) × Value t
commit_result r =
    result_as (Pair wcc_data verf3) wcc_data
    (λ verifier. (wcc_value r.wcc, verifier_value verifier))
    (wcc_value r.wcc) r.result
