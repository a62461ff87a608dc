-- The results of each procedure (RFC 1813, section 3.3), and the bytes that spell them.
-- A procedure has one line in `result_of` and in `HasNfsForm`.
use Rattle.std.specs.Prelude.{◌≤◌, ◌<◌, ◌^◌, ℕ, List, length, IfOk, IfSome}
use Rattle.std.specs.List.{All}
use Rattle.nfs_xdr.specs.Types.{Xdr, Void, Value}
use Rattle.nfs_xdr.specs.Writing.{write}
use Rattle.nfs_wire.specs.Results.{getattr_result, setattr_result, lookup_result, access_result, readlink_result}
use Rattle.nfs_wire.specs.Results.{read_result, written_result, made_result, removed_result, renamed_result}
use Rattle.nfs_wire.specs.Results.{linked_result, readdir_result, readdirplus_result, fsstat_result, fsinfo_result}
use Rattle.nfs_wire.specs.Results.{pathconf_result, commit_result}
use Rattle.nfs_wire.specs.declared.entries.FullEntry.{FullEntry}
use Rattle.nfs_wire.specs.declared.entries.PageEntry.{PageEntry}
use Rattle.nfs_wire.specs.declared.replies.LookupReply.{LookupReply}
use Rattle.nfs_wire.specs.declared.replies.MadeReply.{MadeReply}
use Rattle.nfs_wire.specs.declared.replies.NfsReply.{NfsReply}
use Rattle.nfs_wire.specs.declared.replies.NfsReply.TheVariants.{Null, Getattr, Setattr, Lookup, Access, Readlink}
use Rattle.nfs_wire.specs.declared.replies.NfsReply.TheVariants.{Read, Write, Create, Mkdir, Symlink, Mknod, Remove}
use Rattle.nfs_wire.specs.declared.replies.NfsReply.TheVariants.{Rmdir, Rename, Link, Readdir, Readdirplus, Fsstat}
use Rattle.nfs_wire.specs.declared.replies.NfsReply.TheVariants.{Fsinfo, Pathconf, Commit}
use Rattle.nfs_wire.specs.declared.replies.ReadReply.{ReadReply}
use Rattle.nfs_wire.specs.declared.replies.ReaddirReply.{ReaddirReply}
use Rattle.nfs_wire.specs.declared.replies.ReaddirplusReply.{ReaddirplusReply}
use Rattle.nfs_wire.specs.declared.replies.ReadlinkReply.{ReadlinkReply}

-- the type and the value of a reply's result
abbrev pub result_of : NfsReply → (t : Xdr) × Value t
result_of Null = (Void, tt)
result_of (Getattr r) = getattr_result r
result_of (Setattr r) = setattr_result r
result_of (Lookup r) = lookup_result r
result_of (Access r) = access_result r
result_of (Readlink r) = readlink_result r
result_of (Read r) = read_result r
result_of (Write r) = written_result r
result_of (Create r) = made_result r
result_of (Mkdir r) = made_result r
result_of (Symlink r) = made_result r
result_of (Mknod r) = made_result r
result_of (Remove r) = removed_result r
result_of (Rmdir r) = removed_result r
result_of (Rename r) = renamed_result r
result_of (Link r) = linked_result r
result_of (Readdir r) = readdir_result r
result_of (Readdirplus r) = readdirplus_result r
result_of (Fsstat r) = fsstat_result r
result_of (Fsinfo r) = fsinfo_result r
result_of (Pathconf r) = pathconf_result r
result_of (Commit r) = commit_result r

-- the bytes of a reply's result
abbrev pub result_bytes : NfsReply → List ℕ
result_bytes reply = write (result_of reply).0 (result_of reply).1

-- a handle that is there is within its bound, NFS3_FHSIZE (RFC 1813, 2.4)
abbrev pub IsHandle : List ℕ → Type 0
IsHandle handle = length handle ≤ 64

-- the length of a string or of opaque data fits its word (RFC 4506, 4.10 and 4.11)
abbrev pub FitsWord : List ℕ → Type 0
FitsWord bytes = length bytes < 2 ^ 32

-- the same of single results
abbrev pub HasLookupForm : LookupReply → Type 0
HasLookupForm r = IfOk r.result (λ found. IsHandle found.object)

abbrev pub HasReadlinkForm : ReadlinkReply → Type 0
HasReadlinkForm r = IfOk r.result (λ text. FitsWord text)

abbrev pub HasReadForm : ReadReply → Type 0
HasReadForm r = IfOk r.result (λ read. FitsWord read.«data»)

abbrev pub HasMadeForm : MadeReply → Type 0
HasMadeForm r = IfOk r.result (λ made. IfSome made.object IsHandle)

abbrev pub HasEntryForm : PageEntry → Type 0
HasEntryForm entry = FitsWord entry.name

abbrev pub HasFullEntryForm : FullEntry → Type 0
HasFullEntryForm full = FitsWord full.entry.name × IfSome full.object IsHandle

abbrev pub HasReaddirForm : ReaddirReply → Type 0
HasReaddirForm r = IfOk r.result (λ page. All HasEntryForm page.entries)

abbrev pub HasReaddirplusForm : ReaddirplusReply → Type 0
HasReaddirplusForm r = IfOk r.result (λ page. All HasFullEntryForm page.entries)

-- A reply whose result has a spelling: its handles are within their bound, and the lengths of its other byte strings
-- fit a word.
abbrev pub HasNfsForm : NfsReply → Type 0
HasNfsForm (Lookup r) = HasLookupForm r
HasNfsForm (Readlink r) = HasReadlinkForm r
HasNfsForm (Read r) = HasReadForm r
HasNfsForm (Create r) = HasMadeForm r
HasNfsForm (Mkdir r) = HasMadeForm r
HasNfsForm (Symlink r) = HasMadeForm r
HasNfsForm (Mknod r) = HasMadeForm r
HasNfsForm (Readdir r) = HasReaddirForm r
HasNfsForm (Readdirplus r) = HasReaddirplusForm r
HasNfsForm _ = Unit {0}
