-- The calls that this crate attempts.
use Rattle.std.specs.Prelude.{Bool, true, false}
use Rattle.nfs_wire.specs.declared.calls.NfsCall.{NfsCall}
use Rattle.nfs_wire.specs.declared.calls.NfsCall.TheVariants as calls

-- a call on a name, or that lists names
abbrev pub is_name_call : NfsCall → Bool
is_name_call (calls.Lookup place) = true
is_name_call (calls.Create a) = true
is_name_call (calls.Mkdir a) = true
is_name_call (calls.Symlink a) = true
is_name_call (calls.Mknod a) = true
is_name_call (calls.Rename a) = true
is_name_call (calls.Remove place) = true
is_name_call (calls.Rmdir place) = true
is_name_call (calls.Link a) = true
is_name_call (calls.Readdir a) = true
is_name_call (calls.Readdirplus a) = true
is_name_call call = false
