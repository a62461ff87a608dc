-- The calls that the crate answers (RFC 1813, 3.3).
use Rattle.std.specs.Prelude.{Bool, true, false, is_none}
use Rattle.nfs_wire.specs.declared.calls.NfsCall.{NfsCall}
use Rattle.nfs_wire.specs.declared.calls.NfsCall.TheVariants as calls

abbrev pub is_data_call : NfsCall → Bool
is_data_call calls.Null = true
is_data_call (calls.Getattr object) = true
is_data_call (calls.Setattr a) = true
is_data_call (calls.Access a) = true
is_data_call (calls.Readlink link) = true
is_data_call (calls.Read a) = true
is_data_call (calls.Write a) = true
is_data_call (calls.Fsinfo object) = true
is_data_call (calls.Pathconf object) = true
is_data_call (calls.Commit a) = true
is_data_call (calls.Fsstat object) = true
is_data_call call = false

-- those that read of a handle's object no more than its attributes
abbrev pub reads_attributes : NfsCall → Bool
reads_attributes calls.Null = true
reads_attributes (calls.Getattr object) = true
reads_attributes (calls.Setattr a) = is_none a.attributes.size
reads_attributes (calls.Access a) = true
reads_attributes (calls.Fsinfo object) = true
reads_attributes (calls.Pathconf object) = true
reads_attributes (calls.Commit a) = true
reads_attributes call = false

-- those of them whose answers take no memory
abbrev pub answers_at_once : NfsCall → Bool
answers_at_once calls.Null = true
answers_at_once (calls.Getattr object) = true
answers_at_once (calls.Access a) = true
answers_at_once (calls.Fsinfo object) = true
answers_at_once (calls.Pathconf object) = true
answers_at_once (calls.Commit a) = true
answers_at_once call = false
