-- Which bytes spell the arguments of a call (RFC 1813, section 3.3).
-- A procedure has one line in each of `arguments`, `procedure_of` and `arguments_of`.
use Rattle.std.specs.Prelude.{ℕ, ◌<◌, Result, List, [], ◌∷◌, length, slice_index_or}
use Rattle.nfs_xdr.specs.declared.XdrError.{XdrError}
use Rattle.nfs_xdr.specs.Programs as program
use Rattle.nfs_xdr.specs.Types.{Xdr, Void, Value}
use Rattle.nfs_wire.specs.Arguments.{nfs_fh3, diropargs3, setattr3args, access3args, read3args, write3args}
use Rattle.nfs_wire.specs.Arguments.{create3args, mkdir3args, symlink3args, mknod3args, rename3args, link3args}
use Rattle.nfs_wire.specs.Arguments.{readdir3args, readdirplus3args, commit3args, place_value, setattr_value}
use Rattle.nfs_wire.specs.Arguments.{access_value, read_value, write_value, create_value, mkdir_value, symlink_value}
use Rattle.nfs_wire.specs.Arguments.{mknod_value, rename_value, link_value, readdir_value, readdirplus_value}
use Rattle.nfs_wire.specs.Arguments.{commit_value}
use Rattle.nfs_wire.specs.declared.calls.NfsCall.{NfsCall}
use Rattle.nfs_wire.specs.declared.calls.NfsCall.TheVariants.{Null, Getattr, Setattr, Lookup, Access, Readlink, Read}
use Rattle.nfs_wire.specs.declared.calls.NfsCall.TheVariants.{Write, Create, Mkdir, Symlink, Mknod, Remove, Rmdir}
use Rattle.nfs_wire.specs.declared.calls.NfsCall.TheVariants.{Rename, Link, Readdir, Readdirplus, Fsstat, Fsinfo}
use Rattle.nfs_wire.specs.declared.calls.NfsCall.TheVariants.{Pathconf, Commit}

-- the arguments of each procedure, in the order of their numbers (RFC 1813, 3.3)
abbrev pub arguments : List Xdr
arguments =
    -- 0 NULL, 3.3.0
    Void
    -- 1 GETATTR, 3.3.1
    ∷ nfs_fh3
    -- 2 SETATTR, 3.3.2
    ∷ setattr3args
    -- 3 LOOKUP, 3.3.3
    ∷ diropargs3
    -- 4 ACCESS, 3.3.4
    ∷ access3args
    -- 5 READLINK, 3.3.5
    ∷ nfs_fh3
    -- 6 READ, 3.3.6
    ∷ read3args
    -- 7 WRITE, 3.3.7
    ∷ write3args
    -- 8 CREATE, 3.3.8
    ∷ create3args
    -- 9 MKDIR, 3.3.9
    ∷ mkdir3args
    -- 10 SYMLINK, 3.3.10
    ∷ symlink3args
    -- 11 MKNOD, 3.3.11
    ∷ mknod3args
    -- 12 REMOVE, 3.3.12
    ∷ diropargs3
    -- 13 RMDIR, 3.3.13
    ∷ diropargs3
    -- 14 RENAME, 3.3.14
    ∷ rename3args
    -- 15 LINK, 3.3.15
    ∷ link3args
    -- 16 READDIR, 3.3.16
    ∷ readdir3args
    -- 17 READDIRPLUS, 3.3.17
    ∷ readdirplus3args
    -- 18 FSSTAT, 3.3.18
    ∷ nfs_fh3
    -- 19 FSINFO, 3.3.19
    ∷ nfs_fh3
    -- 20 PATHCONF, 3.3.20
    ∷ nfs_fh3
    -- 21 COMMIT, 3.3.21
    ∷ commit3args ∷ []

abbrev pub arguments_type : ℕ → Xdr
arguments_type procedure = slice_index_or arguments procedure Void

-- the number of a call's procedure
abbrev pub procedure_of : NfsCall → ℕ
procedure_of Null = 0
procedure_of (Getattr object) = 1
procedure_of (Setattr a) = 2
procedure_of (Lookup place) = 3
procedure_of (Access a) = 4
procedure_of (Readlink link) = 5
procedure_of (Read a) = 6
procedure_of (Write a) = 7
procedure_of (Create a) = 8
procedure_of (Mkdir a) = 9
procedure_of (Symlink a) = 10
procedure_of (Mknod a) = 11
procedure_of (Remove place) = 12
procedure_of (Rmdir place) = 13
procedure_of (Rename a) = 14
procedure_of (Link a) = 15
procedure_of (Readdir a) = 16
procedure_of (Readdirplus a) = 17
procedure_of (Fsstat root) = 18
procedure_of (Fsinfo root) = 19
procedure_of (Pathconf object) = 20
procedure_of (Commit a) = 21

-- the value of a call's arguments
abbrev pub arguments_of : (call : NfsCall) → Value (arguments_type (procedure_of call))
arguments_of Null = tt
arguments_of (Getattr object) = object
arguments_of (Setattr a) = setattr_value a
arguments_of (Lookup place) = place_value place
arguments_of (Access a) = access_value a
arguments_of (Readlink link) = link
arguments_of (Read a) = read_value a
arguments_of (Write a) = write_value a
arguments_of (Create a) = create_value a
arguments_of (Mkdir a) = mkdir_value a
arguments_of (Symlink a) = symlink_value a
arguments_of (Mknod a) = mknod_value a
arguments_of (Remove place) = place_value place
arguments_of (Rmdir place) = place_value place
arguments_of (Rename a) = rename_value a
arguments_of (Link a) = link_value a
arguments_of (Readdir a) = readdir_value a
arguments_of (Readdirplus a) = readdirplus_value a
arguments_of (Fsstat root) = root
arguments_of (Fsinfo root) = root
arguments_of (Pathconf object) = object
arguments_of (Commit a) = commit_value a

-- NFS has a procedure of this number
abbrev pub IsProcedure : ℕ → Type 0
IsProcedure n = n < length arguments

-- the bytes spell the arguments of the call
abbrev pub SpellsArguments : NfsCall → List ℕ → Type 0
SpellsArguments = program.SpellsCall arguments procedure_of arguments_of

-- a front of the bytes spells the arguments of the call; what follows it is ignored
abbrev pub IsFrontedBy : NfsCall → List ℕ → Type 0
IsFrontedBy = program.IsFrontedBy SpellsArguments

-- no front of the bytes spells the arguments of a call of this procedure
abbrev pub IsGarbage : ℕ → List ℕ → Type 0
IsGarbage = program.IsGarbage procedure_of SpellsArguments

-- a front of the bytes spells arguments of this procedure that hold bytes
abbrev pub CallHoldsBytes : ℕ → List ℕ → Type 0
CallHoldsBytes = program.CallHoldsBytes arguments

-- one list of bytes spells at its front at most one call of a procedure
abbrev pub SpellsOneCall : Type 0
SpellsOneCall = program.SpellsOneCall procedure_of SpellsArguments

-- what reading a call answers and leaves
abbrev pub ReadsCall : ℕ → List ℕ → List ℕ → Result NfsCall XdrError → Type 0
ReadsCall = program.ReadsCall IsProcedure arguments procedure_of arguments_of
