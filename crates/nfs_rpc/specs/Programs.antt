-- The programs that are served (RFC 1813, sections 2.1 and 5.1, and the protocol NLM of its appendix II).
use Rattle.std.specs.Prelude.{ℕ, Bool, nat_le, ◌==◌, ◌&&◌, ◌||◌, if◌then◌else◌, Option, Some, None}
use Rattle.nfs_rpc.specs.declared.programs.Program.{Program}
use Rattle.nfs_rpc.specs.declared.programs.Program.TheVariants.{Nfs, Mount, Nlm}

-- the number that a call names it by
abbrev pub program_number : Program → ℕ
program_number Nfs = 100003
program_number Mount = 100005
program_number Nlm = 100021

-- the one version that is served
abbrev pub program_version : Program → ℕ
program_version Nfs = 3
program_version Mount = 3
program_version Nlm = 4

-- the program of a number
abbrev pub program_of : ℕ → Option Program
program_of number =
    if number == 100003 then Some Nfs
    else (if number == 100005 then Some Mount
    else (if number == 100021 then Some Nlm else None))

-- the procedures that are there: all of NFS, MOUNT and NLM (RFC 1813, 3.3, 5.2 and 6.2; NLM has none of 16 to 19)
abbrev pub is_built : Program → ℕ → Bool
is_built Nfs procedure = nat_le procedure 21
is_built Mount procedure = nat_le procedure 5
is_built Nlm procedure = nat_le procedure 15 || (nat_le 20 procedure && nat_le procedure 23)
