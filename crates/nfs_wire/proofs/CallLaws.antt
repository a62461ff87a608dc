-- NFS's tables are those of a program, so its laws are those of every program.
use Rattle.std.proofs.Common.{◌≡◌, ℕ, refl, ap, lit<}
use Rattle.nfs_xdr.specs.Types.{Value}
use Rattle.nfs_xdr.proofs.ProgramLaws as program
use Rattle.nfs_xdr.proofs.ProgramLaws.{Makers, made}
use Rattle.nfs_wire.proofs.ArgumentLaws.{setattr_of, place_of, access_of, read_of, write_of, create_of, mkdir_of}
use Rattle.nfs_wire.proofs.ArgumentLaws.{symlink_of, mknod_of, rename_of, link_of, readdir_of, readdirplus_of}
use Rattle.nfs_wire.proofs.ArgumentLaws.{commit_of, setattr_again, write_again, create_again, mkdir_again}
use Rattle.nfs_wire.proofs.ArgumentLaws.{symlink_again, mknod_again}
use Rattle.nfs_wire.specs.Calls.{arguments, arguments_type, procedure_of, arguments_of, IsProcedure, SpellsOneCall}
use Rattle.nfs_wire.specs.declared.calls.NfsCall.{NfsCall}
use Rattle.nfs_wire.specs.declared.calls.NfsCall.TheVariants.{Null, Getattr, Setattr, Lookup, Access, Readlink, Read}
use Rattle.nfs_wire.specs.declared.calls.NfsCall.TheVariants.{Write, Create, Mkdir, Symlink, Mknod, Remove, Rmdir}
use Rattle.nfs_wire.specs.declared.calls.NfsCall.TheVariants.{Rename, Link, Readdir, Readdirplus, Fsstat, Fsinfo}
use Rattle.nfs_wire.specs.declared.calls.NfsCall.TheVariants.{Pathconf, Commit}

-- each call is of a procedure that there is
pub procedure_of-is : (call : NfsCall) → IsProcedure (procedure_of call)
procedure_of-is Null = lit< tt
procedure_of-is (Getattr a) = lit< tt
procedure_of-is (Setattr a) = lit< tt
procedure_of-is (Lookup a) = lit< tt
procedure_of-is (Access a) = lit< tt
procedure_of-is (Readlink a) = lit< tt
procedure_of-is (Read a) = lit< tt
procedure_of-is (Write a) = lit< tt
procedure_of-is (Create a) = lit< tt
procedure_of-is (Mkdir a) = lit< tt
procedure_of-is (Symlink a) = lit< tt
procedure_of-is (Mknod a) = lit< tt
procedure_of-is (Remove a) = lit< tt
procedure_of-is (Rmdir a) = lit< tt
procedure_of-is (Rename a) = lit< tt
procedure_of-is (Link a) = lit< tt
procedure_of-is (Readdir a) = lit< tt
procedure_of-is (Readdirplus a) = lit< tt
procedure_of-is (Fsstat a) = lit< tt
procedure_of-is (Fsinfo a) = lit< tt
procedure_of-is (Pathconf a) = lit< tt
procedure_of-is (Commit a) = lit< tt

-- each procedure's call, made of the value of its arguments
makers : Makers NfsCall arguments
makers = (
  (λ _. Null),
  (
    (λ v. Getattr v),
    (
      (λ v. Setattr (setattr_of v)),
      (
        (λ v. Lookup (place_of v)),
        (
          (λ v. Access (access_of v)),
          (
            (λ v. Readlink v),
            (
              (λ v. Read (read_of v)),
              (
                (λ v. Write (write_of v)),
                (
                  (λ v. Create (create_of v)),
                  (
                    (λ v. Mkdir (mkdir_of v)),
                    (
                      (λ v. Symlink (symlink_of v)),
                      (
                        (λ v. Mknod (mknod_of v)),
                        (
                          (λ v. Remove (place_of v)),
                          (
                            (λ v. Rmdir (place_of v)),
                            (
                              (λ v. Rename (rename_of v)),
                              (
                                (λ v. Link (link_of v)),
                                (
                                  (λ v. Readdir (readdir_of v)),
                                  (
                                    (λ v. Readdirplus (readdirplus_of v)),
                                    (
                                      (λ v. Fsstat v),
                                      (
                                        (λ v. Fsinfo v),
                                        ((λ v. Pathconf v), ((λ v. Commit (commit_of v)), tt)),
                                      ),
                                    ),
                                  ),
                                ),
                              ),
                            ),
                          ),
                        ),
                      ),
                    ),
                  ),
                ),
              ),
            ),
          ),
        ),
      ),
    ),
  ),
)

call_of : (procedure : ℕ) → Value (arguments_type procedure) → NfsCall
call_of procedure value = made Null arguments makers procedure value

call_of-arguments_of : (call : NfsCall) → call_of (procedure_of call) (arguments_of call) ≡ call
unfolding call_of makers
call_of-arguments_of Null = refl
call_of-arguments_of (Getattr a) = refl
call_of-arguments_of (Setattr a) = ap Setattr (setattr_again a)
call_of-arguments_of (Lookup a) = refl
call_of-arguments_of (Access a) = refl
call_of-arguments_of (Readlink a) = refl
call_of-arguments_of (Read a) = refl
call_of-arguments_of (Write a) = ap Write (write_again a)
call_of-arguments_of (Create a) = ap Create (create_again a)
call_of-arguments_of (Mkdir a) = ap Mkdir (mkdir_again a)
call_of-arguments_of (Symlink a) = ap Symlink (symlink_again a)
call_of-arguments_of (Mknod a) = ap Mknod (mknod_again a)
call_of-arguments_of (Remove a) = refl
call_of-arguments_of (Rmdir a) = refl
call_of-arguments_of (Rename a) = refl
call_of-arguments_of (Link a) = refl
call_of-arguments_of (Readdir a) = refl
call_of-arguments_of (Readdirplus a) = refl
call_of-arguments_of (Fsstat a) = refl
call_of-arguments_of (Fsinfo a) = refl
call_of-arguments_of (Pathconf a) = refl
call_of-arguments_of (Commit a) = refl

pub spells_one_call : SpellsOneCall
spells_one_call = program.spells_one_call arguments procedure_of arguments_of call_of call_of-arguments_of
