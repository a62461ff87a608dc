-- MOUNT's tables are those of a program, so its laws are those of every program.
use Rattle.std.proofs.Common.{◌≡◌, ℕ, List, Err, refl, lit<}
use Rattle.nfs_xdr.specs.Types.{HasSpelling, ◌&◌}
use Rattle.nfs_xdr.specs.Writing.{appended}
use Rattle.side_wire.specs.Mount.{mount_arguments, IsMountProcedure, mount_procedure_of, mount_arguments_of}
use Rattle.side_wire.specs.Mount.{SpellsMountArguments, mountres3, mount_arm, mount_status_number, nothing}
use Rattle.side_wire.specs.Mount.{mount_outcome}
use Rattle.nfs_xdr.specs.Programs.{SpellsOneCall}
use Rattle.nfs_xdr.proofs.ProgramLaws.{Makers, made, spells_one_call}
use Rattle.nfs_xdr.proofs.UnionArmLemmas.{with_arm_is}
use Rattle.side_wire.specs.declared.mount.MountCall.{MountCall}
use Rattle.side_wire.specs.declared.mount.MountCall.TheVariants.{Null, Mnt, Dump, Unmount, UnmountAll, Export}
use Rattle.side_wire.specs.declared.mount.MountStatus.{MountStatus}
use Rattle.side_wire.specs.declared.mount.MountStatus.TheVariants.{Permission}

-- each call is of a procedure that there is
pub mount_procedure_of-is : (call : MountCall) → IsMountProcedure (mount_procedure_of call)
mount_procedure_of-is Null = lit< tt
mount_procedure_of-is (Mnt path) = lit< tt
mount_procedure_of-is Dump = lit< tt
mount_procedure_of-is (Unmount path) = lit< tt
mount_procedure_of-is UnmountAll = lit< tt
mount_procedure_of-is Export = lit< tt

-- each procedure's call, made of the value of its arguments
abbrev makers : Makers MountCall mount_arguments
makers =
    (λ _. Null) & (λ path. Mnt path) & (λ _. Dump) & (λ path. Unmount path) & (λ _. UnmountAll) & (λ _. Export) &
    tt

made_again : (call : MountCall)
    → made Null mount_arguments makers (mount_procedure_of call) (mount_arguments_of call) ≡ call
made_again Null = refl
made_again (Mnt path) = refl
made_again Dump = refl
made_again (Unmount path) = refl
made_again UnmountAll = refl
made_again Export = refl

pub mount_spells_one_call : SpellsOneCall mount_procedure_of SpellsMountArguments
mount_spells_one_call =
    spells_one_call mount_arguments mount_procedure_of mount_arguments_of (made Null mount_arguments makers) made_again

-- the arm of a status other than MNT3_OK is nothing
pub appended_nothing : (status : MountStatus) (old : List ℕ)
    → appended (mount_arm (mount_status_number status)) (nothing status) old ≡ old
unfolding appended
appended_nothing Permission old = refl
appended_nothing _ old = refl

-- the result of a refused call has a spelling
pub refused_form : (status : MountStatus) → HasSpelling mountres3 (mount_outcome (Err status))
refused_form Permission = (lit< tt, refl, tt)
refused_form _ = (lit< tt, refl, tt)

pub ruleset refusals = (appended_nothing, refused_form, with_arm_is)
