use Rattle.std.proofs.Common.{subst}
use Rattle.nfs_xdr.specs.Laws.{IsBytes}
use Rattle.side_wire.specs.Mount.{mount_arguments, IsMountProcedure, mount_procedure_of, mount_arguments_of}
use Rattle.side_wire.proofs.MountLaws.{mount_procedure_of-is}
use Rattle.nfs_xdr.proofs.ProgramLaws.{IsFrontedBy-read, IsGarbage-told, CallHoldsBytes-told}
use Rattle.nfs_xdr.proofs.ProgramLaws.{is_not_memory, is_memory}
use Rattle.side_wire.proofs.mount.read_args.Goals as goal

pub returns-in_err-read_call-clause-garbage : goal.returns-in_err-read_call-clause-garbage
returns-in_err-read_call-clause-garbage c garbage =
    IsGarbage-told IsMountProcedure mount_arguments mount_procedure_of mount_arguments_of mount_procedure_of-is _ _
    c.read_call.new.arguments c.in_err-read_call.field-0.0 c.in_err-read_call.ensures
    (is_not_memory _ _ c.from_residual.ensures.1 garbage)

pub returns-in_err-read_call-clause-memory : goal.returns-in_err-read_call-clause-memory
returns-in_err-read_call-clause-memory c memory =
    CallHoldsBytes-told IsMountProcedure mount_arguments mount_procedure_of mount_arguments_of mount_procedure_of-is _ _
    c.read_call.new.arguments c.in_err-read_call.field-0.0 c.in_err-read_call.ensures
    (is_memory _ _ c.from_residual.ensures.1 memory) (subst IsBytes c.as_slice.ensures c.are_bytes.ensures)

pub returns-clause-found : goal.returns-clause-found
returns-clause-found c =
    IsFrontedBy-read mount_arguments mount_procedure_of mount_arguments_of _ _ _
    (subst IsBytes c.as_slice.ensures c.are_bytes.ensures) c.in_ok-read_call.ensures.1
