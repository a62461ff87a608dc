use Rattle.std.proofs.Common.{subst}
use Rattle.nfs_xdr.specs.Laws.{IsBytes}
use Rattle.nfs_xdr.proofs.SpellingLaws.{reading_finds_spelling}
use Rattle.nfs_xdr.proofs.ProgramLaws.{refused_told, held_told}
use Rattle.side_wire.specs.NlmTypes.{nlm4_res, result_value}
use Rattle.nfs_xdr.proofs.ProgramLaws.{is_not_memory, is_memory}
use Rattle.side_wire.proofs.message.read_granted_result.Goals as goal

pub returns-in_err-read_plain_result-clause-garbage : goal.returns-in_err-read_plain_result-clause-garbage
returns-in_err-read_plain_result-clause-garbage c garbage r front rest whole spelled =
    refused_told nlm4_res _ _ c.in_err-read_plain_result.ensures
    (is_not_memory _ _ c.from_residual.ensures.1 garbage) (result_value r) front rest whole spelled

pub returns-in_err-read_plain_result-clause-memory : goal.returns-in_err-read_plain_result-clause-memory
returns-in_err-read_plain_result-clause-memory c memory =
    held_told nlm4_res _ _ c.in_err-read_plain_result.ensures (is_memory _ _ c.from_residual.ensures.1 memory)
    (subst IsBytes c.as_slice.ensures c.are_bytes.ensures)

pub returns-clause-found : goal.returns-clause-found
returns-clause-found c =
    let found = reading_finds_spelling nlm4_res _ _ _ (subst IsBytes c.as_slice.ensures c.are_bytes.ensures)
    c.in_ok-read_plain_result.ensures in
    (found.0, _, found.1, found.2)
