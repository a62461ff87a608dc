-- The command is the program's, so clap's exact clauses hold of it.
use Rattle.std.proofs.lemmas.Result.{err_from_is_err_and}
use Rattle.nfs_server.proofs.CommandLineLemmas.{parsed_from, refuses_command}
use Rattle.nfs_server.proofs.command_line.parse.Goals as goal

pub returns-in_err-try_get_matches_from_mut : goal.returns-in_err-try_get_matches_from_mut
returns-in_err-try_get_matches_from_mut g c =
    let exit = err_from_is_err_and c.from_residual.result c.from_residual.ensures.1 in
    rw (exit.1, exit.2) (refuses_command _ _ _ c.requires c.in_err-try_get_matches_from_mut.ensures.kinds)

pub returns : goal.returns
returns g c =
    parsed_from _ _ c.in_ok-try_get_matches_from_mut.field-0 c.requires c.in_ok-try_get_matches_from_mut.ensures.kinds
    c.in_ok-try_get_matches_from_mut.ensures.ok.2
