-- The command line is taken once its words, its host, its limits and its transport are; what is left is the exports.
use Rattle.std.proofs.lemmas.Result.{MatchResult-weaker, err_from_is_err_and}
use Rattle.clap.specs.Words.{found_of, rows_of}
use Rattle.nfs_server.proofs.CommandLineLemmas.{one_transport, options_read, refused_host, refused_limit}
use Rattle.nfs_server.proofs.CommandLineLemmas.{refused_transport}
use Rattle.nfs_server.proofs.CommandLineLemmas.{refuses_options, taken}
use Rattle.nfs_server.proofs.command_line.matched_options.Goals as goal

pub returns-in_err-host : goal.returns-in_err-host
returns-in_err-host c = λ words parsed.
    let exit = err_from_is_err_and c.from_residual.result c.from_residual.ensures.1 in
    rw (exit.1, exit.2) (refused_host words c.args.matches.now c.in_err-host.field-0.0 parsed c.in_err-host.ensures)

pub returns-in_err-limits : goal.returns-in_err-limits
returns-in_err-limits c = λ words parsed.
    let exit = err_from_is_err_and c.from_residual-in_err-limits.result c.from_residual-in_err-limits.ensures.1 in
    rw (exit.1, exit.2) (refused_limit words c.args.matches.now c.in_err-limits.field-0.0 parsed
    c.in_err-limits.ensures)

pub returns-in_err-transport : goal.returns-in_err-transport
returns-in_err-transport c = λ words parsed.
    let exit = err_from_is_err_and c.from_residual-in_err-transport.result
    c.from_residual-in_err-transport.ensures.1 in
    rw (exit.1, exit.2) (refused_transport words c.args.matches.now c.in_ok-host.host c.in_ok-limits.limits
    c.in_err-transport.field-0.0 parsed c.in_ok-host.ensures c.in_ok-limits.ensures c.in_err-transport.ensures)

pub returns : goal.returns
returns c = λ words parsed.
    let is_taken =
    taken words c.args.matches.now c.in_ok-host.host c.in_ok-limits.limits parsed c.in_ok-host.ensures
    c.in_ok-limits.ensures (one_transport (rows_of (found_of c.args.matches.now)) c.in_ok-limits.limits
    c.in_ok-transport.transport c.in_ok-transport.ensures) in
    MatchResult-weaker c.read_options.result c.read_options.ensures
    (λ options. options_read words c.args.matches.now options parsed is_taken)
    (λ exit. refuses_options words c.args.matches.now c.in_ok-limits.limits c.in_ok-transport.transport exit parsed
    is_taken c.in_ok-transport.ensures)
