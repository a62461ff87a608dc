use Rattle.std.proofs.Common.{subst}
use Rattle.nfs_data.proofs.ReadLemmas.{Checks, reads, refuses}
use Rattle.nfs_data.proofs.read.read_of.Goals as goal

pub returns-in_ok-read-in-Ok : goal.returns-in_ok-read-in-Ok
returns-in_ok-read-in-Ok c =
    reads c.args.draft.now c.args.arguments.now c.args.known.now c.requires c.readable.result
    (subst (Checks c.args.known.now c.readable.result) c.ctx.ensures c.readable.ensures.checks)
    c.in-Ok.file c.in-Ok.file.known c.in_ok-read-in-Ok.field-0 c.in-Ok.is c.in-Ok.ensures.known
    c.in_ok-read-in-Ok.ensures

pub returns-in-Err : goal.returns-in-Err
returns-in-Err c =
    refuses c.args.draft.now c.args.arguments.now c.args.known.now c.requires c.readable.result
    (subst (Checks c.args.known.now c.readable.result) c.ctx.ensures c.readable.ensures.checks)
    c.in-Err.status c.in-Err.is
