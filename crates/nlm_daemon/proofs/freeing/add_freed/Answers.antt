use Rattle.std.proofs.Common.{subst, sym}
use Rattle.nlm_daemon.proofs.FilesByNumberLemmas.{adds-first, adds-later}
use Rattle.nlm_daemon.proofs.freeing.add_freed.Goals as goal
use Rattle.nlm_daemon.specs.Freeing.{AddsFreed}

pub loop-file-preserved : goal.loop-file-preserved
loop-file-preserved c = λ new adds.
    c.loop-file.invariant new
    (subst (λ fs. AddsFreed c.args.exports.now c.args.caller_name.now fs c.loop-file.freed.items new)
    (sym c.in-Some.ensures.steps)
    (adds-later c.args.exports.now c.args.caller_name.now c.in-Some.file.now c.next.new.self c.loop-file.freed.items
    c.add_file.new.freed.items new c.in_ok-add_file.ensures adds))
