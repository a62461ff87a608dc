-- Each text is taken, or is the first that is no callback.
use Rattle.std.proofs.Common.{arith, ◌≡◌, length}
use Rattle.nfs_server.proofs.CallbackTextLemmas.{are-next, first-bad}
use Rattle.nfs_server.proofs.callbacks.Callbacks.new.Goals as goal

pub returns-in-None-clause-error : goal.returns-in-None-clause-error
returns-in-None-clause-error c =
    let counted : c.len.result ≡ length c.loop-text.list.items = omega (arith, c.len.ensures, c.loop-text.list.ok.0) in
    first-bad c.args.texts.now c.loop-text.text-index _ c.loop-text.list.items c.len.result c.loop-text-test.true
    c.loop-text.invariant counted (rw c.in-None.is at c.in_ok-callback.ensures)

pub loop-text-preserved : goal.loop-text-preserved
loop-text-preserved c =
    are-next c.args.texts.now c.loop-text.text-index _ c.loop-text.list.items c.push.new.self.items
    c.in-Some.callback c.loop-text-test.true c.loop-text.invariant c.in_ok-push-in-Some.ensures.items
    (rw c.in-Some.is at c.in_ok-callback.ensures)
