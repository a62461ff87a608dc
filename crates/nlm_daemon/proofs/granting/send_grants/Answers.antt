use Rattle.std.proofs.Common.{arith, ap, ◌∙◌}
use Rattle.nfs_machine.specs.Grants.{grant_message}
use Rattle.nlm_daemon.proofs.SentMessagesLemmas.{all-sent, sends-next, sends-none}
use Rattle.nlm_daemon.proofs.granting.send_grants.Goals as goal

pub loop-request-init : goal.loop-request-init
loop-request-init c = sends-none c.args.draft.now

pub loop-request-preserved : goal.loop-request-preserved
loop-request-preserved c =
    sends-next c.args.draft.now c.loop-request.draft c.send.new.self c.args.granted.now c.loop-request.request-index
    c.request-item.result c.in_ok-message.message c.loop-request-test.true c.request-item.is c.loop-request.invariant
    (c.in_ok-message.ensures ∙ ap grant_message c.deref.ensures) c.in_ok-send.ensures.ok

pub returns : goal.returns
returns c =
    all-sent c.args.draft.now c.loop-request.draft c.args.granted.now c.loop-request.request-index
    c.loop-request.invariant (omega (arith, c.loop-request-test.false))
