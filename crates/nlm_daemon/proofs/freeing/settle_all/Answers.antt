use Rattle.std.proofs.Common.{arith, subst}
use Rattle.std.proofs.lemmas.List.{take_all}
use Rattle.nlm_daemon.proofs.FreeAllDraftLemmas.{settles-none, settles-step}
use Rattle.nlm_daemon.specs.Freeing.{SettlesAll}
use Rattle.nlm_daemon.proofs.freeing.settle_all.Goals as goal

pub loop-file-init : goal.loop-file-init
loop-file-init c = rw c.in_ok-files.ensures.items (settles-none c.args.draft.now)

pub loop-file-preserved : goal.loop-file-preserved
loop-file-preserved c =
    rw c.in_ok-push.ensures.items
    (settles-step c.args.draft.now c.loop-file.draft c.send_grants.new.draft c.args.freed.now c.loop-file.file-index
    c.loop-file.files.items c.file-item.result c.in_ok-tried.tried c.in_ok-settled.settled c.loop-file-test.true
    c.file-item.is c.loop-file.invariant (rw c.file.ensures at c.in_ok-settled.ensures)
    (rw (c.number.ensures, c.export.ensures) at c.in_ok-tried.ensures)
    (rw c.deref.ensures.value at c.in_ok-send_grants.ensures))

pub returns : goal.returns
returns c =
    subst (λ fs. SettlesAll c.args.draft.now c.loop-file.draft fs c.loop-file.files.items)
    (take_all c.loop-file.file-index c.args.freed.now (omega (arith, c.loop-file-test.false))) c.loop-file.invariant
