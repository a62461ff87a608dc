-- Each step leads on from where the one before it led.
use Rattle.std.proofs.Common.{refl, arith, ap, length-append, length, Some, None}
use Rattle.nfs_rpc.proofs.FragmentByteLemmas.{leads_nowhere, leads_further}
use Rattle.nfs_rpc.proofs.marking.advance.Goals as goal

pub steps-init : goal.steps-init
steps-init c = (leads_nowhere c.args.piece.now c.args.content.now.items c.args.place.now, c.requires)

pub steps-preserved : goal.steps-preserved
steps-preserved c =
    let led = c.steps.invariant.0 in (
      leads_further c.args.piece.now c.steps.left.now c.in_ok-next.rest.now c.args.content.now.items
          c.steps.content.items c.step.new.content.items
          c.args.place.now c.steps.place (Some c.in-Some.next) led (rw c.in-Some.is at c.in_ok-next.ensures.ok),
      rw c.in-Some.is at c.in_ok-next.ensures.sound,
    )

pub returns-in-None-clause-ok : goal.returns-in-None-clause-ok
returns-in-None-clause-ok c =
    let led = c.steps.invariant.0 in (
      leads_further c.args.piece.now c.steps.left.now c.in_ok-next.rest.now c.args.content.now.items
          c.steps.content.items c.step.new.content.items
          c.args.place.now c.steps.place None led (rw c.in-None.is at c.in_ok-next.ensures.ok),
      refl,
      omega (arith, ap length led.cut, length-append led.taken c.steps.left.now, c.in_ok-next.ensures.shorter),
    )

pub returns-in-None-clause-sound : goal.returns-in-None-clause-sound
returns-in-None-clause-sound c = (omega arith, omega arith, rw c.in-None.is at c.in_ok-next.ensures.sound)
