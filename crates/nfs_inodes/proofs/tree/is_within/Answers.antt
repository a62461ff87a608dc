use Rattle.std.proofs.Common.{◌+◌, arith}
use Rattle.nfs_machine.proofs.MapChangeLemmas.{apart}
use Rattle.nfs_inodes.proofs.ClimbLemmas.{climbs-first, climbs-next, tells-end, tells-root, tells-there}
use Rattle.nfs_inodes.proofs.tree.is_within.Goals as goal
use Rattle.nfs_inodes.proofs.tree.is_within.Goals.{else-loop-level-test}
use Rattle.nfs_inodes.proofs.tree.is_within.Goals.{
  then-loop-level-test+else-number-upper+in_ok-above+else-above-number+else-level-reads,
}

pub loop-level-init : goal.loop-level-init
loop-level-init c = climbs-first c.args.draft.now c.args.upper c.args.directory.now c.requires.none c.requires.known

pub loop-level-preserved : goal.loop-level-preserved
loop-level-preserved c =
    climbs-next c.args.draft.now c.args.upper c.args.directory.now c.requires.none c.requires.known c.loop-level.number
    c.loop-level._level c.loop-level.invariant
    (apart c.loop-level.number c.args.upper c.if-number-upper.false) c.in_ok-above.above c.in_ok-above.ensures.parent
    c.in_ok-above.ensures.reads.object
    (apart c.in_ok-above.above c.loop-level.number c.if-above-number.false)

pub returns-then-number-upper : goal.returns-then-number-upper
returns-then-number-upper c =
    tells-there c.args.draft.now c.args.upper c.args.directory.now c.requires.none c.requires.known c.loop-level.number
    c.loop-level._level c.loop-level.invariant c.if-number-upper.true

pub returns-then-above-number : goal.returns-then-above-number
returns-then-above-number c =
    tells-root c.args.draft.now c.args.upper c.args.directory.now c.requires.none c.requires.known c.loop-level.number
    c.loop-level._level c.loop-level.invariant
    (apart c.loop-level.number c.args.upper c.if-number-upper.false) c.in_ok-above.above c.in_ok-above.ensures.parent
    c.if-above-number.true

pub returns : goal.returns
returns c =
    let d = c.args.draft.now in
    let at = c.loop-level in
    elim c.loop-level-test.branch [
      | else-loop-level-test w ↦
          tells-end d c.args.upper c.args.directory.now c.requires.none c.requires.known at.number at._level
          at.invariant c.args.reads c.requires.reads (omega (arith, w.loop-level-test.false))
      | then-loop-level-test+else-number-upper+in_ok-above+else-above-number+else-level-reads w ↦
          tells-end d c.args.upper c.args.directory.now c.requires.none c.requires.known w.in_ok-above.above
          (at._level + 1) (climbs-next d c.args.upper c.args.directory.now c.requires.none c.requires.known at.number
          at._level at.invariant (apart at.number c.args.upper w.if-number-upper.false) w.in_ok-above.above
          w.in_ok-above.ensures.parent w.in_ok-above.ensures.reads.object
          (apart w.in_ok-above.above at.number w.if-above-number.false)) c.args.reads c.requires.reads
          (omega (arith, w.loop-level-test.true))
    ]
