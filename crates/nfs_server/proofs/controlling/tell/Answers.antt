use Rattle.std.proofs.Common.{refl, subst}
use Rattle.nfs_server.proofs.AnsweredLinesLemmas.{applied_answered, checked_answered, same_standing}
use Rattle.nfs_server.specs.Control.{Takes}
use Rattle.nfs_server.specs.declared.commands.Taken.{Taken}
use Rattle.nfs_server.proofs.controlling.tell.Given as given
use Rattle.nfs_server.proofs.controlling.tell.Goals as goal

pub returns-in-Apply-clause-tells : goal.returns-in-Apply-clause-tells
returns-in-Apply-clause-tells g c = λ list more line takes.
    applied_answered (given.F-step g) list more c.args.standing.now c.hand_in.new.standing c.args.apply.now
    c.hand_in.new.apply line _ c.in-Apply.exports (subst (λ (t : Taken). Takes list line t more) c.in-Apply.is takes)
    c.hand_in.ensures.tells

pub returns-in-Check-clause-tells : goal.returns-in-Check-clause-tells
returns-in-Check-clause-tells g c = λ list more line takes.
    checked_answered (given.F-step g) list more c.args.standing.now c.args.apply.now line _ c.in-Check.exports
    (subst (λ (t : Taken). Takes list line t more) c.in-Check.is takes) c.compare.ensures

pub returns-in-End-clause-tells : goal.returns-in-End-clause-tells
returns-in-End-clause-tells g c = λ list more line takes.
    let ends = subst (λ (t : Taken). Takes list line t more) c.in-End.is takes in
    (ends.0, same_standing c.args.standing.now ends.1, refl)
