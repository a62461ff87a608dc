-- A message was put for each request so far.
use Rattle.std.proofs.Common.{map, take}
use Rattle.std.specs.Arc.{arc_value}
use Rattle.nfs_machine.specs.Grants.{grant_message}
use Rattle.nlm_daemon.specs.Comes.{Sends}
use Rattle.nlm_daemon.proofs.granting.send_grants.Given as goal

abbrev pub invariant-loop-request : goal.invariant-loop-request
invariant-loop-request l =
    Sends l.fn.draft l.draft (map grant_message (map arc_value (take l.request-index l.granted)))
