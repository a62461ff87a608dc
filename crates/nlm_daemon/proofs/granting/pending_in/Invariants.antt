-- What is found in the files that are left is found in all of them.
use Rattle.std.proofs.Common.{Option}
use Rattle.nlm_daemon.specs.Granted.{FindsPending}
use Rattle.nlm_daemon.specs.declared.granting.FoundGrant.{FoundGrant}
use Rattle.nlm_daemon.proofs.granting.pending_in.Given as goal

abbrev pub invariant-loop-file : goal.invariant-loop-file
invariant-loop-file l = (found : Option FoundGrant) → FindsPending l.exports l.files l.number found →
    FindsPending l.exports l.fn.files l.number found
