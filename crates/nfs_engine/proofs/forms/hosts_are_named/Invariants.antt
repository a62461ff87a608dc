use Rattle.std.proofs.Common.{take}
use Rattle.std.specs.List.{All}
use Rattle.side_wire.specs.Mount.{IsHostName}
use Rattle.nfs_engine.proofs.forms.hosts_are_named.Given as goal

abbrev pub invariant-loop-host : goal.invariant-loop-host
invariant-loop-host l = All IsHostName (take l.host-index l.hosts)
