-- The names up to here are appended.
use Rattle.std.proofs.Common.{take}
use Rattle.side_wire.specs.Mount.{host_name}
use Rattle.nfs_xdr.proofs.EntryListLemmas.{AreAppended}
use Rattle.side_wire.proofs.mount.results.write_groups.Given as goal

abbrev pub invariant-loop-host : goal.invariant-loop-host
invariant-loop-host l = AreAppended host_name (λ host. host) l.initial.writer l.writer (take l.host-index l.hosts)
