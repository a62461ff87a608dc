-- The entries up to here are appended.
use Rattle.std.proofs.Common.{take}
use Rattle.side_wire.specs.Mount.{mountbody, mountbody_value}
use Rattle.nfs_xdr.proofs.EntryListLemmas.{AreAppended}
use Rattle.side_wire.proofs.mount.results.write_dump.Given as goal

abbrev pub invariant-loop-mount : goal.invariant-loop-mount
invariant-loop-mount l = AreAppended mountbody mountbody_value l.initial.writer l.writer (take l.mount-index l.mounts)
