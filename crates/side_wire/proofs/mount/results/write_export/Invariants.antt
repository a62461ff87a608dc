-- The entries up to here are appended.
use Rattle.std.proofs.Common.{take}
use Rattle.side_wire.specs.Mount.{exportnode, exportnode_value}
use Rattle.nfs_xdr.proofs.EntryListLemmas.{AreAppended}
use Rattle.side_wire.proofs.mount.results.write_export.Given as goal

abbrev pub invariant-loop-export : goal.invariant-loop-export
invariant-loop-export l = AreAppended exportnode exportnode_value l.initial.writer l.writer
    (take l.export-index l.exports)
