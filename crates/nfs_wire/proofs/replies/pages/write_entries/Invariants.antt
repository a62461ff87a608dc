-- The entries up to here are appended.
use Rattle.std.proofs.Common.{take}
use Rattle.nfs_wire.specs.Results.{entry3, entry_value}
use Rattle.nfs_xdr.proofs.EntryListLemmas.{AreAppended}
use Rattle.nfs_wire.proofs.replies.pages.write_entries.Given as goal

abbrev pub invariant-loop-entry : goal.invariant-loop-entry
invariant-loop-entry l = AreAppended entry3 entry_value l.initial.writer l.writer (take l.entry-index l.entries)
