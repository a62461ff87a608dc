-- The entries up to here are appended.
use Rattle.std.proofs.Common.{take}
use Rattle.nfs_wire.specs.Results.{entryplus3, full_entry_value}
use Rattle.nfs_xdr.proofs.EntryListLemmas.{AreAppended}
use Rattle.nfs_wire.proofs.replies.pages.write_full_entries.Given as goal

abbrev pub invariant-loop-full : goal.invariant-loop-full
invariant-loop-full l =
    AreAppended entryplus3 full_entry_value l.initial.writer l.writer (take l.full-index l.entries)
