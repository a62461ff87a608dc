use Rattle.std.proofs.Common.{◌≡◌, take}
use Rattle.nfs_objects.proofs.entry_page.EntryPage.with_entry.Given as goal

-- the entries so far are copied
abbrev pub invariant-loop-named : goal.invariant-loop-named
invariant-loop-named l = l.entries.items ≡ take l.named-index l.self
