use Rattle.std.proofs.Common.{◌≡◌, take}
use Rattle.nfs_objects.specs.Entries.{without_entry}
use Rattle.nfs_objects.proofs.entry_page.EntryPage.without_entry.Given as goal

-- those of the entries so far that have another name or another cookie are copied
abbrev pub invariant-loop-named : goal.invariant-loop-named
invariant-loop-named l = l.entries.items ≡ without_entry (take l.named-index l.self) l.name l.cookie
