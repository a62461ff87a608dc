use Rattle.std.proofs.Common.{take}
use Rattle.std.specs.List.{All}
use Rattle.nfs_wire.specs.Replies.{HasEntryForm}
use Rattle.nfs_engine.proofs.forms.names_are_formed.Given as goal

abbrev pub invariant-loop-entry : goal.invariant-loop-entry
invariant-loop-entry l = All HasEntryForm (take l.entry-index l.entries)
