use Rattle.std.proofs.Common.{◌≡◌, map, take}
use Rattle.nfs_server.specs.ExportTexts.{parts_of}
use Rattle.nfs_server.proofs.commands.Commands.copy.Given as goal

abbrev pub invariant-loop-text : goal.invariant-loop-text
invariant-loop-text l = map parts_of l.copies.items ≡ map parts_of (take l.text-index l.text-items)
