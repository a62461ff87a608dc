use Rattle.std.proofs.Common.{◌≡◌, map, take}
use Rattle.nfs_server.specs.ExportTexts.{export_parts, parts_of}
use Rattle.nfs_server.proofs.command_line.export_texts.Given as goal

abbrev pub invariant-loop-text : goal.invariant-loop-text
invariant-loop-text l = map parts_of l.list.items ≡ map (λ text. export_parts text.now) (take l.text-index l.texts)
