use Rattle.std.proofs.Common.{◌≡◌, ◌++◌, map, take}
use Rattle.nfs_machine.specs.Exports.{export_value}
use Rattle.nfs_server.specs.Changes.{told_but}
use Rattle.nfs_server.proofs.changes.tell_but.Given as goal

abbrev pub invariant-exports : goal.invariant-exports
invariant-exports l =
    l.line.items ≡ l.initial.line.items
    ++ told_but l.word (map export_value l.others) (map export_value (take l.export-index l.exports))
