use Rattle.std.proofs.Common.{◌≡◌, ◌-◌, ◌≤◌, length}
use Rattle.nfs_tables.specs.Tables.{Keeps}
use Rattle.nfs_tables.proofs.table.Table.move_some.Given as goal

-- so many have moved
abbrev pub invariant-loop-moved : goal.invariant-loop-moved
invariant-loop-moved g l = record {
  keeps : Keeps g.K.PartialEq.eq l.initial.self l.self;
  room : l.initial.self.room ≤ l.self.room;
  waiting : length l.self.waiting ≡ length l.initial.self.waiting - l._moved;
}
