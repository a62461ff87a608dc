-- What waits so far is held up, and is no more than was tried; the file is on its way where the others are left behind.
use Rattle.std.proofs.Common.{◌≤◌, ◌++◌, drop, length, map}
use Rattle.std.specs.Arc.{arc_value}
use Rattle.nfs_machine.specs.OneFile.{AreHeldUp}
use Rattle.nlm_ranges.proofs.settling.Settling.try_each.Given as goal
use Rattle.nlm_ranges.specs.Granting.{LeadsOn, held_in, kept_in}

abbrev pub invariant-loop-place : goal.invariant-loop-place
invariant-loop-place l =
    let left = kept_in l.self ++ map arc_value (drop l.place l.requests) in
    AreHeldUp (held_in l.self) × ((length l.self.waiting.items ≤ l.place)
    × LeadsOn l.initial.self (map arc_value l.requests) l.self left)
