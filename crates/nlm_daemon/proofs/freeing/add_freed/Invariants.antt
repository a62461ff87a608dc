-- Once those of the files that are left are added, those of all are.
use Rattle.std.proofs.Common.{List}
use Rattle.nlm_ranges.specs.Buckets.{LockedValue}
use Rattle.nlm_daemon.specs.Freeing.{AddsFreed}
use Rattle.nlm_daemon.proofs.freeing.add_freed.Given as goal

abbrev pub invariant-loop-file : goal.invariant-loop-file
invariant-loop-file l = (new : List LockedValue) → AddsFreed l.exports l.caller_name l.files l.freed.items new →
    AddsFreed l.exports l.caller_name l.fn.files l.fn.freed.items new
