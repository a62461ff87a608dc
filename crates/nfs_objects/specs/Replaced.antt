-- What other exports make of what is kept.
use Rattle.std.specs.Prelude.{is_none, is_some, if◌then◌else◌}
use Rattle.std.specs.FinMap.{get}
use Rattle.nfs_machine.specs.FileLists.{grants_but}
use Rattle.nfs_machine.specs.Replacing.{of_living, staying}
use Rattle.nfs_machine.specs.State.{PendingGrant, State}
use Rattle.nfs_objects.specs.ExportTables.{ExportTableValue}
use Rattle.nfs_objects.specs.Stands.{StoreMeaning, counts}
use Rattle.nfs_objects.specs.Sums.{no_usage}

-- these exports, and what stays where they live
abbrev pub state_with : State → ExportTableValue → State
state_with m table =
    let objects = staying table.exports m.objects in
    record m {
      exports = table.exports;
      last_export = table.last;
      objects = objects;
      locks = of_living objects m.locks;
      shares = of_living objects m.shares;
      waiting = of_living objects m.waiting;
      granted = grants_but (λ (g : PendingGrant). is_none (get objects g.file)) m.granted;
    }

abbrev pub with_table : StoreMeaning → ExportTableValue → StoreMeaning
with_table k table =
    let after = state_with k.state table in
    record {
      state = after;
      links = λ n. if is_some (get after.objects n) then k.links n else 0;
      parents = λ n. if is_some (get after.objects n) then k.parents n else 0;
      usage = λ e g. if counts after e then k.usage e g else no_usage;
    }
