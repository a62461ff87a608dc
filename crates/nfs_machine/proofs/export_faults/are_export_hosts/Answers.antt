use Rattle.std.proofs.Common.{rules, tests, arith}
use Rattle.std.proofs.lemmas.Iterator.{YieldsList-from_slice}
use Rattle.std.proofs.lemmas.Iterator.Search.{all_from_yields_List}
use Rattle.nfs_machine.proofs.ExportFaultLemmas.{are_export_hosts-all}
use Rattle.nfs_machine.specs.ExportFaults.{has_length}
use Rattle.nfs_machine.proofs.export_faults.are_export_hosts.Goals as goal

pub returns-in-1-to-1024 : goal.returns-in-1-to-1024
returns-in-1-to-1024 c =
    let all = all_from_yields_List (has_length 255) _ _ c.all.result c.all.ensures.ran
    (YieldsList-from_slice c.args.hosts.now cc) (λ x b q k. search (rules, tests)) in
    are_export_hosts-all c.args.hosts.now c.all.result (omega arith) (omega arith) all
