use Rattle.std.proofs.Common.{◌∙◌, rules, tests}
use Rattle.std.proofs.lemmas.Iterator.{YieldsList-from_slice}
use Rattle.std.proofs.lemmas.Iterator.Consumers.{YieldsList-from_filter, count_from_yields_List}
use Rattle.std.proofs.lemmas.List.Sums.{length-filter}
use Rattle.nfs_server.specs.Sharing.{is_of}
use Rattle.nfs_server.proofs.network.sharing.count_of.Goals as goal

pub returns : goal.returns
returns c =
    count_from_yields_List c.filter.result _ c.count.ensures.ran
    (YieldsList-from_filter _ (is_of c.args.host) (YieldsList-from_slice _ cc) c.filter.ensures.closure
    (λ x r q k. search (rules, tests)))
    ∙ length-filter (is_of c.args.host) c.args.present.now
