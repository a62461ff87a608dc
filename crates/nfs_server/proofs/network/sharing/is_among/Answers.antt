use Rattle.std.proofs.Common.{rules, tests}
use Rattle.std.proofs.lemmas.Iterator.{YieldsList-from_slice}
use Rattle.std.proofs.lemmas.Iterator.Search.{any_from_yields_List}
use Rattle.nfs_server.specs.Sharing.{is_of}
use Rattle.nfs_server.proofs.network.sharing.is_among.Goals as goal

pub returns : goal.returns
returns c =
    any_from_yields_List (is_of c.args.host) _ _ _ c.any.ensures.ran (YieldsList-from_slice _ cc)
    (λ x b q k. search (rules, tests))
