-- It is the place of the first from the end.
use Rattle.std.proofs.Common.{rules, tests}
use Rattle.std.proofs.lemmas.Iterator.Adapters.{YieldsList-from_rev_slice}
use Rattle.std.proofs.lemmas.Iterator.Search.{position_from_yields_List}
use Rattle.nfs_machine.specs.Bytes.{same_bytes}
use Rattle.nfs_server.specs.declared.callbacks.CallbackAddress.{CallbackAddress}
use Rattle.nfs_server.proofs.callbacks.Callbacks.behind_host.Goals as goal

pub returns : goal.returns
returns c =
    position_from_yields_List (λ (callback : CallbackAddress). same_bytes callback.host c.args.host.now) _ _
    c.position.result c.position.ensures.ran (YieldsList-from_rev_slice c.args.self.now.list.items cc)
    (λ x b q k. search (rules, tests))
