use Rattle.std.proofs.Common.{None, get_or, rules, tests}
use Rattle.std.proofs.lemmas.List.{get_or_default}
use Rattle.nfs_server.proofs.SharingLemmas.{greatest_more, greatest_none}
use Rattle.nfs_server.proofs.network.sharing.greatest_count.Goals as goal

pub loop-place-init : goal.loop-place-init
loop-place-init c = greatest_none c.args.present.now

pub loop-place-preserved : goal.loop-place-preserved
loop-place-preserved c =
    greatest_more c.args.present.now c.loop-place.place c.loop-place.most c.count_of.result c.max-most.result
    (get_or c.args.present.now c.loop-place.place (record { host = 0; idle = None })) c.loop-place-test.true
    (λ d. get_or_default c.args.present.now c.loop-place.place d (record { host = 0; idle = None }) c.loop-place-test.true)
    c.count_of.ensures (search (rules, tests)) c.loop-place.invariant
