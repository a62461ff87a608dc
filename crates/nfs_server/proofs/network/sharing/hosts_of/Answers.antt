use Rattle.std.proofs.Common.{◌∙◌, arith, false, sym}
use Rattle.nfs_server.proofs.SharingLemmas.{hosts_more}
use Rattle.nfs_server.proofs.network.sharing.hosts_of.Goals as goal

pub rests-preserved : goal.rests-preserved
rests-preserved c = (
  hosts_more c.in-Some.first.now c.in-Some.others.now c.rests.rest.now c.args.present.now c.rests.hosts false
      c.in-Some.ensures.cases.0 (sym c.if-is_among.false ∙ c.is_among.ensures) c.rests.invariant.0,
  omega (arith, c.rests.invariant.1, c.in-Some.ensures.cases.1),
)
