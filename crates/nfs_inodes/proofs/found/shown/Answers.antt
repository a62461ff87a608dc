use Rattle.std.proofs.Common.{subst}
use Rattle.nfs_inodes.proofs.StandsLemmas.{shown-none, shown-some}
use Rattle.nfs_inodes.specs.Known.{IsObject}
use Rattle.nfs_inodes.proofs.found.shown.Goals as goal

pub returns-in-Some : goal.returns-in-Some
returns-in-Some c = λ s k w. shown-some k.state c.args.number c.in-Some.known
    (subst (IsObject k.state c.args.number) c.in-Some.is (c.in_ok-known.ensures.object s k w))

pub returns-in-None : goal.returns-in-None
returns-in-None c = λ s k w. shown-none k.state c.args.number (subst (IsObject k.state c.args.number) c.in-None.is
    (c.in_ok-known.ensures.object s k w))
