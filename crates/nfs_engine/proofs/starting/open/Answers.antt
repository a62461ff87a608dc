use Rattle.nfs_engine.proofs.OpeningAddressLemmas.{filled-once, taken-held}
use Rattle.nfs_engine.proofs.starting.open.Goals as goal

pub fill-requires : goal.fill-requires
fill-requires c = taken-held _ _ _ _ _ (rw c.in-Yes.is at c.in_ok-acquire.ensures).1

pub returns : goal.returns
returns c =
    filled-once _ _ _ _ _ _ _ _ c.requires (rw c.in-Yes.is at c.in_ok-acquire.ensures).1 c.fill.ensures
    c.release.ensures
