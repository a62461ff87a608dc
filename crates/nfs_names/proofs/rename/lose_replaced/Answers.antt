use Rattle.nfs_objects.proofs.PromiseLemmas.{turns-none}
use Rattle.nfs_names.proofs.NamedLocksLemmas.{always-counting}
use Rattle.nfs_names.proofs.rename.lose_replaced.Goals as goal

pub lose_link-requires-clause-alone : goal.lose_link-requires-clause-alone
lose_link-requires-clause-alone c = rw c.in-Some.is at c.requires.alone

pub lose_link-requires-clause-stands : goal.lose_link-requires-clause-stands
lose_link-requires-clause-stands c = (rw c.in-Some.is at c.requires.counts).stands

pub returns-in-Some : goal.returns-in-Some
returns-in-Some c =
    rw c.in-Some.is
    (always-counting c.args.draft.now c.in-Some.replaced.number _ c.lose_link.result
    (rw c.in-Some.is at c.requires.lives) (rw c.in-Some.is at c.requires.counts)
    (rw c.names_counted.ensures at c.lose_link.ensures))

pub returns-in-None : goal.returns-in-None
returns-in-None c = rw c.in-None.is (turns-none c.args.draft.now)
