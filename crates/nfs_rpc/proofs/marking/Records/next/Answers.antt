-- The first of the queued records is the next of those given.
use Rattle.nfs_rpc.proofs.FragmentByteLemmas.{gives_next}
use Rattle.nfs_rpc.proofs.marking.Records.next.Goals as goal

pub returns-clause-gives : goal.returns-clause-gives
returns-clause-gives c = rw (← c.self.view_is) (gives_next c.pop_front.result c.self.inside.queued.items
    c.pop_front.new.self.items c.self.inside.content.items c.self.inside.place c.pop_front.ensures.items)
