use Rattle.nfs_engine.proofs.ReserveLemmas.{reserved_sound, reserves}
use Rattle.nfs_engine.proofs.shard.Shard.reserve.Goals as goal

pub invariant_of-self-2 : goal.invariant_of-self-2
invariant_of-self-2 c =
    reserved_sound c.self.inside.index c.self.inside.next_generation c.self.inside.numbers c.free_number.new.numbers
    c.insert_reserved.new.self c.self.inside.others c.free_number.new.others c.in-Ok.number c.args.id
    c.insert_reserved.result c.self.invariant c.in-Ok.ensures.same c.in-Ok.ensures.free c.insert_reserved.ensures.key
    c.insert_reserved.ensures.was_vacant c.insert_reserved.ensures.updates

pub returns : goal.returns
returns c =
    rw (← c.self.view_is)
    (reserves c.self.inside.index c.self.inside.next_generation c.self.inside.numbers c.free_number.new.numbers
    c.insert_reserved.new.self c.self.inside.others c.free_number.new.others c.in-Ok.number c.args.id
    c.insert_reserved.result c.self.invariant c.in-Ok.ensures.same c.in-Ok.ensures.free c.insert_reserved.ensures.key
    c.insert_reserved.ensures.was_vacant c.insert_reserved.ensures.updates)
