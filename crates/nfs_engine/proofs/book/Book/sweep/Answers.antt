use Rattle.nfs_engine.proofs.SweptBookLemmas.{book-leads, book-rest, book-sweeps, sweep-stands, swept-book}
use Rattle.nfs_engine.specs.Tables.{store_of}
use Rattle.nfs_engine.proofs.book.Book.sweep.Goals as goal

pub sweep-requires : goal.sweep-requires
sweep-requires c = sweep-stands (store_of c.self.inside.journal.objects.slots) c.args.sweep
    (rw (← c.self.view_is) at c.requires)

pub invariant_of-self : goal.invariant_of-self
invariant_of-self c = swept-book c.self.inside.journal c.sweep.new.self c.self.inside.replies c.self.inside.calls _ _
    c.args.sweep (rw (← c.self.view_is) at c.requires) c.self.invariant c.sweep.ensures.at c.sweep.ensures.last
    c.sweep.ensures.rest

pub returns-clause-sweeps : goal.returns-clause-sweeps
returns-clause-sweeps c = rw (← c.self.view_is) (book-sweeps c.self.inside.journal c.sweep.new.self
    c.self.inside.replies c.self.inside.calls _ _ c.args.sweep (rw (← c.self.view_is) at c.requires) c.self.invariant
    c.sweep.ensures.at c.sweep.ensures.last c.sweep.ensures.rest)

pub returns-clause-leads : goal.returns-clause-leads
returns-clause-leads c = rw (← c.self.view_is) (book-leads c.self.inside.journal c.sweep.new.self
    c.self.inside.replies c.self.inside.calls _ _ c.args.sweep (rw (← c.self.view_is) at c.requires) c.self.invariant
    c.sweep.ensures.at c.sweep.ensures.last c.sweep.ensures.rest)

pub returns-clause-rest : goal.returns-clause-rest
returns-clause-rest c = rw (← c.self.view_is) (book-rest c.self.inside.journal c.sweep.new.self
    c.self.inside.replies c.self.inside.calls _ _ c.args.sweep (rw (← c.self.view_is) at c.requires) c.self.invariant
    c.sweep.ensures.at c.sweep.ensures.last c.sweep.ensures.rest)
