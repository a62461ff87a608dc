use Rattle.nfs_engine.proofs.BookLemmas.{given_up}
use Rattle.nfs_engine.proofs.book.Book.give_up.Goals as goal

pub invariant_of-self : goal.invariant_of-self
invariant_of-self c =
    let book = c.self.inside in
    given_up book.journal book.replies book.calls
    (record { start = book.start; limits = book.limits }) book.era_records c.self.invariant
    c.end.new.self _ _ c.end.ensures.ended
