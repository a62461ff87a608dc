use Rattle.nfs_engine.proofs.BookLemmas.{recalled}
use Rattle.nfs_engine.proofs.book.Book.recall.Goals as goal

pub invariant_of-self-in-Some : goal.invariant_of-self-in-Some
invariant_of-self-in-Some c =
    let book = c.self.inside in
    recalled book.journal book.replies book.calls
    (record { start = book.start; limits = book.limits }) book.era_records c.self.invariant
    c.find.new.self _ _ c.in_ok-reply.ensures.front
