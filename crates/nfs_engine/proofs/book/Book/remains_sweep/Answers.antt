use Rattle.std.proofs.Common.{sym, ◌∙◌}
use Rattle.nfs_engine.proofs.DeadInodeLemmas.{lives-listed, may-remains, remains-dead, remains-none, remains-other}
use Rattle.nfs_engine.proofs.DeadInodeLemmas.{page-small, remains-over}
use Rattle.nfs_engine.specs.Book.{store_in}
use Rattle.nfs_engine.proofs.book.Book.remains_sweep.Goals as goal

pub returns-in_default-clause-none : goal.returns-in_default-clause-none
returns-in_default-clause-none c = λ none.
    remains-none (store_in c.args.self.now) c.args.number (sym c.in_default.ensures)

pub returns-then-not-is_listed-clause-none : goal.returns-then-not-is_listed-clause-none
returns-then-not-is_listed-clause-none c = λ none.
    remains-dead (store_in c.args.self.now) c.args.number c.in-Some.inode.now (sym c.in-Some.ensures)
    (lives-listed (store_in c.args.self.now) c.args.number c.in-Some.inode.now (sym c.in-Some.ensures)
    c.exports.result.now c.is_listed.result c.exports.ensures c.is_listed.ensures ∙ c.if-not-is_listed.true)

pub returns-in_default-content-clause-none : goal.returns-in_default-content-clause-none
returns-in_default-content-clause-none c = λ none.
    remains-other (store_in c.args.self.now) c.args.number c.in-Some.inode.now (sym c.in-Some.ensures)
    c.in_default-content.not-Regular

pub returns-in_default-last_remains-clause-none : goal.returns-in_default-last_remains-clause-none
returns-in_default-last_remains-clause-none c = λ none.
    remains-over (store_in c.args.self.now) c.args.number c.in-Some.inode.now (sym c.in-Some.ensures)
    c.in-Regular.map c.in-Regular.is c.in_default-last_remains.ensures

pub without-requires : goal.without-requires
without-requires c =
    page-small c.in-Regular.map.pages c.in-Regular.map.remains c.in-Some-last_remains.page
    c.in-Some-last_remains.ensures

pub invariant_of-result : goal.invariant_of-result
invariant_of-result c =
    page-small c.in-Regular.map.pages c.in-Regular.map.remains c.in-Some-last_remains.page
    c.in-Some-last_remains.ensures

pub returns-clause-may : goal.returns-clause-may
returns-clause-may c =
    may-remains (store_in c.args.self.now) c.args.number c.in-Some-last_remains.page c.in-Some.inode.now
    c.in-Regular.map c.without.result _ (sym c.in-Some.ensures)
    (lives-listed (store_in c.args.self.now) c.args.number c.in-Some.inode.now (sym c.in-Some.ensures)
    c.exports.result.now c.is_listed.result c.exports.ensures c.is_listed.ensures ∙ c.if-not-is_listed.false)
    c.in-Regular.is c.in-Some-last_remains.ensures
    (rw c.pages.ensures at c.without.ensures)
    c.in_ok-left.ensures
