use Rattle.std.proofs.Common.{sym}
use Rattle.nfs_engine.proofs.DeadInodeLemmas.{is-dead, not-inode, not-living, not-locked}
use Rattle.nfs_engine.specs.Book.{store_in}
use Rattle.nfs_engine.proofs.book.Book.dead_inode.Goals as goal

pub returns-in_err-inode : goal.returns-in_err-inode
returns-in_err-inode c =
    rw c.from_residual.ensures (not-inode (store_in c.args.self.now) c.args.number (sym c.in_err-inode.ensures))

pub returns-then-is_listed : goal.returns-then-is_listed
returns-then-is_listed c =
    not-living (store_in c.args.self.now) c.args.number _ (sym c.in_ok-inode.ensures) c.exports.result.now
    c.is_listed.result c.exports.ensures c.is_listed.ensures c.if-is_listed.true

pub returns-then-has_locks : goal.returns-then-has_locks
returns-then-has_locks c =
    not-locked (store_in c.args.self.now) c.args.number _ (sym c.in_ok-inode.ensures) c.has_locks.result
    c.has_locks.ensures c.if-has_locks.true

pub returns : goal.returns
returns c =
    is-dead (store_in c.args.self.now) c.args.number _ (sym c.in_ok-inode.ensures) c.exports.result.now
    c.is_listed.result c.has_locks.result c.exports.ensures c.is_listed.ensures c.if-is_listed.false
    c.has_locks.ensures c.if-has_locks.false
