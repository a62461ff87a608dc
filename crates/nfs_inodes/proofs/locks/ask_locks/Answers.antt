use Rattle.std.proofs.Common.{◌≡◌, subst}
use Rattle.nfs_objects.specs.declared.address.Addr.TheVariants as addresses
use Rattle.nfs_inodes.proofs.UsageChangeLemmas.{on-ok}
use Rattle.nfs_inodes.proofs.LastNameAsksLemmas.{locks-asked}
use Rattle.nfs_inodes.specs.Asking.{with_wish}
use Rattle.nfs_inodes.proofs.locks.ask_locks.Goals as goal

pub returns-clause-ok : goal.returns-clause-ok
returns-clause-ok c =
    on-ok c.add.result (λ added. locks-asked c.args.draft.now c.args.number c.args.asking.now.asked.items
    c.add.new.self.asked.items
    (subst (λ i. c.add.new.self.asked.items
    ≡ with_wish c.args.draft.now (addresses.Locks i) c.args.asking.now.asked.items) c.bucket_index.ensures.index added))
    c.add.ensures.ok
