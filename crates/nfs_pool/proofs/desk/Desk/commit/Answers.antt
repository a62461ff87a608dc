use Rattle.std.proofs.Common.{◌≡◌, ◌∙◌, List, ap, map, subst, sym}
use Rattle.nfs_objects.specs.Store.{with_writes}
use Rattle.nfs_objects.specs.Values.{write_value}
use Rattle.nfs_objects.specs.declared.change.Write.{Write}
use Rattle.nfs_engine.specs.Book.{store_in}
use Rattle.nfs_stamps.specs.Marking.{Writes}
use Rattle.nfs_pool.proofs.MarkedWritesLemmas.{makes-store}
use Rattle.nfs_pool.proofs.desk.Desk.commit.Goals as goal

pub invariant_of-self-in-Ok-clause-marked : goal.invariant_of-self-in-Ok-clause-marked
invariant_of-self-in-Ok-clause-marked g c =
    let old = store_in c.args.self.now.book in
    let new = store_in c.commit.new.self in
    let writes = map write_value c.deref.result.now in
    let same : writes ≡ c.args.finished.done.change.writes =
    ap (λ (ws : List Write). map write_value ws) c.deref.ensures.value ∙ c.in-Ok.ensures.leaves.writes in
    c.mark_written.ensures old.at new.at c.args.self.now.marked
    (makes-store old new writes (subst (λ (ws : Writes). new ≡ with_writes old ws) (sym same)
    c.in-Ok.ensures.commits.store))
