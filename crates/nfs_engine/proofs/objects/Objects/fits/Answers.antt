use Rattle.std.proofs.Common.{List, subst}
use Rattle.std.specs.Bool.{Decides}
use Rattle.std.specs.List.{AllByRecursion}
use Rattle.nfs_objects.specs.declared.view.Reserved.{Reserved}
use Rattle.nfs_engine.proofs.FitsLemmas.{fitting}
use Rattle.nfs_engine.specs.Tables.{Unspent, store_of}
use Rattle.nfs_engine.proofs.objects.Objects.fits.Goals as goal

pub returns-then-shows : goal.returns-then-shows
returns-then-shows c =
    let store = store_of c.args.self.now.slots in
    fitting store c.args.view.now c.shows.result c.may_give.result c.reserved.ensures.kept c.if-shows.true
    c.shows.ensures
    (subst (λ (rs : List Reserved). Decides c.may_give.result (AllByRecursion (Unspent store) rs))
    c.reserved.ensures.reserved c.may_give.ensures)
