use Rattle.std.proofs.Common.{List, true, refl, subst}
use Rattle.std.specs.Bool.{Decides}
use Rattle.std.specs.List.{AllByRecursion}
use Rattle.nfs_objects.specs.declared.view.Reserved.{Reserved}
use Rattle.nfs_engine.proofs.FitsLemmas.{fitting}
use Rattle.nfs_engine.specs.Tables.{Unspent, store_of}
use Rattle.nfs_engine.proofs.objects.Objects.fits_shown.Goals as goal

pub returns : goal.returns
returns c =
    let store = store_of c.args.self.now.slots in
    fitting store c.args.view.now true c.may_give.result c.reserved.ensures.kept refl
    (λ shown. c.requires, λ shown. refl)
    (subst (λ (rs : List Reserved). Decides c.may_give.result (AllByRecursion (Unspent store) rs))
    c.reserved.ensures.reserved c.may_give.ensures)
