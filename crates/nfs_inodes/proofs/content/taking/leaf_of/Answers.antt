use Rattle.std.proofs.Common.{[], inr}
use Rattle.std.proofs.lemmas.Result.{err_from_is_err_and}
use Rattle.nfs_objects.specs.declared.address.Addr.TheVariants as addresses
use Rattle.nfs_inodes.proofs.AsksAfterWritesLemmas.{lives-stops}
use Rattle.nfs_inodes.proofs.TakenNameAsksLemmas.{place-lives}
use Rattle.nfs_inodes.proofs.content.taking.leaf_of.Goals as goal

pub returns-in_err-entries : goal.returns-in_err-entries
returns-in_err-entries c =
    let p = err_from_is_err_and c.from_residual.result c.from_residual.ensures.1 in
    let place = c.in-Some.place in
    rw (p.1, p.2) (lives-stops c.args.draft.now [] (addresses.Part c.args.number place.bucket place.part) _
    (inr (place-lives c.args.draft.now c.args.number c.args.map.now c.args.name.now place c.in-Some.ensures c.requires))
    c.in_err-entries.ensures)
