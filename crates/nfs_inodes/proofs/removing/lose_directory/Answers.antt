use Rattle.std.proofs.Common.{ap, refl, ◌∙◌, ◌++◌}
use Rattle.std.proofs.lemmas.Result.{err_from_is_err_and}
use Rattle.nfs_machine.specs.Times.{time_of}
use Rattle.nfs_objects.proofs.KnowsLemmas.{among-front, covers-among}
use Rattle.nfs_objects.specs.Calls.{addresses_of, locks_at}
use Rattle.nfs_objects.proofs.ModesSuitLemmas.{change-each}
use Rattle.nfs_inodes.proofs.MakerChainLemmas.{second-stops, turned-within}
use Rattle.nfs_inodes.specs.Makes.{link_lost}
use Rattle.nfs_inodes.specs.Removes.{directory_lost, subdirectory_lost}
use Rattle.nfs_inodes.specs.Stops.{counted_at}
use Rattle.nfs_inodes.proofs.removing.lose_directory.Goals as goal

pub returns-in_err-lose_link : goal.returns-in_err-lose_link
returns-in_err-lose_link c =
    let p = err_from_is_err_and c.from_residual.result c.from_residual.ensures.1 in
    rw (p.1, p.2) (second-stops c.args.draft.now (addresses_of c.args.draft.now.view c.args.directory.now.known.number)
    (counted_at c.args.draft.now c.args.number ++ locks_at c.args.number) _ c.in_err-lose_link.ensures)

pub lose_subdirectory-requires : goal.lose_subdirectory-requires
lose_subdirectory-requires c = c.in_ok-lose_link.ensures.modes ∙ c.requires.alone

pub lose_link-requires-clause-alone : goal.lose_link-requires-clause-alone
lose_link-requires-clause-alone c = change-each c.args.draft.now c.args.number c.requires.alone

pub lose_link-requires-clause-locks : goal.lose_link-requires-clause-locks
lose_link-requires-clause-locks c = ap (λ m. m.locks) c.requires.alone

pub returns : goal.returns
returns c =
    let d = c.args.draft.now in
    let now = time_of d.ctx.moment in
    let place = c.args.directory.now.known.number in
    turned-within d c.lose_link.new.draft (link_lost now c.args.number 1) c.in_ok-lose_link.ensures
    (λ t. subdirectory_lost place)
    c.lose_subdirectory.new.draft (directory_lost now place c.args.number) (λ k. refl) c.lose_subdirectory.result
    (λ v. addresses_of v place) (addresses_of d.view place ++ (counted_at d c.args.number ++ locks_at c.args.number))
    (covers-among (addresses_of d.view place)
    (addresses_of d.view place ++ (counted_at d c.args.number ++ locks_at c.args.number)) d.view
    (among-front (addresses_of d.view place) (counted_at d c.args.number ++ locks_at c.args.number)))
    c.lose_subdirectory.ensures
