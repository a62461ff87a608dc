use Rattle.std.proofs.Common.{ap, refl, ◌∙◌, ◌++◌}
use Rattle.std.proofs.lemmas.Result.{err_from_is_err_and}
use Rattle.nfs_machine.specs.Times.{time_of}
use Rattle.nfs_objects.specs.Calls.{addresses_of, locks_at}
use Rattle.nfs_objects.proofs.KnowsLemmas.{stops-wider}
use Rattle.nfs_objects.proofs.ModesSuitLemmas.{change-each}
use Rattle.nfs_inodes.proofs.MakerChainLemmas.{first-stops, group-lives, lost-directory}
use Rattle.nfs_inodes.proofs.MakerChainLemmas.{lost-other, turned-within}
use Rattle.nfs_inodes.proofs.UsageChangeLemmas.{stands-first, stands-on, usage-lives-first}
use Rattle.nfs_inodes.proofs.LastNameAsksLemmas.{covers-going, covers-gone}
use Rattle.nfs_inodes.proofs.LivedBeforeLemmas.{lived-taken, usage-there}
use Rattle.nfs_inodes.specs.Makes.{link_lost, name_taken}
use Rattle.nfs_inodes.specs.Removes.{directory_lost, name_lost}
use Rattle.nfs_inodes.specs.Stops.{counted_at, group_at, inode_at}
use Rattle.nfs_inodes.proofs.removing.take_name.Goals as goal

pub returns-in_err-ask_lost : goal.returns-in_err-ask_lost
returns-in_err-ask_lost c =
    let p = err_from_is_err_and c.from_residual.result c.from_residual.ensures.1 in
    let d = c.args.draft.now in
    let place = c.args.directory.now.known.number in
    let x = c.args.object.now.number in
    rw (p.1, p.2) (stops-wider d.modes (addresses_of d.view place ++ (counted_at d x ++ locks_at x))
    (addresses_of d.view place ++ (addresses_of d.view x ++ locks_at x)) 0 d.view _
    (covers-going d.view (addresses_of d.view place) (addresses_of d.view x) (group_at x (inode_at d x)) (locks_at x)
    (group-lives d x d.view (addresses_of d.view place ++ (addresses_of d.view x ++ locks_at x)) refl
    (usage-lives-first d x c.requires.none))) c.in_err-ask_lost.ensures)

pub take_entry-requires-clause-stands : goal.take_entry-requires-clause-stands
take_entry-requires-clause-stands c = stands-first c.args.draft.now c.requires.none

pub returns-in_err-take_entry : goal.returns-in_err-take_entry
returns-in_err-take_entry c =
    let p = err_from_is_err_and c.from_residual-in_err-take_entry.result
    c.from_residual-in_err-take_entry.ensures.1 in
    rw (p.1, p.2) (first-stops c.args.draft.now c.args.directory.now.known.number
    (addresses_of c.args.draft.now.view c.args.object.now.number ++ locks_at c.args.object.now.number) _
    c.in_err-take_entry.ensures)

pub lose_directory-requires-clause-alone : goal.lose_directory-requires-clause-alone
lose_directory-requires-clause-alone c = c.in_ok-take_entry.ensures.modes ∙ c.requires.alone

pub lose_directory-requires-clause-stands : goal.lose_directory-requires-clause-stands
lose_directory-requires-clause-stands c =
    stands-on c.args.draft.now c.take_entry.new.draft _ c.in_ok-take_entry.ensures
    (stands-first c.args.draft.now c.requires.none)

pub returns-in-Directory : goal.returns-in-Directory
returns-in-Directory c =
    let d = c.args.draft.now in
    let now = time_of d.ctx.moment in
    let place = c.args.directory.now.known.number in
    let x = c.args.object.now in
    let mid = c.take_entry.new.draft in
    let counts = group-lives mid x.number d.view
    (addresses_of d.view place ++ (addresses_of d.view x.number ++ locks_at x.number)) c.in_ok-take_entry.ensures.view
    (usage-there d mid (name_taken now place c.args.name.now) c.requires.none c.in_ok-take_entry.ensures
    (lived-taken now place c.args.name.now) x.number) in
    turned-within d mid (name_taken now place c.args.name.now) c.in_ok-take_entry.ensures
    (λ t. directory_lost t place x.number)
    c.lose_directory.new.draft (name_lost now place c.args.name.now x)
    (lost-directory now place c.args.name.now x c.in-Directory.is) c.lose_directory.result
    (λ v. addresses_of v place
    ++ ((addresses_of v x.number ++ group_at x.number (inode_at mid x.number)) ++ locks_at x.number))
    (addresses_of d.view place ++ (addresses_of d.view x.number ++ locks_at x.number))
    (covers-going d.view (addresses_of d.view place) (addresses_of d.view x.number)
    (group_at x.number (inode_at mid x.number)) (locks_at x.number) counts) c.lose_directory.ensures

pub lose_link-requires-clause-alone : goal.lose_link-requires-clause-alone
lose_link-requires-clause-alone c =
    change-each c.take_entry.new.draft c.args.object.now.number (c.in_ok-take_entry.ensures.modes ∙ c.requires.alone)

pub lose_link-requires-clause-locks : goal.lose_link-requires-clause-locks
lose_link-requires-clause-locks c = ap (λ m. m.locks) (c.in_ok-take_entry.ensures.modes ∙ c.requires.alone)

pub lose_link-requires-clause-stands : goal.lose_link-requires-clause-stands
lose_link-requires-clause-stands c =
    stands-on c.args.draft.now c.take_entry.new.draft _ c.in_ok-take_entry.ensures
    (stands-first c.args.draft.now c.requires.none)

pub returns-in_default : goal.returns-in_default
returns-in_default c =
    let d = c.args.draft.now in
    let now = time_of d.ctx.moment in
    let place = c.args.directory.now.known.number in
    let x = c.args.object.now in
    let mid = c.take_entry.new.draft in
    let counts = group-lives mid x.number d.view
    (addresses_of d.view place ++ (addresses_of d.view x.number ++ locks_at x.number)) c.in_ok-take_entry.ensures.view
    (usage-there d mid (name_taken now place c.args.name.now) c.requires.none c.in_ok-take_entry.ensures
    (lived-taken now place c.args.name.now) x.number) in
    turned-within d mid (name_taken now place c.args.name.now) c.in_ok-take_entry.ensures
    (λ t. link_lost t x.number x.attributes.links)
    c.lose_link.new.draft (name_lost now place c.args.name.now x)
    (lost-other now place c.args.name.now x c.in_default.not-Directory) c.lose_link.result
    (λ v. (addresses_of v x.number ++ group_at x.number (inode_at mid x.number)) ++ locks_at x.number)
    (addresses_of d.view place ++ (addresses_of d.view x.number ++ locks_at x.number))
    (covers-gone d.view (addresses_of d.view place) (addresses_of d.view x.number)
    (group_at x.number (inode_at mid x.number)) (locks_at x.number) counts) c.lose_link.ensures
