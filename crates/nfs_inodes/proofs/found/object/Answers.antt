use Rattle.std.proofs.Common.{subst}
use Rattle.std.specs.Prelude.{option_copied}
use Rattle.nfs_inodes.proofs.ShownKindLemmas.{known-shown}
use Rattle.nfs_inodes.proofs.StandsLemmas.{none-lives, shows-known, some-lives}
use Rattle.nfs_inodes.specs.Known.{HasInode}
use Rattle.nfs_inodes.proofs.found.object.Goals as goal

pub returns-in-Some-clause-object : goal.returns-in-Some-clause-object
returns-in-Some-clause-object c =
    some-lives c.args.draft.now c.args.number c.in-Some.inode.now c.known_of.result
    (subst (λ o. HasInode c.args.draft.now c.args.number (option_copied o)) c.in-Some.is c.in_ok-inode.ensures.inode)
    c.known_of.ensures

pub returns-in-None-clause-object : goal.returns-in-None-clause-object
returns-in-None-clause-object c =
    none-lives c.args.draft.now c.args.number (subst (λ o. HasInode c.args.draft.now c.args.number (option_copied o))
    c.in-None.is c.in_ok-inode.ensures.inode)

pub returns-in-Some-clause-exported : goal.returns-in-Some-clause-exported
returns-in-Some-clause-exported c =
    shows-known c.args.draft.now c.args.number c.in-Some.inode.now c.known_of.result
    (subst (λ o. HasInode c.args.draft.now c.args.number (option_copied o)) c.in-Some.is
    c.in_ok-inode.ensures.inode) c.known_of.ensures

pub returns-in-Some-clause-shown : goal.returns-in-Some-clause-shown
returns-in-Some-clause-shown c =
    known-shown c.args.draft.now c.args.number c.in-Some.inode.now c.known_of.result
    (subst (λ o. HasInode c.args.draft.now c.args.number (option_copied o)) c.in-Some.is
    c.in_ok-inode.ensures.inode) c.known_of.ensures
