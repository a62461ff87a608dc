use Rattle.std.proofs.Common.{Some, None, subst, refl}
use Rattle.std.specs.Prelude.{option_copied}
use Rattle.nfs_inodes.proofs.NameLeadsLemmas.{cookie-shown, cookie-there}
use Rattle.nfs_inodes.specs.Known.{HasInode}
use Rattle.nfs_inodes.proofs.content.entries.last_cookie.Goals as goal

pub returns-in-Some-clause-cookie : goal.returns-in-Some-clause-cookie
returns-in-Some-clause-cookie c =
    cookie-there c.args.draft.now c.args.directory.now.known.number (Some c.in-Some.inode.now) _
    (subst (λ o. HasInode c.args.draft.now c.args.directory.now.known.number (option_copied o)) c.in-Some.is
    c.in_ok-inode.ensures.inode) c.last_cookie_in.ensures

pub returns-in-Some-clause-shown : goal.returns-in-Some-clause-shown
returns-in-Some-clause-shown c =
    cookie-shown c.args.draft.now c.args.directory.now.known.number (Some c.in-Some.inode.now) _
    (subst (λ o. HasInode c.args.draft.now c.args.directory.now.known.number (option_copied o)) c.in-Some.is
    c.in_ok-inode.ensures.inode) c.last_cookie_in.ensures

pub returns-in-None-clause-cookie : goal.returns-in-None-clause-cookie
returns-in-None-clause-cookie c =
    cookie-there c.args.draft.now c.args.directory.now.known.number None 0
    (subst (λ o. HasInode c.args.draft.now c.args.directory.now.known.number (option_copied o)) c.in-None.is
    c.in_ok-inode.ensures.inode) refl

pub returns-in-None-clause-shown : goal.returns-in-None-clause-shown
returns-in-None-clause-shown c =
    cookie-shown c.args.draft.now c.args.directory.now.known.number None 0
    (subst (λ o. HasInode c.args.draft.now c.args.directory.now.known.number (option_copied o)) c.in-None.is
    c.in_ok-inode.ensures.inode) refl
