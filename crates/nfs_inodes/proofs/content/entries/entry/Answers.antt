use Rattle.std.proofs.Common.{Some, None, ap, subst, refl}
use Rattle.std.proofs.lemmas.Result.{err_from_is_err_and}
use Rattle.std.specs.Prelude.{option_copied}
use Rattle.nfs_objects.specs.Stands.{entry_map_in}
use Rattle.nfs_inodes.proofs.DirectoryMapLemmas.{directory-lives}
use Rattle.nfs_inodes.proofs.UsageChangeLemmas.{stands-first}
use Rattle.nfs_inodes.proofs.ReaderHaltLemmas.{any-stops}
use Rattle.nfs_inodes.proofs.NameLeadsLemmas.{entry-led, entry-lives, entry-there, no-entry-there, no-map}
use Rattle.nfs_inodes.specs.Entered.{ShowsLeaf}
use Rattle.nfs_inodes.specs.Known.{HasInode}
use Rattle.nfs_inodes.proofs.content.entries.entry.Goals as goal

pub returns-in_default-clause-entry : goal.returns-in_default-clause-entry
returns-in_default-clause-entry c =
    no-entry-there c.args.draft.now c.args.directory.now.known.number c.args.name.now None
    (subst (λ o. HasInode c.args.draft.now c.args.directory.now.known.number (option_copied o)) c.in_default.is
    c.in_ok-inode.ensures.inode) refl

pub returns-in_default-content-clause-entry : goal.returns-in_default-content-clause-entry
returns-in_default-content-clause-entry c =
    no-entry-there c.args.draft.now c.args.directory.now.known.number c.args.name.now (Some c.in-Some.inode.now)
    (subst (λ o. HasInode c.args.draft.now c.args.directory.now.known.number (option_copied o)) c.in-Some.is
    c.in_ok-inode.ensures.inode) (no-map c.in-Some.inode.now.content c.in_default-content.not-Directory)

pub leaf_of-requires : goal.leaf_of-requires
leaf_of-requires c =
    directory-lives c.args.draft.now c.args.directory.now.known.number c.in-Some.inode.now c.in-Directory.header.entries
    (subst (λ o. HasInode c.args.draft.now c.args.directory.now.known.number (option_copied o)) c.in-Some.is
    c.in_ok-inode.ensures.inode) (ap entry_map_in c.in-Directory.is)
    (stands-first c.args.draft.now c.requires.none)

pub returns-in_err-leaf-clause-entry : goal.returns-in_err-leaf-clause-entry
returns-in_err-leaf-clause-entry c =
    let p = err_from_is_err_and c.from_residual-in_err-leaf.result c.from_residual-in_err-leaf.ensures.1 in
    rw (p.1, p.2) (any-stops c.args.draft.now _ _ c.in_err-leaf.ensures)

pub returns-in-None-clause-entry : goal.returns-in-None-clause-entry
returns-in-None-clause-entry c =
    let m = c.in-Directory.header.entries in
    entry-there c.args.draft.now c.args.directory.now.known.number c.args.name.now c.in-Some.inode.now m None
    (subst (λ o. HasInode c.args.draft.now c.args.directory.now.known.number (option_copied o)) c.in-Some.is
    c.in_ok-inode.ensures.inode) (ap entry_map_in c.in-Directory.is)
    (subst (ShowsLeaf c.args.draft.now c.args.directory.now.known.number m c.args.name.now) c.in-None.is
    c.in_ok-leaf.ensures)

pub returns-in-Some-2-clause-entry : goal.returns-in-Some-2-clause-entry
returns-in-Some-2-clause-entry c =
    let m = c.in-Directory.header.entries in
    entry-there c.args.draft.now c.args.directory.now.known.number c.args.name.now c.in-Some.inode.now m
    (Some c.in-Some-2.leaf)
    (subst (λ o. HasInode c.args.draft.now c.args.directory.now.known.number (option_copied o)) c.in-Some.is
    c.in_ok-inode.ensures.inode) (ap entry_map_in c.in-Directory.is)
    (subst (ShowsLeaf c.args.draft.now c.args.directory.now.known.number m c.args.name.now) c.in-Some-2.is
    c.in_ok-leaf.ensures)

pub returns-in-Some-2-clause-lives : goal.returns-in-Some-2-clause-lives
returns-in-Some-2-clause-lives c =
    entry-lives c.args.draft.now c.args.directory.now.known c.requires.none c.requires.known c.args.name.now
    (Some c.in-Some-2.leaf.number) (returns-in-Some-2-clause-entry c)

pub returns-in-Some-2-clause-led : goal.returns-in-Some-2-clause-led
returns-in-Some-2-clause-led c =
    let m = c.in-Directory.header.entries in
    entry-led c.args.draft.now c.args.directory.now.known.number c.args.name.now c.in-Some.inode.now m c.requires.none
    (subst (λ o. HasInode c.args.draft.now c.args.directory.now.known.number (option_copied o)) c.in-Some.is
    c.in_ok-inode.ensures.inode) (ap entry_map_in c.in-Directory.is) (Some c.in-Some-2.leaf)
    (subst (ShowsLeaf c.args.draft.now c.args.directory.now.known.number m c.args.name.now) c.in-Some-2.is
    c.in_ok-leaf.ensures)
