use Rattle.std.proofs.Common.{◌-◌, ap, subst, ◌∙◌}
use Rattle.std.specs.Prelude.{option_copied}
use Rattle.nfs_objects.specs.Stands.{entry_map_in, living_of_inode, map_in, parent_in}
use Rattle.nfs_objects.specs.declared.object.Inode.{Inode}
use Rattle.nfs_inodes.proofs.EditInodeLemmas.{edited-none, edited-turns}
use Rattle.nfs_inodes.specs.Known.{HasInode}
use Rattle.nfs_inodes.proofs.removing.lose_subdirectory.Goals as goal

pub returns-in_default : goal.returns-in_default
returns-in_default c =
    edited-none (λ o. o) (λ l. l - 1) c.args.draft.now c.args.directory.now.known.number
    (subst (λ o. HasInode c.args.draft.now c.args.directory.now.known.number (option_copied o)) c.in_default.is
    c.in_ok-inode.ensures.inode)

pub returns : goal.returns
returns c =
    let copy = c.in_ok-new.ensures.cases in
    edited-turns (λ o. o) (λ l. l - 1) c.args.draft.now c.args.directory.now.known.number c.put.new.self
    c.in-Some.inode.now _
    (subst (λ o. HasInode c.args.draft.now c.args.directory.now.known.number (option_copied o)) c.in-Some.is
    c.in_ok-inode.ensures.inode)
    (λ beside. ap (living_of_inode beside) copy) (ap (λ (i : Inode). map_in i.content) copy)
    (ap (λ (i : Inode). entry_map_in i.content) copy) (c.saturating_sub.ensures ∙ ap (λ (i : Inode). i.links - 1) copy)
    (ap (λ (i : Inode). parent_in i.content) copy)
    (ap (λ (i : Inode). i.generation) copy) (ap (λ (i : Inode). i.export) copy)
    c.in_ok-put.ensures.ok c.in_ok-put.ensures.fits
