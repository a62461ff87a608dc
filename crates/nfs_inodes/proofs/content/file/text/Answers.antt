use Rattle.std.proofs.Common.{Some, None, refl, subst, ◌∙◌}
use Rattle.std.specs.Prelude.{option_copied}
use Rattle.nfs_machine.specs.Checks.{text_in}
use Rattle.nfs_inodes.proofs.StandsLemmas.{contains-as}
use Rattle.nfs_inodes.specs.Known.{HasInode}
use Rattle.nfs_inodes.proofs.content.file.text.Goals as goal

pub returns-in_ok-text_in-in-Some : goal.returns-in_ok-text_in-in-Some
returns-in_ok-text_in-in-Some c = λ s k w.
    contains-as c.args.draft.now c.args.known.now.number (Some c.in-Some.inode.now)
    (subst (λ o. HasInode c.args.draft.now c.args.known.now.number (option_copied o)) c.in-Some.is
    c.in_ok-inode.ensures.inode) s k w.fits w.stands text_in (λ b more. refl) (λ e more last. refl)
    ∙ c.in_ok-text_in-in-Some.ensures

pub returns-in-None : goal.returns-in-None
returns-in-None c = λ s k w.
    contains-as c.args.draft.now c.args.known.now.number None
    (subst (λ o. HasInode c.args.draft.now c.args.known.now.number (option_copied o)) c.in-None.is
    c.in_ok-inode.ensures.inode) s k w.fits w.stands text_in (λ b more. refl) (λ e more last. refl)
