use Rattle.std.proofs.Common.{Some, subst}
use Rattle.std.specs.Prelude.{option_copied}
use Rattle.nfs_inodes.proofs.PutObjectLemmas.{knows-on, none-turns, set-turns}
use Rattle.nfs_objects.specs.declared.address.Addr.TheVariants as addresses
use Rattle.nfs_inodes.specs.Known.{HasInode}
use Rattle.nfs_inodes.specs.Sets.{with_settings}
use Rattle.nfs_inodes.proofs.setting.set_attributes.Goals as goal

pub returns-in_default-clause-turns : goal.returns-in_default-clause-turns
returns-in_default-clause-turns c =
    none-turns c.args.draft.now c.args.number (λ o. Some (with_settings c.args.settings.now o))
    (subst (λ o. HasInode c.args.draft.now c.args.number (option_copied o)) c.in_default.is
    c.in_ok-inode.ensures.inode)

pub returns-clause-turns : goal.returns-clause-turns
returns-clause-turns c =
    set-turns c.args.draft.now c.args.number c.put.new.self c.in-Some.inode.now c.in_ok-new.new c.args.settings.now
    (subst (λ o. HasInode c.args.draft.now c.args.number (option_copied o)) c.in-Some.is c.in_ok-inode.ensures.inode)
    c.in_ok-new.ensures c.in_ok-put.ensures.ok c.in_ok-put.ensures.fits

pub returns-clause-known : goal.returns-clause-known
returns-clause-known c =
    let reads = c.in_ok-inode.ensures.reads in
    let on = knows-on c.args.draft.now c.args.number c.put.new.self _ c.in_ok-put.ensures.ok in
    record { exports = on addresses.Exports reads.exports; object = on (addresses.Inode c.args.number) reads.object }
