use Rattle.std.proofs.Common.{ap, sym, subst, ◌∙◌}
use Rattle.std.proofs.lemmas.Result.{err_from_is_err_and}
use Rattle.std.specs.Prelude.{option_copied}
use Rattle.nfs_machine.specs.Times.{time_of}
use Rattle.nfs_machine.specs.declared.context.Ctx.{Ctx}
use Rattle.nfs_objects.specs.Entries.{entry}
use Rattle.nfs_objects.specs.declared.address.Addr.TheVariants as addresses
use Rattle.nfs_objects.specs.declared.directory.Directory.{Directory}
use Rattle.nfs_objects.specs.declared.object.Inode.{Inode}
use Rattle.nfs_inodes.proofs.EntryAsksLemmas.{header-lives}
use Rattle.nfs_inodes.proofs.ReaderHaltLemmas.{any-stops}
use Rattle.nfs_inodes.proofs.AsksAfterWritesLemmas.{may-change-on}
use Rattle.nfs_inodes.proofs.RelinkLemmas.{given-relists, given-turns, keeps-generation, relisted-copy}
use Rattle.nfs_inodes.proofs.StillKnownLemmas.{inode-known-on, knows-both, knows-inode, lives-still, lives-less}
use Rattle.nfs_inodes.proofs.BucketWidthLemmas.{directory-stops, grown-stops}
use Rattle.nfs_inodes.specs.Entered.{DirectoryLives, grown_at}
use Rattle.nfs_inodes.proofs.content.naming.give_name.Goals as goal

pub returns-in_err-kept : goal.returns-in_err-kept
returns-in_err-kept c =
    let p = err_from_is_err_and c.from_residual.result c.from_residual.ensures.1 in
    rw (p.1, p.2) (directory-stops c.args.draft.now c.args.directory.now.known.number c.args.name.now c.args.cookie _
    c.in_err-kept.ensures)

pub staying-requires-clause-lives : goal.staying-requires-clause-lives
staying-requires-clause-lives c =
    let kept = c.in_ok-kept.kept in
    subst (λ (h : Directory). DirectoryLives c.args.draft.now c.args.directory.now.known.number h.entries)
    (sym c.in_ok-header.ensures.cases)
    (header-lives c.args.draft.now c.args.directory.now.known.number kept.inode.now kept.header.now
    c.in_ok-kept.ensures c.requires.stands)

pub returns-in_err-others : goal.returns-in_err-others
returns-in_err-others c =
    let p = err_from_is_err_and c.from_residual-in_err-others.result c.from_residual-in_err-others.ensures.1 in
    rw (p.1, p.2) (any-stops c.args.draft.now
    (grown_at c.args.draft.now c.args.directory.now.known.number c.args.name.now c.args.cookie) _
    c.in_err-others.ensures.staying)

pub with_entry-requires-clause-alone : goal.with_entry-requires-clause-alone
with_entry-requires-clause-alone c =
    may-change-on c.args.directory.now.known.number c.args.draft.now c.staying.new.draft
    c.in_ok-others.ensures.staying.enters (addresses.Inode c.args.directory.now.known.number) c.requires.alone

pub with_entry-requires-clause-lives : goal.with_entry-requires-clause-lives
with_entry-requires-clause-lives c =
    let n = c.args.directory.now.known.number in
    let kept = c.in_ok-kept.kept in
    lives-less c.staying.new.draft n c.in_ok-others.others kept.header.now.entries
    (rw c.in_ok-header.ensures.cases at c.in_ok-others.ensures.less)
    (lives-still c.args.draft.now c.staying.new.draft n kept.header.now.entries c.in_ok-others.ensures.staying.enters
    c.in_ok-others.ensures.knows
    (header-lives c.args.draft.now n kept.inode.now kept.header.now c.in_ok-kept.ensures c.requires.stands))

pub returns-in_err-wider : goal.returns-in_err-wider
returns-in_err-wider c =
    let d = c.args.draft.now in
    let n = c.args.directory.now.known.number in
    let kept = c.in_ok-kept.kept in
    let p = err_from_is_err_and c.from_residual-in_err-wider.result c.from_residual-in_err-wider.ensures.1 in
    rw (p.1, p.2) (grown-stops d n kept.inode.now kept.header.now c.in_ok-kept.ensures c.args.name.now c.args.cookie
    c.staying.new.draft c.in_ok-others.others c.in_ok-others.ensures.staying.enters.view
    c.in_ok-others.ensures.staying.enters.modes c.in_ok-others.ensures.knows
    (rw c.in_ok-header.ensures.cases at c.in_ok-others.ensures.less)
    (header-lives d n kept.inode.now kept.header.now c.in_ok-kept.ensures c.requires.stands) _
    c.in_err-wider.ensures.lists)

pub put-requires-clause-alone : goal.put-requires-clause-alone
put-requires-clause-alone c =
    let n = c.args.directory.now.known.number in
    may-change-on n c.staying.new.draft c.with_entry.new.draft c.in_ok-wider.ensures.lists.enters (addresses.Inode n)
    (may-change-on n c.args.draft.now c.staying.new.draft c.in_ok-others.ensures.staying.enters (addresses.Inode n)
    c.requires.alone)

pub put-requires-clause-known : goal.put-requires-clause-known
put-requires-clause-known c =
    inode-known-on c.args.draft.now c.with_entry.new.draft c.args.directory.now.known.number
    c.in_ok-kept.kept.inode.now
    (knows-both c.args.draft.now c.staying.new.draft c.with_entry.new.draft c.in_ok-others.ensures.knows
    c.in_ok-wider.ensures.knows) c.in_ok-kept.ensures.inode

pub put-requires-clause-given : goal.put-requires-clause-given
put-requires-clause-given c =
    keeps-generation c.with_entry.new.draft c.args.directory.now.known.number c.in_ok-kept.kept.inode.now
    c.relinked-new.result (knows-inode c.args.draft.now c.with_entry.new.draft c.args.directory.now.known.number _
    (knows-both c.args.draft.now c.staying.new.draft c.with_entry.new.draft c.in_ok-others.ensures.knows
    c.in_ok-wider.ensures.knows) c.in_ok-kept.ensures.inode)
    (ap (λ (x : Inode). x.generation) c.relinked-new.ensures
    ∙ ap (λ (x : Inode). x.generation) c.in_ok-inode.ensures.cases)

pub returns : goal.returns
returns c =
    let d = c.args.draft.now in
    let n = c.args.directory.now.known.number in
    let kept = c.in_ok-kept.kept in
    let now = time_of d.ctx.moment in
    let left = option_copied c.args.left in
    let e = entry c.args.name.now (record { number = c.args.number; cookie = c.args.cookie }) in
    given-turns d c.with_entry.new.draft c.put.new.self n kept.inode.now c.relinked-new.result kept.header.now
    c.in_ok-kept.ensures now c.args.links c.in_ok-wider.wider c.in_ok-put.ensures.ok c.in_ok-put.ensures.fits left e
    (relisted-copy kept.inode.now c.in_ok-inode.inode c.relinked-new.result kept.header.now c.in_ok-header.header
    c.directory_of-content.result c.now.result now c.args.links c.args.cookie c.in_ok-wider.wider
    c.in_ok-inode.ensures.cases c.in_ok-header.ensures.cases
    (c.now.ensures ∙ ap (λ (x : Ctx). time_of x.moment)
    (c.ctx.ensures ∙ c.in_ok-wider.ensures.lists.enters.ctx ∙ c.in_ok-others.ensures.staying.enters.ctx))
    c.directory_of-content.ensures c.relinked-new.ensures)
    (given-relists n d c.staying.new.draft c.with_entry.new.draft kept.header.now.entries c.in_ok-others.others
    c.in_ok-wider.wider left e (rw c.in_ok-header.ensures.cases at c.in_ok-others.ensures.staying)
    c.in_ok-wider.ensures.lists)
