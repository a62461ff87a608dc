use Rattle.std.proofs.Common.{ap, refl, sym, subst, ◌∙◌}
use Rattle.std.proofs.lemmas.Result.{err_from_is_err_and}
use Rattle.nfs_machine.specs.Times.{time_of}
use Rattle.nfs_machine.specs.declared.context.Ctx.{Ctx}
use Rattle.nfs_objects.proofs.ModesSuitLemmas.{change-each}
use Rattle.nfs_objects.specs.Entries.{entry}
use Rattle.nfs_objects.specs.declared.address.Addr.TheVariants as addresses
use Rattle.nfs_objects.specs.declared.directory.Directory.{Directory}
use Rattle.nfs_objects.specs.declared.object.Inode.{Inode}
use Rattle.nfs_inodes.proofs.EntryAsksLemmas.{header-lives}
use Rattle.nfs_inodes.proofs.ReaderHaltLemmas.{any-stops}
use Rattle.nfs_inodes.proofs.AsksAfterWritesLemmas.{may-change-on}
use Rattle.nfs_inodes.proofs.PutObjectLemmas.{knows-on}
use Rattle.nfs_inodes.proofs.RelinkLemmas.{added-turns, keeps-generation, kept-turns, leaf-absent, leaf-there}
use Rattle.nfs_inodes.proofs.RelinkLemmas.{relisted-copy}
use Rattle.nfs_inodes.proofs.ShownKindLemmas.{directory-kinds}
use Rattle.nfs_inodes.proofs.StillKnownLemmas.{inode-known-on, knows-directory, knows-inode, knows-kinds, knows-none}
use Rattle.nfs_inodes.proofs.BucketWidthLemmas.{directory-stops, grown-stops, less-none}
use Rattle.nfs_inodes.proofs.WrittenBlocksLemmas.{known-other}
use Rattle.nfs_inodes.specs.Entered.{DirectoryLives, grown_at}
use Rattle.nfs_inodes.proofs.content.naming.add_entry.Goals as goal

pub returns-in_err-kept-clause-turns : goal.returns-in_err-kept-clause-turns
returns-in_err-kept-clause-turns c =
    let p = err_from_is_err_and c.from_residual.result c.from_residual.ensures.1 in
    rw (p.1, p.2) (directory-stops c.args.draft.now c.args.directory.now.known.number c.args.name.now c.args.cookie _
    c.in_err-kept.ensures)

pub leaf_of-requires : goal.leaf_of-requires
leaf_of-requires c =
    let kept = c.in_ok-kept.kept in
    header-lives c.args.draft.now c.args.directory.now.known.number kept.inode.now kept.header.now c.in_ok-kept.ensures
    c.requires.stands

pub returns-in_err-leaf_of-clause-turns : goal.returns-in_err-leaf_of-clause-turns
returns-in_err-leaf_of-clause-turns c =
    let p = err_from_is_err_and c.from_residual-in_err-leaf_of.result c.from_residual-in_err-leaf_of.ensures.1 in
    rw (p.1, p.2) (any-stops c.args.draft.now
    (grown_at c.args.draft.now c.args.directory.now.known.number c.args.name.now c.args.cookie) _
    c.in_err-leaf_of.ensures)

pub returns-then-is_some-clause-turns : goal.returns-then-is_some-clause-turns
returns-then-is_some-clause-turns c =
    let kept = c.in_ok-kept.kept in
    kept-turns c.args.draft.now c.args.directory.now.known.number kept.inode.now kept.header.now
    (time_of c.args.draft.now.ctx.moment) c.args.links
    (entry c.args.name.now (record { number = c.args.number; cookie = c.args.cookie })) c.in_ok-kept.ensures
    (leaf-there c.args.draft.now c.args.directory.now.known.number kept.inode.now kept.header.now c.in_ok-kept.ensures
    c.args.name.now _ c.in_ok-leaf_of.ensures c.if-is_some.ensures)

pub with_entry-requires-clause-alone : goal.with_entry-requires-clause-alone
with_entry-requires-clause-alone c =
    change-each c.args.draft.now c.args.directory.now.known.number c.requires.alone

pub with_entry-requires-clause-lives : goal.with_entry-requires-clause-lives
with_entry-requires-clause-lives c =
    let kept = c.in_ok-kept.kept in
    subst (λ (h : Directory). DirectoryLives c.args.draft.now c.args.directory.now.known.number h.entries)
    (sym c.in_ok-header.ensures.cases)
    (header-lives c.args.draft.now c.args.directory.now.known.number kept.inode.now kept.header.now c.in_ok-kept.ensures
    c.requires.stands)

pub returns-in_err-wider-clause-turns : goal.returns-in_err-wider-clause-turns
returns-in_err-wider-clause-turns c =
    let d = c.args.draft.now in
    let n = c.args.directory.now.known.number in
    let kept = c.in_ok-kept.kept in
    let p = err_from_is_err_and c.from_residual-in_err-wider.result c.from_residual-in_err-wider.ensures.1 in
    rw (p.1, p.2) (grown-stops d n kept.inode.now kept.header.now c.in_ok-kept.ensures c.args.name.now c.args.cookie d
    kept.header.now.entries refl refl (knows-none d) (less-none kept.header.now.entries)
    (header-lives d n kept.inode.now kept.header.now c.in_ok-kept.ensures c.requires.stands) _
    (rw c.in_ok-header.ensures.cases at c.in_err-wider.ensures.lists))

pub put-requires-clause-alone : goal.put-requires-clause-alone
put-requires-clause-alone c =
    may-change-on c.args.directory.now.known.number c.args.draft.now c.with_entry.new.draft
    c.in_ok-wider.ensures.lists.enters (addresses.Inode c.args.directory.now.known.number)
    (change-each c.args.draft.now c.args.directory.now.known.number c.requires.alone)

pub put-requires-clause-known : goal.put-requires-clause-known
put-requires-clause-known c =
    inode-known-on c.args.draft.now c.with_entry.new.draft c.args.directory.now.known.number
    c.in_ok-kept.kept.inode.now c.in_ok-wider.ensures.knows c.in_ok-kept.ensures.inode

pub put-requires-clause-given : goal.put-requires-clause-given
put-requires-clause-given c =
    keeps-generation c.with_entry.new.draft c.args.directory.now.known.number c.in_ok-kept.kept.inode.now
    c.relinked-new.result (knows-inode c.args.draft.now c.with_entry.new.draft c.args.directory.now.known.number _
    c.in_ok-wider.ensures.knows c.in_ok-kept.ensures.inode)
    (ap (λ (x : Inode). x.generation) c.relinked-new.ensures
    ∙ ap (λ (x : Inode). x.generation) c.in_ok-inode.ensures.cases)

pub returns-clause-turns : goal.returns-clause-turns
returns-clause-turns c =
    let d = c.args.draft.now in
    let n = c.args.directory.now.known.number in
    let kept = c.in_ok-kept.kept in
    let now = time_of d.ctx.moment in
    added-turns d c.with_entry.new.draft c.put.new.self n kept.inode.now c.relinked-new.result kept.header.now
    c.in_ok-kept.ensures now c.args.links c.in_ok-wider.wider c.in_ok-put.ensures.ok c.in_ok-put.ensures.fits
    (entry c.args.name.now (record { number = c.args.number; cookie = c.args.cookie }))
    (relisted-copy kept.inode.now c.in_ok-inode.inode c.relinked-new.result kept.header.now c.in_ok-header.header
    c.directory_of-content.result c.now.result now c.args.links c.args.cookie c.in_ok-wider.wider
    c.in_ok-inode.ensures.cases c.in_ok-header.ensures.cases
    (c.now.ensures ∙ ap (λ (x : Ctx). time_of x.moment) (c.ctx.ensures ∙ c.in_ok-wider.ensures.lists.enters.ctx))
    c.directory_of-content.ensures c.relinked-new.ensures)
    (rw c.in_ok-header.ensures.cases at c.in_ok-wider.ensures.lists)
    (leaf-absent d n kept.inode.now kept.header.now c.in_ok-kept.ensures c.args.name.now _ c.in_ok-leaf_of.ensures
    c.if-is_some.ensures)

pub returns-clause-known : goal.returns-clause-known
returns-clause-known c = λ a some.
    knows-on c.with_entry.new.draft c.args.directory.now.known.number c.put.new.self _ c.in_ok-put.ensures.ok a
    (c.in_ok-wider.ensures.knows.known a some)

pub returns-clause-kinds : goal.returns-clause-kinds
returns-clause-kinds c = λ q.
    directory-kinds c.with_entry.new.draft c.put.new.self c.args.directory.now.known.number c.in_ok-kept.kept.inode.now
    c.relinked-new.result c.in_ok-kept.kept.header.now _
    (knows-directory c.args.draft.now c.with_entry.new.draft c.args.directory.now.known.number _ _
    c.in_ok-wider.ensures.knows c.in_ok-kept.ensures)
    (ap (λ (x : Inode). x.export) c.relinked-new.ensures ∙ ap (λ (x : Inode). x.export) c.in_ok-inode.ensures.cases)
    (ap (λ (x : Inode). x.content) c.relinked-new.ensures ∙ c.directory_of-content.ensures) c.in_ok-put.ensures.ok q
    ∙ knows-kinds c.args.draft.now c.with_entry.new.draft c.in_ok-wider.ensures.knows q

pub returns-clause-others : goal.returns-clause-others
returns-clause-others c = λ q other.
    known-other c.with_entry.new.draft c.put.new.self c.args.directory.now.known.number q _ c.in_ok-put.ensures.ok other
    ∙ c.in_ok-wider.ensures.knows.inodes q
