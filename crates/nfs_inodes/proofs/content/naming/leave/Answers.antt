use Rattle.std.proofs.Common.{ap, sym, subst, ◌∙◌}
use Rattle.std.proofs.lemmas.Result.{err_from_is_err_and}
use Rattle.nfs_machine.specs.Times.{time_of}
use Rattle.nfs_machine.specs.declared.context.Ctx.{Ctx}
use Rattle.nfs_objects.specs.Calls.{addresses_of}
use Rattle.nfs_objects.specs.declared.address.Addr.TheVariants as addresses
use Rattle.nfs_objects.specs.declared.directory.Directory.{Directory}
use Rattle.nfs_objects.specs.declared.object.Inode.{Inode}
use Rattle.nfs_inodes.proofs.EntryAsksLemmas.{header-lives}
use Rattle.nfs_inodes.proofs.ReaderHaltLemmas.{any-stops}
use Rattle.nfs_inodes.proofs.AsksAfterWritesLemmas.{may-change-on}
use Rattle.nfs_inodes.proofs.RelinkLemmas.{keeps-generation, left-turns, relisted-copy}
use Rattle.nfs_inodes.proofs.ShownKindLemmas.{directory-kinds}
use Rattle.nfs_inodes.proofs.StillKnownLemmas.{inode-known-on, knows-directory, knows-inode, knows-kinds}
use Rattle.nfs_inodes.proofs.WrittenBlocksLemmas.{known-other}
use Rattle.nfs_inodes.specs.Entered.{DirectoryLives}
use Rattle.nfs_inodes.proofs.content.naming.leave.Goals as goal

pub without_entry-requires-clause-lives : goal.without_entry-requires-clause-lives
without_entry-requires-clause-lives c =
    let kept = c.in_ok-kept.kept in
    subst (λ (h : Directory). DirectoryLives c.args.draft.now c.args.directory.now.known.number h.entries)
    (sym c.in_ok-header.ensures.cases)
    (header-lives c.args.draft.now c.args.directory.now.known.number kept.inode.now kept.header.now
    c.in_ok-kept.ensures c.requires.stands)

pub returns-in_err-narrower-clause-turns : goal.returns-in_err-narrower-clause-turns
returns-in_err-narrower-clause-turns c =
    let p = err_from_is_err_and c.from_residual-in_err-narrower.result c.from_residual-in_err-narrower.ensures.1 in
    rw (p.1, p.2) (any-stops c.args.draft.now
    (addresses_of c.args.draft.now.view c.args.directory.now.known.number) _ c.in_err-narrower.ensures.lists)

pub put-requires-clause-alone : goal.put-requires-clause-alone
put-requires-clause-alone c =
    may-change-on c.args.directory.now.known.number c.args.draft.now c.without_entry.new.draft
    c.in_ok-narrower.ensures.lists.enters (addresses.Inode c.args.directory.now.known.number) c.requires.alone

pub put-requires-clause-known : goal.put-requires-clause-known
put-requires-clause-known c =
    inode-known-on c.args.draft.now c.without_entry.new.draft c.args.directory.now.known.number
    c.in_ok-kept.kept.inode.now c.in_ok-narrower.ensures.knows c.in_ok-kept.ensures.inode

pub put-requires-clause-given : goal.put-requires-clause-given
put-requires-clause-given c =
    keeps-generation c.without_entry.new.draft c.args.directory.now.known.number c.in_ok-kept.kept.inode.now
    c.relinked-new.result (knows-inode c.args.draft.now c.without_entry.new.draft
    c.args.directory.now.known.number _ c.in_ok-narrower.ensures.knows c.in_ok-kept.ensures.inode)
    (ap (λ (x : Inode). x.generation) c.relinked-new.ensures
    ∙ ap (λ (x : Inode). x.generation) c.in_ok-inode.ensures.cases)

pub returns-clause-turns : goal.returns-clause-turns
returns-clause-turns c =
    let d = c.args.draft.now in
    let n = c.args.directory.now.known.number in
    let kept = c.in_ok-kept.kept in
    let now = time_of d.ctx.moment in
    left-turns d c.without_entry.new.draft c.put.new.self n kept.inode.now c.relinked-new.result kept.header.now
    c.in_ok-kept.ensures now c.args.links c.in_ok-narrower.narrower c.in_ok-put.ensures.ok c.in_ok-put.ensures.fits
    c.args.name.now
    (relisted-copy kept.inode.now c.in_ok-inode.inode c.relinked-new.result kept.header.now c.in_ok-header.header
    c.directory_of-content.result c.now.result now c.args.links kept.header.now.last_cookie
    c.in_ok-narrower.narrower c.in_ok-inode.ensures.cases c.in_ok-header.ensures.cases
    (c.now.ensures ∙ ap (λ (x : Ctx). time_of x.moment) (c.ctx.ensures ∙ c.in_ok-narrower.ensures.lists.enters.ctx))
    (rw (ap (λ (h : Directory). h.last_cookie) c.in_ok-header.ensures.cases) at c.directory_of-content.ensures)
    c.relinked-new.ensures)
    (rw c.in_ok-header.ensures.cases at c.in_ok-narrower.ensures.lists)

pub returns-clause-kinds : goal.returns-clause-kinds
returns-clause-kinds c = λ q.
    directory-kinds c.without_entry.new.draft c.put.new.self c.args.directory.now.known.number
    c.in_ok-kept.kept.inode.now c.relinked-new.result c.in_ok-kept.kept.header.now _
    (knows-directory c.args.draft.now c.without_entry.new.draft c.args.directory.now.known.number _ _
    c.in_ok-narrower.ensures.knows c.in_ok-kept.ensures)
    (ap (λ (x : Inode). x.export) c.relinked-new.ensures ∙ ap (λ (x : Inode). x.export) c.in_ok-inode.ensures.cases)
    (ap (λ (x : Inode). x.content) c.relinked-new.ensures ∙ c.directory_of-content.ensures) c.in_ok-put.ensures.ok q
    ∙ knows-kinds c.args.draft.now c.without_entry.new.draft c.in_ok-narrower.ensures.knows q

pub returns-clause-others : goal.returns-clause-others
returns-clause-others c = λ q other.
    known-other c.without_entry.new.draft c.put.new.self c.args.directory.now.known.number q _ c.in_ok-put.ensures.ok
    other
    ∙ c.in_ok-narrower.ensures.knows.inodes q
