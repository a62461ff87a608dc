use Rattle.std.proofs.Common.{subst, sym, ◌∙◌, ap}
use Rattle.std.specs.Prelude.{option_copied}
use Rattle.std.proofs.lemmas.Result.{err_from_is_err_and}
use Rattle.nfs_machine.specs.Data.{read_at}
use Rattle.nfs_inodes.proofs.ReadBlocksLemmas.{no-bytes-none, no-bytes-other}
use Rattle.nfs_inodes.proofs.WriteAsksLemmas.{read-object, read-result}
use Rattle.nfs_inodes.specs.Known.{HasInode}
use Rattle.nfs_inodes.proofs.content.file.read.Goals as goal

pub returns-in_err-inode : goal.returns-in_err-inode
returns-in_err-inode c =
    let p = err_from_is_err_and c.from_residual.result c.from_residual.ensures.1 in
    rw (p.1, p.2) (read-object c.args.draft.now c.args.file.now.known.number c.args.offset _
    c.in_err-inode.ensures.inode)

pub returns-in_default : goal.returns-in_default
returns-in_default c = λ s k w.
    c.nothing_read.ensures c.args.offset c.args.count
    ∙ ap (λ b. read_at b c.args.offset c.args.count) (sym (no-bytes-none c.args.draft.now c.args.file.now.known.number
    (subst (λ o. HasInode c.args.draft.now c.args.file.now.known.number (option_copied o)) c.in_default.is
    c.in_ok-inode.ensures.inode) s k w))

pub returns-in_default-content : goal.returns-in_default-content
returns-in_default-content c = λ s k w.
    c.nothing_read-in_default-content.ensures c.args.offset c.args.count
    ∙ ap (λ b. read_at b c.args.offset c.args.count) (sym (no-bytes-other c.args.draft.now c.args.file.now.known.number
    c.in-Some.inode.now
    (subst (λ o. HasInode c.args.draft.now c.args.file.now.known.number (option_copied o)) c.in-Some.is
    c.in_ok-inode.ensures.inode) c.in_default-content.not-Regular s k w))

pub returns : goal.returns
returns c =
    read-result c.args.draft.now c.args.file.now.known.number c.args.offset c.args.count c.read_file.result
    c.read_file.ensures
