use Rattle.std.proofs.Common.{subst}
use Rattle.std.proofs.lemmas.Result.{err_from_is_err_and}
use Rattle.std.specs.Prelude.{option_copied}
use Rattle.nfs_inodes.proofs.UsageChangeLemmas.{on-ok}
use Rattle.nfs_inodes.proofs.PutObjectLemmas.{keeps-known, object-stops, uncounted-none, uncounted-result}
use Rattle.nfs_inodes.specs.Known.{HasInode}
use Rattle.nfs_inodes.proofs.usage.uncount.Goals as goal

pub returns-in_err-inode-clause-turns : goal.returns-in_err-inode-clause-turns
returns-in_err-inode-clause-turns c =
    let p = err_from_is_err_and c.from_residual.result c.from_residual.ensures.1 in
    rw (p.1, p.2) (object-stops c.args.draft.now c.args.number _ c.in_err-inode.ensures.inode)

pub returns-in_default-clause-turns : goal.returns-in_default-clause-turns
returns-in_default-clause-turns c =
    uncounted-none c.args.draft.now c.args.number
    (subst (λ o. HasInode c.args.draft.now c.args.number (option_copied o)) c.in_default.is
    c.in_ok-inode.ensures.inode)

pub returns-clause-turns : goal.returns-clause-turns
returns-clause-turns c =
    uncounted-result c.args.draft.now c.recount.new.draft c.args.number c.in-Some.inode.now c.share_of-share.result
    c.none.result c.recount.result
    (subst (λ o. HasInode c.args.draft.now c.args.number (option_copied o)) c.in-Some.is c.in_ok-inode.ensures.inode)
    c.share_of-share.ensures c.none.ensures c.recount.ensures.turns

pub returns-clause-known : goal.returns-clause-known
returns-clause-known c =
    on-ok c.recount.result (λ keeps. keeps-known c.args.draft.now c.recount.new.draft c.args.number _
    c.in_ok-inode.ensures.inode keeps)
    c.recount.ensures.keeps
