use Rattle.std.proofs.Common.{Some, None, arith, ap, ◌∙◌}
use Rattle.std.specs.Prelude.{option_copied}
use Rattle.nfs_inodes.proofs.CutFileLemmas.{cut-none, cut-same, cut-some, few-none, few-some}
use Rattle.nfs_inodes.proofs.WishesLemmas.{not-same}
use Rattle.nfs_inodes.proofs.content.cut.cut_block.Goals as goal

pub returns-then-left-eq0 : goal.returns-then-left-eq0
returns-then-left-eq0 c =
    cut-none c.args.draft.now c.free_block.new.self c.args.number c.args.index c.args.left c.if-left-eq0.true
    c.in_ok-free_block.ensures.ok

pub returns-in_default : goal.returns-in_default
returns-in_default c =
    cut-same c.args.draft.now c.args.number c.args.index c.args.left None (not-same c.args.left 0 c.if-left-eq0.false)
    (c.in_ok-bytes.ensures ∙ ap (λ o. Some (option_copied o)) c.in_default.is) (few-none c.args.left)

pub returns-then-len-left : goal.returns-then-len-left
returns-then-len-left c =
    cut-same c.args.draft.now c.args.number c.args.index c.args.left (Some c.in-Some.bytes.now)
    (not-same c.args.left 0 c.if-left-eq0.false)
    (c.in_ok-bytes.ensures ∙ ap (λ o. Some (option_copied o)) c.in-Some.is)
    (few-some c.args.left c.in-Some.bytes.now (omega (arith, c.len.ensures.value, c.if-len-left.true)))

pub returns : goal.returns
returns c =
    cut-some c.args.draft.now c.put_block.new.self c.args.number c.args.index c.args.left c.in-Some.bytes.now
    c.in_ok-front.front (not-same c.args.left 0 c.if-left-eq0.false)
    (c.in_ok-bytes.ensures ∙ ap (λ o. Some (option_copied o)) c.in-Some.is)
    (rw c.as_slice.ensures at c.in_ok-front.ensures) c.in_ok-put_block.ensures.ok
