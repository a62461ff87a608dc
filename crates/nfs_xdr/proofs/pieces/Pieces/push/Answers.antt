use Rattle.std.proofs.Common.{◌++◌, ◌∙◌, ap, arith, length, length-append}
use Rattle.std.specs.List.{concat}
use Rattle.bytes.proofs.Chunks.{concat_push}
use Rattle.nfs_xdr.proofs.pieces.Pieces.push.Goals as goal

pub invariant_of-self-2 : goal.invariant_of-self-2
invariant_of-self-2 c =
    let old = c.self.inside.pieces.items in
    let sizes = ap (λ ps. length (concat ps)) c.in_ok-push.ensures.items ∙ ap length (concat_push old c.args.piece)
    ∙ length-append (concat old) c.args.piece in
    omega (arith, sizes, c.self.invariant, c.len.ensures.value)

pub returns-clause-ok : goal.returns-clause-ok
returns-clause-ok c = ap concat c.in_ok-push.ensures.items ∙ concat_push c.self.inside.pieces.items c.args.piece
    ∙ ap (λ xs. xs ++ c.args.piece) c.self.view_is
