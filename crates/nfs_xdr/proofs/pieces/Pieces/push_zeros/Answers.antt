use Rattle.std.proofs.Common.{◌∙◌, ap, arith, length, length-append, sym, ℕ}
use Rattle.std.specs.Prelude.{replicate}
use Rattle.std.proofs.lemmas.List.{length-replicate, take-replicate}
use Rattle.nfs_xdr.proofs.BytesInPiecesLemmas.{zeros-more}
use Rattle.nfs_xdr.proofs.pieces.Pieces.push_zeros.Goals as goal

pub push-requires : goal.push-requires
push-requires c =
    let here = c.min-here.result in
    let left = c.loop-left.left in
    let zeros = c.from_static.ensures ∙ take-replicate here 4096 0 (omega (arith, c.min-here.ensures)) in
    let long = ap length zeros ∙ length-replicate {A = ℕ} here 0 in
    let all = sym (length-append c.loop-left.self (replicate left 0)) ∙ ap length c.loop-left.invariant
    ∙ length-append c.args.self.now (replicate c.args.count 0) in
    let more = length-replicate {A = ℕ} left 0 in
    let most = length-replicate {A = ℕ} c.args.count 0 in
    omega (arith, long, all, more, most, c.min-here.ensures, c.requires)

pub loop-left-preserved : goal.loop-left-preserved
loop-left-preserved c =
    let here = c.min-here.result in
    zeros-more c.loop-left.self c.push.new.self c.from_static.result c.loop-left.left here
    (omega (arith, c.min-here.ensures))
    (c.from_static.ensures ∙ take-replicate here 4096 0 (omega (arith, c.min-here.ensures))) c.in_ok-push.ensures.ok
    ∙ c.loop-left.invariant
