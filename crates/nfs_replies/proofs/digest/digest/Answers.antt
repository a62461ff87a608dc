use Rattle.std.proofs.Common.{◌≤◌, ◌<◌, ◌++◌, drop, length, replicate, ap, ◌∙◌, arith}
use Rattle.std.proofs.lemmas.List.{take_rest}
use Rattle.nfs_replies.proofs.DigestLemmas.{all_read, block_read}
use Rattle.nfs_replies.proofs.digest.digest.Goals as goal

pub blocks-2-preserved : goal.blocks-2-preserved
blocks-2-preserved c =
    let rest = c.blocks-2.rest.now in
    let whole : 64 ≤ length rest = omega arith in
    block_read c.words-words.result c.blocks-2.lanes c.turn-lanes.result rest _ whole c.turn-lanes.ensures
    (take_rest rest 64)
    ∙ c.blocks-2.invariant

pub returns : goal.returns
returns c =
    let rest = c.blocks-2.rest.now in
    let less : length rest < 64 = omega arith in
    all_read c.args.key c.words-words.result c.blocks-2.lanes c.turn.result c.args.bytes.now rest _ c.join.result
    c.words-words.ensures c.blocks-2.invariant less
    (ap (λ l. l ++ drop (length rest) (replicate 64 0)) c.copy_from_slice.ensures.after) c.turn.ensures c.join.ensures
