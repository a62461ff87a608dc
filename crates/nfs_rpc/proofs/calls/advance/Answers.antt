-- Each word is one further.
use Rattle.nfs_rpc.proofs.OpaqueRestLemmas.{word_further}
use Rattle.nfs_rpc.proofs.calls.advance.Goals as goal

pub loop-word-preserved : goal.loop-word-preserved
loop-word-preserved c = word_further c.args.reader.now c.loop-word.reader c.u32.new.self c.loop-word._word
    c.in-Ok.field-0 c.loop-word.invariant c.in-Ok.ensures
