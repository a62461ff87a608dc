use Rattle.std.proofs.Common.{◌-◌, ◌^◌, ◌∙◌, List, ap, arith, min}
use Rattle.std.proofs.lemmas.List.{take_all}
use Rattle.side_wire.specs.declared.message.Message.{Message}
use Rattle.nfs_engine.proofs.CallSizes.{form-at, sizes-more}
use Rattle.nfs_engine.specs.Posting.{posted_bytes}
use Rattle.nfs_engine.proofs.lengths.messages_size.Goals as goal

pub loop-message-preserved : goal.loop-message-preserved
loop-message-preserved c = λ forms.
    let form = form-at c.args.messages.now c.loop-message.message-index c.message-item.result forms
    (omega arith) c.message-item.is in
    c.saturating_add-size.ensures ∙ sizes-more c.args.messages.now c.loop-message.message-index c.message-item.result _
    _ (omega arith)
    c.message-item.is (c.loop-message.invariant forms) (c.message_size.ensures form)

pub returns : goal.returns
returns c = λ forms. c.loop-message.invariant forms ∙ ap (λ (ms : List Message). min (posted_bytes ms) (2 ^ 64 - 1))
    (take_all c.loop-message.message-index c.args.messages.now (omega arith))
