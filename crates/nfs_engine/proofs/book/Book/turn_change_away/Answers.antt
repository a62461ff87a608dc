use Rattle.std.proofs.Common.{◌≡◌, None, Some, ap, refl, rules, subst, sym, ◌∙◌}
use Rattle.nfs_machine.specs.Run.{FromHost}
use Rattle.nfs_engine.proofs.AdmitErrorLemmas.{comes_changing, of_exports, recalled_kept, recalled_running}
use Rattle.nfs_engine.proofs.AdmitErrorLemmas.{recalled_unknown, recalled_wanting, unknown_away}
use Rattle.nfs_engine.specs.Arrivals.{incoming_value, received_value}
use Rattle.nfs_engine.specs.Repeats.{origin_in, origin_of}
use Rattle.nfs_engine.specs.declared.request.Request.{Request}
use Rattle.nfs_engine.proofs.book.Book.turn_change_away.Goals as goal

pub returns-in_default : goal.returns-in_default
returns-in_default c =
    unknown_away c.args.request.value c.args.self.now None c.want.result c.asking.result
    (sym (subst (λ (r : Request). origin_of (incoming_value r.received) r.call ≡ None) c.deref.ensures
    (of_exports c.deref.result.now.received c.deref.result.now.call c.in_default.not-Record))) tt c.want.ensures
    c.asking.ensures

pub returns-in-Ok-Kept : goal.returns-in-Ok-Kept
returns-in-Ok-Kept c =
    let r = c.args.request.value in
    let o = origin_in (FromHost (received_value c.in-Record.received)) in
    recalled_kept r (Some o) (comes_changing r c.requires.asked c.in-Record.received (search rules) c.requires.changes)
    c.args.self.now c.recall.new.self o (record { host = c.text.result.now; bytes = c.new-sought.result.bytes.now })
    refl (λ i. record { host = c.text.ensures.text i; bytes = c.new-sought.ensures i }) c.in-Ok-Kept.reply c.new.result
    (rw c.in-Ok-Kept.field-0-is at c.in-Ok-Kept.ensures) (c.new.ensures ∙ (λ i. record {
      received = incoming_value ((c.into_parts-received.ensures.received ∙
          ap (λ (x : Request). x.received) c.into_inner.ensures) i);
      reply = c.in-Ok-Kept.reply;
    }))

pub returns-in-Ok-Running : goal.returns-in-Ok-Running
returns-in-Ok-Running c =
    let r = c.args.request.value in
    let o = origin_in (FromHost (received_value c.in-Record.received)) in
    recalled_running r (Some o) (comes_changing r c.requires.asked c.in-Record.received (search rules)
    c.requires.changes) c.args.self.now c.recall.new.self o
    (record { host = c.text.result.now; bytes = c.new-sought.result.bytes.now }) refl
    (λ i. record { host = c.text.ensures.text i; bytes = c.new-sought.ensures i }) c.asking-in-Ok-Running.result
    (rw c.in-Ok-Running.field-0-is at c.in-Ok-Running.ensures) c.asking-in-Ok-Running.ensures

pub returns-in-Ok-Unknown : goal.returns-in-Ok-Unknown
returns-in-Ok-Unknown c =
    let r = c.args.request.value in
    let o = origin_in (FromHost (received_value c.in-Record.received)) in
    recalled_unknown r (Some o) (comes_changing r c.requires.asked c.in-Record.received (search rules)
    c.requires.changes) c.args.self.now c.recall.new.self o
    (record { host = c.text.result.now; bytes = c.new-sought.result.bytes.now }) refl
    (λ i. record { host = c.text.ensures.text i; bytes = c.new-sought.ensures i }) c.want-in-Ok-Unknown.result
    c.asking-in-Ok-Unknown.result (rw c.in-Ok-Unknown.field-0-is at c.in-Ok-Unknown.ensures)
    c.want-in-Ok-Unknown.ensures c.asking-in-Ok-Unknown.ensures

pub returns-in-Err : goal.returns-in-Err
returns-in-Err c =
    let r = c.args.request.value in
    let o = origin_in (FromHost (received_value c.in-Record.received)) in
    recalled_wanting r (Some o) (comes_changing r c.requires.asked c.in-Record.received (search rules)
    c.requires.changes) c.args.self.now c.recall.new.self o
    (record { host = c.text.result.now; bytes = c.new-sought.result.bytes.now }) refl
    (λ i. record { host = c.text.ensures.text i; bytes = c.new-sought.ensures i }) c.asking-in-Err.result
    c.in-Err.ensures c.asking-in-Err.ensures
