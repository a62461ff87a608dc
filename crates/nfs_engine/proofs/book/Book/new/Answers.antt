use Rattle.std.proofs.Common.{[], ap, refl, sym, subst, arith, ◌∙◌}
use Rattle.nfs_replies.specs.Replies.{RepliesValue}
use Rattle.nfs_engine.proofs.OriginsLemmas.{nowhere}
use Rattle.nfs_engine.proofs.CommitLeadsLemmas.{begun_run}
use Rattle.nfs_engine.proofs.OpeningWritesLemmas.{opened_lasts, opened_leads, opened_store}
use Rattle.nfs_engine.specs.Running.{CallsValue, CameWith}
use Rattle.nfs_engine.specs.Tables.{ObjectsValue, store_of}
use Rattle.nfs_engine.proofs.book.Book.new.Goals as goal

pub invariant_of-book : goal.invariant_of-book
invariant_of-book c = record {
  run = begun_run _ _
      (c.new-journal.ensures.base ∙ ap (λ (o : ObjectsValue). o.slots) (sym c.new-journal.ensures.objects))
      c.new-journal.ensures.records.0
      (opened_leads c.args.config.exports c.args.config.moment c.args.config.limits.name_key _
      (opened_store _ _ _ _ _ _ c.args.config.moment _ c.new-journal.ensures.objects c.in_ok-objects.ensures
      c.deref.ensures.value c.in_ok-writes.ensures.writes c.time.ensures)
      c.new-journal.ensures.records.0 c.opening_writes.ensures.faultless);
  unkept = λ o came. absurd (nowhere came.0 o (subst (λ (v : CallsValue). CameWith v.living came.0 o)
      c.new-calls.ensures came.1));
}

pub returns-clause-book : goal.returns-clause-book
returns-clause-book c = record {
  capacity = (omega (arith, c.in-Some.ensures.0.0), omega (arith, c.in-Some.ensures.0.1));
  era_records = c.if-not-is_limit.ensures.0 refl;
  leads = opened_leads c.args.config.exports c.args.config.moment c.args.config.limits.name_key _
      (opened_store _ _ _ _ _ _ c.args.config.moment _ c.new-journal.ensures.objects c.in_ok-objects.ensures
      c.deref.ensures.value c.in_ok-writes.ensures.writes c.time.ensures)
      c.new-journal.ensures.records.0 c.opening_writes.ensures.faultless;
  is = λ i. record {
    objects = c.new-journal.result.objects.slots;
    base = (c.new-journal.ensures.base ∙ ap (λ (o : ObjectsValue). o.slots) (sym c.new-journal.ensures.objects)) i;
    records = c.new-journal.ensures.records.0 i;
    before = c.new-journal.ensures.records.1 i;
    bytes = c.new-journal.ensures.records.2 i;
    outbox = c.new-journal.ensures.outbox.0 i;
    taken = c.new-journal.ensures.outbox.1 i;
    replies = (c.new-replies.ensures ∙ (λ j. let none : RepliesValue = record
        { capacity = c.in-Some.ensures.1 j; hosts = [] } in none)) i;
    living = ap (λ (v : CallsValue). v.living) c.new-calls.ensures i;
    next_id = ap (λ (v : CallsValue). v.next_id) c.new-calls.ensures i;
    setting = record
        { start = c.args.config.start; limits = c.args.config.limits };
    era_records = c.args.config.era_records;
  };
}

pub returns-clause-given : goal.returns-clause-given
returns-clause-given c =
    opened_lasts c.args.config.exports c.args.config.moment c.args.config.limits.name_key
    (store_of c.new-journal.result.objects.slots)
    (opened_store _ _ _ _ _ _ c.args.config.moment _ c.new-journal.ensures.objects c.in_ok-objects.ensures
    c.deref.ensures.value c.in_ok-writes.ensures.writes c.time.ensures)
