use Rattle.std.proofs.Common.{ap, refl}
use Rattle.nfs_engine.proofs.CommitLeadsLemmas.{same_run}
use Rattle.nfs_engine.specs.Journal.{JournalValue}
use Rattle.nfs_engine.proofs.book.Book.take_message.Goals as goal

pub invariant_of-self : goal.invariant_of-self
invariant_of-self c = record {
  run = same_run _ _ (ap (λ (j : JournalValue). j.base) c.take_message.ensures.rest)
      (ap (λ (j : JournalValue). j.records.list) c.take_message.ensures.rest)
      (ap (λ (j : JournalValue). j.objects.slots) c.take_message.ensures.rest) refl c.self.invariant.run;
  unkept = c.self.invariant.unkept;
}
