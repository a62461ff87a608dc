use Rattle.std.proofs.Common.{ap, ◌∙◌}
use Rattle.nfs_engine.proofs.CommitLeadsLemmas.{rebased_run, rebases}
use Rattle.nfs_engine.specs.Book.{BookValue}
use Rattle.nfs_engine.specs.Journal.{JournalValue}
use Rattle.nfs_engine.proofs.book.Book.new_era.Goals as goal

pub invariant_of-self : goal.invariant_of-self
invariant_of-self c = record {
  run = rebased_run _ _ (ap (λ (j : JournalValue). j.base) c.new_era.ensures.rest)
      (rebases _ _ (ap (λ (j : JournalValue). j.records.list) c.new_era.ensures.rest)
      (ap (λ (j : JournalValue). j.objects.slots) c.new_era.ensures.rest))
      c.self.invariant.run;
  unkept = c.self.invariant.unkept;
}

pub returns-clause-rebases : goal.returns-clause-rebases
returns-clause-rebases c =
    rebases _ _ (ap (λ (j : JournalValue). j.records.list) c.new_era.ensures.rest)
    (ap (λ (j : JournalValue). j.objects.slots) c.new_era.ensures.rest
    ∙ ap (λ (b : BookValue). b.objects) c.self.view_is)
