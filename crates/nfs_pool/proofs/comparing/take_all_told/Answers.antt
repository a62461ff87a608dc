-- From the last record down each is taken out, or none tells it.
use Rattle.std.proofs.Common.{◌+◌, ◌-◌, ◌<◌, ◌∙◌, arith, length, map, refl, subst, sym, ℕ}
use Rattle.std.proofs.lemmas.Bool.{false≢true}
use Rattle.std.proofs.lemmas.List.{length-map}
use Rattle.nfs_engine.specs.Arrivals.{shared_value}
use Rattle.nfs_pool.specs.Eras.{told_in}
use Rattle.nfs_pool.proofs.ReceiptNumberLemmas.{at_map}
use Rattle.nfs_pool.proofs.TakenReceiptsLemmas.{Taking, taking_all, taking_next, taking_stuck}
use Rattle.nfs_pool.proofs.comparing.take_all_told.Goals as goal

pub returns-then-not-take_told-clause-told : goal.returns-then-not-take_told-clause-told
returns-then-not-take_told-clause-told c =
    let records = map shared_value c.args.records.now in
    let all = told_in c.args.lists.now.items in
    let rest = told_in c.records.lists.items in
    let within : c.records.left - 1 < length c.args.records.now =
    omega (arith, c.records-test.true, c.records.invariant.1) in
    let before : Taking c.args.before records all (c.records.left - 1 + 1) rest =
    subst (λ (n : ℕ). Taking c.args.before records all n rest) (omega (arith, c.records-test.true))
    c.records.invariant.0 in (
      λ yes. absurd (false≢true yes),
      λ tell. absurd (taking_stuck c.args.before records all (c.records.left - 1) rest
          (shared_value c.index-records-place.result)
          (at_map shared_value c.args.records.now (c.records.left - 1) c.index-records-place.result records refl within
          c.index-records-place.is)
          before c.if-not-take_told.ensures.takes tell),
    )

pub records-preserved : goal.records-preserved
records-preserved c =
    let records = map shared_value c.args.records.now in
    let all = told_in c.args.lists.now.items in
    let rest = told_in c.records.lists.items in
    let within : c.records.left - 1 < length c.args.records.now =
    omega (arith, c.records-test.true, c.records.invariant.1) in
    let before : Taking c.args.before records all (c.records.left - 1 + 1) rest =
    subst (λ (n : ℕ). Taking c.args.before records all n rest) (omega (arith, c.records-test.true))
    c.records.invariant.0 in (
      taking_next c.args.before records all (c.records.left - 1) rest (told_in c.take_told.new.lists.items)
          (shared_value c.index-records-place.result)
          (at_map shared_value c.args.records.now (c.records.left - 1) c.index-records-place.result records refl within
          c.index-records-place.is)
          before c.if-not-take_told.ensures.takes,
      omega (arith, within),
      c.take_told.ensures.room ∙ c.records.invariant.2,
    )

pub returns-clause-told : goal.returns-clause-told
returns-clause-told c =
    let records = map shared_value c.args.records.now in
    let all = told_in c.args.lists.now.items in
    let rest = told_in c.records.lists.items in
    let none : Taking c.args.before records all 0 rest =
    subst (λ (n : ℕ). Taking c.args.before records all n rest) (omega (arith, c.records-test.false))
    c.records.invariant.0 in (
      λ _. taking_all c.args.before records all rest (c.requires
          ∙ sym (length-map c.args.records.now shared_value)) none,
      λ _. refl,
    )
