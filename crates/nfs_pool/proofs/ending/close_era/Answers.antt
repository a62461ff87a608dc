use Rattle.std.proofs.Common.{◌≡◌, List, ap, arith, length, map, refl, subst, sym, ℕ}
use Rattle.std.specs.Prelude.{IsPermutation}
use Rattle.std.proofs.lemmas.Bool.{false≢true}
use Rattle.std.proofs.lemmas.List.{length-map}
use Rattle.nfs_machine.specs.Run.{Record}
use Rattle.nfs_engine.specs.Arrivals.{shared_value}
use Rattle.nfs_engine.specs.declared.records.Era.{Era}
use Rattle.nfs_pool.specs.Eras.{BeginSo, EndsEra, told_by, told_value}
use Rattle.nfs_pool.specs.Seats.{SeatValue}
use Rattle.nfs_pool.specs.declared.comparing.Told.{Told}
use Rattle.nfs_pool.proofs.ReceiptNumberLemmas.{count-told, tell-all, told-count}
use Rattle.nfs_pool.proofs.ReceiptOrderLemmas.{begin-sorted}
use Rattle.nfs_pool.proofs.ending.close_era.Goals as goal

pub returns-in-Ok-leave_era-clause-era : goal.returns-in-Ok-leave_era-clause-era
returns-in-Ok-leave_era-clause-era g c =
    let old = c.args.desk.now.book in
    let tells = map told_value c.in-Ok.tells.items in
    let moved : IsPermutation (told_by c.args.seats.items) tells =
    subst (λ (ss : List SeatValue). IsPermutation (told_by ss) tells) c.deref.ensures.value c.in-Ok.ensures.told in
    let begins : BeginSo old.before old.records tells =
    subst (λ (n : ℕ). BeginSo n old.records tells) c.before-2.ensures.before
    (subst (λ (rs : List Record). BeginSo c.before-2.result rs tells) c.executed.ensures
    (subst (λ (ts : List Told). BeginSo c.before-2.result (map shared_value c.executed.result.now)
    (map told_value ts)) c.deref-2.ensures.value (c.if-not-begin_so.ensures.0 refl))) in
    let leaves = c.in-Ok-leave_era.ensures.leaves in
    let count = told-count c.args.seats.items c.in-Ok.tells.items moved in
    let receipts = ap length c.in-Ok-leave_era.ensures.ended in
    let len : length tells ≡ length old.records =
    omega (
      arith,
      length-map c.in-Ok.tells.items told_value,
      count,
      count-told c.args.seats.items,
      receipts,
      leaves.counted,
    ) in
    subst (λ (era : Era). EndsEra old c.leave_era.new.desk.book (told_by c.args.seats.items) era)
    (sym c.into_parts-era.ensures.era) (record {
      run = leaves.run;
      told = tell-all old.before old.records (told_by c.args.seats.items) tells moved len begins;
      takes = leaves.takes;
      rebases = leaves.rebases;
    })

-- what tells the records begins with them when it is sorted
pub returns-then-not-begin_so-clause-missing : goal.returns-then-not-begin_so-clause-missing
returns-then-not-begin_so-clause-missing g c count all =
    let old = c.args.desk.now.book in
    let receipts = told_by c.args.seats.items in
    let tells = map told_value c.in-Ok.tells.items in
    let moved : IsPermutation receipts tells =
    subst (λ (ss : List SeatValue). IsPermutation (told_by ss) tells) c.deref.ensures.value c.in-Ok.ensures.told in
    false≢true (c.if-not-begin_so.ensures.1
    (subst (λ (n : ℕ). BeginSo n (map shared_value c.executed.result.now) (map told_value c.deref-2.result.now))
    (sym c.before-2.ensures.before)
    (subst (λ (rs : List Record). BeginSo old.before rs (map told_value c.deref-2.result.now))
    (sym c.executed.ensures)
    (subst (λ (ts : List Told). BeginSo old.before old.records (map told_value ts)) (sym c.deref-2.ensures.value)
    (begin-sorted old.before old.records receipts c.in-Ok.tells.items moved c.in-Ok.ensures.rises all)))))
