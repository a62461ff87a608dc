use Rattle.std.proofs.Common.{◌≡◌, Ok, inl, inr, subst}
use Rattle.std.specs.Prelude.{IfSome}
use Rattle.nfs_engine.proofs.DeadInodeLemmas.{either-none, some-wider}
use Rattle.nfs_engine.specs.Book.{store_in}
use Rattle.nfs_engine.specs.Sweeps.{IsDeadPage, IsRemainsPage, MaySweep, SweepValue}
use Rattle.nfs_engine.proofs.book.Book.sweep_of.Goals as goal

pub returns-in-Some-clause-may : goal.returns-in-Some-clause-may
returns-in-Some-clause-may c =
    inl (subst (λ o. IfSome o (IsDeadPage (store_in c.args.self.now))) c.in-Some.is c.in_ok-sweep.ensures.may)

pub returns-in-Some-clause-file : goal.returns-in-Some-clause-file
returns-in-Some-clause-file c =
    subst (λ o. IfSome o (λ (w : SweepValue). w.file ≡ c.args.number)) c.in-Some.is c.in_ok-sweep.ensures.file

pub returns-in-None-clause-may : goal.returns-in-None-clause-may
returns-in-None-clause-may c =
    some-wider (IsRemainsPage (store_in c.args.self.now)) (MaySweep (store_in c.args.self.now)) (λ w may. inr may)
    c.remains_sweep.result c.remains_sweep.ensures.may

pub returns-in-None-clause-none : goal.returns-in-None-clause-none
returns-in-None-clause-none c = λ none.
    either-none (store_in c.args.self.now) c.args.number (c.in_ok-sweep.ensures.none (λ p. Ok (c.in-None.is p)))
    (c.remains_sweep.ensures.none none)
