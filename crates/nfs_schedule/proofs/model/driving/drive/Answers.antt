use Rattle.std.proofs.Common.{List, length, take, take_all, sym, ◌∙◌, ap, subst, arith}
use Rattle.nfs_schedule.proofs.AccountsLemmas.{drives_accounts}
use Rattle.nfs_schedule.proofs.DriveLemmas.{drives_further, drives_runs, drives_workers, has_worker}
use Rattle.nfs_schedule.specs.Accounts.{IsAccounted}
use Rattle.nfs_schedule.specs.Worlds.{RunsOn, WorldValue}
use Rattle.nfs_schedule.specs.declared.answer.Answer.{Answer}
use Rattle.nfs_schedule.specs.declared.model.driving.Event.{Event}
use Rattle.nfs_schedule.proofs.model.driving.drive.Goals as goal

pub happen-requires : goal.happen-requires
happen-requires c =
    has_worker c.args.world.now c.loop-index.world c.args.events.now c.loop-index.index c.index-events-index.result
    c.args.answers.now.items c.loop-index.answers.items c.requires (omega arith) c.index-events-index.is
    c.loop-index.invariant

pub returns-in-Err-clause-accounts : goal.returns-in-Err-clause-accounts
returns-in-Err-clause-accounts c =
    subst (λ (w : WorldValue). IsAccounted c.args.world.now w (take c.loop-index.index c.args.events.now)
    c.args.answers.now.items c.happen.new.answers.items) (sym c.in-Err.ensures.err.0)
    (subst (λ (said : List Answer). IsAccounted c.args.world.now c.loop-index.world
    (take c.loop-index.index c.args.events.now) c.args.answers.now.items said) (sym c.in-Err.ensures.err.1)
    (drives_accounts c.args.world.now c.loop-index.world (take c.loop-index.index c.args.events.now)
    c.args.answers.now.items c.loop-index.answers.items c.loop-index.invariant))

pub returns-clause-accounts : goal.returns-clause-accounts
returns-clause-accounts c =
    subst (λ (events : List Event). IsAccounted c.args.world.now c.loop-index.world events c.args.answers.now.items
    c.loop-index.answers.items) (take_all _ _ (omega arith))
    (drives_accounts c.args.world.now c.loop-index.world (take c.loop-index.index c.args.events.now)
    c.args.answers.now.items c.loop-index.answers.items c.loop-index.invariant)

pub returns-in-Err-clause-runs : goal.returns-in-Err-clause-runs
returns-in-Err-clause-runs c =
    subst (λ (w : WorldValue). RunsOn c.args.world.now w) (sym c.in-Err.ensures.err.0)
    (drives_runs c.args.world.now c.loop-index.world (take c.loop-index.index c.args.events.now)
    c.args.answers.now.items c.loop-index.answers.items c.loop-index.invariant)

pub loop-index-preserved : goal.loop-index-preserved
loop-index-preserved c =
    drives_further c.args.world.now c.loop-index.world c.happen.new.world c.args.events.now c.loop-index.index
    c.index-events-index.result c.args.answers.now.items c.loop-index.answers.items c.happen.new.answers.items
    (omega arith) c.index-events-index.is c.loop-index.invariant c.in_default.ensures.ok

pub returns-clause-runs : goal.returns-clause-runs
returns-clause-runs c =
    drives_runs c.args.world.now c.loop-index.world (take c.loop-index.index c.args.events.now)
    c.args.answers.now.items c.loop-index.answers.items c.loop-index.invariant

pub returns-in-Err-clause-workers : goal.returns-in-Err-clause-workers
returns-in-Err-clause-workers c =
    ap (λ (w : WorldValue). length w.workers) c.in-Err.ensures.err.0
    ∙ drives_workers c.args.world.now c.loop-index.world (take c.loop-index.index c.args.events.now)
    c.args.answers.now.items c.loop-index.answers.items c.loop-index.invariant

pub returns-clause-workers : goal.returns-clause-workers
returns-clause-workers c =
    drives_workers c.args.world.now c.loop-index.world (take c.loop-index.index c.args.events.now)
    c.args.answers.now.items c.loop-index.answers.items c.loop-index.invariant
