use Rattle.std.proofs.Common.{refl}
use Rattle.nfs_schedule.proofs.ReadOrderLemmas.{wants_done, wants_number, wishes_so}
use Rattle.nfs_schedule.proofs.ViewRoundsLemmas.{asks_need}
use Rattle.nfs_schedule.proofs.model.worker.consider.Goals as goal

pub returns-in-Ok-Need : goal.returns-in-Ok-Need
returns-in-Ok-Need c = (
  refl,
  asks_need _ _ _ _ _ _ _ c.in-Ok-Need.ensures.attempts c.in-Ok-Need.ensures.first c.in-Ok-Need.field-0-is refl refl
      refl c.into_iter.ensures.rest,
)

pub returns-in-Ok-Fresh : goal.returns-in-Ok-Fresh
returns-in-Ok-Fresh c = (
  refl,
  wishes_so _ _ _ _ _ _ _ _ c.in-Ok-Fresh.ensures.attempts c.in-Ok-Fresh.field-0-is refl refl refl,
  wants_number c.args.txn.call _ c.args.txn.view _ _ _ c.in-Ok-Fresh.ensures.first c.in-Ok-Fresh.field-0-is refl refl,
)

pub finish-requires-clause-read : goal.finish-requires-clause-read
finish-requires-clause-read c =
    wants_done c.args.txn.call _ c.args.txn.view _ _ _ c.in-Ok-Done.ensures.first c.in-Ok-Done.field-0-is refl refl
