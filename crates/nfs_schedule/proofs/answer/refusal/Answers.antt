use Rattle.std.proofs.Common.{sym, subst}
use Rattle.nfs_engine.specs.Forms.{RefusalHasForm}
use Rattle.nfs_schedule.proofs.answer.refusal.Goals as goal

pub refuse-answer-requires : goal.refuse-answer-requires
refuse-answer-requires c = subst RefusalHasForm (sym c.in-Ok.ensures.ok) c.requires
