use Rattle.nfs_engine.proofs.ReplyFormLemmas.{arrival-refusal}
use Rattle.nfs_schedule.proofs.answer.decline.Goals as goal

pub refusal-answer-requires : goal.refusal-answer-requires
refusal-answer-requires c = arrival-refusal _ _ c.requires
