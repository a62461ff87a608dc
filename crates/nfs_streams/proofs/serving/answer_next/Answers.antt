-- What was answered stays so where messages are dropped behind it.
use Rattle.nfs_streams.proofs.DroppedMessageLemmas.{answered_stays}
use Rattle.nfs_streams.proofs.serving.answer_next.Goals.{in-Dropped, in_default}
use Rattle.nfs_streams.proofs.serving.answer_next.Goals as goal

pub returns-clause-ok : goal.returns-clause-ok
returns-clause-ok g c = elim c.match-serving.branch [
  | in-Dropped w ↦
      rw w.engine-is
      (answered_stays _ _ _ _ _ _ _ _ _ w.drop_messages.ensures c.in_ok-answer.ensures.ok)
  | in_default w ↦ rw w.engine-is c.in_ok-answer.ensures.ok
]
