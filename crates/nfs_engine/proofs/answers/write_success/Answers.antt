use Rattle.nfs_engine.proofs.AnswerSizes.{answer_size}
use Rattle.nfs_engine.proofs.answers.write_success.Goals as goal

pub finish_record-requires-clause-size : goal.finish_record-requires-clause-size
finish_record-requires-clause-size c =
    answer_size _ _ _ _ _ c.requires c.in_ok-writer.ensures.ok c.in_ok-write_reply.ensures.ok
    c.in_ok-write_results.ensures
