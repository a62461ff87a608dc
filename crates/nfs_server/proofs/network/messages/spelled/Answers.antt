use Rattle.nfs_server.proofs.MessageSizes.{marked-size}
use Rattle.nfs_server.proofs.network.messages.spelled.Goals as goal

pub finish_record-requires-clause-size : goal.finish_record-requires-clause-size
finish_record-requires-clause-size c =
    marked-size _ _ _ c.args.posted.now.message c.args.posted.now.form c.in_ok-writer.ensures.ok
    c.in_ok-write_message.ensures.written
