use Rattle.std.proofs.Common.{length}
use Rattle.nfs_streams.proofs.DroppedMessageLemmas.{Loses}
use Rattle.nfs_streams.proofs.serving.drop_messages.Given as goal

abbrev pub invariant-messages : goal.invariant-messages
invariant-messages l = Loses l.initial.engine l.engine

abbrev pub decreases-messages : goal.decreases-messages
decreases-messages l = length l.engine.book.outbox
