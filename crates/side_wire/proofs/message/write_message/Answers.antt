use Rattle.nfs_xdr.proofs.SpellingLaws.{WritesResult-bytes, WritesResult-spells}
use Rattle.side_wire.proofs.message.write_message.Goals as goal

pub returns-clause-written : goal.returns-clause-written
returns-clause-written c = WritesResult-bytes _ _ _ _ c.append_call.ensures

pub returns-clause-spelled : goal.returns-clause-spelled
returns-clause-spelled c = WritesResult-spells _ _ _ _ c.append_call.ensures
