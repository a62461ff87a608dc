use Rattle.nfs_xdr.proofs.SpellingLaws.{WritesResult-bytes, WritesResult-spells}
use Rattle.nfs_wire.proofs.replies.write_result.Goals as goal

pub returns-clause-written : goal.returns-clause-written
returns-clause-written c = WritesResult-bytes _ _ _ _ c.append_result.ensures

pub returns-clause-spelled : goal.returns-clause-spelled
returns-clause-spelled c = WritesResult-spells _ _ _ _ c.append_result.ensures
