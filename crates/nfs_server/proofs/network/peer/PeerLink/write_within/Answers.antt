use Rattle.std.proofs.Common.{◌∙◌}
use Rattle.nfs_server.proofs.AnsweredLinesLemmas.{on_err}
use Rattle.nfs_server.proofs.SentLineLemmas.{writing_more, writing_part}
use Rattle.nfs_server.proofs.network.peer.PeerLink.write_within.Goals as goal

pub parts-preserved : goal.parts-preserved
parts-preserved g c = (
  writing_more _ _ _ _ _ _ c.in_ok-count.count c.parts.invariant.0 c.in_ok-count.ensures.bytes c.split_at.ensures.back,
  c.in_ok-count.ensures.unread ∙ c.parts.invariant.1,
  c.in_ok-count.ensures.host ∙ c.parts.invariant.2,
  c.in_ok-count.ensures.deadline ∙ c.parts.invariant.3,
)

pub returns-in_err-count-clause-part : goal.returns-in_err-count-clause-part
returns-in_err-count-clause-part g c =
    on_err c.from_residual.result (writing_part _ _ _ _ _ c.parts.invariant.0 c.in_err-count.ensures.bytes)
