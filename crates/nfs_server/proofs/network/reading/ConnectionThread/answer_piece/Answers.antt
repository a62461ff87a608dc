use Rattle.std.proofs.Common.{◌∙◌, refl}
use Rattle.nfs_server.proofs.AnsweredLinesLemmas.{on_err}
use Rattle.nfs_server.proofs.ConversationLemmas.{further_breaks, further_goes, goes_none}
use Rattle.nfs_server.proofs.network.reading.ConnectionThread.answer_piece.Goals as goal

pub batches-init : goal.batches-init
batches-init g c = (λ unread. goes_none _ _ _ unread _, refl, refl, λ none. none, c.requires.room)

pub batches-preserved-then-is_refused : goal.batches-preserved-then-is_refused
batches-preserved-then-is_refused g c = (
  λ unread.
      further_goes _ _ _ _ _ unread unread _ _ (c.batches.invariant.0 unread) _ _ _ _ c.batches.invariant.2 refl refl
      _ _ unread (c.in_ok-answered.ensures.goes unread),
  c.in_ok-answered.ensures.unread ∙ c.batches.invariant.1,
  c.in_ok-answered.ensures.host ∙ c.batches.invariant.2,
  λ none. c.in_ok-answered.ensures.sent (c.batches.invariant.3 none),
  c.in_ok-answered.ensures.room,
)

pub batches-preserved : goal.batches-preserved
batches-preserved g c = (
  λ unread.
      further_goes _ _ _ _ _ unread unread _ _ (c.batches.invariant.0 unread) _ _ _ _ c.batches.invariant.2 refl refl
      _ _ unread (c.in_ok-answered.ensures.goes unread),
  c.in_ok-answered.ensures.unread ∙ c.batches.invariant.1,
  c.in_ok-answered.ensures.host ∙ c.batches.invariant.2,
  λ none. c.in_ok-answered.ensures.sent (c.batches.invariant.3 none),
  c.in_ok-answered.ensures.room,
)

pub returns-in_err-answered-clause-breaks : goal.returns-in_err-answered-clause-breaks
returns-in_err-answered-clause-breaks g c =
    on_err c.from_residual.result
    (λ unread. further_breaks _ _ _ _ _ unread unread _ _ (c.batches.invariant.0 unread) _ _ _ _ c.batches.invariant.2
    refl refl (c.in_err-answered.ensures.breaks unread))

pub returns-in_default-clause-goes : goal.returns-in_default-clause-goes
returns-in_default-clause-goes g c = λ unread.
    further_goes _ _ _ _ _ unread unread _ _ (c.batches.invariant.0 unread) _ _ _ _ c.batches.invariant.2 refl refl
    _ _ unread (c.in_ok-answered.ensures.goes unread)
