use Rattle.std.proofs.Common.{◌∙◌, inl, inr, refl, length, drop}
use Rattle.nfs_server.proofs.AnsweredLinesLemmas.{on_err}
use Rattle.nfs_server.proofs.ConversationLemmas.{breaks_here, closed_there, further_breaks, further_goes, goes_ended}
use Rattle.nfs_server.proofs.ConversationLemmas.{goes_none, read_kept, still_there}
use Rattle.nfs_server.proofs.network.reading.ConnectionThread.read_pieces.Goals as goal

pub returns-in_err-buffer-clause-breaks : goal.returns-in_err-buffer-clause-breaks
returns-in_err-buffer-clause-breaks g c = on_err c.from_residual.result (breaks_here _ _ _ _ _)

pub returns-in_err-now-clause-breaks : goal.returns-in_err-now-clause-breaks
returns-in_err-now-clause-breaks g c = on_err c.from_residual-in_err-now.result (breaks_here _ _ _ _ _)

pub pieces-init : goal.pieces-init
pieces-init g c = (goes_none _ _ _ _ _, inr refl, c.requires.none, c.requires.free, refl)

pub returns-in_err-count-clause-breaks : goal.returns-in_err-count-clause-breaks
returns-in_err-count-clause-breaks g c =
    on_err c.from_residual-in_err-count.result
    (closed_there _ _ _ _ _ _ _ _ _ c.pieces.invariant.0 _ c.in_err-count.ensures.written)

pub returns-then-count-eq0-clause-goes : goal.returns-then-count-eq0-clause-goes
returns-then-count-eq0-clause-goes g c =
    goes_ended _ _ _ _ _ _ _ _ _ c.pieces.invariant.0 _ _ _ c.next_piece.new.buffer c.in_ok-count.count
    c.in_ok-count.ensures.reads c.if-count-eq0.true c.in_ok-count.ensures.same.1 c.in_ok-count.ensures.written

pub pieces-preserved : goal.pieces-preserved
pieces-preserved g c = (
  further_goes _ _ _ _ _ _ _ _ _ c.pieces.invariant.0 _ _ _ _ (c.in_ok-count.ensures.same.0 ∙ c.pieces.invariant.4)
      c.in_ok-count.ensures.same.1 c.in_ok-count.ensures.written _ _ _
      (c.in_ok-is_refused.ensures.goes (g.P.Peer.unread c.pieces.self.link.peer)
      (g.P.Peer.unread c.take_piece.new.self.link.peer)
      (read_kept (g.P.Peer.unread c.pieces.self.link.peer) (g.P.Peer.unread c.next_piece.new.self.link.peer)
      (g.P.Peer.unread c.take_piece.new.self.link.peer) c.next_piece.new.buffer c.deref.result.now c.in_ok-count.count
      c.in_ok-is_refused.ensures.unread
      (still_there c.deref.result.now c.next_piece.new.buffer c.as_mut_slice.result.now
      (drop (length c.next_piece.new.buffer) c.pieces.buffer.items) c.pieces.buffer.len c.next_piece.auto.buffer
      c.as_mut_slice.ensures.len c.deref.ensures.value)
      c.in_ok-count.ensures.reads)),
  inl c.in_ok-is_refused.ensures.all,
  c.in_ok-is_refused.ensures.sent c.pieces.invariant.2,
  c.in_ok-is_refused.ensures.room,
  c.in_ok-is_refused.ensures.host ∙ c.in_ok-count.ensures.same.0 ∙ c.pieces.invariant.4,
)

pub returns-in_err-is_refused-clause-breaks : goal.returns-in_err-is_refused-clause-breaks
returns-in_err-is_refused-clause-breaks g c =
    on_err c.from_residual-in_err-is_refused.result
    (further_breaks _ _ _ _ _ _ _ _ _ c.pieces.invariant.0 _ _ _ _ (c.in_ok-count.ensures.same.0 ∙ c.pieces.invariant.4)
    c.in_ok-count.ensures.same.1 c.in_ok-count.ensures.written
    (c.in_err-is_refused.ensures.breaks (g.P.Peer.unread c.pieces.self.link.peer)
    (g.P.Peer.unread c.next_piece.new.self.link.peer)
    (read_kept (g.P.Peer.unread c.pieces.self.link.peer) (g.P.Peer.unread c.next_piece.new.self.link.peer)
    (g.P.Peer.unread c.next_piece.new.self.link.peer) c.next_piece.new.buffer c.deref.result.now c.in_ok-count.count
    refl (still_there c.deref.result.now c.next_piece.new.buffer c.as_mut_slice.result.now
    (drop (length c.next_piece.new.buffer) c.pieces.buffer.items) c.pieces.buffer.len c.next_piece.auto.buffer
    c.as_mut_slice.ensures.len c.deref.ensures.value) c.in_ok-count.ensures.reads)))

pub returns-in_err-now-2-clause-breaks : goal.returns-in_err-now-2-clause-breaks
returns-in_err-now-2-clause-breaks g c =
    on_err c.from_residual-in_err-now-2.result
    (closed_there _ _ _ _ _ _ _ _ _ (further_goes _ _ _ _ _ _ _ _ _ c.pieces.invariant.0 _ _ _ _
    (c.in_ok-count.ensures.same.0 ∙ c.pieces.invariant.4) c.in_ok-count.ensures.same.1 c.in_ok-count.ensures.written
    _ _ _
    (c.in_ok-is_refused.ensures.goes (g.P.Peer.unread c.pieces.self.link.peer)
    (g.P.Peer.unread c.take_piece.new.self.link.peer)
    (read_kept (g.P.Peer.unread c.pieces.self.link.peer) (g.P.Peer.unread c.next_piece.new.self.link.peer)
    (g.P.Peer.unread c.take_piece.new.self.link.peer) c.next_piece.new.buffer c.deref.result.now c.in_ok-count.count
    c.in_ok-is_refused.ensures.unread
    (still_there c.deref.result.now c.next_piece.new.buffer c.as_mut_slice.result.now
    (drop (length c.next_piece.new.buffer) c.pieces.buffer.items) c.pieces.buffer.len c.next_piece.auto.buffer
    c.as_mut_slice.ensures.len c.deref.ensures.value)
    c.in_ok-count.ensures.reads))) _ refl)

pub returns-in_err-fit-clause-breaks : goal.returns-in_err-fit-clause-breaks
returns-in_err-fit-clause-breaks g c =
    on_err c.from_residual-in_err-fit.result
    (closed_there _ _ _ _ _ _ _ _ _ (further_goes _ _ _ _ _ _ _ _ _ c.pieces.invariant.0 _ _ _ _
    (c.in_ok-count.ensures.same.0 ∙ c.pieces.invariant.4) c.in_ok-count.ensures.same.1 c.in_ok-count.ensures.written
    _ _ _
    (c.in_ok-is_refused.ensures.goes (g.P.Peer.unread c.pieces.self.link.peer)
    (g.P.Peer.unread c.take_piece.new.self.link.peer)
    (read_kept (g.P.Peer.unread c.pieces.self.link.peer) (g.P.Peer.unread c.next_piece.new.self.link.peer)
    (g.P.Peer.unread c.take_piece.new.self.link.peer) c.next_piece.new.buffer c.deref.result.now c.in_ok-count.count
    c.in_ok-is_refused.ensures.unread
    (still_there c.deref.result.now c.next_piece.new.buffer c.as_mut_slice.result.now
    (drop (length c.next_piece.new.buffer) c.pieces.buffer.items) c.pieces.buffer.len c.next_piece.auto.buffer
    c.as_mut_slice.ensures.len c.deref.ensures.value)
    c.in_ok-count.ensures.reads))) _ refl)
