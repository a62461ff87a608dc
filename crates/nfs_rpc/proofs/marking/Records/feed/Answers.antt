-- The piece goes on where the stream stood, and what is held then tells whether a header was too large.
use Rattle.std.proofs.Common.{◌++◌, [], append-nil, sym}
use Rattle.nfs_rpc.proofs.FragmentByteLemmas.{adds_none, holds_then, not_refused, refused, refused_leads}
use Rattle.nfs_rpc.proofs.marking.Records.feed.Goals as goal
use Rattle.nfs_rpc.proofs.marking.Records.feed.Goals.{then-is_refused-2, else-is_refused-2}

pub returns-clause-ok : goal.returns-clause-ok
returns-clause-ok c = elim c.if-is_refused-2.branch [
  | then-is_refused-2 w ↦ rw w.result-is tt
  | else-is_refused-2 w ↦ rw w.result-is (λ stream given held.
      let added = c.in-Ok.ensures.ok in
      let next = holds_then c.self.inside.queued.items c.take_in.new.queued.items added.0 given
      c.self.inside.content.items c.take_in.new.content.items
      stream c.args.piece.now c.self.inside.place c.take_in.new.place added.1 added.2
      (rw (← c.self.view_is) at held) in (
        next,
        not_refused c.take_in.new.queued.items given c.take_in.new.content.items
            (stream ++ c.args.piece.now) c.take_in.new.place c.in-Ok.ensures.sound w.if-is_refused-2.ensures next,
      ))
]

pub returns-clause-too_large : goal.returns-clause-too_large
returns-clause-too_large c = elim c.if-is_refused-2.branch [
  | then-is_refused-2 w ↦ λ is stream given held.
      let added = c.in-Ok.ensures.ok in
      let next = holds_then c.self.inside.queued.items c.take_in.new.queued.items added.0 given
      c.self.inside.content.items c.take_in.new.content.items
      stream c.args.piece.now c.self.inside.place c.take_in.new.place added.1 added.2
      (rw (← c.self.view_is) at held) in (
        next,
        refused c.take_in.new.queued.items given c.take_in.new.content.items
            (stream ++ c.args.piece.now) c.take_in.new.place w.if-is_refused-2.ensures next,
      )
  | else-is_refused-2 w ↦ λ is. cc
]

pub returns-then-is_refused-clause-too_large : goal.returns-then-is_refused-clause-too_large
returns-then-is_refused-clause-too_large c = λ is stream given held.
    let now = c.if-is_refused.ensures in
    let queued = c.self.inside.queued.items in
    let content = c.self.inside.content.items in
    let place = c.self.inside.place in
    let piece = c.args.piece.now in
    let next = holds_then queued queued [] given content content stream piece place place (sym (append-nil queued))
    (adds_none piece content content place place c.self.invariant (rw now (refused_leads piece content)))
    (rw (← c.self.view_is) at held) in
    rw (← c.self.view_is) (next, refused queued given content (stream ++ piece) place now next)
