use Rattle.std.proofs.Common.{rules, arith, ◌∙◌, ap, inl, inr, refl, subst, sym}
use Rattle.std.proofs.KnownBytes.{Keeps-refl}
use Rattle.nfs_rpc.specs.Streams.{one_more}
use Rattle.nfs_server.proofs.HeardInputLemmas.{Heard, controls_end, controls_read, controls_stops, heard_first}
use Rattle.nfs_server.proofs.HeardInputLemmas.{heard_more}
use Rattle.nfs_server.proofs.HeardInputLemmas.{some_taken}
use Rattle.nfs_server.specs.Control.{Finishes, Stops}
use Rattle.nfs_server.proofs.controlling.Dialogue.run.Given as given
use Rattle.nfs_server.proofs.controlling.Dialogue.run.Goals as goal

pub pieces-init : goal.pieces-init
pieces-init g c =
    let unread = g.I.Source.unread c.args.reader.now in
    let written = g.O.Sink.written c.args.writer.now in (
      c.requires.callable,
      subst
          (λ said. Heard (given.F-step g) c.args.self.now.lists.standing c.args.apply.now said c.args.apply.now unread
          unread written written 0)
          (sym c.requires.first) (heard_first (given.F-step g) c.args.self.now.lists.standing c.args.apply.now unread
          written),
      λ all. all,
      refl,
      refl,
    )

pub returns-in_default : goal.returns-in_default
returns-in_default g c =
    controls_read (given.F-step g) c.args.self.now.lists.standing c.args.apply.now _ _ c.pieces.self c.pieces.apply
    (g.I.Source.unread c.pieces.reader)
    c.pieces._reads c.pieces.invariant.1 c.in_default.ensures.bytes
    (inl (c.in_default.ensures.err ∙ ap one_more c.pieces.invariant.4))
    (record { same = c.pieces.invariant.3; sent = c.pieces.invariant.2 })

pub returns-then-count-eq0 : goal.returns-then-count-eq0
returns-then-count-eq0 g c =
    controls_end (given.F-step g) c.args.self.now.lists.standing c.args.apply.now _ _ c.finish.result c.pieces.self
    c.pieces.apply
    (g.I.Source.unread c.pieces.reader) (g.O.Sink.written c.pieces.writer) c.pieces._reads c.pieces.invariant.1
    (rw c.if-count-eq0.true at c.in-Ok.ensures.bytes.0)
    (c.in-Ok.ensures.bytes.1 c.if-count-eq0.true (search (rules, arith)))
    (c.in-Ok.ensures.ok ∙ c.pieces.invariant.4)
    (λ seen stands. c.finish.ensures.hears c.args.self.now.lists.standing c.args.apply.now seen
    (g.O.Sink.written c.args.writer.now) stands)
    (subst (λ n. Finishes c.finish.result n (g.O.Counts.failures c.finish.new.writer)) c.pieces.invariant.3
    c.finish.ensures.counts)
    (λ input all. c.finish.ensures.sent input (c.pieces.invariant.2 all))
    (λ asked all. c.finish.ensures.asked asked (c.pieces.invariant.2 all))

pub returns-in-Err : goal.returns-in-Err
returns-in-Err g c =
    controls_stops (given.F-step g) c.args.self.now.lists.standing c.args.apply.now _ _ c.in-Err.ended c.pieces.self
    c.pieces.apply (g.I.Source.unread c.pieces.reader) (g.O.Sink.written c.pieces.writer) c.pieces._reads _
    c.pieces.invariant.1 c.in-Ok.ensures.bytes.0 (c.in-Ok.ensures.ok ∙ c.pieces.invariant.4)
    (subst (λ n. Stops c.in-Err.ended n (g.O.Counts.failures c.take_in.new.writer)) c.pieces.invariant.3
    c.in-Err.ensures.stops)
    (λ asked all. c.in-Err.ensures.asked asked (c.pieces.invariant.2 all))
    (λ seen stands. c.in-Err.ensures.err c.args.self.now.lists.standing c.args.apply.now seen
    (g.O.Sink.written c.args.writer.now) stands)

pub pieces-preserved : goal.pieces-preserved
pieces-preserved g c = (
  c.in-Ok-take_in.ensures.callable,
  heard_more (given.F-step g) c.args.self.now.lists.standing c.args.apply.now c.pieces.self c.take_in.new.self
      c.pieces.apply c.take_in.new.apply
      (g.I.Source.unread c.args.reader.now) (g.I.Source.unread c.pieces.reader) (g.I.Source.unread c.read.new.self)
      (g.O.Sink.written c.args.writer.now) (g.O.Sink.written c.pieces.writer) (g.O.Sink.written c.take_in.new.writer)
      c.pieces._reads _ c.pieces.invariant.1 c.in-Ok.ensures.bytes.0
      (some_taken c.in-Ok.count _ c.if-count-eq0.false c.in-Ok.ensures.count)
      (λ seen stands. c.in-Ok-take_in.ensures.ok c.args.self.now.lists.standing c.args.apply.now seen
      (g.O.Sink.written c.args.writer.now) stands),
  λ all. c.in-Ok-take_in.ensures.sent (c.pieces.invariant.2 all),
  c.in-Ok-take_in.ensures.fine ∙ c.pieces.invariant.3,
  c.in-Ok.ensures.ok ∙ c.pieces.invariant.4,
)

pub returns : goal.returns
returns g c =
    controls_read (given.F-step g) c.args.self.now.lists.standing c.args.apply.now _ _ c.pieces.self c.pieces.apply
    (g.I.Source.unread c.pieces.reader)
    c.pieces._reads c.pieces.invariant.1 (Keeps-refl (g.I.Source.unread c.pieces.reader))
    (inr (omega (arith, c.pieces-test.false))) (record { same = c.pieces.invariant.3; sent = c.pieces.invariant.2 })
