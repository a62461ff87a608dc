use Rattle.std.proofs.Common.{◌∙◌, ◌++◌, ◌+◌, drop, subst, sym, take, take-append-drop}
use Rattle.std.proofs.lemmas.List.{take_more}
use Rattle.nfs_server.proofs.AnsweredLinesLemmas.{one_more_byte}
use Rattle.nfs_server.specs.Control.{Hears, Stands}
use Rattle.nfs_server.proofs.controlling.Dialogue.take_in.Given as given
use Rattle.nfs_server.proofs.controlling.Dialogue.take_in.Goals as goal

pub returns-in-Err-clause-err : goal.returns-in-Err-clause-err
returns-in-Err-clause-err g c =
    let piece = c.args.piece.now in
    let i = c.bytes.byte-index in
    λ exports caller seen before stands. (
      take (i + 1) piece,
      drop (i + 1) piece,
      sym (take-append-drop (i + 1) piece),
      subst
          (λ heard. Hears (given.F-step g) exports caller c.in-Err.ended heard before
          (g.O.Sink.written c.take_byte.new.writer))
          (one_more_byte piece seen i _ (take_more piece i _ c.bytes-test.true))
          (c.in-Err.ensures.err exports caller (seen ++ take i piece) before
          (c.bytes.invariant.1 exports caller seen before stands)),
    )

pub bytes-preserved : goal.bytes-preserved
bytes-preserved g c =
    let piece = c.args.piece.now in
    let i = c.bytes.byte-index in (
      c.in-Ok.ensures.callable,
      λ exports caller seen before stands.
          subst
          (λ heard. Stands (given.F-step g) exports caller heard c.take_byte.new.self c.take_byte.new.apply before
          (g.O.Sink.written c.take_byte.new.writer))
          (one_more_byte piece seen i _ (take_more piece i _ c.bytes-test.true))
          (c.in-Ok.ensures.ok exports caller (seen ++ take i piece) before
          (c.bytes.invariant.1 exports caller seen before stands)),
      λ all. c.in-Ok.ensures.sent (c.bytes.invariant.2 all),
      c.in-Ok.ensures.fine ∙ c.bytes.invariant.3,
    )
