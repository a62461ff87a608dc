-- What was taken is the front of the piece: one byte, so many bytes of the body, or all of it.
use Rattle.std.proofs.Common.{◌≡◌, ℕ, ◌<◌, ◌-◌, List, [], ◌∷◌, length, take, drop, arith, sym, ap, get_or}
use Rattle.std.proofs.lemmas.List.{take_all, take-append-drop}
use Rattle.nfs_rpc.proofs.FragmentByteLemmas.{header_leads, body_leads, refused_leads}
use Rattle.nfs_rpc.proofs.marking.step.Goals as goal

first_and_rest : (piece : List ℕ) → 0 < length piece → piece ≡ get_or piece 0 0 ∷ take (length piece - 1) (drop 1 piece)
first_and_rest [] some = absurd (omega arith)
first_and_rest (byte ∷ rest) some = ap (λ l. byte ∷ l) (sym (take_all (length (byte ∷ rest) - 1) rest (omega arith)))

pub returns-in-Header-clause-ok : goal.returns-in-Header-clause-ok
returns-in-Header-clause-ok c =
    rw c.in-Header.is (header_leads c.args.piece.now _ c.args.content.now.items c.in-Header.count c.in-Header.number _ _
    (first_and_rest c.args.piece.now c.requires.some)
    (λ bytes held. c.behind_byte-next.ensures.leads c.args.content.now.items bytes held (omega arith)))

pub returns-in_ok-extend_from_slice-in-Body-clause-ok :
    goal.returns-in_ok-extend_from_slice-in-Body-clause-ok
returns-in_ok-extend_from_slice-in-Body-clause-ok c =
    let sound = rw c.in-Body.is at c.requires.sound in
    rw c.in-Body.is (body_leads c.args.piece.now c.split_at.result.0.now c.split_at.result.1.now
    c.args.content.now.items c.extend_from_slice.new.self.items
    c.in-Body.last c.in-Body.missing (c.in-Body.missing - c.min-size.result) c.in_body.result
    (rw (c.split_at.ensures.front, c.split_at.ensures.back) (sym (take-append-drop c.min-size.result c.args.piece.now)))
    (rw c.reserve.ensures.items at c.in_ok-extend_from_slice-in-Body.ensures.items)
    (omega arith) sound.1 c.in_body.ensures.leads)

pub returns-in-Refused-clause-ok : goal.returns-in-Refused-clause-ok
returns-in-Refused-clause-ok c = rw c.in-Refused.is (refused_leads c.args.piece.now c.args.content.now.items)
