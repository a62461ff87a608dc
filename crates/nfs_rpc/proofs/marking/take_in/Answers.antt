-- Either the record goes on, or it is whole and the rest of the piece has the records behind it.
use Rattle.std.proofs.Common.{[], ◌∷◌, sym, append_assoc, append-nil}
use Rattle.nfs_rpc.proofs.FragmentByteLemmas.{adds_none, adds_records}
use Rattle.nfs_rpc.proofs.marking.take_in.Goals as goal

pub returns-in_default-clause-ok : goal.returns-in_default-clause-ok
returns-in_default-clause-ok c =
    let led = rw c.in_default.is at c.in_ok-left.ensures.ok in (
      [],
      sym (append-nil c.args.queued.now.items),
      adds_none c.args.piece.now c.args.content.now.items
          c.advance.new.content.items c.args.place.now c.advance.new.place c.in_ok-left.ensures.sound led,
    )

pub returns-clause-ok : goal.returns-clause-ok
returns-clause-ok c =
    let led = rw c.in-Some.is at c.in_ok-left.ensures.ok in
    let later = rw (← c.later.view_is) at c.in_ok-later.ensures in (
      c.advance.new.content.items ∷ c.later.inside.queued.items,
      rw (
        c.in-Ok-append.ensures.items,
        c.push_back_reserved.ensures.items,
        c.in_ok-reserve.ensures.items,
        c.in-Ok.ensures.ok,
        c.replace-whole.ensures.value,
      )
          (append_assoc c.args.queued.now.items (c.advance.new.content.items ∷ []) c.later.inside.queued.items),
      adds_records c.args.piece.now c.in-Some.left.now c.args.content.now.items c.advance.new.content.items
          c.later.inside.content.items c.args.place.now c.later.inside.place c.later.inside.queued.items led.0 later,
    )
