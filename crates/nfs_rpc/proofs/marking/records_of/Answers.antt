-- Each record stands behind the ones before it, and the last part leads into the next.
use Rattle.std.proofs.Common.{refl}
use Rattle.nfs_rpc.proofs.FragmentByteLemmas.{no_records, more_records, last_records}
use Rattle.nfs_rpc.proofs.marking.records_of.Goals as goal

pub records-init : goal.records-init
records-init c = (rw c.new-queued.ensures.items (no_records c.args.stream.now), c.new-content.ensures.items, refl)

pub records-preserved : goal.records-preserved
records-preserved c =
    let before = c.records.invariant in
    let led = rw (c.in-Some.is, before.1, before.2) at c.in_ok-left.ensures.ok in (
      rw (c.in_ok-push_back.ensures.items, c.in_ok-from_vec.ensures.ok, c.replace-whole.ensures.value)
          (more_records c.args.stream.now c.records.rest.now c.in-Some.left.now c.advance.new.content.items
          c.records.queued.items before.0 led.0),
      rw c.replace-whole.ensures.after c.new.ensures.items,
      led.1,
    )

pub returns : goal.returns
returns c =
    let before = c.records.invariant in
    let led = rw (c.in_default.is, before.1, before.2) at c.in_ok-left.ensures.ok in
    last_records c.args.stream.now c.records.rest.now c.advance.new.content.items c.advance.new.place
    c.records.queued.items c.in_ok-left.ensures.sound before.0 led
