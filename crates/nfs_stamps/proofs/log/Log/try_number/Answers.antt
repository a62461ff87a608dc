use Rattle.std.proofs.Common.{◌≡◌, ◌+◌, [], ◌∷◌, ◌++◌, Some, map, slice_get, sym, ◌∙◌, ap, subst}
use Rattle.nfs_objects.specs.Values.{write_value}
use Rattle.nfs_stamps.proofs.LogAddLemmas.{adds_moves, found_adds}
use Rattle.logbook.specs.Pages.{step}
use Rattle.nfs_stamps.proofs.PrefixLemmas.{get_last}
use Rattle.nfs_stamps.proofs.log.Log.try_number.Goals as goal

pub compare_exchange-found-requires : goal.compare_exchange-found-requires
compare_exchange-found-requires g c =
    let h = c.args.self.now.head_is in
    let load = c.load-next.ensures in
    let offer = c.plain-offer.ensures in
    let pen = c.no_pen-pen.ensures in
    let same : c.load-next.new.seen.book ≡ c.args.self.now.head.book =
    load.0 ∙ (ap (λ s. s.book) c.again-seen.ensures ∙ (c.args.self.now.seen_is ∙ sym (ap (λ w. w.book) h))) in (
      ap (λ w. w.tracked) h,
      same,
      pen.0 ∙ same,
      offer.0,
      rw (ap (λ w. w.key) h, pen.1, offer.1, offer.3)
          (adds_moves c.load-next.new.seen.log (map write_value c.args.writes.now) c.load-next.result load.6.1),
    )

pub returns : goal.returns
returns g c =
    let offer = c.plain-offer.ensures in
    let log = c.load-next.new.seen.log in
    let added : c.compare_exchange-found.new.seen.log ≡ log ++ (map write_value c.args.writes.now) ∷ [] =
    found_adds (step c.args.self.now.head.key c.load-next.result (c.load-next.result + 1) c.plain-offer.result.ask)
    (log, (c.no_pen-pen.result.nib, c.plain-offer.result.state)) (
      c.compare_exchange-found.new.seen.log,
      (c.compare_exchange-found.new.pen.nib, c.compare_exchange-found.new.offer.state),
    )
    c.compare_exchange-found.result c.if-found-next.false c.compare_exchange-found.ensures.7
    ∙ ap (λ o. log ++ o ∷ []) offer.1 in
    subst (λ l. slice_get l c.load-next.result ≡ Some (map write_value c.args.writes.now)) (sym added)
    (get_last log (map write_value c.args.writes.now) c.load-next.result c.load-next.ensures.6.1)
