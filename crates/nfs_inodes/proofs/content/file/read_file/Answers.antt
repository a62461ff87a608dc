use Rattle.std.proofs.Common.{◌≡◌, ◌+◌, ◌-◌, min, nat_le, sym, ap, arith, ◌∙◌}
use Rattle.nfs_objects.specs.Stands.{bytes_at}
use Rattle.nfs_inodes.proofs.ReadBlocksLemmas.{content-there, read-is}
use Rattle.nfs_inodes.proofs.content.file.read_file.Goals as goal

pub returns-then-count-eq0 : goal.returns-then-count-eq0
returns-then-count-eq0 c = λ s k w.
    let d = c.args.draft.now in
    let n = c.args.file.number in
    let map = c.args.file.map.now in
    let offset = c.args.offset in
    let size = c.size-size.ensures.value in
    let most = c.min-count.ensures ∙ (λ j. min ((c.saturating_sub.ensures ∙ ap (λ z. z - offset) size) j)
    ((c.from-most.ensures ∙ c.min.ensures) j)) in
    let none : offset ≡ offset + 0 = omega arith in
    read-is (bytes_at k.state n) c.new.result map.size offset c.args.count 0 (nat_le c.size-size.result offset)
    (content-there d n map c.requires s k w.fits w.stands).counted (sym c.if-count-eq0.true ∙ most) c.new.ensures
    (λ j. nat_le (size j) (none j))

pub returns : goal.returns
returns c = λ s k w.
    let d = c.args.draft.now in
    let n = c.args.file.number in
    let map = c.args.file.map.now in
    let offset = c.args.offset in
    let size = c.size-size.ensures.value in
    let most = c.min-count.ensures ∙ (λ j. min ((c.saturating_sub.ensures ∙ ap (λ z. z - offset) size) j)
    ((c.from-most.ensures ∙ c.min.ensures) j)) in
    read-is (bytes_at k.state n) c.in_ok-data.data map.size offset c.args.count c.min-count.result
    (nat_le c.size-size.result (offset + c.min-count.result))
    (content-there d n map c.requires s k w.fits w.stands).counted most (c.in_ok-data.ensures s k w)
    (ap (λ z. nat_le z (offset + c.min-count.result)) size)
