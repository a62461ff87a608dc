use Rattle.std.proofs.Common.{◌≡◌, [], ◌⊎◌, ◌/◌, ◌-◌, ◌+◌, arith, subst}
use Rattle.nfs_objects.specs.Calls.{maps_at}
use Rattle.nfs_inodes.proofs.WishesLemmas.{with-map, with-no-maps, without-map, asks-none}
use Rattle.nfs_inodes.proofs.WriteAsksLemmas.{maps-asking}
use Rattle.nfs_inodes.specs.Asking.{AsksFor}
use Rattle.nfs_inodes.specs.Blocks.{IsMapIn, end_of, first_of}
use Rattle.nfs_inodes.proofs.content.blocks.ask_hole_maps.Goals as goal
use Rattle.nfs_inodes.proofs.content.blocks.ask_hole_maps.Goals.{then-has_hole+in_ok-add, else-has_hole}

pub loop-page-init : goal.loop-page-init
loop-page-init c =
    rw c.new-asking.ensures (with-no-maps c.args.draft.now c.args.number (λ a. ⊥) (first_of c.args.range.offset / 512)
    [] [] (λ b none page. absurd none) c.first_page-page.result
    (asks-none c.args.draft.now (λ a. ⊥) (λ a. ⊥) [] (λ a none. none)))

pub loop-page-preserved : goal.loop-page-preserved
loop-page-preserved c =
    let first = first_of c.args.range.offset / 512 in
    elim c.if-has_hole.branch [
      | then-has_hole+in_ok-add w ↦
          rw w.asking-is (with-map c.args.draft.now c.args.number (λ a. ⊥) first [] c.loop-page.asking.asked.items
          (λ b none page. absurd none) c.loop-page.page w.map_at.result w.add.new.self.asked.items
          (omega (arith, c.first_page-page.ensures, c.loop-page.auto.page)) w.map_at.ensures w.in_ok-add.ensures.ok
          c.loop-page.invariant)
      | else-has_hole w ↦
          rw w.asking-is (without-map c.args.draft.now c.args.number (λ a. ⊥) first [] c.loop-page.asking.asked.items
          (λ b none page. absurd none) c.loop-page.page c.loop-page.invariant)
    ]

pub returns : goal.returns
returns c =
    let d = c.args.draft.now in
    let n = c.args.number in
    let offset = c.args.range.offset in
    let count = c.args.range.count in
    let some = c.args.range.some in
    let whole : c.loop-page.page ≡ (end_of offset count - 1) / 512 + 1 =
    omega (
      arith,
      c.first_page-page.ensures,
      c.last_page-page-end.ensures,
      c.loop-page-test.false,
      c.loop-page.auto.page-end,
      some,
    ) in
    c.ask.ensures.stops d (maps_at n offset)
    (maps-asking d n offset count some c.args.range.few c.loop-page.asking.asked.items
    (subst (λ e. AsksFor d (λ a. ⊥ ⊎ IsMapIn n (first_of offset / 512) e a) (λ a. ⊥) []
    c.loop-page.asking.asked.items) whole c.loop-page.invariant))
