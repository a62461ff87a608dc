use Rattle.std.proofs.Common.{◌≡◌, ◌⊎◌, ◌+◌, ◌-◌, ◌/◌, arith, subst}
use Rattle.nfs_inodes.proofs.WishesLemmas.{block-no-map, with-map, with-no-maps, without-map}
use Rattle.nfs_inodes.specs.Asking.{AsksFor}
use Rattle.nfs_inodes.specs.Blocks.{IsBlockIn, IsMapIn, end_of, first_of}
use Rattle.nfs_inodes.proofs.content.blocks.ask_written.Goals as goal
use Rattle.nfs_inodes.proofs.content.blocks.ask_written.Goals.{then-gets_blocks+in_ok-add, else-gets_blocks}

pub loop-page-init : goal.loop-page-init
loop-page-init c =
    let first = first_of c.args.range.offset in
    let end = end_of c.args.range.offset c.args.range.count in
    let n = c.args.file.number in
    with-no-maps c.args.draft.now n (IsBlockIn n first end) (first / 512) c.args.asking.now.asked.items _
    (block-no-map n first end) c.first_page-page.result c.in_ok-ask_blocks.ensures

pub loop-page-preserved : goal.loop-page-preserved
loop-page-preserved c =
    let first = first_of c.args.range.offset in
    let end = end_of c.args.range.offset c.args.range.count in
    let n = c.args.file.number in
    elim c.if-gets_blocks.branch [
      | then-gets_blocks+in_ok-add w ↦
          rw w.asking-is (with-map c.args.draft.now n (IsBlockIn n first end)
          (first / 512) c.args.asking.now.asked.items c.loop-page.asking.asked.items (block-no-map n first end)
          c.loop-page.page w.map_at.result w.add.new.self.asked.items
          (omega (arith, c.first_page-page.ensures, c.loop-page.auto.page)) w.map_at.ensures w.in_ok-add.ensures.ok
          c.loop-page.invariant)
      | else-gets_blocks w ↦
          rw w.asking-is (without-map c.args.draft.now n (IsBlockIn n first end)
          (first / 512) c.args.asking.now.asked.items c.loop-page.asking.asked.items (block-no-map n first end)
          c.loop-page.page c.loop-page.invariant)
    ]

pub returns : goal.returns
returns c =
    let first = first_of c.args.range.offset in
    let end = end_of c.args.range.offset c.args.range.count in
    let n = c.args.file.number in
    let whole : c.loop-page.page ≡ (end - 1) / 512 + 1 =
    omega (
      arith,
      c.first_page-page.ensures,
      c.last_page-page-end.ensures,
      c.loop-page-test.false,
      c.loop-page.auto.page-end,
      c.args.range.some,
    ) in
    subst (λ e. AsksFor c.args.draft.now (λ a. IsBlockIn n first end a ⊎ IsMapIn n (first / 512) e a)
    (IsBlockIn n first end) c.args.asking.now.asked.items c.loop-page.asking.asked.items) whole c.loop-page.invariant
