use Rattle.std.proofs.Common.{◌≡◌, [], arith, sym, subst}
use Rattle.nfs_objects.specs.Calls.{blocks_at}
use Rattle.nfs_inodes.proofs.WriteAsksLemmas.{read-asking, read-known}
use Rattle.nfs_inodes.proofs.WishesLemmas.{IsPaged, asked-result, range-more, range-none, range-skip}
use Rattle.nfs_inodes.specs.Asking.{AsksFor}
use Rattle.nfs_inodes.specs.Blocks.{IsBlockIn, KnowsMapped, end_of, first_of}
use Rattle.nfs_inodes.proofs.content.blocks.ask_range.Goals as goal
use Rattle.nfs_inodes.proofs.content.blocks.ask_range.Goals.{then-counts+in_ok-add, else-counts}

pub loop-index-init : goal.loop-index-init
loop-index-init c =
    rw c.new-asking.ensures (range-none c.args.draft.now c.args.file.number c.args.file.map.now
    (first_of c.args.range.offset) [] [] c.first-index.result (omega (arith, c.first-index.ensures)))

pub loop-index-preserved : goal.loop-index-preserved
loop-index-preserved c = elim c.if-counts.branch [
  | then-counts+in_ok-add w ↦
      rw w.asking-is (range-more c.args.draft.now c.args.file.number
      c.args.file.map.now (first_of c.args.range.offset) [] c.loop-index.asking.asked.items c.loop-index.index
      w.block_at.result w.add.new.self.asked.items (omega (arith, c.first-index.ensures, c.loop-index.auto.index))
      w.block_at.ensures w.in_ok-add.ensures.ok c.loop-index.invariant)
  | else-counts w ↦
      rw w.asking-is (range-skip c.args.draft.now c.args.file.number c.args.file.map.now
      (first_of c.args.range.offset) [] c.loop-index.asking.asked.items c.loop-index.index
      (sym w.if-counts.ensures) c.loop-index.invariant)
]

pub returns : goal.returns
returns c =
    let d = c.args.draft.now in
    let n = c.args.file.number in
    let map = c.args.file.map.now in
    let offset = c.args.range.offset in
    let count = c.args.range.count in
    let some = c.args.range.some in
    let few = c.args.range.few in
    let whole : c.loop-index.index ≡ end_of offset count =
    omega (
      arith,
      c.first-index.ensures,
      c.end-index-end.ensures,
      c.loop-index-test.false,
      c.loop-index.auto.index-end,
      some,
    ) in
    let asks : AsksFor d (IsBlockIn n (first_of offset) (end_of offset count))
    (IsPaged n map (first_of offset) (end_of offset count)) [] c.loop-index.asking.asked.items =
    subst (λ e. AsksFor d (IsBlockIn n (first_of offset) e) (IsPaged n map (first_of offset) e) []
    c.loop-index.asking.asked.items) whole c.loop-index.invariant in
    asked-result d (blocks_at n offset) c.loop-index.asking.asked.items (KnowsMapped d n map offset count)
    c.ask.result
    c.ask.ensures.nothing c.ask.ensures.stops
    (read-asking d n offset count map some few c.loop-index.asking.asked.items asks)
    (read-known d n offset count map some few c.loop-index.asking.asked.items asks)
