use Rattle.std.proofs.Common.{◌≡◌, ◌<◌, ◌/◌, ◌==◌, Bool, true, false, ap, arith, cond, ◌∙◌, refl, sym}
use Rattle.nfs_objects.specs.Directories.{count_in, width_in}
use Rattle.nfs_objects.specs.PageRuns.{lists}
use Rattle.nfs_objects.specs.declared.address.Addr.TheVariants as addresses
use Rattle.nfs_inodes.proofs.DropNameLemmas.{width-most}
use Rattle.nfs_inodes.proofs.TakenNameAsksLemmas.{takes-joined, takes-same}
use Rattle.nfs_inodes.specs.Asking.{with_wish}
use Rattle.nfs_inodes.specs.declared.content.asking.Asking.{Asking}
use Rattle.nfs_inodes.proofs.content.taking.ask_taken.Goals as goal
use Rattle.nfs_inodes.proofs.content.taking.ask_taken.Goals.{then-has+in_ok-add, else-has}

pub returns-in_ok-ask_other-2 : goal.returns-in_ok-ask_other-2
returns-in_ok-ask_other-2 c =
    let d = c.args.draft.now in
    let n = c.args.number in
    let m = c.args.map.now in
    let bucket = c.args.place.bucket in
    let page = c.args.leaf.cookie / 64 in
    let old = c.args.asking.now.asked.items in
    let first = c.if-has.asking.asked.items in
    let last = c.width_with_one_less-after.result in
    let most = width-most (count_in m.counts bucket) in
    let below : last < width_in m.counts bucket =
    omega (
      arith,
      most,
      c.width-before.ensures.which,
      c.width_with_one_less-after.ensures.which,
      c.if-before-after.true,
    ) in
    let joined = λ (absent : Bool) (listed : absent ≡ false → lists m.pages page ≡ true)
    (to-first : first ≡ cond absent old (with_wish d (addresses.Page n page) old)).
    takes-joined d n m old page absent first listed to-first bucket last c.source_of.result below
    c.source_of.ensures.within (last == c.args.place.part) (c.source_of.result == c.args.place.part)
    c.ask_other.new.asking.asked.items c.ask_other-then-before-after.new.asking.asked.items c.in_ok-ask_other.ensures
    c.in_ok-ask_other-2.ensures in
    elim c.if-has.branch [
      | then-has+in_ok-add w ↦ joined false (λ e. sym w.if-has.ensures)
          (ap (λ (a : Asking). a.asked.items) w.asking-is ∙ w.in_ok-add.ensures.ok)
      | else-has w ↦ joined true (λ e. cc) (ap (λ (a : Asking). a.asked.items) w.asking-is)
    ]

pub returns-else-after-gt0 : goal.returns-else-after-gt0
returns-else-after-gt0 c =
    let d = c.args.draft.now in
    let n = c.args.number in
    let m = c.args.map.now in
    let page = c.args.leaf.cookie / 64 in
    let old = c.args.asking.now.asked.items in
    elim c.if-has.branch [
      | then-has+in_ok-add w ↦
          rw w.asking-is (takes-same d n m old page false w.add.new.self.asked.items (λ e. sym w.if-has.ensures)
          w.in_ok-add.ensures.ok)
      | else-has w ↦ rw w.asking-is (takes-same d n m old page true old (λ e. cc) refl)
    ]
