use Rattle.std.proofs.Common.{arith, option_map, ◌≡◌, ℕ, subst}
use Rattle.std.specs.Arc.{arc_value}
use Rattle.nfs_engine.proofs.SlotWriteLemmas.{needs-none}
use Rattle.nfs_engine.proofs.SweepStoreStepLemmas.{StoreGoneTo, store-all, store-first, store-inode, store-last}
use Rattle.nfs_engine.proofs.SweepStoreStepLemmas.{store-next}
use Rattle.nfs_engine.specs.Tables.{store_of}
use Rattle.nfs_objects.specs.declared.address.Addr.TheVariants.{Inode}
use Rattle.nfs_engine.proofs.objects.Objects.sweep.Goals as goal

pub loop-place-init : goal.loop-place-init
loop-place-init c =
    store-first (store_of c.args.self.now.slots) (store_of c.write.new.self.slots) c.args.sweep.file c.args.sweep.page
    c.map.result c.write.ensures c.map.ensures

pub loop-place-preserved : goal.loop-place-preserved
loop-place-preserved c =
    store-next (store_of c.args.self.now.slots) (store_of c.loop-place.self.slots)
    (store_of c.write-in-loop-place.new.self.slots)
    c.args.sweep.file c.args.sweep.page c.loop-place.place c.block.result c.loop-place.invariant
    c.write-in-loop-place.ensures
    c.block.ensures

pub write-requires-2 : goal.write-requires-2
write-requires-2 c =
    needs-none c.loop-place.self.slots (Inode c.file-number.result) (option_map arc_value c.into_left-left.result)
    (store-inode (store_of c.args.self.now.slots) (store_of c.loop-place.self.slots) c.args.sweep c.loop-place.place
    c.file-number.result (option_map arc_value c.into_left-left.result) c.into_left-left.ensures c.file-number.ensures
    c.requires c.loop-place.invariant)

pub returns-clause-at : goal.returns-clause-at
returns-clause-at c =
    let whole : c.loop-place.place ≡ 512 = omega arith in
    store-all (store_of c.args.self.now.slots) (store_of c.loop-place.self.slots) (store_of c.write-2.new.self.slots)
    c.args.sweep c.file-number.result (option_map arc_value c.into_left-left.result) c.into_left-left.ensures
    c.file-number.ensures (subst (λ (n : ℕ). StoreGoneTo (store_of c.args.self.now.slots)
    (store_of c.loop-place.self.slots) c.args.sweep.file c.args.sweep.page n) whole c.loop-place.invariant)
    c.write-2.ensures

pub returns-clause-last : goal.returns-clause-last
returns-clause-last c =
    let whole : c.loop-place.place ≡ 512 = omega arith in
    store-last (store_of c.args.self.now.slots) (store_of c.loop-place.self.slots) (store_of c.write-2.new.self.slots)
    c.args.sweep c.file-number.result (option_map arc_value c.into_left-left.result) c.into_left-left.ensures
    c.file-number.ensures (subst (λ (n : ℕ). StoreGoneTo (store_of c.args.self.now.slots)
    (store_of c.loop-place.self.slots) c.args.sweep.file c.args.sweep.page n) whole c.loop-place.invariant)
    c.write-2.ensures
