use Rattle.std.proofs.Common.{◌<◌, [], ◌∷◌, arith, subst, sym}
use Rattle.nfs_objects.proofs.SeenLemmas.{view-more}
use Rattle.nfs_objects.specs.Fits.{IsView}
use Rattle.nfs_objects.specs.Rooms.{RoomyValue}
use Rattle.nfs_objects.specs.Values.{seen_of}
use Rattle.nfs_objects.proofs.view.RoomyView.put.Goals as goal

pub invariant_of-self : goal.invariant_of-self
invariant_of-self c =
    let some : 0 < c.self.inside.room = subst (λ (v : RoomyValue). 0 < v.room) (sym c.self.view_is) c.requires.room in
    record {
      reserved = subst (λ es. IsView (record { entries = es; reserved = c.self.inside.reserved.items }))
          (sym c.push.ensures.seen)
          (view-more
          (record { entries = c.self.inside.entries.seen; reserved = c.self.inside.reserved.items })
          (seen_of (c.args.address, record { mode = c.args.mode; object = c.args.object }) ∷ [])
          c.self.invariant.reserved);
      entries = omega (arith, some, c.push.ensures.room, c.self.invariant.entries);
      numbers = c.self.invariant.numbers;
    }
