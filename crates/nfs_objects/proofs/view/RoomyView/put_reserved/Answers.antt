use Rattle.std.proofs.Common.{◌≡◌, ◌+◌, ◌<◌, [], ◌∷◌, None, length, ap, arith}
use Rattle.std.proofs.Common.{length-append, subst, sym, ◌∙◌}
use Rattle.nfs_objects.proofs.SeenLemmas.{view-last}
use Rattle.nfs_objects.specs.Fits.{IsView}
use Rattle.nfs_objects.specs.Rooms.{RoomyValue}
use Rattle.nfs_objects.specs.Values.{ViewValue, seen_at}
use Rattle.nfs_objects.specs.declared.address.Addr.TheVariants.{Inode}
use Rattle.nfs_objects.proofs.view.RoomyView.put_reserved.Goals as goal

pub invariant_of-self : goal.invariant_of-self
invariant_of-self c =
    let old : ViewValue = record { entries = c.self.inside.entries.seen; reserved = c.self.inside.reserved.items } in
    let some : 0 < c.self.inside.room = subst (λ (v : RoomyValue). 0 < v.room) (sym c.self.view_is) c.requires.room in
    let unseen : seen_at old.entries (Inode c.args.reserved.number) ≡ None =
    ap (λ (v : RoomyValue). seen_at v.view.entries (Inode c.args.reserved.number)) c.self.view_is
    ∙ c.requires.unseen in
    let more : length c.push_reserved.new.self.items ≡ length old.reserved + 1 =
    ap length c.push_reserved.ensures.items ∙ length-append old.reserved (c.args.reserved ∷ []) in
    record {
      reserved = subst IsView
          (λ i. record { entries = sym c.push.ensures.seen i; reserved = sym c.push_reserved.ensures.items i })
          (view-last old c.args.reserved c.self.invariant.reserved unseen);
      entries = omega (arith, some, c.push.ensures.room, c.self.invariant.entries);
      numbers = omega (arith, more, c.push_reserved.ensures.capacity, c.self.invariant.numbers);
    }
