use Rattle.std.proofs.Common.{◌≡◌, None, Option, Some, ap, inr, is_some, option_map, refl, sym, ◌∙◌}
use Rattle.nfs_objects.specs.Values.{Seen, pointed, seen_at}
use Rattle.nfs_objects.specs.declared.address.Addr.TheVariants.{Inode}
use Rattle.nfs_engine.proofs.calls.Txn.reserve_tested.Goals as goal
use Rattle.nfs_engine.proofs.calls.Txn.reserve_tested.Goals.{in-Ok, in-Err}

mapped : {X Y : Type 0} (f : X → Y) (o : Option X) → is_some (option_map f o) ≡ is_some o
mapped f (Some x) = refl
mapped f None = refl

pub returns-then-is_some-clause-tested : goal.returns-then-is_some-clause-tested
returns-then-is_some-clause-tested c =
    let number = c.in_ok-reserved.reserved.number in
    rw (← c.self.view_is) (record {
      given_back = record {
        reserved = c.in_ok-reserved.reserved;
        between = c.reserve.new.self;
        given = c.in_ok-reserved.ensures;
        back = c.release.ensures;
        view = refl;
      };
      read = sym (mapped (λ (e : Seen). e.object) (seen_at c.self.inside.view.entries (Inode number)))
          ∙ sym (ap is_some c.find.ensures) ∙ mapped pointed c.find.result ∙ sym c.is_some.ensures
          ∙ c.if-is_some.true;
    })

pub returns-clause-tested : goal.returns-clause-tested
returns-clause-tested c = elim c.match-add_reserved.branch [
  | in-Ok w ↦ rw (w.result-is, w.shard-is, ← c.self.view_is) (record {
    reserved = c.in_ok-reserved.reserved;
    shard = c.in_ok-reserved.ensures;
    view = w.in-Ok.ensures.ok;
  })
  | in-Err w ↦ rw (w.result-is, w.shard-is, ← c.self.view_is) (inr (record {
    reserved = c.in_ok-reserved.reserved;
    between = c.reserve.new.self;
    given = c.in_ok-reserved.ensures;
    back = w.release-in-Err.ensures;
    view = w.in-Err.ensures.err;
  }))
]
