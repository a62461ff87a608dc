use Rattle.std.proofs.Common.{arith, ap, length, map, sym, subst, take}
use Rattle.nfs_objects.proofs.DraftLemmas.{are-first}
use Rattle.nfs_objects.specs.Asks.{AreFirst}
use Rattle.nfs_objects.specs.Values.{DraftValue, modes_value, write_value}
use Rattle.nfs_objects.proofs.draft.Draft.fresh_all.Goals as goal

pub returns-clause-numbers : goal.returns-clause-numbers
returns-clause-numbers c =
    let inner : DraftValue = record {
      ctx = c.self.inside.ctx.now;
      view = c.self.inside.view.now;
      modes = modes_value c.self.inside.modes;
      writes = map write_value c.self.inside.writes.items;
      messages = c.self.inside.messages.items;
    } in
    let same = c.reserved-reserved.ensures.reserved in
    subst (λ (d : DraftValue). AreFirst d c.args.count (take c.args.count c.reserved-reserved.result.now))
    c.self.view_is
    (subst (λ rs. AreFirst inner c.args.count (take c.args.count rs)) (sym same)
    (are-first inner c.args.count
    (record { held = c.reserved-reserved.ensures.kept; apart = c.reserved-reserved.ensures.apart })
    (omega (arith, c.if-reserved-count.false, ap length same))))
