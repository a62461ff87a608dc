use Rattle.std.proofs.Common.{Some, arith, cond, ◌∙◌, ap}
use Rattle.nfs_tables.proofs.TwoMapLemmas.{absent-first, second-apart, second-became, so-ok}
use Rattle.nfs_tables.specs.Tables.{TableValue, value_at}
use Rattle.nfs_tables.proofs.table.Table.push.Goals as goal

pub invariant_of-self : goal.invariant_of-self
invariant_of-self g c =
    let eq = g.K.PartialEq.eq in
    let waiting = c.self.inside.waiting.entries in
    let placed = c.self.inside.placed.entries in
    let room = ap (λ (t : TableValue g.row.K.Denot g.row.V.Denot). t.room) c.self.view_is in
    record {
      fits = omega (arith, room, c.insert.ensures.spare, c.requires.space);
      apart = second-apart eq g.met.K.Eq.laws waiting placed c.args.key (Some c.args.value)
          (absent-first eq waiting placed c.args.key
          (ap (λ t. value_at eq t c.args.key) c.self.view_is ∙ c.requires.absent))
          c.insert.new.self.entries (so-ok c.unwrap.ensures c.insert.ensures.updates).0 c.self.invariant.apart;
    }

pub returns-clause-changes : goal.returns-clause-changes
returns-clause-changes g c q =
    let eq = g.K.PartialEq.eq in
    let waiting = c.self.inside.waiting.entries in
    let placed = c.self.inside.placed.entries in
    second-became eq g.met.K.Eq.laws waiting placed c.args.key (Some c.args.value)
    (absent-first eq waiting placed c.args.key
    (ap (λ t. value_at eq t c.args.key) c.self.view_is ∙ c.requires.absent))
    c.insert.new.self.entries (so-ok c.unwrap.ensures c.insert.ensures.updates).0 q
    ∙ ap (λ t. cond (eq c.args.key q) (Some c.args.value) (value_at eq t q)) c.self.view_is
