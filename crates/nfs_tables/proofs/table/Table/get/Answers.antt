use Rattle.std.proofs.Common.{sym, ◌∙◌, ap}
use Rattle.nfs_tables.proofs.TwoMapLemmas.{found-first, found-second}
use Rattle.nfs_tables.specs.Tables.{value_at}
use Rattle.nfs_tables.proofs.table.Table.get.Goals as goal

pub returns-in-Some : goal.returns-in-Some
returns-in-Some g c =
    let eq = g.K.PartialEq.eq in
    record {
      value = found-second eq c.self.inside.waiting.entries c.self.inside.placed.entries c.args.key.now
          c.self.invariant.apart c.in-Some.value.now c.in-Some.ensures.value
          ∙ ap (λ t. value_at eq t c.args.key.now) c.self.view_is;
    }

pub returns-in-None : goal.returns-in-None
returns-in-None g c =
    let eq = g.K.PartialEq.eq in
    record {
      value = c.get-in-None.ensures.value
          ∙ found-first eq c.self.inside.waiting.entries c.self.inside.placed.entries c.args.key.now
          (sym c.in-None.ensures.value)
          ∙ ap (λ t. value_at eq t c.args.key.now) c.self.view_is;
    }
