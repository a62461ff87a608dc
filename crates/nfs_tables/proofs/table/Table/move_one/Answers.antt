use Rattle.std.proofs.Common.{◌∙◌, ap}
use Rattle.nfs_tables.proofs.TwoMapLemmas.{moved-same, so-ok}
use Rattle.nfs_tables.specs.Tables.{value_at}
use Rattle.nfs_tables.proofs.table.Table.move_one.Goals as goal

pub returns-clause-keeps : goal.returns-clause-keeps
returns-clause-keeps g c q =
    let eq = g.K.PartialEq.eq in
    moved-same eq g.met.K.Eq.laws c.self.inside.waiting.entries c.self.inside.placed.entries c.pop.new.self.entries
    c.insert.new.self.entries c.in-Some.key c.in-Some.moved c.in-Some.ensures.entries c.in-Some.ensures.updates.0
    (so-ok c.unwrap.ensures c.insert.ensures.updates).0 q
    ∙ ap (λ t. value_at eq t q) c.self.view_is
