use Rattle.std.proofs.Common.{subst}
use Rattle.std.specs.List.{IsDistinct}
use Rattle.std.specs.Map.{keys_of}
use Rattle.nfs_tables.proofs.TwoMapLemmas.{distinct-append}
use Rattle.nfs_tables.specs.Tables.{TableValue, entries}
use Rattle.nfs_tables.proofs.table.Table.parts.Goals as goal

pub returns-clause-once : goal.returns-clause-once
returns-clause-once g c =
    subst (λ (t : TableValue g.row.K.Denot g.row.V.Denot). IsDistinct g.K.PartialEq.eq (keys_of (entries t)))
    c.self.view_is
    (distinct-append g.K.PartialEq.eq g.met.K.Eq.laws c.self.inside.waiting.entries c.self.inside.placed.entries
    c.len.ensures.unique c.len-2.ensures.unique c.self.invariant.apart)
