use Rattle.std.proofs.Common.{◌++◌, None, cond, sym, ◌∙◌, ap}
use Rattle.std.specs.Map.{lookup}
use Rattle.nfs_tables.proofs.TwoMapLemmas.{absent-there, first-became, found-first, found-second, second-became}
use Rattle.nfs_tables.specs.Tables.{value_at}
use Rattle.nfs_tables.proofs.table.Table.remove.Goals as goal

pub returns-in-Some-clause-value : goal.returns-in-Some-clause-value
returns-in-Some-clause-value g c =
    let eq = g.K.PartialEq.eq in
    found-second eq c.self.inside.waiting.entries c.self.inside.placed.entries c.args.key.now c.self.invariant.apart
    c.in-Some.value c.in-Some.ensures.value
    ∙ ap (λ t. value_at eq t c.args.key.now) c.self.view_is

pub returns-in-Some-clause-changes : goal.returns-in-Some-clause-changes
returns-in-Some-clause-changes g c q =
    let eq = g.K.PartialEq.eq in
    let waiting = c.self.inside.waiting.entries in
    let placed = c.self.inside.placed.entries in
    second-became eq g.met.K.Eq.laws waiting placed c.args.key.now None
    (absent-there eq waiting placed c.args.key.now c.self.invariant.apart c.in-Some.value c.in-Some.ensures.value)
    c.swap_remove.new.self.entries c.swap_remove.ensures.updates.0 q
    ∙ ap (λ t. cond (eq c.args.key.now q) None (value_at eq t q)) c.self.view_is

pub returns-in-None-clause-value : goal.returns-in-None-clause-value
returns-in-None-clause-value g c =
    let eq = g.K.PartialEq.eq in
    c.swap_remove-in-None.ensures.value
    ∙ found-first eq c.self.inside.waiting.entries c.self.inside.placed.entries c.args.key.now
    (sym c.in-None.ensures.value)
    ∙ ap (λ t. value_at eq t c.args.key.now) c.self.view_is

pub returns-in-None-clause-changes : goal.returns-in-None-clause-changes
returns-in-None-clause-changes g c q =
    let eq = g.K.PartialEq.eq in
    let waiting = c.self.inside.waiting.entries in
    let placed = c.self.inside.placed.entries in
    let fewer = c.swap_remove-in-None.new.self.entries in
    ap (λ es. lookup (eq q) (fewer ++ es)) c.in-None.ensures.unchanged
    ∙ first-became eq g.met.K.Eq.laws waiting placed c.args.key.now None (sym c.in-None.ensures.value) fewer
    c.swap_remove-in-None.ensures.updates.0 q
    ∙ ap (λ t. cond (eq c.args.key.now q) None (value_at eq t q)) c.self.view_is
