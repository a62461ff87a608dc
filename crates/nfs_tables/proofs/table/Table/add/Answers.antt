use Rattle.std.proofs.Common.{Some, cond, ◌∙◌, ap}
use Rattle.std.specs.Map.{lookup}
use Rattle.nfs_tables.proofs.table.Table.add.Goals as goal

pub push-requires-clause-absent : goal.push-requires-clause-absent
push-requires-clause-absent g c =
    c.move_some.ensures.keeps c.args.key
    ∙ ap (lookup (g.K.PartialEq.eq c.args.key)) c.in_ok-reserve.ensures.entries
    ∙ c.requires.absent

pub returns-clause-ok : goal.returns-clause-ok
returns-clause-ok g c q =
    let eq = g.K.PartialEq.eq in
    c.push.ensures.changes q
    ∙ ap (cond (eq c.args.key q) (Some c.args.value))
    (c.move_some.ensures.keeps q ∙ ap (lookup (eq q)) c.in_ok-reserve.ensures.entries)
