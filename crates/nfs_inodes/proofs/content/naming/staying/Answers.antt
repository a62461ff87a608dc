use Rattle.std.proofs.Common.{[], sym, subst}
use Rattle.std.specs.Prelude.{MatchResult, option_copied}
use Rattle.nfs_objects.specs.Unfiled.{Relists}
use Rattle.nfs_inodes.proofs.RelinkLemmas.{staying-knows, staying-less, staying-lists}
use Rattle.nfs_inodes.specs.Entered.{always}
use Rattle.nfs_inodes.specs.Renames.{staying}
use Rattle.nfs_inodes.specs.Stops.{StopsAt}
use Rattle.nfs_inodes.proofs.content.naming.staying.Goals as goal

pub returns-in-Some-clause-staying : goal.returns-in-Some-clause-staying
returns-in-Some-clause-staying c =
    subst (λ o. MatchResult c.without_entry-in-Some.result (λ others. Relists c.args.number c.args.draft.now
    c.without_entry-in-Some.new.draft c.args.map.now others (λ es. staying es c.args.name.now (option_copied o)) always)
    (StopsAt c.args.draft.now [])) (sym c.in-Some.is)
    (staying-lists c.args.number c.args.draft.now c.without_entry.new.draft c.without_entry-in-Some.new.draft
    c.args.map.now c.in_ok-others.others c.args.name.now c.in-Some.left.now c.without_entry-in-Some.result
    c.in_ok-others.ensures.lists c.without_entry-in-Some.ensures.lists)

pub returns-in-Some-clause-knows : goal.returns-in-Some-clause-knows
returns-in-Some-clause-knows c =
    staying-knows c.args.number c.args.draft.now c.without_entry.new.draft c.without_entry-in-Some.new.draft
    c.args.map.now c.in_ok-others.others c.args.name.now c.in-Some.left.now c.without_entry-in-Some.result
    c.in_ok-others.ensures.knows c.without_entry-in-Some.ensures.knows

pub returns-in-Some-clause-less : goal.returns-in-Some-clause-less
returns-in-Some-clause-less c =
    staying-less c.args.number c.args.draft.now c.without_entry.new.draft c.without_entry-in-Some.new.draft
    c.args.map.now c.in_ok-others.others c.args.name.now c.in-Some.left.now c.without_entry-in-Some.result
    c.in_ok-others.ensures.less c.without_entry-in-Some.ensures.less

pub returns-in-None-clause-staying : goal.returns-in-None-clause-staying
returns-in-None-clause-staying c =
    subst (λ o. Relists c.args.number c.args.draft.now c.without_entry.new.draft c.args.map.now c.in_ok-others.others
    (λ es. staying es c.args.name.now (option_copied o)) always) (sym c.in-None.is) c.in_ok-others.ensures.lists
