use Rattle.std.proofs.Common.{refl, sym, ◌∙◌, ap, subst}
use Rattle.std.specs.Map.{lookup}
use Rattle.nfs_tables.proofs.LendingLemmas.{by-placed, placed-rewrites, placed-table}
use Rattle.nfs_tables.specs.Lending.{Rewrites}
use Rattle.nfs_tables.specs.Tables.{IsTable, TableValue, table_of, value_at}
use Rattle.nfs_tables.proofs.table.Table.placed_mut.Goals as goal

pub invariant_of-self-lent : goal.invariant_of-self-lent
invariant_of-self-lent g c r =
    let eq = g.K.PartialEq.eq in
    let waiting = c.self.inside.waiting in
    let placed = c.self.inside.placed in
    let follows = c.get_mut.follows in (
      λ w. placed-table eq g.met.K.Eq.laws waiting placed (follows.lender w) c.args.key.now w c.self.invariant
          (follows.holds w),
      subst (λ m. IsTable eq waiting m) (sym follows.holds-at-none) c.self.invariant,
    )

pub returns : goal.returns
returns g c =
    let eq = g.K.PartialEq.eq in
    let key = c.args.key.now in
    let waiting = c.self.inside.waiting in
    let placed = c.self.inside.placed in
    let follows = c.get_mut.follows in
    let absent = ap (λ (t : TableValue g.row.K.Denot g.row.V.Denot). lookup (eq key) t.waiting) c.self.view_is
    ∙ c.requires in (
      (
        refl,
        λ w. subst (λ (t : TableValue g.row.K.Denot g.row.V.Denot).
            Rewrites eq t (table_of waiting (follows.lender w)) key w)
            c.self.view_is
            (placed-rewrites eq g.met.K.Eq.laws waiting placed (follows.lender w) key w absent (follows.holds w)),
        ap (λ m. table_of waiting m) follows.holds-at-none ∙ c.self.view_is,
      ),
      record {
        writes_back = tt;
        value = c.get_mut.ensures.value
            ∙ sym (by-placed eq g.met.K.Eq.laws waiting placed placed key absent)
            ∙ ap (λ t. value_at eq t key) c.self.view_is;
      },
    )
