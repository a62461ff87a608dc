use Rattle.std.proofs.Common.{◌+◌, ◌<◌, ◌≤◌, ap, arith, drop, length, rules, subst, sym, ◌∙◌}
use Rattle.nfs_objects.proofs.MountTableLemmas.{first-dropped, gone-listed, one-gone, without-one}
use Rattle.nfs_objects.proofs.mounts.MountTable.without_first.Goals as goal
use Rattle.nfs_objects.specs.MountTables.{AreDistinct, AreListed, first_piece, listed}

pub invariant_of-result : goal.invariant_of-result
invariant_of-result c =
    let more : c.self.inside.gone < length (first_piece c.self.inside.older) = search (rules, arith) in
    subst (λ older. AreListed older (c.self.inside.gone + 1) c.in_ok-copied.field-0) (sym c.in_ok-shared.ensures)
    (subst (AreListed c.self.inside.older (c.self.inside.gone + 1)) (sym c.in_ok-copied.ensures)
    (gone-listed c.self.inside.older c.self.inside.gone c.self.inside.latest c.self.invariant more))

pub returns-then-self-first_len : goal.returns-then-self-first_len
returns-then-self-first_len c =
    let more : c.self.inside.gone < length (first_piece c.self.inside.older) = search (rules, arith) in
    (λ i. listed (c.in_ok-shared.ensures i) (c.self.inside.gone + 1) (c.in_ok-copied.ensures i))
    ∙ one-gone c.self.inside.older c.self.inside.gone c.self.inside.latest c.self.invariant more
    ∙ ap (drop 1) c.self.view_is

pub invariant_of-result-2 : goal.invariant_of-result-2
invariant_of-result-2 c =
    subst (AreListed c.in_ok-in_pieces.field-0 1) (sym c.new.ensures)
    (without-one c.args.self.now (subst (λ mounts. length mounts ≤ 65536) c.self.view_is c.self.invariant.bounded)
    (subst AreDistinct c.self.view_is c.self.invariant.distinct) c.in_ok-in_pieces.field-0
    c.in_ok-in_pieces.ensures.joined c.in_ok-in_pieces.ensures.held.packed c.requires)

pub returns : goal.returns
returns c =
    ap (listed c.in_ok-in_pieces.field-0 1) c.new.ensures
    ∙ first-dropped c.args.self.now (subst (λ mounts. length mounts ≤ 65536) c.self.view_is c.self.invariant.bounded)
    (subst AreDistinct c.self.view_is c.self.invariant.distinct) c.in_ok-in_pieces.field-0
    c.in_ok-in_pieces.ensures.joined
