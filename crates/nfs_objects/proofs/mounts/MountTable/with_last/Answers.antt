use Rattle.std.proofs.Common.{◌<◌, ◌≤◌, [], ◌∷◌, ◌++◌, ap, length, subst, sym, ◌∙◌}
use Rattle.nfs_machine.specs.MountSteps.{is_mounted}
use Rattle.nfs_objects.proofs.MountTableLemmas.{later-listed, latest-lacks, one-later, with-one}
use Rattle.nfs_objects.proofs.mounts.MountTable.with_last.Goals as goal
use Rattle.nfs_objects.specs.MountTables.{AreDistinct, AreListed, listed}

-- the mount is not in the table as its fields tell it, and there is room
pub with_last-requires : goal.with_last-requires
with_last-requires c =
    latest-lacks c.self.inside.older c.self.inside.gone c.self.inside.latest c.self.invariant c.args.mount
    (ap (λ mounts. is_mounted mounts c.args.mount) c.self.view_is ∙ c.requires.absent)

pub invariant_of-result : goal.invariant_of-result
invariant_of-result c =
    subst (λ older. AreListed older c.self.inside.gone c.in_ok-with_last.field-0) (sym c.in_ok-shared.ensures)
    (subst (AreListed c.self.inside.older c.self.inside.gone) (sym c.in_ok-with_last.ensures)
    (later-listed c.self.inside.older c.self.inside.gone c.self.inside.latest c.self.invariant c.args.mount
    (ap (λ mounts. is_mounted mounts c.args.mount) c.self.view_is ∙ c.requires.absent)
    (subst (λ mounts. length mounts < 65536) (sym c.self.view_is) c.requires.room)))

pub returns-then-len-lt-LATEST_LIMIT : goal.returns-then-len-lt-LATEST_LIMIT
returns-then-len-lt-LATEST_LIMIT c =
    (λ i. listed (c.in_ok-shared.ensures i) c.self.inside.gone (c.in_ok-with_last.ensures i))
    ∙ one-later c.self.inside.older c.self.inside.gone c.self.inside.latest c.self.invariant c.args.mount
    (ap (λ mounts. is_mounted mounts c.args.mount) c.self.view_is ∙ c.requires.absent)
    ∙ ap (λ mounts. mounts ++ c.args.mount ∷ []) c.self.view_is

pub invariant_of-result-2 : goal.invariant_of-result-2
invariant_of-result-2 c =
    subst (AreListed c.in_ok-in_pieces.field-0 0) (sym c.in_ok-of.ensures)
    (with-one c.args.self.now (subst (λ mounts. length mounts ≤ 65536) c.self.view_is c.self.invariant.bounded)
    (subst AreDistinct c.self.view_is c.self.invariant.distinct) c.in_ok-in_pieces.field-0
    c.in_ok-in_pieces.ensures.joined c.args.mount c.requires.absent c.requires.room)

pub returns : goal.returns
returns c =
    ap (listed c.in_ok-in_pieces.field-0 0) c.in_ok-of.ensures
    ∙ ap (λ mounts. mounts ++ c.args.mount ∷ []) c.in_ok-in_pieces.ensures.joined
