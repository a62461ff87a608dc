use Rattle.std.proofs.Common.{◌≡◌, ◌<◌, ◌++◌, ap, arith, length, rules, subst, sym, ◌∙◌}
use Rattle.std.specs.Arc.{arc_value}
use Rattle.nfs_objects.specs.MountTables.{AreDistinct, is_same}
use Rattle.nfs_objects.proofs.MountTableLemmas.{first-packed, grown-packed, last-apart, more-packed, not-fit}
use Rattle.nfs_objects.proofs.mounts.add_piece.Goals as goal
use Rattle.nfs_objects.proofs.mounts.add_piece.Goals.{in_default-via-in-Some+else-fit_together}
use Rattle.nfs_objects.proofs.mounts.add_piece.Goals.{in_default-via-in_default}

pub joined_with-requires : goal.joined_with-requires
joined_with-requires c =
    let cut = sym c.deref-2.ensures.value ∙ c.in-Some.ensures.cases.0 in
    subst AreDistinct (λ i. sym c.deref-in-Some.ensures i ++ sym c.deref-in-Some-2.ensures i)
    (last-apart arc_value c.args.pieces.now.items c.in-Some.field-0-1.now c.in-Some.last.now cut
    is_same (arc_value c.args.piece) c.requires)

pub returns-in_ok-push-in-Some-clause-packed : goal.returns-in_ok-push-in-Some-clause-packed
returns-in_ok-push-in-Some-clause-packed c =
    let cut = sym c.deref-2.ensures.value ∙ c.in-Some.ensures.cases.0 in
    let is : arc_value c.in_ok-both-in-Some.both ≡ arc_value c.in-Some.last.now ++ arc_value c.args.piece =
    c.in_ok-both-in-Some.ensures.ok ∙ c.in_ok-joined_with-in-Some.ensures
    ∙ (λ i. c.deref-in-Some.ensures i ++ c.deref-in-Some-2.ensures i) in
    grown-packed arc_value c.args.pieces.now.items c.in-Some.field-0-1.now c.in-Some.last.now cut
    c.pop.new.self.items c.push.new.self.items c.in_ok-both-in-Some.both (arc_value c.args.piece) is
    c.args.pieces.now.len c.args.pieces.now.ok.0 c.pop.ensures.rest c.in_ok-push-in-Some.ensures.items 256

pub returns-in_ok-push-in_default-clause-packed : goal.returns-in_ok-push-in_default-clause-packed
returns-in_ok-push-in_default-clause-packed c =
    let some : 0 < length (arc_value c.args.piece) = search (rules, arith) in
    elim c.in_default.branch [
      | in_default-via-in-Some+else-fit_together w ↦
          let cut = sym c.deref-2.ensures.value ∙ w.in-Some.ensures.cases.0 in
          more-packed arc_value c.args.pieces.now.items w.in-Some.field-0-1.now w.in-Some.last.now cut 256
          c.push-in_default.new.self.items c.args.piece c.in_ok-push-in_default.ensures.items some
          (not-fit _ w.if-fit_together.ensures.1)
      | in_default-via-in_default w ↦ λ packed.
          first-packed arc_value c.args.pieces.now.items c.push-in_default.new.self.items c.args.piece
          (ap length (sym c.deref-2.ensures.value) ∙ w.in_default.ensures.cases)
          c.in_ok-push-in_default.ensures.items some
    ]
