use Rattle.std.proofs.Common.{◌≡◌, map}
use Rattle.std.specs.Arc.{arc_value}
use Rattle.std.specs.Cmp.Derive.Mapped.{pointwise-map}
use Rattle.std.specs.Cmp.Lexicographic.{pointwise}
use Rattle.nfs_machine.specs.Exports.{export_value}
use Rattle.nfs_machine.specs.SameExports.{exports_told, is_same_export, same_export, same_exports}
use Rattle.nfs_machine.proofs.exports.ExportsPartialEq.eq.Goals as goal

pub returns-clause-test : goal.returns-clause-test
returns-clause-test c =
    let xs = (arc_value c.self.inside.list).items in
    let ys = (arc_value c.other.inside.list).items in
    let own = c.self.view_is in
    let others = c.other.view_is in
    let told : c.eq.result ≡ pointwise is_same_export xs ys = c.eq.ensures in
    let mapped : same_exports (map export_value xs) (map export_value ys) ≡ pointwise is_same_export xs ys =
    pointwise-map export_value same_export xs ys in
    cc

pub returns-clause-same : goal.returns-clause-same
returns-clause-same c = exports_told _ c.args.self.now c.args.other.now (returns-clause-test c)
