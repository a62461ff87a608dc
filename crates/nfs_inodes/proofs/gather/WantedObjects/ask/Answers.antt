use Rattle.std.proofs.Common.{◌≡◌, [], length, arith, sym, ◌∙◌, ap}
use Rattle.std.proofs.lemmas.List.{nil_from_length}
use Rattle.std.specs.Cmp.{unsigned_Decides}
use Rattle.std.specs.Vec.{vec_len}
use Rattle.nfs_inodes.proofs.GatherLemmas.{asks-each, none-lacked}
use Rattle.nfs_inodes.proofs.gather.WantedObjects.ask.Goals as goal

pub returns-then-is_empty-clause-known : goal.returns-then-is_empty-clause-known
returns-then-is_empty-clause-known c = λ d entries gathers.
    let zero = (unsigned_Decides (vec_len c.args.self.asked) 0).0 (sym c.if-is_empty.ensures) in
    let ok = c.args.self.asked.ok in
    none-lacked d entries c.args.self gathers (nil_from_length c.args.self.asked.items (omega (arith, zero, ok)))

pub returns-else-is_empty-clause-stops : goal.returns-else-is_empty-clause-stops
returns-else-is_empty-clause-stops c = λ d entries gathers.
    asks-each d entries c.args.self gathers [] (λ empty.
    (let ok = c.args.self.asked.ok in
    let none : length c.args.self.asked.items ≡ 0 = ap length empty in
    let zero : vec_len c.args.self.asked ≡ 0 = omega (arith, ok, none) in
    let no = c.if-is_empty.ensures ∙ (unsigned_Decides (vec_len c.args.self.asked) 0).1 zero in cc))
