use Rattle.std.proofs.Common.{◌≡◌, ◌||◌, ap, drop, false, sym, true, ◌∙◌, rules}
use Rattle.nfs_machine.specs.MountSteps.{is_mounted}
use Rattle.nfs_objects.proofs.MountTableLemmas.{in-table}
use Rattle.nfs_objects.proofs.mounts.MountTable.is_listed.Goals as goal
use Rattle.nfs_objects.specs.MountTables.{joined, mounted}

pub is_behind-requires : goal.is_behind-requires
is_behind-requires c = c.self.invariant.within

pub returns-then-is_behind : goal.returns-then-is_behind
returns-then-is_behind c =
    let m = mounted c.args.host.now c.args.path.now in
    let there : c.is_behind.result ≡ true = search rules in
    let older : c.is_behind.result ≡ is_mounted (drop c.self.inside.gone (joined c.self.inside.older)) m =
    search rules in
    there ∙ (λ i. (sym there ∙ older) i || is_mounted c.self.inside.latest m)
    ∙ in-table c.self.inside.older c.self.inside.gone c.self.inside.latest c.self.invariant m
    ∙ ap (λ mounts. is_mounted mounts m) c.self.view_is

pub returns-else-is_behind : goal.returns-else-is_behind
returns-else-is_behind c =
    let m = mounted c.args.host.now c.args.path.now in
    let none : is_mounted (drop c.self.inside.gone (joined c.self.inside.older)) m ≡ false = search rules in
    let late : c.is_listed.result ≡ is_mounted c.self.inside.latest m = search rules in
    (λ i. sym none i || late i)
    ∙ in-table c.self.inside.older c.self.inside.gone c.self.inside.latest c.self.invariant m
    ∙ ap (λ mounts. is_mounted mounts m) c.self.view_is
