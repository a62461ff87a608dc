use Rattle.std.proofs.Common.{◌≡◌, ◌&&◌, false, not, subst, sym, take, true, ◌∙◌, rules}
use Rattle.nfs_machine.specs.MountSteps.{is_mounted}
use Rattle.nfs_objects.proofs.MountTableLemmas.{behind-front}
use Rattle.nfs_objects.proofs.mounts.MountPieces.is_behind.Goals as goal
use Rattle.nfs_objects.specs.MountTables.{AreDistinct, joined, mounted}

pub returns-then-is_listed : goal.returns-then-is_listed
returns-then-is_listed c =
    let m = mounted c.args.sought.host.now c.args.sought.path.now in
    let mounts = joined c.args.self.now in
    let there : is_mounted mounts m ≡ true = search rules in
    (λ i. sym there i && not (c.has_in_front.ensures i))
    ∙ behind-front m c.args.count mounts
    (subst (λ pieces. AreDistinct (joined pieces)) c.self.view_is c.self.invariant.distinct)

pub returns-else-is_listed : goal.returns-else-is_listed
returns-else-is_listed c =
    let m = mounted c.args.sought.host.now c.args.sought.path.now in
    let mounts = joined c.args.self.now in
    let none : c.is_listed.result ≡ false = search rules in
    none ∙ (λ i. (sym none ∙ c.is_listed.ensures) i && not (is_mounted (take c.args.count mounts) m))
    ∙ behind-front m c.args.count mounts
    (subst (λ pieces. AreDistinct (joined pieces)) c.self.view_is c.self.invariant.distinct)
