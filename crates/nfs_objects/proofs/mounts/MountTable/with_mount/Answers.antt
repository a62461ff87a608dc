use Rattle.std.proofs.Common.{◌≡◌, [], ◌∷◌, ◌++◌, arith, ap, sym, ◌∙◌, length, length-drop}
use Rattle.std.proofs.lemmas.Result.{IfOk-weaker}
use Rattle.nfs_objects.proofs.MountTableLemmas.{newest-full}
use Rattle.nfs_objects.proofs.mounts.MountTable.with_mount.Goals as goal
use Rattle.nfs_objects.specs.MountTables.{mounted}

pub with_last-requires-else-len-lt-MOUNT_LIMIT-clause-room :
    goal.with_last-requires-else-len-lt-MOUNT_LIMIT-clause-room
with_last-requires-else-len-lt-MOUNT_LIMIT-clause-room c =
    let left = ap length c.in_ok-without_first.ensures ∙ length-drop 1 c.args.self.now in
    let most = c.len.ensures.bounded in
    omega (arith, left, most)

pub returns-in_ok-without_first : goal.returns-in_ok-without_first
returns-in_ok-without_first c =
    let m = mounted c.args.host.now c.args.path.now in
    let full : length c.args.self.now ≡ 65536 = omega (arith, c.len.ensures.len, c.len.ensures.bounded) in
    let last : c.in_ok-mount.mount ≡ m = c.in_ok-mount.ensures in
    IfOk-weaker c.with_last-else-len-lt-MOUNT_LIMIT-2.result _ _
    (λ table same. same ∙ (λ i. c.in_ok-without_first.ensures i ++ last i ∷ [])
    ∙ sym (newest-full c.args.self.now m full)) c.with_last-else-len-lt-MOUNT_LIMIT-2.ensures
