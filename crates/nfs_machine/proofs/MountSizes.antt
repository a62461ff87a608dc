-- How many bytes replies of MOUNT have: the parts of a result add theirs one after the other.
use Rattle.std.proofs.Common.{◌≡◌, ℕ, ◌+◌, ◌*◌, ◌/◌, ◌≤◌, true, false, cond, List, []}
use Rattle.std.proofs.Common.{◌∷◌, length, length-append}
use Rattle.std.proofs.Common.{map, Result, Ok, Err, refl, sym, ◌∙◌, ap, subst, arith}
use Rattle.std.proofs.lemmas.List.{length-replicate}
use Rattle.std.proofs.lemmas.List.Sums.{sum_by-cons}
use Rattle.std.specs.List.{AllByRecursion, fold, list_any, sum_by}
use Rattle.nfs_xdr.specs.Types.{Xdr, Opaque, Entries, Word, Value, padding}
use Rattle.nfs_xdr.specs.Writing.{appended, with_arm, with_padded, with_word}
use Rattle.nfs_wire.proofs.ResultSizes.{Adds, adds-pair, adds-word}
use Rattle.side_wire.specs.Mount.{IsDirpath, IsHostName, dirpath, exportnode, exportnode_value, groups, host_name}
use Rattle.side_wire.specs.Mount.{mount_outcome, mount_result_bytes, mountbody, mountbody_value}
use Rattle.side_wire.specs.Mount.{mountres3}
use Rattle.side_wire.specs.declared.mount.MountCall.TheVariants as mount
use Rattle.side_wire.specs.declared.mount.MountReply.{MountReply}
use Rattle.side_wire.specs.declared.mount.MountStatus.{MountStatus}
use Rattle.side_wire.specs.declared.mount.MountStatus.TheVariants as status
use Rattle.side_wire.specs.declared.mount.lists.ExportNode.{ExportNode}
use Rattle.side_wire.specs.declared.mount.lists.MountBody.{MountBody}
use Rattle.nfs_machine.specs.Bytes.{same_bytes}
use Rattle.nfs_machine.specs.Exports.{LivingExport, every_host}
use Rattle.nfs_machine.specs.MountLaws.{MountRepliesAreBounded, exported_bytes, most_bytes, mounted_bytes}
use Rattle.nfs_machine.specs.MountSteps.{MntAnswers, MountStep, listed_exports}
use Rattle.nfs_machine.specs.Shown.{handle_at}
use Rattle.nfs_machine.specs.SideLaws.{ExportsFit}
use Rattle.nfs_machine.specs.State.{State}
use Rattle.nfs_machine.specs.declared.context.Ctx.{Ctx}

-- ---- texts, with their length and padding
adds-text : (most : ℕ) (text : List ℕ) (n : ℕ) → (length text + 3) / 4 * 4 ≤ n →
    Adds (Opaque most) text (4 + n)
unfolding appended with_padded with_word
adds-text most text n fits old =
    simp (length-append, length-replicate)
    (let p : length text + padding (length text) ≤ (length text + 3) / 4 * 4 = omega arith in omega (arith, p, fits))

adds-host : (name : List ℕ) → IsHostName name → Adds host_name name 260
adds-host name short = adds-text 255 name 256 (omega (arith, short))

adds-path : (path : List ℕ) → IsDirpath path → Adds dirpath path 1028
adds-path path short = adds-text 1024 path 1024 (omega (arith, short))

-- ---- a list: each entry behind a TRUE, and a FALSE at the end
module _ {Y : Type 0} (t : Xdr) (view : Y → Value t) (size : Y → ℕ) (P : Y → Type 0)
    (each : (y : Y) → P y → Adds t (view y) (size y)) where
  below : (ys : List Y) → AllByRecursion P ys → (old : List ℕ) →
      length (fold (λ out v. appended t v (with_word 1 out)) old (map view ys)) ≤ length old +
      sum_by (λ y. 4 + size y) ys
  unfolding appended
  below [] all old = omega arith
  below (y ∷ ys) all old = omega (
    arith,
    sum_by-cons (λ y. 4 + size y) y ys,
    adds-word 1 old,
    each y all.0 (appended Word 1 old),
    below ys all.1 (appended t (view y) (with_word 1 old)),
  )

  adds-list : (ys : List Y) → AllByRecursion P ys →
      Adds (Entries t) (map view ys) (sum_by (λ y. 4 + size y) ys + 4)
  unfolding appended
  adds-list ys all old =
      omega (arith, below ys all old, adds-word 0 (fold (λ out v. appended t v (with_word 1 out)) old (map view ys)))

-- as many times the same
same-sum : {Y : Type 0} (n : ℕ) (ys : List Y) → sum_by (λ y. n) ys ≡ n * length ys
same-sum n [] = omega arith
same-sum n (y ∷ ys) = omega (arith, sum_by-cons (λ z. n) y ys, same-sum n ys)

-- ---- DUMP
adds-mounts : (mounts : List MountBody) →
    AllByRecursion (λ (x : MountBody). IsHostName x.hostname × IsDirpath x.directory) mounts →
    Adds (Entries mountbody) (map mountbody_value mounts) (mounted_bytes * length mounts + 4)
adds-mounts mounts fit old = omega (
  arith,
  same-sum 1292 mounts,
  adds-list mountbody mountbody_value (λ x. 1288) (λ (x : MountBody). IsHostName x.hostname × IsDirpath x.directory)
      (λ x short. adds-pair host_name dirpath x.hostname x.directory 260 1028 (adds-host x.hostname short.0)
      (adds-path x.directory short.1)) mounts fit old,
)

-- ---- EXPORT
abbrev NodeFits : ExportNode → Type 0
NodeFits e = IsDirpath e.directory × AllByRecursion IsHostName e.groups

adds-export : (e : ExportNode) → NodeFits e → Adds exportnode (exportnode_value e) (1032 + 264 * length e.groups)
adds-export e fit old = omega (
  arith,
  same-sum 264 e.groups,
  adds-pair dirpath groups e.directory (map (λ name. name) e.groups) 1028
      (sum_by (λ name. 4 + 260) e.groups + 4) (adds-path e.directory fit.0)
      (adds-list host_name (λ name. name) (λ name. 260) IsHostName
      (λ name short. adds-host name short) e.groups fit.1)
      old,
  same-groups e,
)
  where
    same-names : (names : List (List ℕ)) → map (λ name. name) names ≡ names
    same-names [] = refl
    same-names (name ∷ names) = ap (λ rest. name ∷ rest) (same-names names)

    same-groups : (e : ExportNode) →
        length (appended exportnode (e.directory, map (λ name. name) e.groups) old) ≡
        length (appended exportnode (exportnode_value e) old)
    same-groups e = ap (λ names. length (appended exportnode (e.directory, names) old)) (same-names e.groups)

listed-fit : (exports : List LivingExport) → ExportsFit exports → AllByRecursion NodeFits (listed_exports exports)
listed-fit [] fit = tt
listed-fit (e ∷ exports) fit = (
  (
    (fit.0).0,
    elim (list_any (λ h. same_bytes h every_host) e.hosts) as
        (λ b. AllByRecursion IsHostName (cond b [] e.hosts)) [ true ↦ tt | false ↦ (fit.0).1 ],
  ),
  listed-fit exports fit.1,
)

adds-exports : (exports : List ExportNode) → AllByRecursion NodeFits exports →
    Adds (Entries exportnode) (map exportnode_value exports) (sum_by exported_bytes exports + 4)
adds-exports exports fit old = omega (
  arith,
  sizes exports,
  adds-list exportnode exportnode_value (λ e. 1032 + 264 * length e.groups) NodeFits adds-export exports fit old,
)
  where
    sizes : (es : List ExportNode) → sum_by (λ (e : ExportNode). 4 + (1032 + 264 * length e.groups)) es ≡
        sum_by exported_bytes es
    sizes [] = refl
    sizes (e ∷ es) = omega (
      arith,
      sizes es,
      sum_by-cons (λ (x : ExportNode). 4 + (1032 + 264 * length x.groups)) e es,
      sum_by-cons exported_bytes e es,
    )

-- ---- MNT
adds-refused : (s : MountStatus) → Adds mountres3 (mount_outcome (Err s)) 4
unfolding appended with_arm with_word
adds-refused status.Permission old = simp length-append (omega arith)
adds-refused status.NoEntry old = simp length-append (omega arith)
adds-refused status.Io old = simp length-append (omega arith)
adds-refused status.Access old = simp length-append (omega arith)
adds-refused status.NotDirectory old = simp length-append (omega arith)
adds-refused status.Invalid old = simp length-append (omega arith)
adds-refused status.NameTooLong old = simp length-append (omega arith)
adds-refused status.NotSupported old = simp length-append (omega arith)
adds-refused status.ServerFault old = simp length-append (omega arith)

adds-mounted : (handle : List ℕ) → length handle ≡ 32 → Adds mountres3 (mount_outcome (Ok handle)) 48
unfolding appended with_arm with_padded with_word
adds-mounted handle long old =
    simp (length-append, length-replicate)
    (let p : padding (length handle) ≡ 0 = ap padding long in omega (arith, p, long))

mnt-bytes : (old : State) (ctx : Ctx) (path : List ℕ) (result : Result (List ℕ) MountStatus) (new : State) →
    MntAnswers old ctx path result new → Adds mountres3 (mount_outcome result) 48
mnt-bytes old ctx path (Ok handle) new (found, target, is, same) =
    adds-mounted handle (ap length is ∙
    (let long : length (handle_at ctx found.number found.object) ≡ 32 = omega arith in long))
mnt-bytes old ctx path (Err s) new answers = λ front. omega (arith, adds-refused s front)

abbrev IsBounded : MountReply → Type 0
IsBounded reply = length (mount_result_bytes reply) ≤ most_bytes reply

pub mount_replies_bounded : MountRepliesAreBounded
unfolding MountStep appended
mount_replies_bounded old ctx mount.Null reply messages new fit exports step = subst IsBounded (sym step.reply_is)
    (omega arith)
mount_replies_bounded old ctx (mount.Mnt path) reply messages new fit exports step = subst IsBounded (sym step.1)
    (omega (arith, mnt-bytes old ctx path step.0 new step.3 []))
mount_replies_bounded old ctx mount.Dump reply messages new fit exports step = subst IsBounded (sym step.reply_is)
    (omega (arith, adds-mounts old.mounts fit []))
mount_replies_bounded old ctx (mount.Unmount path) reply messages new fit exports step = subst IsBounded
    (sym step.reply_is) (omega arith)
mount_replies_bounded old ctx mount.UnmountAll reply messages new fit exports step = subst IsBounded
    (sym step.reply_is) (omega arith)
mount_replies_bounded old ctx mount.Export reply messages new fit exports step = subst IsBounded (sym step.reply_is)
    (omega (arith, adds-exports (listed_exports old.exports) (listed-fit old.exports exports) []))
