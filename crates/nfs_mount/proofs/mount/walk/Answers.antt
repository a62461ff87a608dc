use Rattle.std.proofs.Common.{◌≡◌, option_map, subst}
use Rattle.std.proofs.lemmas.Result.{err_from_is_err_and}
use Rattle.nfs_machine.specs.Attributes.{entries_of}
use Rattle.nfs_machine.specs.Checks.{entry_of}
use Rattle.nfs_machine.specs.State.{Entry}
use Rattle.nfs_objects.specs.Knows.{Knows}
use Rattle.nfs_inodes.specs.Known.{IsObject, content_at}
use Rattle.nfs_inodes.specs.declared.found.Known.{Known}
use Rattle.nfs_mount.proofs.MountListLemmas.{object-stops}
use Rattle.nfs_mount.proofs.WalkLemmas.{end-there, name-absent, name-there, nothing-there, lives-known, other-told}
use Rattle.nfs_mount.proofs.mount.walk.Goals as goal

pub returns-in_err-object : goal.returns-in_err-object
returns-in_err-object c =
    let p = err_from_is_err_and c.from_residual.result c.from_residual.ensures.1 in
    rw (p.1, p.2)
    (object-stops c.args.draft.now c.names.number _ c.names.invariant.lives c.in_err-object.ensures.object)

pub returns-in_default : goal.returns-in_default
returns-in_default c =
    nothing-there c.args.draft.now c.args.root c.args.names c.names.number c.names.names c.names.invariant.on
    (λ s k w. subst (IsObject k.state c.names.number) c.in_default.is (c.in_ok-object.ensures.object s k w))

pub returns-in_default-directory : goal.returns-in_default-directory
returns-in_default-directory c =
    other-told c.args.draft.now c.args.root c.args.names c.names.number c.names.names c.names.invariant.on
    c.in-Some.object (λ s k w. subst (IsObject k.state c.names.number) c.in-Some.is
    (c.in_ok-object.ensures.object s k w))
    c.directory.result c.in_default-directory.not-Ok c.directory.ensures.checks

pub returns-in_default-next : goal.returns-in_default-next
returns-in_default-next c =
    end-there c.args.draft.now c.args.root c.args.names c.names.number c.names.names c.names.invariant.on
    c.in-Some.object (λ s k w. subst (IsObject k.state c.names.number) c.in-Some.is
    (c.in_ok-object.ensures.object s k w))
    c.in-Ok.ensures.checks c.in_default-next.ensures.steps.0

pub returns-in_err-next : goal.returns-in_err-next
returns-in_err-next c =
    let p = err_from_is_err_and c.from_residual-in_err-next.result c.from_residual-in_err-next.ensures.1 in
    rw (p.1, p.2)
    (object-stops c.args.draft.now c.in-Ok.directory.known.number _ (lives-known c.args.draft.now c.names.number
    c.in-Some.object c.in-Ok.directory.known c.in-Ok.ensures.known (λ s k w. subst (IsObject k.state c.names.number)
    c.in-Some.is (c.in_ok-object.ensures.object s k w)) c.requires.none c.names.invariant.lives)
    c.in_err-next.ensures.entry)

pub returns-in_default-2 : goal.returns-in_default-2
returns-in_default-2 c =
    name-absent c.args.draft.now c.args.root c.args.names c.names.number c.names.names c.names.invariant.on
    c.in-Some.object (λ s k w. subst (IsObject k.state c.names.number) c.in-Some.is
    (c.in_ok-object.ensures.object s k w))
    c.in-Ok.ensures.checks _ _ c.in-Some-next.ensures.steps c.in_ok-next.field-0
    (subst (λ (x : Known). Knows c.args.draft.now (λ k. option_map (λ (e : Entry). e.number)
    (entry_of (entries_of (content_at k.state x.number)) c.in-Some-next.name.now) ≡ c.in_ok-next.field-0))
    c.in-Ok.ensures.known c.in_ok-next.ensures.entry) c.in_default-2.is

pub names-preserved : goal.names-preserved
names-preserved c = record {
  on = name-there c.args.draft.now c.args.root c.args.names c.names.number c.names.names c.names.invariant.on
      c.in-Some.object (λ s k w. subst (IsObject k.state c.names.number) c.in-Some.is
      (c.in_ok-object.ensures.object s k w))
      c.in-Ok.ensures.checks _ _ c.in-Some-next.ensures.steps c.in_ok-next.field-0
      (subst (λ (x : Known). Knows c.args.draft.now (λ k. option_map (λ (e : Entry). e.number)
      (entry_of (entries_of (content_at k.state x.number)) c.in-Some-next.name.now) ≡ c.in_ok-next.field-0))
      c.in-Ok.ensures.known c.in_ok-next.ensures.entry) c.in-Some-2.next c.in-Some-2.is;
  lives = rw c.in-Some-2.is at c.in_ok-next.ensures.lives;
}
