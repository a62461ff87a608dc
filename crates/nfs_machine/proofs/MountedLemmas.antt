-- What is mounted stands once, and no more of it than is kept.
use Rattle.std.proofs.Common.{◌≡◌, ℕ, ◌≤◌, ◌-◌, zero, suc, Bool, true, false}
use Rattle.std.proofs.Common.{◌&&◌, cond, List, [], ◌∷◌, ◌++◌}
use Rattle.std.proofs.Common.{length, drop, filter, ◌∙◌, ap, arith}
use Rattle.std.proofs.lemmas.Cmp.{nat_list_eq_equiv}
use Rattle.std.specs.List.{AllByRecursion}
use Rattle.nfs_machine.specs.Bytes.{same_bytes}
use Rattle.nfs_machine.specs.MountSteps.{is_mounted, is_of, newest}
use Rattle.nfs_machine.specs.WellFormed.{MountsFormed, MountsOnce}
use Rattle.nfs_machine.proofs.ModesLemmas.{all-joined, all-left, none-passes}
use Rattle.side_wire.specs.declared.mount.lists.MountBody.{MountBody}

abbrev Other : MountBody → MountBody → Type 0
Other x y = is_of x.hostname x.directory y ≡ false

other-back : (x y : MountBody) → Other x y → Other y x
other-back x y e =
    ap (λ b. b && same_bytes x.directory y.directory) (nat_list_eq_equiv.symm x.hostname y.hostname)
    ∙ ap (λ b. same_bytes y.hostname x.hostname && b) (nat_list_eq_equiv.symm x.directory y.directory) ∙ e

once-added : (mounts : List MountBody) (x : MountBody) → AllByRecursion (Other x) mounts → MountsOnce mounts
    → MountsOnce (mounts ++ x ∷ [])
once-added [] x others once = (tt, tt)
once-added (y ∷ mounts) x others once = (
  all-joined (Other y) mounts (x ∷ []) once.0 (other-back x y others.0, tt),
  once-added mounts x others.1 once.1,
)

once-dropped : (n : ℕ) (mounts : List MountBody) → MountsOnce mounts → MountsOnce (drop n mounts)
once-dropped zero mounts once = once
once-dropped (suc n) [] once = tt
once-dropped (suc n) (x ∷ mounts) once = once-dropped n mounts once.1

once-left : (p : MountBody → Bool) (mounts : List MountBody) → MountsOnce mounts → MountsOnce (filter p mounts)
once-left p [] once = tt
once-left p (x ∷ mounts) once =
    elim (p x) as (λ b. MountsOnce (cond b (x ∷ filter p mounts) (filter p mounts))) [
      | true ↦ (all-left (Other x) (Other x) p mounts (λ y e h. h) once.0, once-left p mounts once.1)
      | false ↦ once-left p mounts once.1
    ]

few-dropped : (n : ℕ) (mounts : List MountBody) → length (drop n mounts) ≡ length mounts - n
few-dropped zero mounts = omega arith
few-dropped (suc n) [] = omega arith
few-dropped (suc n) (x ∷ mounts) = (let rest = few-dropped n mounts in omega (arith, rest))

few-left : (p : MountBody → Bool) (mounts : List MountBody) → length (filter p mounts) ≤ length mounts
few-left p [] = omega arith
few-left p (x ∷ mounts) =
    let rest = few-left p mounts in
    elim (p x) as (λ b. length (cond b (x ∷ filter p mounts) (filter p mounts)) ≤ length (x ∷ mounts)) [
      | true ↦ omega (arith, rest)
      | false ↦ omega (arith, rest)
    ]

pub mounts-added : (mounts : List MountBody) (x : MountBody) → is_mounted mounts x ≡ false → MountsFormed mounts
    → MountsFormed (newest (mounts ++ x ∷ []))
mounts-added mounts x none formed =
    let all : List MountBody = mounts ++ x ∷ [] in record {
      once = once-dropped (length all - 65536) all
          (once-added mounts x (none-passes (is_of x.hostname x.directory) mounts none) formed.once);
      few = (let few = few-dropped (length all - 65536) all in omega (arith, few));
    }

pub mounts-left : (p : MountBody → Bool) (mounts : List MountBody) → MountsFormed mounts →
    MountsFormed (filter p mounts)
mounts-left p mounts formed = record {
  once = once-left p mounts formed.once;
  few = (let few = few-left p mounts in let was = formed.few in omega (arith, few, was));
}
