use Rattle.std.proofs.Common.{◌≡◌, ◌-◌, ◌∷◌, ap, arith, drop, length, suc}
use Rattle.machine_examples.proofs.worked.worked_newest.Goals as goal

pub returns : goal.returns
returns c = record {
  full = λ first mounts all. ap (λ n. drop (suc n - 65536) (first ∷ mounts)) all;
  fits = λ mounts few.
      let none : length mounts - 65536 ≡ 0 = omega (arith, few) in
      ap (λ n. drop n mounts) none;
}
