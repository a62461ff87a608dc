use Rattle.std.proofs.Common.{◌≡◌, ◌-◌, ◌&&◌, ◌∙◌, ℕ, ap, arith, subst, sym, true}
use Rattle.std.proofs.lemmas.Bool.{and_parts, lt-ltb, ltb-true}
use Rattle.std.specs.Bool.{Decides}
use Rattle.std.specs.Prelude.{nat_lt}
use Rattle.nfs_objects.specs.Bits.{IsEnd, has}
use Rattle.nfs_objects.specs.declared.bits.Bits.{Bits}
use Rattle.nfs_inodes.specs.Burying.{HasTwo}
use Rattle.nfs_inodes.proofs.burying.has_two.Goals as goal

-- what is below the last number of a set has a number where the set has two
two-told : (bits left : Bits) (end last count : ℕ) → IsEnd bits end → last ≡ end - 1 →
    ((n : ℕ) → has left n ≡ (has bits n && nat_lt n last)) → IsEnd left count →
    Decides (nat_lt 0 count) (HasTwo bits)
two-told bits left end last count is before below more = (
  λ told.
      (let top = more.last (ltb-true 0 count told) in
      let there = and_parts (has bits (count - 1)) (nat_lt (count - 1) last) (sym (below (count - 1)) ∙ top) in
      let low = ltb-true (count - 1) last there.1 in
      record {
        first = count - 1;
        second = last;
        apart = low;
        has_first = there.0;
        has_second = subst (λ n. has bits n ≡ true) (sym before) (is.last (omega (arith, low, before)));
      }),
  λ two.
      (let high = is.above two.second two.has_second in
      let apart = two.apart in
      let there : has left two.first ≡ true =
      below two.first ∙ ap (λ b. b && nat_lt two.first last) two.has_first
      ∙ lt-ltb two.first last (omega (arith, apart, high, before)) in
      let within = more.above two.first there in
      lt-ltb 0 count (omega (arith, within))),
)

pub returns : goal.returns
returns c =
    two-told c.args.bits c.below.result c.end.result _ c.end-2.result c.end.ensures.end c.saturating_sub-last.ensures
    c.below.ensures c.end-2.ensures.end
