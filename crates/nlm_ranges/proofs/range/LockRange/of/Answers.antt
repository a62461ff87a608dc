use Rattle.std.proofs.Common.{◌+◌, ◌≤◌, ◌^◌, arith, refl}
use Rattle.nlm_ranges.proofs.CallRangeLemmas.{fits-below, fitting, some-range, whole-range}
use Rattle.nlm_ranges.proofs.range.LockRange.of.Goals as goal

pub returns-then-length-eq0 : goal.returns-then-length-eq0
returns-then-length-eq0 c =
    let none = c.if-length-eq0.true in
    let few : c.args.lock.now.offset + c.args.lock.now.length ≤ 2 ^ 64 = omega arith in
    record { fits = (λ some. fitting c.args.lock.now few, λ e. refl); range = whole-range c.args.lock.now none }

pub returns-then-more-room : goal.returns-then-more-room
returns-then-more-room c = record {
  fits = (λ some. cc, λ e. (let few = fits-below c.args.lock.now e in absurd (omega (arith, few))));
  range = tt;
}

pub returns : goal.returns
returns c =
    let few : c.args.lock.now.offset + c.args.lock.now.length ≤ 2 ^ 64 = omega arith in
    record {
      fits = (λ some. fitting c.args.lock.now few, λ e. refl);
      range = some-range c.args.lock.now _ c.if-length-eq0.false refl;
    }
