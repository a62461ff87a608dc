use Rattle.std.proofs.Common.{arith, map, refl}
use Rattle.std.proofs.lemmas.Bool.{false≢true}
use Rattle.std.proofs.lemmas.List.{length-map}
use Rattle.std.proofs.lemmas.Option.{slice_get_within}
use Rattle.nfs_engine.specs.Arrivals.{shared_value}
use Rattle.nfs_pool.specs.Eras.{StandsAt, told_value}
use Rattle.nfs_pool.proofs.ReceiptNumberLemmas.{one_more}
use Rattle.nfs_pool.proofs.comparing.begin_so.Goals as goal

pub returns-then-not-stands_at : goal.returns-then-not-stands_at
returns-then-not-stands_at c = (
  λ no. absurd (false≢true no),
  λ all. c.if-not-stands_at.ensures.1 (all c.loop-place.place),
)

pub loop-place-preserved : goal.loop-place-preserved
loop-place-preserved c =
    one_more (StandsAt c.args.before (map shared_value c.args.records.now) (map told_value c.args.tells.now))
    c.loop-place.place c.loop-place.invariant (c.if-not-stands_at.ensures.0 refl)

pub returns : goal.returns
returns c = (
  λ so place r at. (let len = length-map c.args.records.now shared_value in
      let within = slice_get_within (map shared_value c.args.records.now) place r at in
      c.loop-place.invariant place (omega (arith, len, within, c.loop-place-test.false)) r at),
  λ all. refl,
)
