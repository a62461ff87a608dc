use Rattle.std.proofs.Common.{◌+◌, ◌∙◌, ap, arith, subst, sym}
use Rattle.std.proofs.lemmas.List.{take_all}
use Rattle.std.proofs.lemmas.Result.{err_from_is_err_and}
use Rattle.std.specs.List.{AllByRecursion}
use Rattle.nfs_machine.specs.Times.{time_of}
use Rattle.nfs_objects.specs.Promise.{IsReserved}
use Rattle.nfs_objects.specs.Roots.{root_choice}
use Rattle.nfs_inodes.specs.Roots.{ReservedFits, roots_made}
use Rattle.nfs_mount.proofs.NewRootsLemmas.{all-at, all-made, first-left, fit-more, one-more, root-got, root_at}
use Rattle.nfs_mount.proofs.NewRootsLemmas.{shows-export, usage-stops, vacant-left}
use Rattle.nfs_mount.proofs.replace.make_roots.Goals as goal

pub make_root-requires-clause-alone : goal.make_root-requires-clause-alone
make_root-requires-clause-alone c = c.loop-root.invariant.turns.modes ∙ c.requires.ready.modes

pub make_root-requires-clause-exported : goal.make_root-requires-clause-exported
make_root-requires-clause-exported c =
    let numbered = c.loop-root.invariant.numbered in
    shows-export c.loop-root.draft c.requires.ready.table _
    (c.loop-root.invariant.table ∙ c.requires.ready.known)
    (c.requires.ready.lives _ (omega (arith, numbered)) (omega (arith, numbered, c.loop-root-test.true)))

pub make_root-requires-clause-vacant : goal.make_root-requires-clause-vacant
make_root-requires-clause-vacant c =
    first-left _ c.args.roots.now c.loop-root.root-index _ c.loop-root.invariant.vacant c.loop-root-test.true
    (root-got c.args.roots.now c.loop-root.root-index c.loop-root-test.true)

pub make_root-requires-clause-given : goal.make_root-requires-clause-given
make_root-requires-clause-given c =
    let root = root_at c.args.roots.now c.loop-root.root-index in
    subst (λ v. IsReserved v root.number root.generation) (sym c.loop-root.invariant.turns.view)
    (all-at (λ r. IsReserved c.args.draft.now.view r.number r.generation) c.args.roots.now c.loop-root.root-index root
    c.requires.ready.reserved c.loop-root-test.true
    (root-got c.args.roots.now c.loop-root.root-index c.loop-root-test.true))

pub returns-in_err-make_root-clause-made : goal.returns-in_err-make_root-clause-made
returns-in_err-make_root-clause-made c =
    let p = err_from_is_err_and c.from_residual.result c.from_residual.ensures.1 in
    let d = c.args.draft.now in
    let roots = c.args.roots.now in
    let place = c.loop-root.root-index in
    let numbered = c.loop-root.invariant.numbered in
    rw (p.1, p.2)
    (usage-stops d c.loop-root.draft
    (roots_made (time_of d.ctx.moment) (root_choice roots c.args.last) c.args.last place)
    c.args.last roots place (c.loop-root.export + 1) (root_at roots place) c.in_err-make_root.field-0.0
    c.loop-root.invariant.turns c.loop-root-test.true (root-got roots place c.loop-root-test.true)
    (omega (arith, numbered)) c.in_err-make_root.ensures.turns)

pub loop-root-preserved : goal.loop-root-preserved
loop-root-preserved c =
    let d = c.args.draft.now in
    let mid = c.loop-root.draft in
    let new = c.make_root.new.draft in
    let roots = c.args.roots.now in
    let place = c.loop-root.root-index in
    let root = root_at roots place in
    let within = c.loop-root-test.true in
    let got = root-got roots place within in
    let before = c.loop-root.invariant in
    let numbered = before.numbered in
    record {
      numbered = omega (arith, numbered);
      turns = one-more d mid new (time_of d.ctx.moment) (time_of mid.ctx.moment) roots c.args.last
          (c.loop-root.export + 1) place root before.turns c.in_ok-make_root.ensures.turns
          (ap (λ ctx. time_of ctx.moment) before.turns.ctx) (omega (arith, numbered)) within got;
      vacant = vacant-left mid new roots place root c.requires.ready.apart within got
          c.in_ok-make_root.ensures.others before.vacant;
      table = c.in_ok-make_root.ensures.table ∙ before.table;
      fit = fit-more roots place root within got before.fit c.in_ok-make_root.ensures.fits;
    }

pub returns-clause-made : goal.returns-clause-made
returns-clause-made c =
    let d = c.args.draft.now in
    all-made d c.loop-root.draft (time_of d.ctx.moment) c.args.roots.now c.args.last c.loop-root.root-index
    c.loop-root.invariant.turns (omega (arith, c.loop-root-test.false, c.loop-root.auto.root-index-end))

pub returns-clause-fit : goal.returns-clause-fit
returns-clause-fit c =
    subst (AllByRecursion ReservedFits) (take_all c.loop-root.root-index c.args.roots.now c.loop-root-test.false)
    c.loop-root.invariant.fit
