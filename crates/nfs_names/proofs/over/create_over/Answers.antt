use Rattle.std.proofs.lemmas.Result.{err_from_is_err_and}
use Rattle.nfs_wire.specs.declared.status.NfsStatus.TheVariants as status
use Rattle.nfs_objects.proofs.PromiseLemmas.{does-nothing}
use Rattle.nfs_objects.specs.declared.address.Addr.TheVariants as addresses
use Rattle.nfs_inodes.proofs.UsageChangeLemmas.{usage-lives-first}
use Rattle.nfs_inodes.proofs.StandsLemmas.{known-lives}
use Rattle.nfs_names.proofs.CreateExistingLemmas.{no-answer-over, none-regular, nothing-over, over-does}
use Rattle.nfs_names.proofs.MakeObjectLemmas.{later-stops}
use Rattle.nfs_names.specs.Creates.{IsOverEnd}
use Rattle.nfs_inodes.proofs.MakerChainLemmas.{counted-stops}
use Rattle.std.proofs.Common.{subst, sym}
use Rattle.nfs_objects.specs.Asks.{IsThere}
use Rattle.nfs_inodes.specs.declared.found.Known.{Known}
use Rattle.nfs_inodes.specs.Kinds.{IsShown}
use Rattle.nfs_names.proofs.over.create_over.Goals as goal

pub returns-in_default : goal.returns-in_default
returns-in_default c =
    let d = c.args.draft.now in
    does-nothing d (IsOverEnd d.ctx c.args.how.now c.args.number) status.Exists
    (nothing-over d c.args.how.now c.args.number (rw c.in_default.is at c.in_ok-object.ensures.object))

pub returns-in_default-regular : goal.returns-in_default-regular
returns-in_default-regular c =
    let d = c.args.draft.now in
    does-nothing d (IsOverEnd d.ctx c.args.how.now c.args.number) status.Exists
    (none-regular d c.args.how.now c.args.number c.in-Some.object (rw c.in-Some.is at c.in_ok-object.ensures.object)
    c.regular.result c.regular.ensures.checks c.in_default-regular.not-Ok)

pub returns-in-Err : goal.returns-in-Err
returns-in-Err c =
    let d = c.args.draft.now in
    does-nothing d (IsOverEnd d.ctx c.args.how.now c.args.number) c.in-Err.status
    (no-answer-over d c.args.how.now c.args.number c.in-Some.object
    (rw c.in-Some.is at c.in_ok-object.ensures.object) c.in-Ok.file c.in-Ok.ensures.checks c.size_over.result
    (rw c.ctx.ensures at c.size_over.ensures) c.in-Err.status c.in-Err.is)

pub returns-in_err-give_size : goal.returns-in_err-give_size
returns-in_err-give_size c =
    let p = err_from_is_err_and c.from_residual-in_err-give_size.result
    c.from_residual-in_err-give_size.ensures.1 in
    let there = rw c.in-Some.is at c.in_ok-object.ensures.object in
    rw (p.1, p.2) (counted-stops c.args.draft.now c.in-Ok.file.known.number _
    (subst (λ (y : Known). IsThere c.args.draft.now.view (addresses.Inode y.number)) (sym c.in-Ok.ensures.known)
    (known-lives c.args.draft.now c.in-Some.object c.requires.none (λ s k w. (there s k w).1)))
    (usage-lives-first c.args.draft.now c.in-Ok.file.known.number c.requires.none) c.in_err-give_size.ensures)

pub returns-in_err-made : goal.returns-in_err-made
returns-in_err-made c =
    let p = err_from_is_err_and c.from_residual-in_err-made.result c.from_residual-in_err-made.ensures.1 in
    rw (p.1, p.2) (later-stops c.args.draft.now c.give_size.new.draft _ c.args.number _
    c.in_ok-give_size.ensures c.requires.lives c.in_err-made.ensures.made)

pub returns : goal.returns
returns c =
    over-does c.args.draft.now c.args.how.now c.args.number c.in-Some.object
    (rw c.in-Some.is at c.in_ok-object.ensures.object) c.in-Ok.file c.in-Ok.ensures.checks c.size_over.result
    (rw c.ctx.ensures at c.size_over.ensures) c.give_size.new.draft c.in-Ok-size_over.size c.in-Ok-size_over.is
    (rw c.in-Ok.ensures.known at c.in_ok-give_size.ensures) c.in_ok-made.field-0 c.in_ok-made.ensures.made

pub give_size-requires-clause-shown : goal.give_size-requires-clause-shown
give_size-requires-clause-shown c = subst (λ (z : Known). IsShown c.args.draft.now z) (sym c.in-Ok.ensures.known)
    (rw c.in-Some.is at c.in_ok-object.ensures.shown)
