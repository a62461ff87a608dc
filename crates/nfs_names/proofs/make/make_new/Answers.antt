use Rattle.std.proofs.Common.{◌++◌}
use Rattle.std.proofs.lemmas.Result.{err_from_is_err_and}
use Rattle.nfs_wire.specs.declared.status.NfsStatus.TheVariants as status
use Rattle.nfs_objects.proofs.PromiseLemmas.{does-nothing}
use Rattle.nfs_inodes.specs.Asked.{wanted_as}
use Rattle.nfs_names.proofs.MakeObjectLemmas.{knows-making, lives-making, new-does}
use Rattle.nfs_names.proofs.NameGrowsLemmas.{grown-making}
use Rattle.nfs_names.proofs.MakeObjectLemmas.{no-space, not-given, not-refused}
use Rattle.nfs_names.specs.Making.{IsNewEnd}
use Rattle.nfs_objects.specs.Calls.{next_places, usages_of}
use Rattle.nfs_names.proofs.make.make_new.Goals as goal

pub returns-in-Err : goal.returns-in-Err
returns-in-Err c =
    let d = c.args.draft.now in
    let x = c.args.directory.now.known in
    does-nothing d (IsNewEnd d.ctx (wanted_as c.args.wanted.now) x c.args.name.now) c.in-Err.status
    (not-given d c.args.wanted.now x c.args.name.now c.in-Err.status
    (rw (c.ctx.ensures, c.in-Err.is) at c.judged.ensures))

pub returns-in_err-cookie : goal.returns-in_err-cookie
returns-in_err-cookie c =
    let p = err_from_is_err_and c.from_residual.result c.from_residual.ensures.1 in
    rw (p.1, p.2) (lives-making c.args.draft.now c.args.directory.now.known.number
    (usages_of c.args.directory.now.known.export 64
    ++ next_places c.args.draft.now.view c.args.directory.now.known.number c.args.name.now) _ c.requires.lives
    c.in_err-cookie.ensures.cookie)

pub returns-in_default-2 : goal.returns-in_default-2
returns-in_default-2 c =
    let d = c.args.draft.now in
    let x = c.args.directory.now.known in
    let passes = not-refused c.judged.result c.in_default.not-Err in
    does-nothing d (IsNewEnd d.ctx (wanted_as c.args.wanted.now) x c.args.name.now) status.NoSpace
    (no-space d c.args.wanted.now x c.args.name.now (rw (c.ctx.ensures, passes) at c.judged.ensures)
    (rw c.in_default-2.is at c.in_ok-cookie.ensures.cookie))

pub returns-in_err-reserved : goal.returns-in_err-reserved
returns-in_err-reserved c =
    let p = err_from_is_err_and c.from_residual-in_err-reserved.result c.from_residual-in_err-reserved.ensures.1 in
    rw (p.1, p.2) (grown-making c.args.draft.now c.args.directory.now.known.number
    c.args.directory.now.known.attributes.kind c.args.name.now c.in-Some.cookie c.args.directory.now.known.export _
    c.requires.none c.requires.shown (rw c.in-Some.is at c.in_ok-cookie.ensures.next) c.requires.lives
    c.in_err-reserved.ensures.turns)

pub returns-in_err-made : goal.returns-in_err-made
returns-in_err-made c =
    let p = err_from_is_err_and c.from_residual-in_err-made.result c.from_residual-in_err-made.ensures.1 in
    rw (p.1, p.2) (knows-making c.args.draft.now c.make_object.new.draft _
    (usages_of c.args.directory.now.known.export 64
    ++ next_places c.args.draft.now.view c.args.directory.now.known.number c.args.name.now) _
    c.in_ok-reserved.ensures.turns.1
    (c.in_err-made.ensures.known c.in_ok-reserved.ensures.known))

pub returns : goal.returns
returns c =
    let passes = not-refused c.judged.result c.in_default.not-Err in
    new-does c.args.draft.now c.args.wanted.now c.args.directory.now.known c.args.name.now
    (rw (c.ctx.ensures, passes) at c.judged.ensures)
    c.make_object.new.draft c.in-Some.cookie (rw c.in-Some.is at c.in_ok-cookie.ensures.cookie)
    c.requires.known c.args.directory.now.kind c.requires.absent
    c.in_ok-reserved.reserved c.in_ok-reserved.ensures.turns.0 c.in_ok-reserved.ensures.turns.1
    c.in_ok-made.field-0 c.in_ok-made.ensures.made
