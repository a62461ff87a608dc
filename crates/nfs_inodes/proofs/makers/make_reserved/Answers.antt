use Rattle.std.proofs.Common.{◌+◌, ◌*◌, ◌/◌, ◌++◌, ap, refl, ◌∙◌}
use Rattle.std.proofs.lemmas.Result.{err_from_is_err_and}
use Rattle.nfs_machine.specs.Attributes.{block, used_of}
use Rattle.nfs_machine.specs.State.{Living}
use Rattle.nfs_objects.proofs.ModesSuitLemmas.{change-each}
use Rattle.nfs_objects.specs.Calls.{usages_of}
use Rattle.nfs_objects.specs.Sums.{is_same_usage, one_using}
use Rattle.nfs_objects.specs.declared.address.Addr.TheVariants as addresses
use Rattle.nfs_inodes.proofs.UsageChangeLemmas.{stands-first}
use Rattle.nfs_inodes.proofs.EntryAsksLemmas.{grown-stops, made-asking}
use Rattle.nfs_inodes.proofs.ReaderHaltLemmas.{makes-stops}
use Rattle.nfs_inodes.proofs.PutObjectLemmas.{counting-stops, exports-stay, first-free, knows-kept, knows-on}
use Rattle.nfs_inodes.proofs.PutObjectLemmas.{made-turns}
use Rattle.nfs_inodes.proofs.PutObjectLemmas.{bare-keyed, blank-pages, making-stops, may-give, stays-vacant}
use Rattle.nfs_inodes.specs.Entered.{grown_at}
use Rattle.nfs_inodes.proofs.makers.make_reserved.Goals as goal

pub ask_entry-requires-clause-stands : goal.ask_entry-requires-clause-stands
ask_entry-requires-clause-stands c = stands-first c.args.draft.now c.requires.none

pub returns-in_err-ask_entry-clause-turns : goal.returns-in_err-ask_entry-clause-turns
returns-in_err-ask_entry-clause-turns c =
    let p = err_from_is_err_and c.from_residual-in_err-ask_entry.result c.from_residual-in_err-ask_entry.ensures.1 in
    rw (p.1, p.2) (making-stops c.args.draft.now
    (grown_at c.args.draft.now c.args.directory.now.known.number c.args.name.now c.args.cookie)
    c.args.directory.now.known.export _ (grown-stops c.args.draft.now c.args.directory.now.known.number
    c.args.name.now c.args.cookie _ c.in_err-ask_entry.ensures))

pub returns-in_err-ask-clause-turns : goal.returns-in_err-ask-clause-turns
returns-in_err-ask-clause-turns c =
    let p = err_from_is_err_and c.from_residual-in_err-ask.result c.from_residual-in_err-ask.ensures.1 in
    let d = c.args.draft.now in
    let grown = grown_at d c.args.directory.now.known.number c.args.name.now c.args.cookie in
    let export = c.args.directory.now.known.export in
    rw (p.1, p.2) (makes-stops d (grown ++ usages_of export 64) _ (c.in_err-ask.ensures.stops d
    (grown ++ usages_of export 64) (made-asking d grown export c.args.number
    (is_same_usage c.none.result c.of_one-usage.result) c.new-asking.result.asked.items
    c.ask_entry.new.asking.asked.items c.ask_counted.new.asking.asked.items c.new-asking.ensures
    c.in_ok-ask_entry.ensures c.in_ok-ask_counted.ensures)))

pub add_entry-requires-clause-stands : goal.add_entry-requires-clause-stands
add_entry-requires-clause-stands c = stands-first c.args.draft.now c.requires.none

pub returns-in_err-add_entry-clause-turns : goal.returns-in_err-add_entry-clause-turns
returns-in_err-add_entry-clause-turns c =
    let p = err_from_is_err_and c.from_residual-in_err-add_entry.result c.from_residual-in_err-add_entry.ensures.1 in
    rw (p.1, p.2) (making-stops c.args.draft.now
    (grown_at c.args.draft.now c.args.directory.now.known.number c.args.name.now c.args.cookie)
    c.args.directory.now.known.export _ c.in_err-add_entry.ensures.turns)

pub recount-requires : goal.recount-requires
recount-requires c = ap (λ m. m.inodes) (c.in_ok-add_entry.ensures.turns.modes ∙ c.requires.alone)

pub returns-in_err-recount-clause-turns : goal.returns-in_err-recount-clause-turns
returns-in_err-recount-clause-turns c =
    let p = err_from_is_err_and c.from_residual-in_err-recount.result c.from_residual-in_err-recount.ensures.1 in
    rw (p.1, p.2) (counting-stops c.args.draft.now c.add_entry.new.draft _
    (grown_at c.args.draft.now c.args.directory.now.known.number c.args.name.now c.args.cookie)
    c.args.directory.now.known.export c.args.number _ c.in_ok-add_entry.ensures.turns c.in_err-recount.ensures.turns)

pub put-requires-clause-alone : goal.put-requires-clause-alone
put-requires-clause-alone c =
    change-each c.recount.new.draft c.args.number
    (c.in_ok-recount.ensures.turns.modes ∙ c.in_ok-add_entry.ensures.turns.modes ∙ c.requires.alone)

pub put-requires-clause-known : goal.put-requires-clause-known
put-requires-clause-known c =
    knows-kept c.add_entry.new.draft c.recount.new.draft c.args.number c.in_ok-recount.ensures.keeps
    (c.in_ok-add_entry.ensures.known (addresses.Inode c.args.number) c.requires.first.known)

pub put-requires-clause-given : goal.put-requires-clause-given
put-requires-clause-given c =
    may-give c.args.draft.now c.recount.new.draft (record { number = c.args.number; generation = c.args.generation }) _
    (c.in_ok-recount.ensures.turns.view ∙ c.in_ok-add_entry.ensures.turns.view) c.requires.first
    (ap (λ (o : Living). o.generation) c.in_ok-object.ensures.living)

pub returns-clause-turns : goal.returns-clause-turns
returns-clause-turns c = (
  first-free c.args.draft.now (record { number = c.args.number; generation = c.args.generation }) c.requires.none
      c.requires.first c.ranges.number.fits c.ranges.generation.fits,
  made-turns c.args.draft.now c.add_entry.new.draft c.recount.new.draft c.put.new.self _
      (record { number = c.args.number; generation = c.args.generation }) c.in_ok-object.object _ _ _
      c.args.directory.now.known.export c.of_one-usage.result
      (rw c.links_with-links.ensures at c.in_ok-add_entry.ensures.turns)
      (λ k. exports-stay k c.args.directory.now.known.number _ _) c.requires.exported
      (rw c.none.ensures at c.in_ok-recount.ensures.turns) c.in_ok-put.ensures.ok
      (stays-vacant c.args.draft.now c.add_entry.new.draft c.recount.new.draft
      (record { number = c.args.number; generation = c.args.generation }) c.args.directory.now.known.number _
      c.requires.none c.requires.first c.requires.shown c.in_ok-add_entry.ensures.others c.in_ok-recount.ensures.keeps
      (c.in_ok-recount.ensures.turns.view ∙ c.in_ok-add_entry.ensures.turns.view))
      (blank-pages c.in_ok-object.object.content c.in_ok-object.ensures.blank)
      (bare-keyed c.in_ok-object.object.content _ c.in_ok-object.ensures.bare)
      (rw c.ctx.ensures at c.in_ok-object.ensures.living) c.in_ok-object.ensures.links c.in_ok-object.ensures.parent
      c.in_ok-put.ensures.fits refl
      (c.of_one-usage.ensures ∙ ap (λ s. one_using ((s + 4095) / block * block)) c.size.ensures.value
      ∙ ap (λ (o : Living). one_using (used_of o.content)) (rw c.ctx.ensures at c.in_ok-object.ensures.living)),
)

pub returns-clause-known : goal.returns-clause-known
returns-clause-known c =
    knows-on c.recount.new.draft c.args.number c.put.new.self _ c.in_ok-put.ensures.ok (addresses.Inode c.args.number)
    (knows-kept c.add_entry.new.draft c.recount.new.draft c.args.number c.in_ok-recount.ensures.keeps
    (c.in_ok-add_entry.ensures.known (addresses.Inode c.args.number) c.requires.first.known))
