use Rattle.std.proofs.Common.{◌≡◌, ◌+◌, ◌-◌, ◌/◌, false, length, max, ap, subst, ◌∙◌}
use Rattle.std.proofs.lemmas.Result.{err_from_is_err_and}
use Rattle.nfs_machine.specs.Data.{written}
use Rattle.nfs_machine.specs.Times.{time_of}
use Rattle.nfs_machine.specs.declared.context.Ctx.{Ctx}
use Rattle.nfs_objects.proofs.ModesSuitLemmas.{change-each}
use Rattle.nfs_objects.specs.Bits.{has as in_set}
use Rattle.nfs_objects.specs.Calls.{maps_at}
use Rattle.nfs_objects.specs.declared.address.Addr.TheVariants as addresses
use Rattle.nfs_objects.specs.declared.object.Inode.{Inode}
use Rattle.nfs_inodes.proofs.UsageChangeLemmas.{count-known}
use Rattle.nfs_inodes.proofs.FilePutLemmas.{file-map, laid-change, laid-generation, laid-known, put-made, range-content}
use Rattle.nfs_inodes.proofs.FilePutLemmas.{written-turns}
use Rattle.nfs_inodes.proofs.ReaderHaltLemmas.{stops-before}
use Rattle.nfs_inodes.proofs.PutObjectLemmas.{object-stops, usage-stops}
use Rattle.nfs_inodes.proofs.ReadBlocksLemmas.{has-pages}
use Rattle.nfs_inodes.proofs.WriteAsksLemmas.{range-kept, write-asking, write-known, written-counts, written-maps}
use Rattle.nfs_objects.specs.Sums.{is_same_usage}
use Rattle.nfs_inodes.specs.Asking.{AsksFor}
use Rattle.nfs_inodes.specs.Blocks.{IsBlockIn, IsInRange, end_of, first_of, written_from}
use Rattle.nfs_inodes.specs.declared.usage.Share.{Share}
use Rattle.nfs_inodes.proofs.content.file.write_over.Goals as goal

pub returns-in_err-kept : goal.returns-in_err-kept
returns-in_err-kept c =
    let p = err_from_is_err_and c.from_residual.result c.from_residual.ensures.1 in
    rw (p.1, p.2) (written-counts c.args.draft.now c.args.file.now.known.number c.args.range.offset _
    (object-stops c.args.draft.now c.args.file.now.known.number _ c.in_err-kept.ensures))

pub returns-in_err-usage : goal.returns-in_err-usage
returns-in_err-usage c =
    let p = err_from_is_err_and c.from_residual-in_err-usage.result c.from_residual-in_err-usage.ensures.1 in
    rw (p.1, p.2) (written-counts c.args.draft.now c.args.file.now.known.number c.args.range.offset _
    (usage-stops c.args.draft.now c.args.file.now.known.number c.in_ok-kept.kept.inode.now
    c.share_of-share.result _ c.in_ok-kept.ensures.inode c.share_of-share.ensures c.in_err-usage.ensures))

pub count-requires-clause-known : goal.count-requires-clause-known
count-requires-clause-known c = count-known c.args.draft.now c.share_of-share.result.export c.args.file.now.known.number
    c.share_of-share.result.usage c.of_one-after.result _ c.in_ok-usage.ensures

pub returns-in_err-ask : goal.returns-in_err-ask
returns-in_err-ask c =
    let p = err_from_is_err_and c.from_residual-in_err-ask.result c.from_residual-in_err-ask.ensures.1 in
    rw (p.1, p.2) (c.in_err-ask.ensures.stops c.args.draft.now
    (written_from c.args.draft.now c.args.file.now.known.number c.args.range.offset)
    (write-asking c.args.draft.now c.args.file.now.known.number c.args.range.offset c.args.range.count
    c.share_of-share.result.export c.args.range.some c.args.range.few
    (is_same_usage c.share_of-share.result.usage c.of_one-after.result) c.ask_written.new.asking.asked.items
    c.ask_counted.new.asking.asked.items
    (subst (λ l. AsksFor c.args.draft.now
    (IsInRange c.args.file.now.known.number c.args.range.offset c.args.range.count)
    (IsBlockIn c.args.file.now.known.number (first_of c.args.range.offset)
    (end_of c.args.range.offset c.args.range.count)) l
    c.ask_written.new.asking.asked.items) c.new-asking.ensures c.in_ok-ask_written.ensures)
    c.in_ok-ask_counted.ensures c.in_ok-kept.kept.inode.now c.in_ok-kept.ensures.inode
    (ap (λ (x : Share). x.export) c.share_of-share.ensures)))

pub write_range-requires-clause-alone : goal.write_range-requires-clause-alone
write_range-requires-clause-alone c = change-each c.count.new.draft c.args.file.now.known.number
    ((c.in_ok-count.ensures.turns c.share_of-share.result.usage c.of_one-after.result c.in_ok-usage.ensures).modes
    ∙ c.requires.alone)

pub write_range-requires-clause-pages : goal.write_range-requires-clause-pages
write_range-requires-clause-pages c =
    rw c.pages-pages.ensures (has-pages c.count.new.draft c.args.file.now.known.number c.in_ok-kept.kept.map.now
    (file-map c.args.draft.now c.count.new.draft c.args.file.now.known.number c.in_ok-kept.kept.inode.now
    c.in_ok-kept.kept.map.now c.in_ok-kept.ensures c.in_ok-count.ensures.keeps))

pub write_range-requires-clause-known : goal.write_range-requires-clause-known
write_range-requires-clause-known c = range-kept c.args.draft.now c.count.new.draft c.args.file.now.known.number
    c.args.range.offset c.args.range.count c.in_ok-count.ensures.keeps
    (write-known c.args.draft.now c.args.file.now.known.number c.args.range.offset c.args.range.count
    c.share_of-share.result.export c.args.range.some c.args.range.few
    (is_same_usage c.share_of-share.result.usage c.of_one-after.result) c.ask_written.new.asking.asked.items
    c.ask_counted.new.asking.asked.items
    (subst (λ l. AsksFor c.args.draft.now
    (IsInRange c.args.file.now.known.number c.args.range.offset c.args.range.count)
    (IsBlockIn c.args.file.now.known.number (first_of c.args.range.offset)
    (end_of c.args.range.offset c.args.range.count)) l
    c.ask_written.new.asking.asked.items) c.new-asking.ensures c.in_ok-ask_written.ensures)
    c.in_ok-ask_counted.ensures c.in_ok-ask.ensures.nothing)

pub returns-in_err-pages : goal.returns-in_err-pages
returns-in_err-pages c =
    let p = err_from_is_err_and c.from_residual-in_err-pages.result c.from_residual-in_err-pages.ensures.1 in
    rw (p.1, p.2) (written-maps c.args.draft.now c.args.file.now.known.number c.args.range.offset _
    (stops-before c.args.draft.now c.count.new.draft _ (λ v. maps_at c.args.file.now.known.number c.args.range.offset) _
    (c.in_ok-count.ensures.turns c.share_of-share.result.usage c.of_one-after.result c.in_ok-usage.ensures)
    c.in_err-pages.ensures))

pub put-requires-clause-alone : goal.put-requires-clause-alone
put-requires-clause-alone c =
    laid-change c.args.file.now.known.number c.count.new.draft c.write_range.new.draft c.in_ok-pages.ensures.lays
    (addresses.Inode c.args.file.now.known.number) (change-each c.count.new.draft c.args.file.now.known.number
    ((c.in_ok-count.ensures.turns c.share_of-share.result.usage c.of_one-after.result c.in_ok-usage.ensures).modes
    ∙ c.requires.alone))

pub put-requires-clause-known : goal.put-requires-clause-known
put-requires-clause-known c =
    laid-known c.args.draft.now c.count.new.draft c.write_range.new.draft c.args.file.now.known.number
    c.in_ok-kept.kept.inode.now c.in_ok-kept.ensures.inode c.in_ok-count.ensures.keeps
    (c.in_ok-pages.ensures.inodes c.args.file.now.known.number)

pub put-requires-clause-given : goal.put-requires-clause-given
put-requires-clause-given c =
    laid-generation c.args.draft.now c.count.new.draft c.write_range.new.draft c.args.file.now.known.number
    c.in_ok-kept.kept.inode.now _ c.in_ok-kept.ensures.inode c.in_ok-count.ensures.keeps
    (c.in_ok-pages.ensures.inodes c.args.file.now.known.number)
    (ap (λ (x : Inode). x.generation) c.with_content-new.ensures
    ∙ ap (λ (x : Inode). x.generation) c.in_ok-inode.ensures.cases)

pub returns : goal.returns
returns c =
    let d = c.args.draft.now in
    let mid = c.count.new.draft in
    let n = c.args.file.now.known.number in
    let has = c.in_ok-kept.ensures in
    let old = c.in_ok-kept.kept.map.now in
    written-turns d mid c.write_range.new.draft n c.in_ok-kept.kept.inode.now old
    (record { size = c.max-size.result; pages = c.in_ok-pages.pages; remains = old.remains }) (time_of d.ctx.moment)
    (λ x. written x c.args.range.offset c.args.bytes.now)
    c.share_of-share.result c.of_one-after.result c.put.new.self c.with_content-new.result has.inode has.content
    c.in_ok-pages.ensures.lays c.in_ok-pages.ensures.maps
    (range-content mid c.write_range.new.draft n old c.args.range.offset c.max-size.result c.args.bytes.now
    c.in_ok-pages.pages
    (file-map d mid n c.in_ok-kept.kept.inode.now old has c.in_ok-count.ensures.keeps) c.in_ok-pages.ensures
    c.requires.some c.requires.few (c.requires.cleared.front c.in_ok-kept.kept.inode.now old has)
    (subst (λ l. in_set old.remains ((end_of c.args.range.offset l - 1) / 512) ≡ false) c.requires.whole
    (c.requires.cleared.back c.in_ok-kept.kept.inode.now old has))
    (c.max-size.ensures ∙ ap (λ s. max s (c.args.range.offset + length c.args.bytes.now)) c.size.ensures.value))
    (put-made c.in_ok-kept.kept.inode.now c.in_ok-inode.inode c.with_content-new.result c.now.result
    (time_of d.ctx.moment) _ _
    c.with_content-new.ensures (c.now.ensures ∙ ap (λ (x : Ctx). time_of x.moment) (c.ctx.ensures
    ∙ c.in_ok-pages.ensures.lays.ctx
    ∙ (c.in_ok-count.ensures.turns c.share_of-share.result.usage c.of_one-after.result c.in_ok-usage.ensures).ctx))
    c.in_ok-inode.ensures.cases
    (c.with_remains.ensures
    ∙ (λ p. record (c.in_ok-new.ensures.value p) { remains = c.remains-remains.ensures p })))
    c.share_of-share.ensures c.of_one-after.ensures
    (c.in_ok-count.ensures.turns c.share_of-share.result.usage c.of_one-after.result c.in_ok-usage.ensures)
    c.in_ok-count.ensures.keeps c.in_ok-put.ensures.ok c.in_ok-put.ensures.fits
