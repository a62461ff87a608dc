use Rattle.std.proofs.Common.{[], ◌+◌, ◌*◌, ◌/◌, ap, refl, sym, ◌∙◌}
use Rattle.std.proofs.lemmas.Result.{err_from_is_err_and}
use Rattle.nfs_machine.specs.Attributes.{block}
use Rattle.nfs_machine.specs.Data.{resized}
use Rattle.nfs_machine.specs.Times.{time_of}
use Rattle.nfs_machine.specs.declared.context.Ctx.{Ctx}
use Rattle.nfs_objects.proofs.ModesSuitLemmas.{change-each}
use Rattle.nfs_objects.specs.Sums.{one_using}
use Rattle.nfs_objects.specs.declared.address.Addr.TheVariants as addresses
use Rattle.nfs_objects.specs.declared.object.Inode.{Inode}
use Rattle.nfs_inodes.proofs.UsageChangeLemmas.{count-known, stands-first, stands-on}
use Rattle.nfs_inodes.proofs.FilePutLemmas.{file-map, laid-change, laid-generation, laid-known, put-made, written-turns}
use Rattle.nfs_inodes.proofs.ReaderHaltLemmas.{any-stops, stops-before}
use Rattle.nfs_inodes.proofs.PutObjectLemmas.{object-stops, usage-stops}
use Rattle.nfs_inodes.proofs.ReadBlocksLemmas.{content-there, has-pages}
use Rattle.nfs_inodes.specs.Stops.{counted_at}
use Rattle.nfs_inodes.proofs.content.file.resize.Goals as goal

pub returns-in_err-kept : goal.returns-in_err-kept
returns-in_err-kept c =
    let p = err_from_is_err_and c.from_residual.result c.from_residual.ensures.1 in
    rw (p.1, p.2) (object-stops c.args.draft.now c.args.file.now.known.number _ c.in_err-kept.ensures)

pub ask_sized-requires-clause-stands : goal.ask_sized-requires-clause-stands
ask_sized-requires-clause-stands c = stands-first c.args.draft.now c.requires.none

pub returns-in_err-ask_sized : goal.returns-in_err-ask_sized
returns-in_err-ask_sized c =
    let p = err_from_is_err_and c.from_residual-in_err-ask_sized.result c.from_residual-in_err-ask_sized.ensures.1 in
    rw (p.1, p.2) c.in_err-ask_sized.ensures

pub returns-in_err-usage : goal.returns-in_err-usage
returns-in_err-usage c =
    let p = err_from_is_err_and c.from_residual-in_err-usage.result c.from_residual-in_err-usage.ensures.1 in
    rw (p.1, p.2) (usage-stops c.args.draft.now c.args.file.now.known.number c.in_ok-kept.kept.inode.now
    c.share_of-share.result _
    c.in_ok-kept.ensures.inode
    c.share_of-share.ensures c.in_err-usage.ensures)

pub count-requires-clause-known : goal.count-requires-clause-known
count-requires-clause-known c = count-known c.args.draft.now c.share_of-share.result.export c.args.file.now.known.number
    c.share_of-share.result.usage c.of_one.result _ c.in_ok-usage.ensures

pub cut_to-requires-clause-alone : goal.cut_to-requires-clause-alone
cut_to-requires-clause-alone c = change-each c.count.new.draft c.args.file.now.known.number
    ((c.in_ok-count.ensures.turns c.share_of-share.result.usage c.of_one.result c.in_ok-usage.ensures).modes
    ∙ c.requires.alone)

pub cut_to-requires-clause-pages : goal.cut_to-requires-clause-pages
cut_to-requires-clause-pages c =
    rw c.copy-map.ensures (has-pages c.count.new.draft c.args.file.now.known.number c.in_ok-kept.kept.map.now
    (file-map c.args.draft.now c.count.new.draft c.args.file.now.known.number c.in_ok-kept.kept.inode.now
    c.in_ok-kept.kept.map.now c.in_ok-kept.ensures c.in_ok-count.ensures.keeps))

pub cut_to-requires-clause-stands : goal.cut_to-requires-clause-stands
cut_to-requires-clause-stands c =
    stands-on c.args.draft.now c.count.new.draft _
    (c.in_ok-count.ensures.turns c.share_of-share.result.usage c.of_one.result c.in_ok-usage.ensures)
    (stands-first c.args.draft.now c.requires.none)

pub returns-in_err-left : goal.returns-in_err-left
returns-in_err-left c =
    let p = err_from_is_err_and c.from_residual-in_err-left.result c.from_residual-in_err-left.ensures.1 in
    rw (p.1, p.2) (any-stops c.args.draft.now (counted_at c.args.draft.now c.args.file.now.known.number) _
    (stops-before c.args.draft.now c.count.new.draft _ (λ v. []) _
    (c.in_ok-count.ensures.turns c.share_of-share.result.usage c.of_one.result c.in_ok-usage.ensures)
    c.in_err-left.ensures))

pub put-requires-clause-alone : goal.put-requires-clause-alone
put-requires-clause-alone c =
    laid-change c.args.file.now.known.number c.count.new.draft c.cut_to.new.draft c.in_ok-left.ensures.lays
    (addresses.Inode c.args.file.now.known.number) (change-each c.count.new.draft c.args.file.now.known.number
    ((c.in_ok-count.ensures.turns c.share_of-share.result.usage c.of_one.result c.in_ok-usage.ensures).modes
    ∙ c.requires.alone))

pub put-requires-clause-known : goal.put-requires-clause-known
put-requires-clause-known c =
    laid-known c.args.draft.now c.count.new.draft c.cut_to.new.draft c.args.file.now.known.number
    c.in_ok-kept.kept.inode.now c.in_ok-kept.ensures.inode c.in_ok-count.ensures.keeps
    (c.in_ok-left.ensures.inodes c.args.file.now.known.number)

pub put-requires-clause-given : goal.put-requires-clause-given
put-requires-clause-given c =
    laid-generation c.args.draft.now c.count.new.draft c.cut_to.new.draft c.args.file.now.known.number
    c.in_ok-kept.kept.inode.now _ c.in_ok-kept.ensures.inode c.in_ok-count.ensures.keeps
    (c.in_ok-left.ensures.inodes c.args.file.now.known.number)
    (ap (λ (x : Inode). x.generation) c.with_content-new.ensures
    ∙ ap (λ (x : Inode). x.generation) c.in_ok-inode.ensures.cases)

pub returns : goal.returns
returns c =
    let d = c.args.draft.now in
    let mid = c.count.new.draft in
    let n = c.args.file.now.known.number in
    let has = c.in_ok-kept.ensures in
    let old = c.in_ok-kept.kept.map.now in
    written-turns d mid c.cut_to.new.draft n c.in_ok-kept.kept.inode.now old
    c.in_ok-left.left (time_of d.ctx.moment) (λ x. resized x c.args.size)
    c.share_of-share.result c.of_one.result c.put.new.self c.with_content-new.result has.inode has.content
    c.in_ok-left.ensures.lays c.in_ok-left.ensures.maps
    (λ s k fits stands. c.in_ok-left.ensures.content s k _ fits stands
    (rw c.copy-map.ensures (content-there mid n old
    (file-map d mid n c.in_ok-kept.kept.inode.now old has c.in_ok-count.ensures.keeps) s k fits stands)))
    (put-made c.in_ok-kept.kept.inode.now c.in_ok-inode.inode c.with_content-new.result c.now.result
    (time_of d.ctx.moment) _ _
    c.with_content-new.ensures (c.now.ensures ∙ ap (λ (x : Ctx). time_of x.moment) (c.ctx.ensures
    ∙ c.in_ok-left.ensures.lays.ctx
    ∙ (c.in_ok-count.ensures.turns c.share_of-share.result.usage c.of_one.result c.in_ok-usage.ensures).ctx))
    c.in_ok-inode.ensures.cases refl)
    c.share_of-share.ensures
    (c.of_one.ensures ∙ ap (λ z. one_using ((z + 4095) / block * block)) (sym c.in_ok-left.ensures.sized))
    (c.in_ok-count.ensures.turns c.share_of-share.result.usage c.of_one.result c.in_ok-usage.ensures)
    c.in_ok-count.ensures.keeps c.in_ok-put.ensures.ok c.in_ok-put.ensures.fits
