use Rattle.std.proofs.Common.{◌-◌, ap, ◌∙◌, ◌*◌}
use Rattle.nfs_inodes.proofs.CutFileLemmas.{page-cut}
use Rattle.nfs_inodes.proofs.content.cut.cut_page.Goals as goal

pub returns : goal.returns
returns c =
    page-cut c.args.draft.now c.cut_blocks.new.draft c.put_map.new.self c.args.number c.args.page c.args.bits
    c.first_bits-bits.result c.args.size c.saturating_sub.result c.is_none.result c.in_ok-cut_blocks.ensures
    (c.saturating_sub.ensures ∙ ap (λ n. n - c.args.page * 512) c.div_ceil.ensures) c.first_bits-bits.ensures.has
    c.first_bits-bits.ensures.none c.in_ok-put_map.ensures.ok c.is_none.ensures
