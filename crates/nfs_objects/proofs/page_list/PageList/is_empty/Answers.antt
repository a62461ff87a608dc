use Rattle.std.proofs.Common.{◌==◌, ◌∙◌, ap, length}
use Rattle.nfs_objects.proofs.PageRunLemmas.{some-page}
use Rattle.nfs_objects.proofs.page_list.PageList.is_empty.Goals as goal

pub returns : goal.returns
returns c = some-page c.args.self.now c.is_empty.result c.runs.ensures.rise
    (c.is_empty.ensures ∙ ap (λ l. length l == 0) c.runs.ensures.value)
