use Rattle.std.proofs.Common.{◌==◌, ◌∙◌, ap}
use Rattle.nfs_objects.proofs.PagesAndPartsLemmas.{none-some}
use Rattle.nfs_objects.proofs.entry_page.EntryPage.is_empty.Goals as goal

pub returns : goal.returns
returns c = ap (λ n. n == 0) c.len.ensures ∙ none-some c.args.self.now
