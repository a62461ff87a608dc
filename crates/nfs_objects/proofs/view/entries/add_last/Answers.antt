use Rattle.nfs_objects.proofs.ViewLookupLemmas.{added-last, so-ok}
use Rattle.nfs_objects.proofs.view.entries.add_last.Goals as goal

pub returns-clause-entries : goal.returns-clause-entries
returns-clause-entries c =
    added-last c.args.address c.args.entries.now c.insert.new.self.entries c.args.entry c.requires.unseen
    (so-ok c.unwrap.ensures c.insert.ensures.entries)
