use Rattle.nfs_inodes.proofs.NameLeadsLemmas.{leads-by-entry, parent-lives}
use Rattle.nfs_inodes.proofs.StandsLemmas.{known-lives}
use Rattle.nfs_inodes.proofs.content.entries.leads_to.Goals as goal

pub returns-then-is_self-clause-lives : goal.returns-then-is_self-clause-lives
returns-then-is_self-clause-lives c = known-lives c.args.draft.now c.args.directory.now.known c.requires.none
    c.requires.known

pub returns-then-is_above-clause-lives : goal.returns-then-is_above-clause-lives
returns-then-is_above-clause-lives c =
    parent-lives c.args.draft.now c.args.directory.now.known c.requires.none c.requires.known c.in_ok-parent.field-0
    c.args.directory.now.kind c.in_ok-parent.ensures.parent

pub returns-clause-leads : goal.returns-clause-leads
returns-clause-leads c =
    leads-by-entry c.args.draft.now c.args.directory.now.known.number c.args.name.now c.entry.result _
    c.if-is_self.ensures c.if-is_above.ensures c.entry.ensures.entry
