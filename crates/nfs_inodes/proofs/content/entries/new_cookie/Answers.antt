use Rattle.std.proofs.Common.{rules}
use Rattle.nfs_inodes.proofs.NameLeadsLemmas.{next-cookie}
use Rattle.nfs_inodes.proofs.content.entries.new_cookie.Goals as goal

pub returns-clause-next : goal.returns-clause-next
returns-clause-next c =
    next-cookie c.args.draft.now c.args.directory.now.known.number _ c.checked_add.result (search rules)
    c.in_ok-last_cookie.ensures.shown
