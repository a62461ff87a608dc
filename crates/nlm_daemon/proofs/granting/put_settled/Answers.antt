use Rattle.std.proofs.Common.{map}
use Rattle.std.proofs.lemmas.Result.{err_from_is_err_and}
use Rattle.nfs_machine.specs.Grants.{grant_message}
use Rattle.nlm_ranges.specs.Granting.{granted_in}
use Rattle.nfs_inodes.specs.Locks.{locks_set}
use Rattle.nlm_daemon.proofs.NlmEndsLemmas.{May}
use Rattle.nlm_daemon.proofs.SentMessagesLemmas.{put-sends}
use Rattle.nlm_daemon.proofs.granting.put_settled.Goals as goal

pub returns-in_err-put : goal.returns-in_err-put
returns-in_err-put c =
    let p = err_from_is_err_and c.from_residual.result c.from_residual.ensures.1 in
    rw (p.1, p.2) c.in_err-put.ensures

pub returns : goal.returns
returns c =
    put-sends (May c.args.number c.args.export c.args.settled.file) c.args.draft.now c.put.new.draft
    c.send_grants.new.draft (map grant_message (granted_in c.args.settled))
    (locks_set c.args.number c.args.settled.file) c.in_ok-put.ensures
    (rw c.deref.ensures.value at c.in_ok-send_grants.ensures)
