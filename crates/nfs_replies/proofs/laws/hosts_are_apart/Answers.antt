use Rattle.std.proofs.Common.{sym, ap, ◌∙◌}
use Rattle.nfs_replies.specs.Kept.{after_all}
use Rattle.nfs_replies.proofs.OtherHostsLemmas.{own}
use Rattle.nfs_replies.proofs.laws.hosts_are_apart.Goals as goal

pub returns-clause-own : goal.returns-clause-own
returns-clause-own c = own

pub returns-clause-apart : goal.returns-clause-apart
returns-clause-apart c capacity one other host agree =
    own capacity one host ∙ ap (after_all capacity) agree ∙ sym (own capacity other host)
