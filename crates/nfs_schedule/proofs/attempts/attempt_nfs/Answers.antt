use Rattle.std.proofs.Common.{sym, ◌∙◌}
use Rattle.nfs_schedule.proofs.AttemptOfCallLemmas.{built-data}
use Rattle.nfs_schedule.proofs.attempts.attempt_nfs.Goals as goal

pub attempt-requires-clause-names : goal.attempt-requires-clause-names
attempt-requires-clause-names c = sym c.is_name_call.ensures ∙ c.if-is_name_call.true

pub attempt-requires-else-is_name_call-clause-data : goal.attempt-requires-else-is_name_call-clause-data
attempt-requires-else-is_name_call-clause-data c = built-data _ c.requires.built (sym c.is_name_call.ensures
    ∙ c.if-is_name_call.false)
