use Rattle.machine_examples.proofs.RepliesWorked as file
use Rattle.machine_examples.proofs.worked.worked_file_replies.Goals as goal

pub returns : goal.returns
returns c = record {
  guarded = file.guarded;
  set = file.set;
  access = file.access;
  no_link = file.no_link;
  committed = file.committed;
  limits = file.limits;
  bad_handle = file.bad_handle;
}
