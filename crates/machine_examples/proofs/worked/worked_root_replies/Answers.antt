use Rattle.machine_examples.proofs.RepliesWorked.{space, system, no_file, first_cookie, other_cookie, good_cookie}
use Rattle.machine_examples.proofs.worked.worked_root_replies.Goals as goal

pub returns : goal.returns
returns c = record {
  space = space;
  system = system;
  no_file = no_file;
  first_cookie = first_cookie;
  other_cookie = other_cookie;
  good_cookie = good_cookie;
}
