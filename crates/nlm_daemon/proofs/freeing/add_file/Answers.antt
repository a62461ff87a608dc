use Rattle.std.proofs.Common.{None, Some, append-nil, sym}
use Rattle.nlm_daemon.proofs.freeing.add_file.Goals as goal

pub returns-in_default : goal.returns-in_default
returns-in_default c = record {
  left = None;
  freed = rw c.in_default.is at c.in_ok-left.ensures;
  grown = sym (append-nil c.args.freed.now.items);
}

pub returns : goal.returns
returns c = record {
  left = Some c.in-Some.left;
  freed = rw c.in-Some.is at c.in_ok-left.ensures;
  grown = c.in_ok-push.ensures.items;
}
