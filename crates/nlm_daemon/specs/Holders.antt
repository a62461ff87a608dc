-- Who is shown to hold what stands in the way of a test (RFC 1813, appendix II, 6.2: procedure 1).
use Rattle.side_wire.specs.declared.nlm.LockHolder.{LockHolder}
use Rattle.nfs_machine.specs.LockSteps.{length_shown}
use Rattle.nfs_machine.specs.State.{Lock}

abbrev pub holder_of : Lock → LockHolder
holder_of l = record {
  exclusive = l.exclusive;
  process = l.owner.process;
  owner = l.owner.owner;
  offset = l.first;
  length = length_shown l.first l.last;
}
