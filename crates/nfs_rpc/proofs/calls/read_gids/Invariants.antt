-- What is read behind the groups so far is all of them.
use Rattle.std.proofs.Common.{◌≡◌, ◌-◌, length}
use Rattle.nfs_xdr.specs.Types.{Word}
use Rattle.nfs_xdr.specs.Reading.{read, read_all}
use Rattle.nfs_rpc.proofs.OpaqueRestLemmas.{with_front}
use Rattle.nfs_rpc.proofs.calls.read_gids.Given as goal

abbrev pub invariant-loop-gid : goal.invariant-loop-gid
invariant-loop-gid l =
    (length l.gids ≡ l._gid)
    × (with_front l.gids (read_all (read Word) (l.count - l._gid) l.reader) ≡ read_all (read Word) l.count
    l.initial.reader)
