use Rattle.std.proofs.Common.{◌≡◌, Ok}
use Rattle.nfs_xdr.specs.Reading.{read, read_all}
use Rattle.nfs_xdr.specs.Types.{Word}
use Rattle.wire_tests.proofs.tests.xdr.read_gids.Given as goal

abbrev pub invariant-loop-i : goal.invariant-loop-i
invariant-loop-i l = read_all (read Word) l._i l.initial.reader ≡ Ok (l.gids.items, l.reader)
