use Rattle.std.proofs.Common.{inr, inl}
use Rattle.std.proofs.lemmas.Result.{err_from_is_err_and}
use Rattle.nfs_xdr.specs.Types.{Pair}
use Rattle.nfs_xdr.proofs.SharedBytesLemmas.{HoldsBytes-opaque, HoldsBytes-second}
use Rattle.nfs_wire.specs.Arguments.{diropargs3, nfspath3, unbounded}
use Rattle.nfs_wire.specs.Attributes.{sattr3}
use Rattle.nfs_wire.proofs.calls.names.read_symlink.Goals as goal

pub returns-in_err-share-2 : goal.returns-in_err-share-2
returns-in_err-share-2 c =
    let answered = err_from_is_err_and c.from_residual-in_err-share-2.result c.from_residual-in_err-share-2.ensures.1 in
    rw (answered.1, answered.2) (inr (inl (
      c.in_err-share-2.ensures.err,
      HoldsBytes-second diropargs3 (Pair sattr3 nfspath3) _ _ _ c.in_ok-place.ensures
          (HoldsBytes-second sattr3 nfspath3 _ _ _ c.in_ok-attributes.ensures
          (HoldsBytes-opaque unbounded _ _ _ c.in_ok-text.ensures c.in_err-share-2.ensures.some)),
    )))
