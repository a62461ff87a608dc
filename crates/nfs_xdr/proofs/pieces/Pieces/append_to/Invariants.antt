-- The pieces seen so far were appended.
use Rattle.std.proofs.Common.{◌≡◌, ◌≤◌, ◌+◌, ◌++◌, length, take}
use Rattle.std.specs.List.{concat}
use Rattle.std.specs.Prelude.{vec_len, vec_capacity}
use Rattle.nfs_xdr.proofs.pieces.Pieces.append_to.Given as goal

abbrev pub invariant-loop-piece : goal.invariant-loop-piece
invariant-loop-piece l = record {
  items : l.buffer.items ≡ l.initial.buffer.items ++ concat (take l.piece-index l.piece-items);
  len : vec_len l.buffer ≡ vec_len l.initial.buffer + length (concat (take l.piece-index l.piece-items));
  capacity : vec_capacity l.initial.buffer ≤ vec_capacity l.buffer;
}
