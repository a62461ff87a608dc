use Rattle.std.proofs.Common.{◌≡◌, ◌%◌, ◌^◌, take}
use Rattle.std.specs.Prelude.{sum_by}
use Rattle.nfs_objects.proofs.hashing.bucket_of.Given as goal

-- the sum of the bytes so far, as far as a byte tells it
abbrev pub invariant-loop-byte : goal.invariant-loop-byte
invariant-loop-byte l = l.sum ≡ sum_by (λ byte. byte) (take l.byte-index l.name) % 2 ^ 8
