use Rattle.std.proofs.Common.{◌≡◌, ◌-◌, ◌^◌, min, take}
use Rattle.nfs_engine.specs.Posting.{HaveForms, posted_bytes}
use Rattle.nfs_engine.proofs.lengths.messages_size.Given as goal

abbrev pub invariant-loop-message : goal.invariant-loop-message
invariant-loop-message l =
    HaveForms l.messages → l.size ≡ min (posted_bytes (take l.message-index l.messages)) (2 ^ 64 - 1)
