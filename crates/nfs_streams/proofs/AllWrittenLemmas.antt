-- All that waits is written.
use Rattle.std.proofs.Common.{ℕ, List, [], ◌++◌, Option, Result, Ok, Err, OnErr, sym, append-nil}
use Rattle.std.proofs.KnownBytes.{Appends-kept, Appends-trans}
use Rattle.std.specs.Io.KnownBytes.{Appends, Keeps}
use Rattle.nfs_streams.specs.Sent.{WritesPart}
use Rattle.nfs_streams.specs.declared.serving.StreamFault.{StreamFault}

pub part_whole : (before now later after : Option (List ℕ)) (first behind : List ℕ) → Appends before now first →
    Appends now later behind → Keeps later after → (r : Result (Unit {0}) StreamFault) →
    OnErr r (WritesPart before after (first ++ behind))
part_whole before now later after first behind a b keeps (Ok u) = tt
part_whole before now later after first behind a b keeps (Err e) = record {
  sent = first ++ behind;
  unsent = [];
  whole = sym (append-nil (first ++ behind));
  written =
      Appends-kept before later after (first ++ behind) (Appends-trans before now later first behind a b) keeps;
}
