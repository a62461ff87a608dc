-- What calls in progress came with, in a table by host and hash.
use Rattle.std.specs.Prelude.{◌≡◌, ℕ, Bool, ◌&&◌, IfSome, List, map, nat_eq}
use Rattle.std.specs.List.{IsDistinct}
use Rattle.std.specs.Map.{keys_of, lookup}
use Rattle.nfs_replies.specs.Keys.{digest}
use Rattle.nfs_replies.specs.Kept.{same_bytes}
use Rattle.nfs_replies.specs.declared.digest.RecordKey.{RecordKey}
use Rattle.nfs_replies.specs.declared.origins.OriginKey.{OriginKey}
use Rattle.nfs_replies.specs.declared.origins.Origin.{Origin}

abbrev pub same_key : OriginKey → OriginKey → Bool
same_key a b = same_bytes a.host b.host && nat_eq a.hash b.hash

-- what a call came with stands at its host and the hash of its bytes under the table's key
abbrev pub key_of : RecordKey → Origin → OriginKey
key_of key origin = record { host = origin.host; hash = digest key origin.bytes }

-- what calls came with
abbrev pub origins_in : List (OriginKey × List ℕ) → List Origin
origins_in entries = map (λ entry. record { host = entry.0.host; bytes = entry.1 }) entries

-- the records of a table that has this key: one for each host and hash, and each at its own hash
pub record AreFirst (key : RecordKey) (entries : List (OriginKey × List ℕ)) : Type 0 where
  pub unique : IsDistinct same_key (keys_of entries)
  pub hashed : (at : OriginKey) → IfSome (lookup (same_key at) entries) (λ bytes. at.hash ≡ digest key bytes)
