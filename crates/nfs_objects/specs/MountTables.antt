-- Tables of mounts (RFC 1813, appendix I, 5.2): hosts with the paths that they mounted.
use Rattle.std.specs.Prelude.{◌≡◌, ℕ, ◌+◌, ◌<◌, ◌≤◌, Bool, true, ◌&&◌, List, [], ◌∷◌, ◌++◌}
use Rattle.std.specs.Prelude.{Option, Some, None, drop, length, nat_eq}
use Rattle.std.specs.Arc.{arc_value}
use Rattle.std.specs.Cmp.Lexicographic.{bytes_decides, nat_list_eq_equiv, pointwise}
use Rattle.std.specs.Hash as fed
use Rattle.std.specs.Hash.DefaultHasher as sip
use Rattle.std.specs.List.{IsDistinct, flat_map}
use Rattle.std.specs.declared.sync.Arc.{Arc}
use Rattle.std.specs.declared.vec.Vec.{Vec}
use Rattle.std.proofs.Common.{ap, sym, ◌∙◌}
use Rattle.std.proofs.lemmas.Bool.{and_parts}
use Rattle.nfs_machine.specs.Bytes.{same_bytes}
use Rattle.nfs_machine.specs.MountSteps.{is_of}
use Rattle.side_wire.specs.declared.mount.lists.MountBody.{MountBody}

-- a host that mounted a path
abbrev pub mounted : List ℕ → List ℕ → MountBody
mounted host path = record { hostname = host; directory = path }

-- the hash of a host and a path: SipHash-1-3 of all their bytes
unfoldable pub mount_digest : List ℕ → List ℕ → ℕ
mount_digest host path = sip.finish (sip.write (sip.write sip.initial host) path)

-- what a table is given of them: that number, in one write
abbrev pub mount_input : List ℕ → List ℕ → List (List ℕ)
mount_input host path = fed.u64 (mount_digest host path)

-- pieces, one behind the other
abbrev pub joined : {X : Type 0} → List (List X) → List X
joined pieces = flat_map (λ piece. piece) pieces

-- what a vector has that is shared, if there is one
abbrev pub items_in : {X A B : Type 0} → Option (Arc (Vec X A) B) → List X
items_in None = []
items_in (Some items) = (arc_value items).items

-- the first piece, where there is one
abbrev pub first_piece : {X : Type 0} → List (List X) → List X
first_piece [] = []
first_piece (piece ∷ pieces) = piece

-- no piece is empty, and each has more than 256 together with the one before it; the first comes behind one of so many
abbrev pub ArePacked : {X : Type 0} → ℕ → List (List X) → Type 0
ArePacked before [] = Unit {0}
ArePacked before (piece ∷ pieces) =
    (0 < length piece) × (256 < before + length piece) × ArePacked (length piece) pieces

-- the same path of the same host
abbrev pub is_same : MountBody → MountBody → Bool
is_same a b = is_of b.hostname b.directory a

-- no mount is there twice
abbrev pub AreDistinct : List MountBody → Type 0
AreDistinct mounts = IsDistinct is_same mounts

-- so many mounts there are in these pieces, each of them once; two neighbours don't fit into one piece
pub record AreInPieces (pieces : List (List MountBody)) (count : ℕ) : Type 0 where
  pub counted : count ≡ length (joined pieces)
  pub bounded : count ≤ 65536
  pub packed : ArePacked 256 pieces
  pub distinct : AreDistinct (joined pieces)

-- the mounts in pieces behind the first so many, which are gone, and then the latest
abbrev pub listed : List (List MountBody) → ℕ → List MountBody → List MountBody
listed older gone latest = drop gone (joined older) ++ latest

-- what is gone is of the first piece; each mount is there once, also among those that are older
pub record AreListed (older : List (List MountBody)) (gone : ℕ) (latest : List MountBody) : Type 0 where
  pub within : gone ≤ length (first_piece older)
  pub bounded : length (listed older gone latest) ≤ 65536
  pub once : AreDistinct (joined older)
  pub distinct : AreDistinct (listed older gone latest)

-- what is made of a host and a path is made of the mount that they are
pub both_alike : {X : Type 0} (f : List ℕ → List ℕ → X) (host path : List ℕ) (m : MountBody) →
    is_of host path m ≡ true → f host path ≡ f m.hostname m.directory
both_alike f host path m same =
    let parts = and_parts (same_bytes m.hostname host) (same_bytes m.directory path) same in
    ap (λ h. f h path) (sym ((bytes_decides m.hostname host).0 parts.0))
    ∙ ap (f m.hostname) (sym ((bytes_decides m.directory path).0 parts.1))

-- and a mount is compared as they are
pub is_of_alike : (host path : List ℕ) (x y : MountBody) → is_of host path x ≡ true →
    is_of host path y ≡ (pointwise nat_eq x.hostname y.hostname && pointwise nat_eq x.directory y.directory)
is_of_alike host path x y same =
    both_alike (λ h p. is_of h p y) host path x same
    ∙ ap (λ b. b && pointwise nat_eq y.directory x.directory) (nat_list_eq_equiv.symm y.hostname x.hostname)
    ∙ ap (λ b. pointwise nat_eq x.hostname y.hostname && b) (nat_list_eq_equiv.symm y.directory x.directory)
