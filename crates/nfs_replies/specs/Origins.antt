-- What calls in progress came with.
use Rattle.std.specs.Prelude.{◌≡◌, Bool, not, ◌&&◌, ◌||◌, List}
use Rattle.std.specs.List.{list_any}
use Rattle.nfs_replies.specs.Kept.{same_bytes}
use Rattle.nfs_replies.specs.declared.origins.Origin.{Origin}

-- the same host sent the same bytes
abbrev pub same_origin : Origin → Origin → Bool
same_origin a b = same_bytes a.host b.host && same_bytes a.bytes b.bytes

-- whether it is one of these
abbrev pub is_among : List Origin → Origin → Bool
is_among origins origin = list_any (same_origin origin) origins

-- one is added, and nothing else changes
abbrev pub Adds : Origin → (old new : List Origin) → Type 0
Adds added old new = (origin : Origin) →
    is_among new origin ≡ (same_origin added origin || is_among old origin)

-- one is taken out, and nothing else changes
abbrev pub Removes : Origin → (old new : List Origin) → Type 0
Removes removed old new = (origin : Origin) →
    is_among new origin ≡ (not (same_origin removed origin) && is_among old origin)
