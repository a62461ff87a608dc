-- What a list of addresses has at one of them.
use Rattle.std.specs.Prelude.{◌≡◌, List, [], ◌∷◌, Option, Some, None, if◌then◌else◌}
use Rattle.nfs_objects.specs.declared.address.Addr.{Addr}
use Rattle.nfs_objects.specs.Values.{is_addr}

-- what the list has there
abbrev pub found : {V : Type 0} → List (Addr × V) → Addr → Option V
found [] a = None
found (e ∷ es) a = if is_addr a e.0 then Some e.1 else found es a

-- the new function has this at an address, and what the old one has elsewhere
abbrev pub Changes : {V : Type 0} → (Addr → V) → (Addr → V) → Addr → V → Type 0
Changes old new a v = (b : Addr) → new b ≡ (if is_addr a b then v else old b)
