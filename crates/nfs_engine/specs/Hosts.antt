-- Hosts that call.
use Rattle.std.specs.Prelude.{ℕ, ◌≤◌, List, length}

-- a host's name has 1 to 255 bytes
abbrev pub IsHost : List ℕ → Type 0
IsHost text = (1 ≤ length text) × (length text ≤ 255)
