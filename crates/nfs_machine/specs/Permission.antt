-- Who may do what (RFC 1813, 4.4).
use Rattle.std.specs.Prelude.{ℕ, ◌/◌, ◌%◌, Bool, ◌||◌, ◌&&◌, if◌then◌else◌, ◌==◌}
use Rattle.std.specs.List.{list_any}
use Rattle.nfs_rpc.specs.declared.credentials.Ids.{Ids}
use Rattle.nfs_machine.specs.State.{Living}

-- a mode has twelve bits: set-uid, set-gid, sticky, and three of each class (2.5: fattr3); it is below this
abbrev pub mode_limit : ℕ
mode_limit = 0o10000

pub data Right : Type 0 where
  -- of a file: by its owner always; else r, or x (a program is read to be run)
  ToRead : Right
  -- of an object of any kind, to set its content or times: by its owner always; else w
  ToWrite : Right
  -- of a directory: x
  ToSearch : Right
  -- of a directory: r
  ToList : Right
  -- of a directory's entries: w and x
  ToChange : Right

-- whether a group is the caller's own or one of its further groups
abbrev pub is_member : Ids → ℕ → Bool
is_member ids gid = (ids.gid == gid) || list_any (λ g. g == gid) ids.gids

-- the three bits of the caller's class: owner, else group, else other
abbrev pub class_bits : Ids → Living → ℕ
class_bits ids o = if ids.uid == o.uid then o.mode / 64 % 8 else
    (if is_member ids o.gid then o.mode / 8 % 8 else o.mode % 8)

abbrev pub reads : ℕ → Bool
reads bits = bits / 4 % 2 == 1

abbrev pub writes : ℕ → Bool
writes bits = bits / 2 % 2 == 1

abbrev pub runs : ℕ → Bool
runs bits = bits % 2 == 1

-- uid 0 may do all, others what the bits of their class let them
abbrev pub may : Ids → Living → Right → Bool
may ids o right =
    let bits = class_bits ids o in let owner = ids.uid == o.uid in
    (ids.uid == 0) || elim right [
      | ToRead ↦ owner || reads bits || runs bits
      | ToWrite ↦ owner || writes bits
      | ToSearch ↦ runs bits
      | ToList ↦ reads bits
      | ToChange ↦ writes bits && runs bits
    ]
