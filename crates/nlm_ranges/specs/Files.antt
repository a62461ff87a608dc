-- What one file has of locks, shares, requests that wait and grants that are not answered yet (RFC 1813, appendix II,
-- 6.2).
use Rattle.std.specs.Prelude.{Bool, List, [], length, ◌==◌, ◌&&◌}
use Rattle.nfs_machine.specs.OneFile.{FileLocks}
use Rattle.nfs_machine.specs.State.{Request}

pub record FileValue : Type 0 where
  -- locks, shares and what waits, as the machine has it
  pub held : FileLocks
  -- the requests that were granted and are not answered yet
  pub pending : List Request

-- nothing was asked of it
abbrev pub no_file : FileValue
no_file = record { held = record { locks = []; shares = []; waiting = [] }; pending = [] }

abbrev pub has_nothing : FileValue → Bool
has_nothing f = length f.held.locks == 0 && (length f.held.shares == 0 && (length f.held.waiting == 0 &&
    length f.pending == 0))
