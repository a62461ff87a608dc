-- Which calls of hosts change something, and so are not to be executed again where their record comes once more
-- (RFC 1813, 4.5).
use Rattle.std.specs.Prelude.{Bool, false}
use Rattle.nfs_wire.specs.Changing.{is_changing_nfs}
use Rattle.side_wire.specs.Changing.{is_changing_mount, is_changing_nlm}
use Rattle.nfs_machine.specs.declared.calls.Call.{Call}
use Rattle.nfs_machine.specs.declared.calls.Call.TheVariants as calls

abbrev pub is_changing : Call → Bool
is_changing (calls.Nfs call) = is_changing_nfs call
is_changing (calls.Mount call) = is_changing_mount call
is_changing (calls.Nlm call) = is_changing_nlm call
is_changing (calls.Replace exports) = false
