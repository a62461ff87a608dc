-- What a READ comes to (RFC 1813, 3.3.6).
use Rattle.std.specs.Prelude.{Result, Ok}
use Rattle.nfs_wire.specs.declared.calls.ReadArguments.{ReadArguments}
use Rattle.nfs_wire.specs.declared.replies.ReadData.{ReadData}
use Rattle.nfs_wire.specs.declared.status.NfsStatus.{NfsStatus}
use Rattle.nfs_machine.specs.Data.{read_at}
use Rattle.nfs_machine.specs.State.{Content}
use Rattle.nfs_inodes.specs.Known.{bytes_found}

-- what is read of this content, where the checks passed or one refused
abbrev pub read_found : {A : Type 0} → Content → ReadArguments → Result A NfsStatus → Result ReadData NfsStatus
read_found content a = bytes_found content (λ bytes. Ok (read_at bytes a.offset a.count))
