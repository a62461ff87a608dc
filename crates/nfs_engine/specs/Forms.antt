-- Replies whose results have a form.
use Rattle.std.specs.Prelude.{◌≤◌, length}
use Rattle.side_wire.specs.Mount.{HasMountForm, mount_result_bytes}
use Rattle.side_wire.specs.Nlm.{HasNlmForm, nlm_result_bytes}
use Rattle.nfs_machine.specs.Laws.{IsShort}
use Rattle.nfs_machine.specs.declared.calls.Reply.{Reply}
use Rattle.nfs_machine.specs.declared.calls.Reply.TheVariants.{Nfs, Mount, Nlm, Replaced}
use Rattle.nfs_machine.specs.declared.calls.Refusal.{Refusal}
use Rattle.nfs_machine.specs.declared.calls.Refusal.TheVariants as refusals

-- each part of the reply is within its bound, and so is the whole: a list of MOUNT may be long, and one fragment holds
-- it with its header (RFC 5531, section 11: below 2^31 bytes)
abbrev pub HasForm : Reply → Type 0
HasForm (Nfs reply) = IsShort reply
HasForm (Mount reply) = HasMountForm reply × (length (mount_result_bytes reply) ≤ 100000000)
HasForm (Nlm reply) = HasNlmForm reply × (length (nlm_result_bytes reply) ≤ 70000)
HasForm Replaced = Unit {0}

abbrev pub RefusalHasForm : Refusal → Type 0
RefusalHasForm (refusals.Reply reply) = HasForm reply
RefusalHasForm refusals.SystemError = Unit {0}
RefusalHasForm refusals.Silent = Unit {0}
