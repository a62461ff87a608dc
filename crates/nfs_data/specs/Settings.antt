-- What a SETATTR comes to (RFC 1813, 3.3.2).
use Rattle.std.specs.Prelude.{◌≡◌, ◌%◌, ℕ, Option, Some, None, Result, Ok, Err}
use Rattle.std.specs.Prelude.{is_some, option_map, unwrap_or, if◌then◌else◌}
use Rattle.nfs_wire.specs.declared.attributes.SetAttributes.{SetAttributes}
use Rattle.nfs_wire.specs.declared.calls.SetattrArguments.{SetattrArguments}
use Rattle.nfs_wire.specs.declared.status.NfsStatus.{NfsStatus}
use Rattle.nfs_machine.specs.AttributeSteps.{setattr_end}
use Rattle.nfs_machine.specs.Checks.{◌>>=◌, bytes_in}
use Rattle.nfs_machine.specs.Data.{resized}
use Rattle.nfs_machine.specs.Permission.{mode_limit}
use Rattle.nfs_machine.specs.State.{Content, Regular, Living, State}
use Rattle.nfs_machine.specs.Times.{time_of, time_set, touch}
use Rattle.nfs_machine.specs.declared.context.Ctx.{Ctx}
use Rattle.nfs_inodes.specs.Known.{bytes_of, shell}
use Rattle.nfs_inodes.specs.Sets.{with_settings}
use Rattle.nfs_inodes.specs.declared.found.Known.{Known}
use Rattle.nfs_inodes.specs.declared.setting.Settings.{Settings}
use Rattle.nfs_data.specs.declared.setattr.NewSize.{NewSize}

-- this is the state after it, or why nothing is set
abbrev pub IsSetEnd : Ctx → SetattrArguments → State → Result (Unit {0} × State) NfsStatus → Type 0
IsSetEnd ctx a m end = end ≡ setattr_end m ctx a

-- the size that is set is that of this file
abbrev pub IsSizeOf : Known → Option ℕ → Option NewSize → Type 0
IsSizeOf x (Some size) (Some new) = (new.file.known ≡ x) × (new.size ≡ size)
IsSizeOf x None None = Unit {0}
IsSizeOf x size new = ⊥

-- the content of this size, if one is set: of a regular file alone
abbrev pub content_set : Content → Option ℕ → Result Content NfsStatus
content_set content size = elim size [
  | None ↦ Ok content
  | Some size ↦ bytes_in content >>= λ bytes. Ok (Regular (resized bytes size))
]

abbrev pub content_after : Content → Option ℕ → Content
content_after content size = elim size [ None ↦ content | Some size ↦ Regular (resized (bytes_of content) size) ]

-- the content where the object is of the kind, or why it is not
abbrev pub content_found : {A : Type 0} → Content → Option ℕ → Result A NfsStatus → Result Content NfsStatus
content_found content size (Ok checked) = Ok (content_after content size)
content_found content size (Err e) = Err e

-- the attributes after it, of what was known
abbrev pub settings_after : Ctx → Known → SetAttributes → Settings
settings_after ctx x set =
    let was = x.attributes in let now = time_of ctx.moment in let changed = touch was.changed now in record {
      mode = unwrap_or (option_map (λ mode. mode % mode_limit) set.mode) was.mode;
      uid = unwrap_or set.uid was.uid;
      gid = unwrap_or set.gid was.gid;
      accessed = time_set was.accessed now set.accessed;
      modified = time_set (if is_some set.size then changed else was.modified) now set.modified;
      changed = changed;
    }

-- the object of this content after it, where the checks passed or one refused
abbrev pub set_found : {A : Type 0} → Ctx → SetattrArguments → Known → Content → Result A NfsStatus →
    Result Living NfsStatus
set_found ctx a x content (Ok checked) = Ok
    (with_settings (settings_after ctx x a.attributes) (shell x (content_after content a.attributes.size)))
set_found ctx a x content (Err e) = Err e
