-- The state of the machine: one value, which one call at a time changes (RFC 1813, 1.6 and 2.5; appendices I and II).
use Rattle.std.specs.Prelude.{ℕ, ◌+◌, ◌*◌, ℤ, Bool, List, Option}
use Rattle.std.specs.Ordering.{nat_cmp}
use Rattle.std.specs.FinMap.{FinMap}
use Rattle.nfs_wire.specs.declared.attributes.DeviceNumber.{DeviceNumber}
use Rattle.nfs_wire.specs.declared.attributes.Time.{Time}
use Rattle.side_wire.specs.declared.message.NlmLock.{NlmLock}
use Rattle.side_wire.specs.declared.nlm.ShareAccess.{ShareAccess}
use Rattle.side_wire.specs.declared.nlm.ShareMode.{ShareMode}
use Rattle.side_wire.specs.declared.mount.lists.MountBody.{MountBody}
use Rattle.nfs_machine.specs.Exports.{LivingExport}

-- a name in a directory: the object that it leads to, and its cookie
pub record Entry : Type 0 where
  pub name : List ℕ
  pub number : ℕ
  pub cookie : ℕ

-- what an object is and contains
pub data Content : Type 0 where
  Regular : (bytes : List ℕ) → Content
  -- entries in rising order of cookie, each name once, and the greatest cookie ever used
  Directory : (entries : List Entry) (last_cookie : ℕ) → Content
  Link : (text : List ℕ) → Content
  BlockDevice : (device : DeviceNumber) → Content
  CharacterDevice : (device : DeviceNumber) → Content
  Socket : Content
  Fifo : Content

-- a mode by its three digits: of the owner, the group and others
abbrev pub octal : (owner group other : ℕ) → ℕ
octal owner group other = owner * 64 + group * 8 + other

-- a living object; its handle is made of its export, the start number, its number and its generation
pub record Living : Type 0 where
  pub export : ℕ
  pub generation : ℕ
  pub content : Content
  pub mode : ℕ
  pub uid : ℕ
  pub gid : ℕ
  pub accessed : Time
  pub modified : Time
  pub changed : Time
  -- of an exclusive CREATE
  pub verifier : Option (List ℕ)

-- who holds a lock
pub record Owner : Type 0 where
  pub caller_name : List ℕ
  pub owner : List ℕ
  pub process : ℤ

-- a range of a file's offsets, for an owner
pub record Range : Type 0 where
  pub owner : Owner
  pub first : ℕ
  pub last : ℕ

pub record Lock : Type 0 where
  pub range : Range
  pub open range use *
  pub exclusive : Bool

-- a share reservation: the access that its owner has, and the mode that denies others theirs
pub record Share : Type 0 where
  pub caller_name : List ℕ
  pub owner : List ℕ
  pub mode : ShareMode
  pub access : ShareAccess

-- a request for a lock that waits, with the number that its grant has
pub record Request : Type 0 where
  pub number : ℕ
  pub host : List ℕ
  pub exclusive : Bool
  pub asked : NlmLock
  -- asked by LOCK_MSG
  pub by_message : Bool

-- a request for a lock of this file that was granted, and is not answered yet
pub record PendingGrant : Type 0 where
  pub file : ℕ
  pub request : Request

pub record State : Type 0 where
  -- the living exports in the order given, and the greatest number that an export ever had
  pub exports : List LivingExport
  pub last_export : ℕ
  -- the living objects by their numbers, which are their fileids
  pub objects : FinMap nat_cmp Living
  -- which numbers and generations were given, and are never given again
  pub spent : ℕ → ℕ → Bool
  -- the hosts with the paths that they mounted, as they sent them, in order of adding, each pair once
  pub mounts : List MountBody
  -- what there is of each file, by its number: no list in these maps is empty
  pub locks : FinMap nat_cmp (List Lock)
  pub shares : FinMap nat_cmp (List Share)
  -- in order of arrival
  pub waiting : FinMap nat_cmp (List Request)
  -- the pending grants by their numbers
  pub granted : FinMap nat_cmp PendingGrant
  -- which numbers of grants were given, and are never given again
  pub spent_grants : ℕ → Bool
