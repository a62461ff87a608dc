-- What is known of a living object beside what it contains.
use Rattle.std.specs.Prelude.{◌≡◌, ◌&&◌, Bool, ℕ, List, [], Option, Some, None, Result, Ok, Err}
use Rattle.std.specs.Prelude.{MatchResult, option_map}
use Rattle.std.specs.Prelude.{◌==◌, ◌+◌, ◌^◌, nat_lt, if◌then◌else◌}
use Rattle.std.specs.FinMap.{get}
use Rattle.nfs_wire.specs.declared.attributes.WeakAttributes.{WeakAttributes}
use Rattle.nfs_wire.specs.declared.status.NfsStatus.{NfsStatus}
use Rattle.nfs_machine.specs.Attributes.{attributes_of, entries_of, type_of}
use Rattle.nfs_machine.specs.Checks.{DirectoryEntries, bytes_in, entries_in, object_of}
use Rattle.nfs_machine.specs.Exports.{LivingExport}
use Rattle.nfs_machine.specs.Handles.{handle_of}
use Rattle.nfs_machine.specs.PageSteps.{IsParentOf}
use Rattle.nfs_machine.specs.Resolve.{Named, resolve}
use Rattle.nfs_machine.specs.Shown.{attributes_at, shown, wcc}
use Rattle.nfs_machine.specs.State.{Content, Regular, Directory, Socket, Living, State}
use Rattle.nfs_machine.specs.declared.context.Ctx.{Ctx}
use Rattle.nfs_machine.specs.declared.handle.Handle.{Handle}
use Rattle.nfs_objects.specs.Stands.{StoreMeaning, content_of, exports_of, inode_in, living_alone, verifier_bytes}
use Rattle.nfs_objects.specs.Values.{DraftValue, known_at}
use Rattle.nfs_objects.specs.declared.address.Addr.TheVariants as addresses
use Rattle.nfs_objects.specs.declared.object.Inode.{Inode}
use Rattle.nfs_objects.specs.declared.object.Object.{Object}
use Rattle.nfs_inodes.specs.declared.found.Known.{Known}

-- the object that has this content
abbrev pub shell : Known → Content → Living
shell x content = record {
  export = x.export;
  generation = x.generation;
  content = content;
  mode = x.attributes.mode;
  uid = x.attributes.uid;
  gid = x.attributes.gid;
  accessed = x.attributes.accessed;
  modified = x.attributes.modified;
  changed = x.attributes.changed;
  verifier = verifier_bytes x.verifier;
}

-- what the object at a number contains; of nothing, no matter what
abbrev pub content_at : State → ℕ → Content
content_at m number = elim (get m.objects number) [ None ↦ Socket | Some o ↦ o.content ]

-- the object at its number
abbrev pub object_at : State → Known → Living
object_at m x = shell x (content_at m x.number)

-- it lives there, and these are its attributes
pub record IsKnown (m : State) (x : Known) : Type 0 where
  pub lives : get m.objects x.number ≡ Some (object_at m x)
  pub shows : x.attributes ≡ attributes_of m x.number (object_at m x)

-- what lives at a number, if anything does
abbrev pub IsObject : State → ℕ → Option Known → Type 0
IsObject m number None = get m.objects number ≡ None
IsObject m number (Some x) = (x.number ≡ number) × IsKnown m x

-- the draft knows that these exports live
pub record HasExports (d : DraftValue) (exports : List LivingExport) : Type 0 where
  pub object : Option Object
  pub known : known_at d addresses.Exports ≡ Some object
  pub is : exports ≡ exports_of object

-- the draft knows that this inode stands at a number and its export lives, or that none of a living export does
pub record HasInode (d : DraftValue) (number : ℕ) (inode : Option Inode) : Type 0 where
  pub exports : List LivingExport
  pub living : HasExports d exports
  pub object : Option Object
  pub known : known_at d (addresses.Inode number) ≡ Some object
  pub is : inode ≡ inode_in exports object

-- what is known of an inode: its object but for the bytes of a file, and its attributes with the links that it counts
pub record IsKnownOf (number : ℕ) (i : Inode) (x : Known) : Type 0 where
  pub number_is : x.number ≡ number
  pub kind_is : x.attributes.kind ≡ type_of (content_of i.content)
  pub shell_is : shell x (content_of i.content) ≡ living_alone i
  pub attributes_are : (m : State) →
      x.attributes ≡ record (attributes_of m number (living_alone i)) { links = i.links }

-- ---- what a handle names
-- it is a handle of this number
abbrev pub HasNumber : List ℕ → (number : ℕ) → Type 0
HasNumber handle number = option_map (λ h. h.fileid) (handle_of handle) ≡ Some number

-- what the machine resolves a handle to that names this
abbrev pub target : State → Known → Named
target m x = record { number = x.number; object = object_at m x }

-- what the machine shows of the object before a call
abbrev pub weak_of : Known → WeakAttributes
weak_of x = record { size = x.attributes.size; modified = x.attributes.modified; changed = x.attributes.changed }

-- the handle names this; and so it is shown, in whatever state the call leaves
pub record Names (ctx : Ctx) (handle : List ℕ) (k : StoreMeaning) (x : Known) : Type 0 where
  pub known : IsKnown k.state x
  pub names : object_of (resolve k.state ctx handle) ≡ Ok (target k.state x)
  pub shows : shown k.state (resolve k.state ctx handle) ≡ Some x.attributes
  pub shows_after : (new : State) → shown new (resolve k.state ctx handle) ≡ attributes_at new x.number
  pub wcc_after : (new : State) → wcc new (resolve k.state ctx handle) ≡ record
      { before = Some (weak_of x); after = attributes_at new x.number }
  -- where it is a directory, its parent is the one that is kept
  pub parent : IsParentOf k.state ctx handle (k.parents x.number)

-- the handle names nothing, and is refused so; nothing is shown
pub record NamesNothing (ctx : Ctx) (handle : List ℕ) (k : StoreMeaning) (e : NfsStatus) : Type 0 where
  pub refused : object_of (resolve k.state ctx handle) ≡ Err e
  pub shows_after : (new : State) → shown new (resolve k.state ctx handle) ≡ None
  pub wcc_after : (new : State) → wcc new (resolve k.state ctx handle) ≡ record { before = None; after = None }
  pub parent : (parent : ℕ) → IsParentOf k.state ctx handle parent

abbrev pub Means : Ctx → List ℕ → Result Known NfsStatus → StoreMeaning → Type 0
Means ctx handle (Ok x) k = Names ctx handle k x
Means ctx handle (Err e) k = NamesNothing ctx handle k e

-- the object at a handle's number is the handle's
abbrev pub is_handle_of : Handle → Known → Bool
is_handle_of h x = (x.generation == h.generation) && (x.export == h.export)

-- ---- kinds
-- the bytes of a regular file; of what is none, no byte
abbrev pub bytes_of : Content → List ℕ
bytes_of content = elim content [ Regular bytes ↦ bytes | other ↦ [] ]

-- the greatest cookie that a directory ever used
abbrev pub last_cookie_of : Content → ℕ
last_cookie_of content = elim content [ Directory entries last_cookie ↦ last_cookie | other ↦ 0 ]

-- the cookie of its next entry, where one is left
abbrev pub new_cookie : (last : ℕ) → Option ℕ
new_cookie last = if nat_lt (last + 1) (2 ^ 64) then Some (last + 1) else None

-- what the machine sees of a directory that a check passed
abbrev pub listed : Content → DirectoryEntries
listed content = record { list = entries_of content; last_cookie = last_cookie_of content }

-- whether what is known is the kind that a check is for, as the machine checks the content
abbrev pub ChecksDirectory : {A : Type 0} → Known → Result A NfsStatus → Type 0
ChecksDirectory x result = (content : Content) → type_of content ≡ x.attributes.kind →
    MatchResult result (λ _. entries_in content ≡ Ok (listed content)) (λ e. entries_in content ≡ Err e)

abbrev pub ChecksRegular : {A : Type 0} → Known → Result A NfsStatus → Type 0
ChecksRegular x result = (content : Content) → type_of content ≡ x.attributes.kind →
    MatchResult result (λ _. bytes_in content ≡ Ok (bytes_of content)) (λ e. bytes_in content ≡ Err e)

-- where checks of a directory passed, the rest goes on from its entries
abbrev pub entries_found : {A B : Type 0} → Content → (DirectoryEntries → Result A NfsStatus) →
    Result B NfsStatus → Result A NfsStatus
entries_found content rest (Ok checked) = rest (listed content)
entries_found content rest (Err e) = Err e

-- where checks of a file passed, the rest goes on from its bytes
abbrev pub bytes_found : {A B : Type 0} → Content → (List ℕ → Result A NfsStatus) → Result B NfsStatus →
    Result A NfsStatus
bytes_found content rest (Ok checked) = rest (bytes_of content)
bytes_found content rest (Err e) = Err e
