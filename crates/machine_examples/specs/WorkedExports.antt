-- Exports whose numbers are not their places, and whose roots have other numbers than they: what handles name, which
-- objects are roots and parents, MNT, EXPORT and pages of READDIR.
use Rattle.std.specs.Prelude.{◌≡◌, ℕ, true, false, List, [], ◌∷◌, Some, None, Ok, map, codes}
use Rattle.std.specs.Ordering.{nat_cmp}
use Rattle.std.specs.FinMap.{FinMap, empty, insert}
use Rattle.nfs_wire.specs.declared.calls.NfsCall.TheVariants as nfs
use Rattle.nfs_wire.specs.declared.calls.ReaddirArguments.{ReaddirArguments}
use Rattle.nfs_wire.specs.declared.replies.NfsReply.{NfsReply}
use Rattle.nfs_wire.specs.declared.replies.NfsReply.TheVariants as nfs_replies
use Rattle.side_wire.specs.declared.mount.MountCall.TheVariants as mount
use Rattle.side_wire.specs.declared.mount.MountReply.TheVariants as mount_replies
use Rattle.nfs_machine.specs.Exports.{LivingExport, export_at}
use Rattle.nfs_machine.specs.Handles.{handle_bytes}
use Rattle.nfs_machine.specs.MountSteps.{MountStep}
use Rattle.nfs_machine.specs.NfsSteps.{NfsStep}
use Rattle.nfs_machine.specs.Opening.{opening}
use Rattle.nfs_machine.specs.PageSteps.{page_entry}
use Rattle.nfs_machine.specs.Resolve.{Names, Stale, resolve}
use Rattle.nfs_machine.specs.Shown.{shown}
use Rattle.nfs_machine.specs.State.{Directory, Entry, Living, State, octal}
use Rattle.nfs_machine.specs.WellFormed.{IsParent, is_root}
use Rattle.machine_examples.specs.Worked.{lower_export, object, open_export}
use Rattle.machine_examples.specs.WorkedCreate.{moment}
use Rattle.machine_examples.specs.WorkedLocks.{mounted}
use Rattle.machine_examples.specs.WorkedPages.{seven, zeros}
use Rattle.machine_examples.specs.WorkedRun.{nobody}

-- `/a` is export 7 with the root 12, and `/a/b`, for 10.0.0.2, is export 3 with the root 20
abbrev pub upper : LivingExport
upper = record { number = 7; root = 12; value = open_export }

abbrev pub lower : LivingExport
lower = record { number = 3; root = 20; value = lower_export }

-- the root of `/a`, with the directory "sub"
abbrev pub upper_root : Living
upper_root = record (object (octal 7 7 7) (Directory (record { name = codes "sub"; number = 7; cookie = 3 } ∷ []) 3))
    { export = 7 }

abbrev pub sub : Living
sub = record (object (octal 7 7 7) (Directory [] 2)) { export = 7 }

abbrev pub lower_root : Living
lower_root = record (object (octal 7 7 7) (Directory [] 2)) { export = 3 }

abbrev pub objects : FinMap nat_cmp Living
objects = insert (insert (insert empty 20 lower_root) 7 sub) 12 upper_root

abbrev pub exporting : State
exporting = record (opening [] moment) { exports = upper ∷ lower ∷ []; last_export = 7; objects = objects }

abbrev pub handle : (export fileid : ℕ) → List ℕ
handle export fileid = handle_bytes (record { export = export; start = 7; fileid = fileid; generation = 1 })

-- READDIR from the first cookie on, and the page that it answers
abbrev pub listing : List ℕ → ReaddirArguments
listing directory = record { directory = directory; cookie = 0; verifier = zeros; count = 65536 }

abbrev pub page_of : List ℕ → List Entry → NfsReply
page_of directory entries = nfs_replies.Readdir (record {
  attributes = shown exporting (resolve exporting nobody directory);
  result = Ok (record { verifier = seven; entries = map page_entry entries; eof = true });
})

abbrev pub dots : (number parent : ℕ) → List Entry → List Entry
dots number parent entries = record { name = codes "."; number = number; cookie = 1 } ∷
    record { name = codes ".."; number = parent; cookie = 2 } ∷ entries

-- of a caller from 10.0.0.1
pub record WorkedExporting : Type 0 where
  pub seventh : export_at exporting.exports 7 ≡ Some upper
  pub third : export_at exporting.exports 3 ≡ Some lower
  pub first : export_at exporting.exports 1 ≡ None
  pub root : resolve exporting nobody (handle 7 12) ≡ Names 12 upper_root
  pub below : resolve exporting nobody (handle 7 7) ≡ Names 7 sub
  -- a place is no number, and an export that does not admit the caller has no handle
  pub by_place : resolve exporting nobody (handle 1 12) ≡ Stale
  pub not_admitted : resolve exporting nobody (handle 3 20) ≡ Stale
  -- 7 is the number of an export, and that of a directory that is no root
  pub upper_is_root : is_root exporting 12 ≡ true
  pub lower_is_root : is_root exporting 20 ≡ true
  pub sub_is_none : is_root exporting 7 ≡ false
  pub own_parent : IsParent exporting 12 12
  pub parent : IsParent exporting 7 12
  pub lists_root : NfsStep exporting nobody (nfs.Readdir (listing (handle 7 12)))
      (page_of (handle 7 12) (dots 12 12 (record { name = codes "sub"; number = 7; cookie = 3 } ∷ []))) [] exporting
  pub lists_below : NfsStep exporting nobody (nfs.Readdir (listing (handle 7 7)))
      (page_of (handle 7 7) (dots 7 12 [])) [] exporting
  pub mounts : MountStep exporting nobody (mount.Mnt (codes "/a/sub")) (mount_replies.Mnt (Ok (handle 7 7))) []
      (record exporting { mounts = mounted (codes "10.0.0.1") (codes "/a/sub") ∷ [] })
  pub exports : MountStep exporting nobody mount.Export
      (mount_replies.Export
      (record { directory = codes "/a"; groups = [] } ∷
      record { directory = codes "/a/b"; groups = codes "10.0.0.2" ∷ [] } ∷ [])) [] exporting
