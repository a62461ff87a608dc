-- When two values are the same: tests by parts, as `==` makes them. Of what is shared the value is compared.
use Rattle.std.specs.Prelude.{Bool, true, false, ◌==◌, ◌&&◌, Option, option_map}
use Rattle.std.specs.Arc.{arc_value}
use Rattle.std.specs.Cmp.Lexicographic.{pointwise}
use Rattle.std.specs.Option.{option_eq}
use Rattle.nfs_wire.specs.declared.attributes.DeviceNumber.{DeviceNumber}
use Rattle.nfs_wire.specs.declared.attributes.Time.{Time}
use Rattle.nfs_wire.specs.declared.calls.Verifier.{Verifier}
use Rattle.side_wire.specs.declared.mount.lists.MountBody.{MountBody}
use Rattle.nfs_machine.specs.Bytes.{same_bytes}
use Rattle.nfs_machine.specs.Exports.{LivingExport}
use Rattle.nfs_machine.specs.SameExports.{same_export}
use Rattle.nfs_machine.specs.State.{Entry}
use Rattle.nlm_ranges.specs.Same.{same_bucket}
use Rattle.nfs_objects.specs.Bits.{same_bits}
use Rattle.nfs_objects.specs.ExportTables.{ExportTableValue}
use Rattle.nfs_objects.specs.FileMaps.{FileMapValue}
use Rattle.nfs_objects.specs.Sums.{is_same_usage}
use Rattle.nfs_objects.specs.Values.{Seen, ViewValue, is_addr}
use Rattle.nfs_objects.specs.declared.directory.Directory.{Directory}
use Rattle.nfs_objects.specs.declared.entry_map.EntryMap.{EntryMap}
use Rattle.nfs_objects.specs.declared.page_list.PageRun.{PageRun}
use Rattle.nfs_objects.specs.declared.modes.Mode.{Mode}
use Rattle.nfs_objects.specs.declared.modes.Mode.TheVariants.{Shared, Exclusive}
use Rattle.nfs_objects.specs.declared.object.Content.{Content}
use Rattle.nfs_objects.specs.declared.object.Content.TheVariants as contents
use Rattle.nfs_objects.specs.declared.object.Inode.{Inode}
use Rattle.nfs_objects.specs.declared.object.Object.{Object}
use Rattle.nfs_objects.specs.declared.object.Object.TheVariants as objects
use Rattle.nfs_objects.specs.declared.view.Entry.{Entry as ViewEntry}
use Rattle.nfs_objects.specs.declared.view.Reserved.{Reserved}

-- ---- objects
abbrev pub same_time : Time → Time → Bool
same_time a b = a.seconds == b.seconds && a.nanoseconds == b.nanoseconds

abbrev pub same_device : DeviceNumber → DeviceNumber → Bool
same_device a b = a.major == b.major && a.minor == b.minor

abbrev pub same_verifier : Verifier → Verifier → Bool
same_verifier a b = same_bytes a.bytes b.bytes

abbrev pub same_entry : Entry → Entry → Bool
same_entry a b = same_bytes a.name b.name && (a.number == b.number && a.cookie == b.cookie)

abbrev pub same_run : PageRun → PageRun → Bool
same_run a b = a.first == b.first && a.last == b.last

abbrev pub same_entry_map : EntryMap → EntryMap → Bool
same_entry_map a b =
    same_bytes a.key b.key && (same_bytes a.counts b.counts && pointwise same_run a.pages b.pages)

abbrev pub same_directory : Directory → Directory → Bool
same_directory a b =
    a.parent == b.parent && (a.last_cookie == b.last_cookie && same_entry_map a.entries b.entries)

abbrev pub same_file_map : FileMapValue → FileMapValue → Bool
same_file_map a b = a.size == b.size && (same_bits a.pages b.pages && same_bits a.remains b.remains)

abbrev pub same_content : Content → Content → Bool
same_content (contents.Regular a) (contents.Regular b) = same_file_map a b
same_content (contents.Directory a) (contents.Directory b) = same_directory a b
same_content (contents.Link a) (contents.Link b) = same_bytes a b
same_content (contents.BlockDevice a) (contents.BlockDevice b) = same_device a b
same_content (contents.CharacterDevice a) (contents.CharacterDevice b) = same_device a b
same_content contents.Socket contents.Socket = true
same_content contents.Fifo contents.Fifo = true
same_content a b = false

-- what an inode has beside its content
abbrev pub same_ownership : Inode → Inode → Bool
same_ownership a b = a.mode == b.mode && (a.uid == b.uid && (a.gid == b.gid && a.links == b.links))

abbrev pub same_times : Inode → Inode → Bool
same_times a b =
    same_time a.accessed b.accessed && (same_time a.modified b.modified && same_time a.changed b.changed)

abbrev pub same_inode : Inode → Inode → Bool
same_inode a b =
    a.export == b.export && (a.generation == b.generation && (same_ownership a b && (same_times a b &&
    (option_eq same_verifier a.verifier b.verifier && same_content a.content b.content))))

abbrev pub same_living : LivingExport → LivingExport → Bool
same_living a b = a.number == b.number && (a.root == b.root && same_export a.value b.value)

abbrev pub same_exports : ExportTableValue → ExportTableValue → Bool
same_exports a b = a.last == b.last && pointwise same_living a.exports b.exports

abbrev pub same_mount : MountBody → MountBody → Bool
same_mount a b = same_bytes a.hostname b.hostname && same_bytes a.directory b.directory

abbrev pub same_object : Object → Object → Bool
same_object (objects.Exports a) (objects.Exports b) = same_exports a b
same_object (objects.Inode a) (objects.Inode b) = same_inode a b
same_object (objects.Map a) (objects.Map b) = same_bits a b
same_object (objects.Block a) (objects.Block b) = same_bytes a b
same_object (objects.Page a) (objects.Page b) = pointwise same_entry a b
same_object (objects.Part a) (objects.Part b) = pointwise same_entry a b
same_object (objects.Mounts a) (objects.Mounts b) = pointwise same_mount a b
same_object (objects.Usage a) (objects.Usage b) = is_same_usage a b
same_object (objects.Locks a) (objects.Locks b) = same_bucket a b
same_object a b = false

-- ---- views
abbrev pub same_mode : Mode → Mode → Bool
same_mode Shared Shared = true
same_mode Exclusive Exclusive = true
same_mode a b = false

abbrev pub same_seen : Seen → Seen → Bool
same_seen a b =
    is_addr a.address b.address && (same_mode a.mode b.mode && option_eq same_object a.object b.object)

-- how an entry holds its address, and what stands there
abbrev pub held_value : ViewEntry → Mode × Option Object
held_value e = (e.mode, option_map arc_value e.object)

abbrev pub same_pair : Mode × Option Object → Mode × Option Object → Bool
same_pair a b = same_mode a.0 b.0 && option_eq same_object a.1 b.1

abbrev pub same_held : ViewEntry → ViewEntry → Bool
same_held a b = same_pair (held_value a) (held_value b)

abbrev pub same_number : Reserved → Reserved → Bool
same_number a b = a.number == b.number && a.generation == b.generation

abbrev pub same_view : ViewValue → ViewValue → Bool
same_view a b = pointwise same_number a.reserved b.reserved && pointwise same_seen a.entries b.entries
