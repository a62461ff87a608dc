-- The tests of `Same` tell values apart: they pass where the two are one, and nowhere else.
use Rattle.std.specs.Prelude.{◌≡◌, ℕ, Bool, true, ◌==◌, ◌&&◌, List, Option, Some, None}
use Rattle.std.specs.Prelude.{option_map}
use Rattle.std.specs.Arc.{arc_value}
use Rattle.std.specs.Bool.{Decides}
use Rattle.std.specs.Cmp.{IsEquivalence, decided, first_so, on_equiv, second_so, unsigned_Decides}
use Rattle.std.specs.Cmp.Lexicographic.{bytes_decides, pointwise, pointwise_decides}
use Rattle.std.specs.Option.{option_eq}
use Rattle.std.proofs.Common.{ap, refl, rules, subst, sym}
use Rattle.nfs_wire.specs.declared.attributes.DeviceNumber.{DeviceNumber}
use Rattle.nfs_wire.specs.declared.attributes.Time.{Time}
use Rattle.nfs_wire.specs.declared.calls.Verifier.{Verifier}
use Rattle.side_wire.specs.declared.mount.lists.MountBody.{MountBody}
use Rattle.nfs_machine.specs.Bytes.{same_bytes}
use Rattle.nfs_machine.specs.Exports.{LivingExport}
use Rattle.nfs_machine.specs.SameExports.{export_decides}
use Rattle.nfs_machine.specs.State.{Entry}
use Rattle.nlm_ranges.specs.SameLaws.{bucket_decides}
use Rattle.nfs_objects.specs.Bits.{same_bits}
use Rattle.nfs_objects.specs.ExportTables.{ExportTableValue}
use Rattle.nfs_objects.specs.FileMaps.{FileMapValue}
use Rattle.nfs_objects.specs.Same.{same_file_map}
use Rattle.nfs_objects.specs.Same.{same_content, same_device, same_directory, same_entry, same_entry_map}
use Rattle.nfs_objects.specs.Same.{same_exports}
use Rattle.nfs_objects.specs.Same.{same_inode, same_living, same_mode, same_mount, same_number, same_object, same_run}
use Rattle.nfs_objects.specs.Same.{held_value, same_held, same_ownership, same_pair, same_seen, same_time, same_times}
use Rattle.nfs_objects.specs.Same.{same_verifier, same_view}
use Rattle.nfs_objects.specs.Sums.{is_same_usage}
use Rattle.nfs_objects.specs.Values.{Seen, ViewValue, is_addr}
use Rattle.nfs_objects.specs.declared.address.Addr.{Addr}
use Rattle.nfs_objects.specs.declared.address.Addr.TheVariants as addresses
use Rattle.nfs_objects.specs.declared.bits.Bits.{Bits}
use Rattle.nfs_objects.specs.declared.directory.Directory.{Directory}
use Rattle.nfs_objects.specs.declared.entry_map.EntryMap.{EntryMap}
use Rattle.nfs_objects.specs.declared.modes.Mode.{Mode}
use Rattle.nfs_objects.specs.declared.modes.Mode.TheVariants.{Shared, Exclusive}
use Rattle.nfs_objects.specs.declared.object.Content.{Content}
use Rattle.nfs_objects.specs.declared.object.Content.TheVariants as contents
use Rattle.nfs_objects.specs.declared.object.Inode.{Inode}
use Rattle.nfs_objects.specs.declared.object.Object.{Object}
use Rattle.nfs_objects.specs.declared.object.Object.TheVariants as objects
use Rattle.nfs_objects.specs.declared.page_list.PageRun.{PageRun}
use Rattle.nfs_objects.specs.declared.usage.Usage.{Usage}
use Rattle.nfs_objects.specs.declared.view.Entry.{Entry as ViewEntry}
use Rattle.nfs_objects.specs.declared.view.Reserved.{Reserved}

-- a test decides that values are one, if it passes where they are and only there
pub from_self : {X : Type 0} (test : X → X → Bool) → ((a b : X) → test a b ≡ true → a ≡ b) →
    ((a : X) → test a a ≡ true) → (a b : X) → Decides (test a b) (a ≡ b)
from_self test same own a b = (same a b, λ e. subst (λ x. test a x ≡ true) e (own a))

-- so does each answer that is the test's
pub same_as : {P : Type 0} {r test : Bool} → Decides test P → r ≡ test → Decides r P
same_as {P = P} decides is = subst (λ t. Decides t P) (sym is) decides

pub told_so : {X : Type 0} {test : X → X → Bool} → ((a b : X) → Decides (test a b) (a ≡ b)) →
    (r : Bool) (a b : X) → r ≡ test a b → Decides r (a ≡ b)
told_so decides r a b is = same_as (decides a b) is

-- both parts pass
pub both : (a b : Bool) → a ≡ true → b ≡ true → (a && b) ≡ true
both a b x y = λ i. x i && y i

-- ---- numbers, bytes and what is made of them
pub nat_own : (n : ℕ) → (n == n) ≡ true
nat_own n = (unsigned_Decides n n).1 refl

pub bytes_own : (bs : List ℕ) → same_bytes bs bs ≡ true
bytes_own bs = (bytes_decides bs bs).1 refl

pub option_decides : {X : Type 0} {test : X → X → Bool} → ((a b : X) → Decides (test a b) (a ≡ b)) →
    (a b : Option X) → Decides (option_eq test a b) (a ≡ b)
option_decides {test = test} d None None = (λ e. refl, λ e. refl)
option_decides {test = test} d None (Some b) = (λ e. cc, λ e. cc)
option_decides {test = test} d (Some a) None = (λ e. cc, λ e. cc)
option_decides {test = test} d (Some a) (Some b) =
    (λ e. ap Some ((d a b).0 e), λ e. (d a b).1 (let f : a ≡ b = cc in f))

pub time_decides : (a b : Time) → Decides (same_time a b) (a ≡ b)
time_decides = from_self same_time (λ a b e. grind rules) (λ a. both _ _ (nat_own a.seconds) (nat_own a.nanoseconds))

pub device_decides : (a b : DeviceNumber) → Decides (same_device a b) (a ≡ b)
device_decides = from_self same_device (λ a b e. grind rules) (λ a. both _ _ (nat_own a.major) (nat_own a.minor))

pub verifier_decides : (a b : Verifier) → Decides (same_verifier a b) (a ≡ b)
verifier_decides = from_self same_verifier
    (λ a b e. ap (λ bytes. let v : Verifier = record { bytes = bytes } in v) ((bytes_decides a.bytes b.bytes).0 e))
    (λ a. bytes_own a.bytes)

-- ---- directories
entry_same : (a b : Entry) → same_entry a b ≡ true → a ≡ b
entry_same a b e =
    let rest = second_so (same_bytes a.name b.name) _ e in
    λ i. record {
      name = (bytes_decides a.name b.name).0 (first_so (same_bytes a.name b.name) _ e) i;
      number = (unsigned_Decides a.number b.number).0 (first_so (a.number == b.number) _ rest) i;
      cookie = (unsigned_Decides a.cookie b.cookie).0 (second_so (a.number == b.number) _ rest) i;
    }

pub entry_decides : (a b : Entry) → Decides (same_entry a b) (a ≡ b)
entry_decides = from_self same_entry entry_same
    (λ a. both _ _ (bytes_own a.name) (both _ _ (nat_own a.number) (nat_own a.cookie)))

pub entries_decide : (a b : List Entry) → Decides (pointwise same_entry a b) (a ≡ b)
entries_decide = pointwise_decides entry_decides

run_same : (a b : PageRun) → same_run a b ≡ true → a ≡ b
run_same a b e = λ i. record {
  first = (unsigned_Decides a.first b.first).0 (first_so (a.first == b.first) _ e) i;
  last = (unsigned_Decides a.last b.last).0 (second_so (a.first == b.first) _ e) i;
}

run_decides : (a b : PageRun) → Decides (same_run a b) (a ≡ b)
run_decides = from_self same_run run_same (λ a. both _ _ (nat_own a.first) (nat_own a.last))

pub runs_decide : (a b : List PageRun) → Decides (pointwise same_run a b) (a ≡ b)
runs_decide = pointwise_decides run_decides

entry_map_same : (a b : EntryMap) → same_entry_map a b ≡ true → a ≡ b
entry_map_same a b e =
    let rest = second_so (same_bytes a.key b.key) _ e in
    λ i. record {
      key = (bytes_decides a.key b.key).0 (first_so (same_bytes a.key b.key) _ e) i;
      pages = (runs_decide a.pages b.pages).0 (second_so (same_bytes a.counts b.counts) _ rest) i;
      counts = (bytes_decides a.counts b.counts).0 (first_so (same_bytes a.counts b.counts) _ rest) i;
    }

pub entry_map_decides : (a b : EntryMap) → Decides (same_entry_map a b) (a ≡ b)
entry_map_decides = from_self same_entry_map entry_map_same
    (λ a. both _ _ (bytes_own a.key) (both _ _ (bytes_own a.counts) ((runs_decide a.pages a.pages).1 refl)))

directory_same : (a b : Directory) → same_directory a b ≡ true → a ≡ b
directory_same a b e =
    let rest = second_so (a.parent == b.parent) _ e in
    λ i. record {
      parent = (unsigned_Decides a.parent b.parent).0 (first_so (a.parent == b.parent) _ e) i;
      last_cookie = (unsigned_Decides a.last_cookie b.last_cookie).0 (first_so (a.last_cookie == b.last_cookie) _ rest)
          i;
      entries = (entry_map_decides a.entries b.entries).0 (second_so (a.last_cookie == b.last_cookie) _ rest) i;
    }

pub directory_decides : (a b : Directory) → Decides (same_directory a b) (a ≡ b)
directory_decides = from_self same_directory directory_same
    (λ a. both _ _ (nat_own a.parent) (both _ _ (nat_own a.last_cookie)
    ((entry_map_decides a.entries a.entries).1 refl)))

-- ---- contents and inodes
pub bits_decides : (a b : Bits) → Decides (same_bits a b) (a ≡ b)
bits_decides = from_self same_bits
    (λ a b e. ap (λ words. let bits : Bits = record { words = words } in bits) ((bytes_decides a.words b.words).0 e))
    (λ a. bytes_own a.words)

file_map_same : (a b : FileMapValue) → same_file_map a b ≡ true → a ≡ b
file_map_same a b e = λ i. record {
  size = (unsigned_Decides a.size b.size).0 (first_so (a.size == b.size) _ e) i;
  pages = (bits_decides a.pages b.pages).0
      (first_so (same_bits a.pages b.pages) _ (second_so (a.size == b.size) _ e)) i;
  remains = (bits_decides a.remains b.remains).0
      (second_so (same_bits a.pages b.pages) _ (second_so (a.size == b.size) _ e)) i;
}

pub file_map_decides : (a b : FileMapValue) → Decides (same_file_map a b) (a ≡ b)
file_map_decides = from_self same_file_map file_map_same
    (λ a. both _ _ (nat_own a.size)
    (both _ _ ((bits_decides a.pages a.pages).1 refl) ((bits_decides a.remains a.remains).1 refl)))

content_same : (a b : Content) → same_content a b ≡ true → a ≡ b
content_same (contents.Regular a) (contents.Regular b) e = ap contents.Regular ((file_map_decides a b).0 e)
content_same (contents.Directory a) (contents.Directory b) e = ap contents.Directory ((directory_decides a b).0 e)
content_same (contents.Link a) (contents.Link b) e = ap contents.Link ((bytes_decides a b).0 e)
content_same (contents.BlockDevice a) (contents.BlockDevice b) e =
    ap contents.BlockDevice ((device_decides a b).0 e)
content_same (contents.CharacterDevice a) (contents.CharacterDevice b) e =
    ap contents.CharacterDevice ((device_decides a b).0 e)
content_same contents.Socket contents.Socket e = refl
content_same contents.Fifo contents.Fifo e = refl
content_same a b e = cc

content_own : (a : Content) → same_content a a ≡ true
content_own (contents.Regular a) = (file_map_decides a a).1 refl
content_own (contents.Directory a) = (directory_decides a a).1 refl
content_own (contents.Link a) = bytes_own a
content_own (contents.BlockDevice a) = (device_decides a a).1 refl
content_own (contents.CharacterDevice a) = (device_decides a a).1 refl
content_own contents.Socket = refl
content_own contents.Fifo = refl

pub content_decides : (a b : Content) → Decides (same_content a b) (a ≡ b)
content_decides = from_self same_content content_same content_own

module _ (a b : Inode) (e : same_inode a b ≡ true) where
  abbrev behind_export : Bool
  behind_export = a.generation == b.generation && (same_ownership a b && (same_times a b &&
      (option_eq same_verifier a.verifier b.verifier && same_content a.content b.content)))

  abbrev behind_owner : Bool
  behind_owner = same_times a b &&
      (option_eq same_verifier a.verifier b.verifier && same_content a.content b.content)

  from_generation : behind_export ≡ true
  from_generation = second_so (a.export == b.export) behind_export e

  from_owner : (same_ownership a b && behind_owner) ≡ true
  from_owner = second_so (a.generation == b.generation) _ from_generation

  owner : same_ownership a b ≡ true
  owner = first_so (same_ownership a b) behind_owner from_owner

  from_uid : (a.uid == b.uid && (a.gid == b.gid && a.links == b.links)) ≡ true
  from_uid = second_so (a.mode == b.mode) _ owner

  from_gid : (a.gid == b.gid && a.links == b.links) ≡ true
  from_gid = second_so (a.uid == b.uid) _ from_uid

  from_times : behind_owner ≡ true
  from_times = second_so (same_ownership a b) behind_owner from_owner

  times : same_times a b ≡ true
  times = first_so (same_times a b) _ from_times

  from_modified : (same_time a.modified b.modified && same_time a.changed b.changed) ≡ true
  from_modified = second_so (same_time a.accessed b.accessed) _ times

  from_verifier : (option_eq same_verifier a.verifier b.verifier && same_content a.content b.content) ≡ true
  from_verifier = second_so (same_times a b) _ from_times

  inode_same : a ≡ b
  inode_same = λ i. record {
    export = (unsigned_Decides a.export b.export).0 (first_so (a.export == b.export) behind_export e) i;
    generation = (unsigned_Decides a.generation b.generation).0
        (first_so (a.generation == b.generation) _ from_generation) i;
    content = (content_decides a.content b.content).0
        (second_so (option_eq same_verifier a.verifier b.verifier) _ from_verifier) i;
    mode = (unsigned_Decides a.mode b.mode).0 (first_so (a.mode == b.mode) _ owner) i;
    uid = (unsigned_Decides a.uid b.uid).0 (first_so (a.uid == b.uid) _ from_uid) i;
    gid = (unsigned_Decides a.gid b.gid).0 (first_so (a.gid == b.gid) _ from_gid) i;
    links = (unsigned_Decides a.links b.links).0 (second_so (a.gid == b.gid) _ from_gid) i;
    accessed = (time_decides a.accessed b.accessed).0 (first_so (same_time a.accessed b.accessed) _ times) i;
    modified = (time_decides a.modified b.modified).0 (first_so (same_time a.modified b.modified) _ from_modified) i;
    changed = (time_decides a.changed b.changed).0 (second_so (same_time a.modified b.modified) _ from_modified) i;
    verifier = (option_decides verifier_decides a.verifier b.verifier).0
        (first_so (option_eq same_verifier a.verifier b.verifier) _ from_verifier) i;
  }

time_own : (a : Time) → same_time a a ≡ true
time_own a = (time_decides a a).1 refl

inode_own : (a : Inode) → same_inode a a ≡ true
inode_own a =
    both _ _ (nat_own a.export) (both _ _ (nat_own a.generation)
    (both _ _ (both _ _ (nat_own a.mode) (both _ _ (nat_own a.uid) (both _ _ (nat_own a.gid) (nat_own a.links))))
    (both _ _ (both _ _ (time_own a.accessed) (both _ _ (time_own a.modified) (time_own a.changed)))
    (both _ _ ((option_decides verifier_decides a.verifier a.verifier).1 refl) (content_own a.content)))))

pub inode_decides : (a b : Inode) → Decides (same_inode a b) (a ≡ b)
inode_decides = from_self same_inode inode_same inode_own

-- ---- exports and mounts
living_same : (a b : LivingExport) → same_living a b ≡ true → a ≡ b
living_same a b e =
    let rest = second_so (a.number == b.number) _ e in
    λ i. record {
      number = (unsigned_Decides a.number b.number).0 (first_so (a.number == b.number) _ e) i;
      root = (unsigned_Decides a.root b.root).0 (first_so (a.root == b.root) _ rest) i;
      value = (export_decides a.value b.value).0 (second_so (a.root == b.root) _ rest) i;
    }

pub living_decides : (a b : LivingExport) → Decides (same_living a b) (a ≡ b)
living_decides = from_self same_living living_same
    (λ a. both _ _ (nat_own a.number) (both _ _ (nat_own a.root) ((export_decides a.value a.value).1 refl)))

exports_same : (a b : ExportTableValue) → same_exports a b ≡ true → a ≡ b
exports_same a b e = λ i. record {
  exports = (pointwise_decides living_decides a.exports b.exports).0 (second_so (a.last == b.last) _ e) i;
  last = (unsigned_Decides a.last b.last).0 (first_so (a.last == b.last) _ e) i;
}

pub exports_decide : (a b : ExportTableValue) → Decides (same_exports a b) (a ≡ b)
exports_decide = from_self same_exports exports_same
    (λ a. both _ _ (nat_own a.last) ((pointwise_decides living_decides a.exports a.exports).1 refl))

mount_same : (a b : MountBody) → same_mount a b ≡ true → a ≡ b
mount_same a b e = λ i. record {
  hostname = (bytes_decides a.hostname b.hostname).0 (first_so (same_bytes a.hostname b.hostname) _ e) i;
  directory = (bytes_decides a.directory b.directory).0 (second_so (same_bytes a.hostname b.hostname) _ e) i;
}

pub mount_decides : (a b : MountBody) → Decides (same_mount a b) (a ≡ b)
mount_decides = from_self same_mount mount_same (λ a. both _ _ (bytes_own a.hostname) (bytes_own a.directory))

pub mounts_decide : (a b : List MountBody) → Decides (pointwise same_mount a b) (a ≡ b)
mounts_decide = pointwise_decides mount_decides

-- ---- objects
pub usage_decides : (a b : Usage) → Decides (is_same_usage a b) (a ≡ b)
usage_decides = from_self is_same_usage (λ a b e. grind rules)
    (λ a. both _ _ (nat_own a.used) (nat_own a.objects))

object_same : (a b : Object) → same_object a b ≡ true → a ≡ b
object_same (objects.Exports a) (objects.Exports b) e = ap objects.Exports ((exports_decide a b).0 e)
object_same (objects.Inode a) (objects.Inode b) e = ap objects.Inode ((inode_decides a b).0 e)
object_same (objects.Map a) (objects.Map b) e = ap objects.Map ((bits_decides a b).0 e)
object_same (objects.Block a) (objects.Block b) e = ap objects.Block ((bytes_decides a b).0 e)
object_same (objects.Page a) (objects.Page b) e = ap objects.Page ((entries_decide a b).0 e)
object_same (objects.Part a) (objects.Part b) e = ap objects.Part ((entries_decide a b).0 e)
object_same (objects.Mounts a) (objects.Mounts b) e = ap objects.Mounts ((mounts_decide a b).0 e)
object_same (objects.Usage a) (objects.Usage b) e = ap objects.Usage ((usage_decides a b).0 e)
object_same (objects.Locks a) (objects.Locks b) e = ap objects.Locks ((bucket_decides a b).0 e)
object_same a b e = cc

object_own : (a : Object) → same_object a a ≡ true
object_own (objects.Exports a) = (exports_decide a a).1 refl
object_own (objects.Inode a) = (inode_decides a a).1 refl
object_own (objects.Map a) = (bits_decides a a).1 refl
object_own (objects.Block a) = bytes_own a
object_own (objects.Page a) = (entries_decide a a).1 refl
object_own (objects.Part a) = (entries_decide a a).1 refl
object_own (objects.Mounts a) = (mounts_decide a a).1 refl
object_own (objects.Usage a) = (usage_decides a a).1 refl
object_own (objects.Locks a) = (bucket_decides a a).1 refl

pub object_decides : (a b : Object) → Decides (same_object a b) (a ≡ b)
object_decides = from_self same_object object_same object_own

-- ---- views
address_same : (a b : Addr) → is_addr a b ≡ true → a ≡ b
address_same addresses.Exports addresses.Exports e = refl
address_same (addresses.Inode a) (addresses.Inode b) e = ap addresses.Inode ((unsigned_Decides a b).0 e)
address_same (addresses.Map n p) (addresses.Map m q) e = λ i. addresses.Map
    ((unsigned_Decides n m).0 (first_so (n == m) _ e) i) ((unsigned_Decides p q).0 (second_so (n == m) _ e) i)
address_same (addresses.Block n p) (addresses.Block m q) e = λ i. addresses.Block
    ((unsigned_Decides n m).0 (first_so (n == m) _ e) i) ((unsigned_Decides p q).0 (second_so (n == m) _ e) i)
address_same (addresses.Page n p) (addresses.Page m q) e = λ i. addresses.Page
    ((unsigned_Decides n m).0 (first_so (n == m) _ e) i) ((unsigned_Decides p q).0 (second_so (n == m) _ e) i)
address_same (addresses.Part n b p) (addresses.Part m c q) e =
    let rest = second_so (n == m) _ e in λ i. addresses.Part ((unsigned_Decides n m).0 (first_so (n == m) _ e) i)
    ((unsigned_Decides b c).0 (first_so (b == c) _ rest) i) ((unsigned_Decides p q).0 (second_so (b == c) _ rest) i)
address_same addresses.Mounts addresses.Mounts e = refl
address_same (addresses.Usage e g) (addresses.Usage f h) p = λ i. addresses.Usage
    ((unsigned_Decides e f).0 (first_so (e == f) _ p) i) ((unsigned_Decides g h).0 (second_so (e == f) _ p) i)
address_same (addresses.Locks b) (addresses.Locks c) e = ap addresses.Locks ((unsigned_Decides b c).0 e)
address_same a b e = cc

address_own : (a : Addr) → is_addr a a ≡ true
address_own addresses.Exports = refl
address_own (addresses.Inode n) = nat_own n
address_own (addresses.Map n p) = both _ _ (nat_own n) (nat_own p)
address_own (addresses.Block n i) = both _ _ (nat_own n) (nat_own i)
address_own (addresses.Page n p) = both _ _ (nat_own n) (nat_own p)
address_own (addresses.Part n b p) = both _ _ (nat_own n) (both _ _ (nat_own b) (nat_own p))
address_own addresses.Mounts = refl
address_own (addresses.Usage e g) = both _ _ (nat_own e) (nat_own g)
address_own (addresses.Locks b) = nat_own b

pub address_decides : (a b : Addr) → Decides (is_addr a b) (a ≡ b)
address_decides = from_self is_addr address_same address_own

mode_same : (a b : Mode) → same_mode a b ≡ true → a ≡ b
mode_same Shared Shared e = refl
mode_same Exclusive Exclusive e = refl
mode_same a b e = cc

mode_own : (a : Mode) → same_mode a a ≡ true
mode_own Shared = refl
mode_own Exclusive = refl

pub mode_decides : (a b : Mode) → Decides (same_mode a b) (a ≡ b)
mode_decides = from_self same_mode mode_same mode_own

seen_same : (a b : Seen) → same_seen a b ≡ true → a ≡ b
seen_same a b e =
    let rest = second_so (is_addr a.address b.address) _ e in
    λ i. record {
      address = (address_decides a.address b.address).0 (first_so (is_addr a.address b.address) _ e) i;
      mode = (mode_decides a.mode b.mode).0 (first_so (same_mode a.mode b.mode) _ rest) i;
      object = (option_decides object_decides a.object b.object).0 (second_so (same_mode a.mode b.mode) _ rest) i;
    }

pub seen_decides : (a b : Seen) → Decides (same_seen a b) (a ≡ b)
seen_decides = from_self same_seen seen_same
    (λ a. both _ _ (address_own a.address) (both _ _ (mode_own a.mode)
    ((option_decides object_decides a.object a.object).1 refl)))

pair_same : (a b : Mode × Option Object) → same_pair a b ≡ true → a ≡ b
pair_same a b e = λ i. (
  (mode_decides a.0 b.0).0 (first_so (same_mode a.0 b.0) _ e) i,
  (option_decides object_decides a.1 b.1).0 (second_so (same_mode a.0 b.0) _ e) i,
)

pub pair_decides : (a b : Mode × Option Object) → Decides (same_pair a b) (a ≡ b)
pair_decides = from_self same_pair pair_same
    (λ a. both _ _ (mode_own a.0) ((option_decides object_decides a.1 a.1).1 refl))

pub held_equivalence : IsEquivalence same_held
held_equivalence = on_equiv held_value (decided same_pair pair_decides)

-- entries are the same where both parts are
pub held_decides : (a b : ViewEntry) → Decides (same_held a b)
    ((a.mode ≡ b.mode) × (option_map arc_value a.object ≡ option_map arc_value b.object))
held_decides a b =
    let d = pair_decides (held_value a) (held_value b) in
    (λ e. (ap (λ p. p.0) (d.0 e), ap (λ p. p.1) (d.0 e)), λ e. d.1 (λ i. (e.0 i, e.1 i)))

pub number_decides : (a b : Reserved) → Decides (same_number a b) (a ≡ b)
number_decides = from_self same_number (λ a b e. grind rules)
    (λ a. both _ _ (nat_own a.number) (nat_own a.generation))

view_same : (a b : ViewValue) → same_view a b ≡ true → a ≡ b
view_same a b e = λ i. record {
  entries = (pointwise_decides seen_decides a.entries b.entries).0
      (second_so (pointwise same_number a.reserved b.reserved) _ e) i;
  reserved = (pointwise_decides number_decides a.reserved b.reserved).0
      (first_so (pointwise same_number a.reserved b.reserved) _ e) i;
}

pub view_decides : (a b : ViewValue) → Decides (same_view a b) (a ≡ b)
view_decides = from_self same_view view_same
    (λ a. both _ _ ((pointwise_decides number_decides a.reserved a.reserved).1 refl)
    ((pointwise_decides seen_decides a.entries a.entries).1 refl))
