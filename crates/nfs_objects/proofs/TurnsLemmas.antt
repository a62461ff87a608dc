-- What one write of an inode does to what the store stands for.
use Rattle.std.proofs.Common.{◌≡◌, ◌==◌, ℕ, ◌<◌, ◌≤◌, ◌/◌, ◌%◌, Bool, true, false, cond, option_map, [], replicate}
use Rattle.std.proofs.Common.{◌||◌, ◌&&◌, ◌⊎◌, ◌^◌, max}
use Rattle.std.proofs.Common.{nat_le, List, Option, Some, None, IsSome, inl, inr, refl, sym, ◌∙◌, ap, subst, arith}
use Rattle.std.specs.Prelude.{IfSome}
use Rattle.std.proofs.Math.Bool.{or-false}
use Rattle.std.proofs.Math.Nat.{le-max_left, le-max_right}
use Rattle.std.proofs.lemmas.Bool.{and_parts, le-leb, lt-leb}
use Rattle.std.proofs.lemmas.Bool.Decides.{leb_tells}
use Rattle.std.specs.Cmp.{nat_eq_equiv, unsigned_Decides}
use Rattle.std.specs.FinMap.{FinMap, get, insert, remove}
use Rattle.std.specs.Ordering.{nat_cmp}
use Rattle.side_wire.specs.declared.mount.lists.MountBody.{MountBody}
use Rattle.nfs_machine.proofs.MapChangeLemmas.{differs-remove}
use Rattle.nfs_machine.proofs.MapSumLemmas.{get-inserted}
use Rattle.nfs_machine.specs.Exports.{LivingExport}
use Rattle.nfs_machine.specs.Attributes.{size_of}
use Rattle.nfs_machine.specs.State.{Living, Lock, PendingGrant, Request, Share, State}
use Rattle.nfs_machine.specs.State as machine
use Rattle.nlm_ranges.specs.Buckets.{bucket_count, file_in}
use Rattle.nfs_objects.proofs.StandsInExportLemmas.{inode-lives}
use Rattle.nfs_objects.proofs.SeenLemmas.{known-stands, writes-append}
use Rattle.nfs_objects.proofs.BitSetLemmas.{has-none}
use Rattle.nfs_objects.proofs.ContentLemmas.{content-new}
use Rattle.nfs_objects.proofs.DirectoryStoreLemmas.{directories-put, directories-stay, no-entries}
use Rattle.nfs_objects.proofs.FileStoreLemmas.{HasContent, HasListing, alone-is, beside_of, bytes-own, files-put}
use Rattle.nfs_objects.proofs.FileStoreLemmas.{files-stay}
use Rattle.nfs_objects.proofs.FileStoreLemmas.{living-own, living_beside, living_bytes, living_entries, stands-but}
use Rattle.nfs_objects.proofs.LocksStandLemmas.{KeepsFile, files-same, keeps-put, keeps-same, locks-gone, locks-stay}
use Rattle.nfs_objects.proofs.LocksStandLemmas.{none-listed}
use Rattle.nfs_objects.specs.Bits.{has, no_bits}
use Rattle.nfs_objects.specs.Directories.{no_entries}
use Rattle.nfs_objects.specs.FileMaps.{FileMapValue, IsContent}
use Rattle.nfs_objects.specs.Stands.{Beside, HasEntries, HoldsEntries, StandDirectories, StandEntries, beside_at}
use Rattle.nfs_objects.specs.Stands.{directory_entries, entries_at, entry_map_in, entry_map_of, filled}
use Rattle.nfs_objects.specs.Unfiled.{RepresentsBut}
use Rattle.nfs_objects.specs.declared.object.Content.{Content}
use Rattle.nfs_objects.specs.declared.object.Content.TheVariants as contents
use Rattle.nfs_objects.specs.Edits.{edited, freed, recounted, set_at, with_living, with_mounts, with_new}
use Rattle.nfs_objects.specs.Fits.{Fits}
use Rattle.nfs_objects.specs.Knows.{ShowsExport, Turns, TurnsWhere}
use Rattle.nfs_objects.specs.Stands.{IsFitting, StoreMeaning, Represents, counts, inode_in, inode_there, links_kept}
use Rattle.nfs_objects.specs.Stands.{lives_in}
use Rattle.nfs_objects.specs.Stands.{HasBlocks, IsMapped, IsStored, StandFiles, bytes_at, file_bytes, content_of}
use Rattle.nfs_objects.specs.Stands.{file_of, living_in}
use Rattle.nfs_objects.specs.Stands.{filed_in, map_in, map_of, living_alone, pages_of, stored_in}
use Rattle.nfs_objects.specs.Stands.{StandLocks, StandObjects, StandTables, bucket_there, export_table_of, exports_of}
use Rattle.nfs_objects.specs.Stands.{living_of_inode}
use Rattle.nfs_objects.specs.Stands.{mounts_of, parent_in, parent_kept}
use Rattle.nfs_objects.specs.Store.{Store, give, put_at, with_write, with_writes}
use Rattle.nfs_objects.specs.Sums.{exchanged, exchanged_at, group_of, in_export, is_none, is_same_usage}
use Rattle.nfs_objects.specs.Sums.{moved, no_usage, stored_usage, usage_of}
use Rattle.nfs_objects.specs.Values.{DraftValue, known_at, with_written}
use Rattle.nfs_objects.specs.declared.address.Addr.{Addr}
use Rattle.nfs_objects.specs.declared.address.Addr.TheVariants as addresses
use Rattle.nfs_objects.specs.declared.object.Inode.{Inode}
use Rattle.nfs_objects.specs.declared.object.Object.{Object}
use Rattle.nfs_objects.specs.declared.object.Object.TheVariants as objects
use Rattle.nfs_objects.specs.declared.usage.Usage.{Usage}

-- what stands where an inode was put
lives-put : (exports : List LivingExport) (at : Addr → Option Object) (living : FinMap nat_cmp Living) (number : ℕ)
    (i : Inode) (beside : Beside) → lives_in exports i.export ≡ true
    → ((n : ℕ) → get living n ≡ living_in exports (living_beside (get living n)) (at (addresses.Inode n)))
    → (n : ℕ) → get (insert living number (living_of_inode beside i)) n ≡ living_in exports
    (living_beside (get (insert living number (living_of_inode beside i)) n))
    (put_at at (addresses.Inode number) (Some (objects.Inode i)) (addresses.Inode n))
lives-put exports at living number i beside lives stands n =
    subst (λ g. g ≡ living_in exports (living_beside g)
    (put_at at (addresses.Inode number) (Some (objects.Inode i)) (addresses.Inode n)))
    (sym (get-inserted living number new n
    ∙ ap (λ b. cond b (Some new) (get living n)) (nat_eq_equiv.symm n number)))
    (elim (number == n) as (λ b. cond b (Some new) (get living n) ≡ living_in exports
    (living_beside (cond b (Some new) (get living n))) (cond b (Some (objects.Inode i)) (at (addresses.Inode n)))) [
      | true ↦ ap Some (sym (living-own beside i))
          ∙ sym (ap (option_map (living_of_inode (beside_of new.content))) (inode-lives exports i lives))
      | false ↦ stands n
    ])
  where
    new : Living
    new = living_of_inode beside i

-- the bytes of other files stay, and those of the file at a number are these
bytes-there : (living : FinMap nat_cmp Living) (number : ℕ) (o : Living) (n : ℕ) → (number == n) ≡ false →
    living_bytes (get (insert living number o) n) ≡ living_bytes (get living n)
bytes-there living number o n other =
    ap living_bytes (get-inserted living number o n
    ∙ ap (λ b. cond b (Some o) (get living n)) (nat_eq_equiv.symm n number ∙ other))

bytes-here : (living : FinMap nat_cmp Living) (number : ℕ) (o : Living) →
    living_bytes (get (insert living number o) number) ≡ file_bytes o.content
bytes-here living number o =
    ap living_bytes (get-inserted living number o number
    ∙ ap (λ b. cond b (Some o) (get living number)) ((unsigned_Decides number number).1 refl))

-- and so do the entries of other directories, and those of the directory at a number are these
entries-there : (living : FinMap nat_cmp Living) (number : ℕ) (o : Living) (n : ℕ) → (number == n) ≡ false →
    living_entries (get (insert living number o) n) ≡ living_entries (get living n)
entries-there living number o n other =
    ap living_entries (get-inserted living number o n
    ∙ ap (λ b. cond b (Some o) (get living n)) (nat_eq_equiv.symm n number ∙ other))

entries-here : (living : FinMap nat_cmp Living) (number : ℕ) (o : Living) →
    living_entries (get (insert living number o) number) ≡ directory_entries o.content
entries-here living number o =
    ap living_entries (get-inserted living number o number
    ∙ ap (λ b. cond b (Some o) (get living number)) ((unsigned_Decides number number).1 refl))

-- a function of what stands at each number, after a write at one
kept-put : (f : Option Object → ℕ) (at : Addr → Option Object) (kept : ℕ → ℕ) (number : ℕ)
    (o : Option Object) (value : ℕ) → f o ≡ value → ((n : ℕ) → kept n ≡ f (at (addresses.Inode n)))
    → (n : ℕ) → set_at kept number value n ≡ f (put_at at (addresses.Inode number) o (addresses.Inode n))
kept-put f at kept number o value is was n =
    elim (number == n) as (λ b. cond b value (kept n) ≡ f (cond b o (at (addresses.Inode n))))
    [ true ↦ sym is | false ↦ was n ]

-- what an inode keeps, where its export lives
module _ (k : StoreMeaning) (s : Store) (n : ℕ) (i : Inode) (lives : lives_in k.state.exports i.export ≡ true)
    (stands : RepresentsBut n s k) where
  links-put : (q : ℕ) → set_at k.links n i.links q ≡ links_kept
      (inode_in k.state.exports (put_at s.at (addresses.Inode n) (Some (objects.Inode i)) (addresses.Inode q)))
  links-put = kept-put (λ o. links_kept (inode_in k.state.exports o)) s.at k.links n (Some (objects.Inode i)) i.links
      (ap links_kept (inode-lives k.state.exports i lives)) stands.objects.links

  parents-put : (q : ℕ) → set_at k.parents n (parent_in i.content) q ≡ parent_kept
      (inode_in k.state.exports (put_at s.at (addresses.Inode n) (Some (objects.Inode i)) (addresses.Inode q)))
  parents-put = kept-put (λ o. parent_kept (inode_in k.state.exports o)) s.at k.parents n (Some (objects.Inode i))
      (parent_in i.content) (ap parent_kept (inode-lives k.state.exports i lives)) stands.objects.parents

-- the generation of what stands somewhere is among those given
given-put : (s : Store) (number : ℕ) (new : Inode) (last : ℕ → ℕ) →
    ((n : ℕ) (i : Inode) → s.at (addresses.Inode n) ≡ Some (objects.Inode i) → i.generation ≤ s.last n)
    → ((n : ℕ) → s.last n ≤ last n) → new.generation ≤ last number
    → (n : ℕ) (i : Inode) → put_at s.at (addresses.Inode number) (Some (objects.Inode new))
    (addresses.Inode n) ≡ Some (objects.Inode i) → i.generation ≤ last n
given-put s number new last given more here n i at =
    elim (number == n) as (λ b. (number == n) ≡ b → cond b (Some (objects.Inode new))
    (s.at (addresses.Inode n)) ≡ Some (objects.Inode i) → i.generation ≤ last n) [
      | true ↦ λ same is. (let e : new ≡ i = cc in
          subst (λ (j : Inode). j.generation ≤ last n) e
          (subst (λ q. new.generation ≤ last q) ((unsigned_Decides number n).0 same) here))
      | false ↦ λ other is. (let a = given n i is in let b = more n in omega (arith, a, b))
    ] refl at

last-kept : (last : ℕ → ℕ) (number generation n : ℕ) → generation ≤ last number →
    cond (number == n) (max (last n) generation) (last n) ≡ last n
last-kept last number generation n within =
    elim (number == n) as (λ b. (number == n) ≡ b → cond b (max (last n) generation) (last n) ≡ last n) [
      | true ↦ λ e. (let w : generation ≤ last n = subst (λ k. generation ≤ last k)
          ((unsigned_Decides number n).0 e) within in omega (arith, w))
      | false ↦ λ e. refl
    ] refl

-- what stands somewhere fits
fits-put : (at : Addr → Option Object) (number : ℕ) (new : Inode) →
    ((n : ℕ) (i : Inode) → at (addresses.Inode n) ≡ Some (objects.Inode i) → IsFitting n i)
    → IsFitting number new
    → (n : ℕ) (i : Inode) → put_at at (addresses.Inode number) (Some (objects.Inode new))
    (addresses.Inode n) ≡ Some
    (objects.Inode i) → IsFitting n i
fits-put at number new fits here n i is =
    elim (number == n) as (λ b. (number == n) ≡ b
    → cond b (Some (objects.Inode new)) (at (addresses.Inode n)) ≡ Some
    (objects.Inode i) → IsFitting n i) [
      | true ↦ λ same there. (let e : new ≡ i = cc in
          subst (IsFitting n) e (subst (λ q. IsFitting q new) ((unsigned_Decides number n).0 same) here))
      | false ↦ λ other there. fits n i there
    ] refl is

-- ---- parts that a change leaves
abbrev tables_in : Store → State → Option Object × Option Object × List LivingExport × ℕ × List MountBody
tables_in s m = (s.at addresses.Exports, s.at addresses.Mounts, m.exports, m.last_export, m.mounts)

tables-stay : (s t : Store) (m n : State) → tables_in t n ≡ tables_in s m → StandTables s m → StandTables t n
tables-stay s t m n same stand = record {
  table = subst (λ o. IsSome o) (sym (ap (λ x. x.0) same)) stand.table;
  exports = ap (λ x. x.2) same ∙ stand.exports ∙ ap (λ x. exports_of x.0) (sym same);
  last_export = ap (λ x. x.3) same ∙ stand.last_export ∙ ap (λ x. (export_table_of x.0).last) (sym same);
  mounts = ap (λ x. x.4) same ∙ stand.mounts ∙ ap (λ x. mounts_of x.1) (sym same);
}

abbrev objects_in : Store → StoreMeaning → (ℕ → Option Object) × (ℕ → ℕ) × List LivingExport × FinMap nat_cmp Living ×
    (ℕ → ℕ) × (ℕ → ℕ) × (ℕ → ℕ → Bool) × ℕ
objects_in s k = (
  λ n. s.at (addresses.Inode n),
  s.last,
  k.state.exports,
  k.state.objects,
  k.links,
  k.parents,
  k.state.spent,
  k.state.last_export,
)

objects-stay : (s t : Store) (k l : StoreMeaning) → objects_in t l ≡ objects_in s k → StandObjects s k
    → StandObjects t l
objects-stay s t k l same stand = record {
  objects = λ n.
      ap (λ x. get x.3 n) same ∙ stand.objects n ∙ ap (λ x. living_in x.2 (living_beside (get x.3 n)) (x.0 n))
      (sym same);
  links = λ n.
      ap (λ x. x.4 n) same ∙ stand.links n ∙ ap (λ x. links_kept (inode_in x.2 (x.0 n))) (sym same);
  parents = λ n.
      ap (λ x. x.5 n) same ∙ stand.parents n ∙ ap (λ x. parent_kept (inode_in x.2 (x.0 n))) (sym same);
  given = λ n i at.
      subst (λ x. i.generation ≤ x.1 n) (sym same) (stand.given n i (ap (λ x. x.0 n) (sym same) ∙ at));
  fits = λ n i at. stand.fits n i (ap (λ x. x.0 n) (sym same) ∙ at);
  spent = λ n g. ap (λ x. x.6 n g) same ∙ stand.spent n g ∙ ap (λ x. nat_le g (x.1 n)) (sym same);
  numbered = λ n i at. subst (λ x. (lives_in x.2 i.export ≡ true) ⊎ (i.export ≤ x.7)) (sym same)
      (stand.numbered n i (ap (λ x. x.0 n) (sym same) ∙ at));
}

-- what stands somewhere is of an export that is numbered
numbered-put : (m : State) (at : Addr → Option Object) (number : ℕ) (new : Inode) →
    ((n : ℕ) (i : Inode) → at (addresses.Inode n) ≡ Some (objects.Inode i) →
    (lives_in m.exports i.export ≡ true) ⊎ (i.export ≤ m.last_export)) → lives_in m.exports new.export ≡ true
    → (n : ℕ) (i : Inode) → put_at at (addresses.Inode number) (Some (objects.Inode new)) (addresses.Inode n) ≡ Some
    (objects.Inode i) → (lives_in m.exports i.export ≡ true) ⊎ (i.export ≤ m.last_export)
numbered-put m at number new numbered here n i is =
    elim (number == n) as (λ b. cond b (Some (objects.Inode new)) (at (addresses.Inode n)) ≡ Some (objects.Inode i) →
    (lives_in m.exports i.export ≡ true) ⊎ (i.export ≤ m.last_export)) [
      | true ↦ λ there. (let e : new ≡ i = cc in inl (subst (λ (x : Inode). lives_in m.exports x.export ≡ true) e here))
      | false ↦ λ there. numbered n i there
    ] is

-- the files of the store where an inode was put
put-files : (s : Store) (k : StoreMeaning) (n : ℕ) (i : Inode) (beside : Beside) (last : ℕ → ℕ) → RepresentsBut n s k
    → HasBlocks s n (pages_of (Some (objects.Inode i))) → HasContent s n beside.bytes i
    → lives_in k.state.exports i.export ≡ true
    → (l : StoreMeaning) → l.state.exports ≡ k.state.exports
    → l.state.objects ≡ insert k.state.objects n (living_of_inode beside i)
    → StandFiles (record { at = put_at s.at (addresses.Inode n) (Some (objects.Inode i)); last = last }) l
put-files s k n i beside last stands filed content lives l exports living =
    files-put s k n (Some (objects.Inode i)) last stands.files filed l exports
    (λ q other. ap (λ m. living_bytes (get m q)) living ∙ bytes-there k.state.objects n new q other)
    (λ j there map is.
    let same : i ≡ j = one (sym (inode-lives l.state.exports i (ap (λ es. lives_in es i.export) exports ∙ lives))
    ∙ there) in
    let was : map_in i.content ≡ Some map = ap (λ (x : Inode). map_in x.content) same ∙ is in
    subst (IsContent map.size (λ b. filed_in map b (s.at (addresses.Block n b))))
    (sym (ap (λ m. living_bytes (get m n)) living ∙ bytes-here k.state.objects n new
    ∙ bytes-own beside i.content map was))
    (content map was))
  where
    new : Living
    new = living_of_inode beside i

    one : {a b : Inode} → Some a ≡ Some b → a ≡ b
    one e = cc

-- the directories of the store where an inode was put
put-directories : (s : Store) (k : StoreMeaning) (n : ℕ) (i : Inode) (beside : Beside) (last : ℕ → ℕ)
    → RepresentsBut n s k
    → HasListing s n beside.entries i → (l : StoreMeaning) → l.state.exports ≡ k.state.exports
    → l.state.objects ≡ insert k.state.objects n (living_of_inode beside i)
    → StandDirectories (record { at = put_at s.at (addresses.Inode n) (Some (objects.Inode i)); last = last }) l
put-directories s k n i beside last stands listing l exports living =
    directories-put s k n (Some (objects.Inode i)) last stands.directories (directory_entries new.content)
    (held i.content listing) l exports
    (λ q other. ap (λ m. living_entries (get m q)) living ∙ entries-there k.state.objects n new q other)
    (λ there. sym (ap (λ m. living_entries (get m n)) living ∙ entries-here k.state.objects n new))
  where
    new : Living
    new = living_of_inode beside i

    held : (c : Content) → HoldsEntries s n (entry_map_in c) beside.entries →
        HoldsEntries s n (entry_map_in c) (directory_entries (filled beside (content_of c)))
    held (contents.Regular map) holds = holds
    held (contents.Directory directory) holds = holds
    held (contents.Link text) holds = holds
    held (contents.BlockDevice device) holds = holds
    held (contents.CharacterDevice device) holds = holds
    held contents.Socket holds = holds
    held contents.Fifo holds = holds

-- an inode is put, where what stands beside it is as it says, and is this
pub put-stands : (s : Store) (k : StoreMeaning) (n : ℕ) (i : Inode) (beside : Beside) → RepresentsBut n s k
    → HasBlocks s n (pages_of (Some (objects.Inode i))) → HasContent s n beside.bytes i
    → HasListing s n beside.entries i → i.generation ≤ s.last n
    → IsFitting n i → lives_in k.state.exports i.export ≡ true → KeepsFile s n i
    → Represents (with_write s (addresses.Inode n) (Some (objects.Inode i)))
    (with_living k n (living_of_inode beside i) i.links (parent_in i.content))
put-stands s k n i beside stands filed content listing within fits lives keeps = record {
  tables = tables-stay s _ k.state _ refl stands.tables;
  objects = record {
    objects = lives-put k.state.exports s.at k.state.objects n i beside lives stands.objects.objects;
    links = links-put k s n i lives stands;
    parents = parents-put k s n i lives stands;
    given = given-put s n i (give s.last (addresses.Inode n) (Some (objects.Inode i))) stands.objects.given
        (λ q. (let e = last-kept s.last n i.generation q within in omega (arith, e)))
        (let e = last-kept s.last n i.generation n within in omega (arith, e, within));
    fits = fits-put s.at n i stands.objects.fits fits;
    numbered = numbered-put k.state s.at n i stands.objects.numbered lives;
    spent = λ q g.
        stands.objects.spent q g ∙ ap (λ l. nat_le g l) (sym (last-kept s.last n i.generation q within));
  };
  files = put-files s k n i beside (give s.last (addresses.Inode n) (Some (objects.Inode i))) stands filed content lives
      (with_living k n (living_of_inode beside i) i.links (parent_in i.content)) refl refl;
  directories = put-directories s k n i beside (give s.last (addresses.Inode n) (Some (objects.Inode i))) stands listing
      (with_living k n (living_of_inode beside i) i.links (parent_in i.content)) refl refl;
  usages = record { usage = stands.usages.usage };
  locks = locks-stay s _ k.state _ refl
      (keeps-put s n i (give s.last (addresses.Inode n) (Some (objects.Inode i))) keeps)
      stands.locks;
}

-- what an inode tells at each number, where another one is put that tells the same at one
told-same : {X : Type 0} (f : Option Object → ℕ → X) (at : Addr → Option Object) (n : ℕ) (i j : Inode)
    → at (addresses.Inode n) ≡ Some (objects.Inode i) → f (Some (objects.Inode i)) n ≡ f (Some (objects.Inode j)) n
    → (q : ℕ) → f (at (addresses.Inode q)) q
    ≡ f (put_at at (addresses.Inode n) (Some (objects.Inode j)) (addresses.Inode q)) q
told-same f at n i j stands same q =
    elim (n == q) as (λ b. (n == q) ≡ b → f (at (addresses.Inode q)) q
    ≡ f (cond b (Some (objects.Inode j)) (at (addresses.Inode q))) q) [
      | true ↦ λ here. subst (λ x. f (at (addresses.Inode x)) x ≡ f (Some (objects.Inode j)) x)
          ((unsigned_Decides n q).0 here) (ap (λ o. f o n) stands ∙ same)
      | false ↦ λ there. refl
    ] refl

-- a living file's inode is put that tells of other map pages, with which it has the same bytes: what the store stands
-- for stays
pub refiled : (s : Store) (k : StoreMeaning) (n : ℕ) (i : Inode) (map left : FileMapValue) → RepresentsBut n s k
    → s.at (addresses.Inode n) ≡ Some (objects.Inode i) → i.content ≡ contents.Regular map → left.size ≡ map.size
    → lives_in k.state.exports i.export ≡ true → HasBlocks s n left.pages
    → IsContent left.size (λ b. filed_in left b (s.at (addresses.Block n b))) (bytes_at k.state n)
    → HoldsEntries s n None (entries_at k.state n)
    → Represents (with_write s (addresses.Inode n)
    (Some (objects.Inode (record i { content = contents.Regular left }))))
    k
refiled s k n i map left stands at regular sized lives filed content bare = record {
  tables = tables-stay s _ k.state k.state refl stands.tables;
  objects = record {
    objects = λ q. stands.objects.objects q
        ∙ told-same (λ o x. living_in k.state.exports (beside_at k.state x) o) s.at n i j at
        alive q;
    links = λ q. stands.objects.links q
        ∙ told-same (λ o x. links_kept (inode_in k.state.exports o)) s.at n i j at
        (ap links_kept (inode-lives k.state.exports i lives)
        ∙ sym (ap links_kept (inode-lives k.state.exports j lives))) q;
    parents = λ q. stands.objects.parents q
        ∙ told-same (λ o x. parent_kept (inode_in k.state.exports o)) s.at n i j at
        (ap parent_kept (inode-lives k.state.exports i lives) ∙ ap parent_in regular
        ∙ sym (ap parent_kept (inode-lives k.state.exports j lives))) q;
    given = given-put s n j last stands.objects.given (λ q. (let e = last-same q in omega (arith, e)))
        (let e = last-same n in let w : i.generation ≤ last n = omega (arith, e, within) in w);
    fits = fits-put s.at n j stands.objects.fits fitting;
    numbered = numbered-put k.state s.at n j stands.objects.numbered lives;
    spent = λ q g.
        stands.objects.spent q g ∙ ap (λ l. nat_le g l) (sym (last-same q));
  };
  files = files-put s k n (Some (objects.Inode j)) last stands.files filed k refl (λ q other. refl)
      (λ x there m is.
      let same : j ≡ x = one (sym (inode-lives k.state.exports j lives) ∙ there) in
      let own : Some left ≡ Some m = ap (λ (y : Inode). map_in y.content) same ∙ is in
      subst (λ (y : FileMapValue). IsContent y.size (λ b. filed_in y b (s.at (addresses.Block n b)))
      (bytes_at k.state n)) (let e : left ≡ m = cc in e) content);
  directories = directories-put s k n (Some (objects.Inode j)) last stands.directories (entries_at k.state n)
      bare k refl
      (λ q other. refl) (λ there. refl);
  usages = record { usage = stands.usages.usage };
  locks = locks-stay s _ k.state k.state refl (keeps-put s n j last (keeps-same s n i j at refl (λ some. refl)))
      stands.locks;
}
  where
    j : Inode
    j = record i { content = contents.Regular left }

    last : ℕ → ℕ
    last = give s.last (addresses.Inode n) (Some (objects.Inode j))

    within : i.generation ≤ s.last n
    within = stands.objects.given n i at

    last-same : (q : ℕ) → last q ≡ s.last q
    last-same q = last-kept s.last n i.generation q within

    one : {a b : Inode} → Some a ≡ Some b → a ≡ b
    one e = cc

    -- the same lives there
    alive : living_in k.state.exports (beside_at k.state n) (Some (objects.Inode i)) ≡
        living_in k.state.exports (beside_at k.state n) (Some (objects.Inode j))
    alive = ap (option_map (living_of_inode (beside_at k.state n))) (inode-lives k.state.exports i lives)
        ∙ (λ p. Some (record (living_of_inode (beside_at k.state n) i)
        { content = ap (λ c. filled (beside_at k.state n) (content_of c)) regular p }))
        ∙ sym (ap (option_map (living_of_inode (beside_at k.state n))) (inode-lives k.state.exports j lives))

    fitting : IsFitting n j
    fitting =
        let was = stands.objects.fits n i at in
        let small : size_of (content_of (contents.Regular map)) < 2 ^ 63 =
        subst (λ c. size_of (content_of c) < 2 ^ 63) regular was.1 in
        (was.0, subst (λ z. size_of (machine.Regular (replicate z 0)) < 2 ^ 63) (sym sized) small)

get-removed : (living : FinMap nat_cmp Living) (number n : ℕ) →
    get (remove living number) n ≡ cond (number == n) None (get living n)
get-removed living number n = differs-remove living number n ∙ ap (λ b. cond b None (get living n))
    (nat_eq_equiv.symm n number)

pub free-stands : (s : Store) (k : StoreMeaning) (n : ℕ) → RepresentsBut n s k → HasBlocks s n no_bits →
    HoldsEntries s n None [] → file_in (bucket_there s (n % bucket_count)) n ≡ None →
    Represents (with_write s (addresses.Inode n) None) (freed k n)
free-stands s k n stands filed emptied unlocked = record {
  tables = tables-stay s _ k.state _ refl stands.tables;
  objects = record {
    objects = λ q. subst
        (λ g. g ≡ living_in k.state.exports (living_beside g) (cond (n == q) None (s.at (addresses.Inode q))))
        (sym (get-removed k.state.objects n q))
        (elim (n == q) as (λ b. cond b None (get k.state.objects q) ≡ living_in k.state.exports
        (living_beside (cond b None (get k.state.objects q))) (cond b None (s.at (addresses.Inode q))))
        [ true ↦ refl | false ↦ stands.objects.objects q ]);
    links = kept-put (λ o. links_kept (inode_in k.state.exports o)) s.at k.links n None 0 refl stands.objects.links;
    parents =
        kept-put (λ o. parent_kept (inode_in k.state.exports o)) s.at k.parents n None 0 refl stands.objects.parents;
    given = λ q i at. elim (n == q) as (λ b. cond b None (s.at (addresses.Inode q)) ≡ Some (objects.Inode i) →
        i.generation ≤ s.last q) [ true ↦ λ e. cc | false ↦ λ e. stands.objects.given q i e ] at;
    fits = λ q i at. elim (n == q) as (λ b. cond b None (s.at (addresses.Inode q)) ≡ Some (objects.Inode i) →
        IsFitting q i) [ true ↦ λ e. cc | false ↦ λ e. stands.objects.fits q i e ] at;
    numbered = λ q i at. elim (n == q) as (λ b. cond b None (s.at (addresses.Inode q)) ≡ Some (objects.Inode i) →
        (lives_in k.state.exports i.export ≡ true) ⊎ (i.export ≤ k.state.last_export))
        [ true ↦ λ e. cc | false ↦ λ e. stands.objects.numbered q i e ] at;
    spent = stands.objects.spent;
  };
  files = files-put s k n None s.last stands.files filed (freed k n) refl
      (λ q other. ap living_bytes (get-removed k.state.objects n q
      ∙ ap (λ b. cond b None (get k.state.objects q)) other))
      (λ i there. cc);
  directories = directories-put s k n None s.last stands.directories [] emptied (freed k n) refl
      (λ q other. ap living_entries (get-removed k.state.objects n q
      ∙ ap (λ b. cond b None (get k.state.objects q)) other))
      (λ there. cc);
  usages = record { usage = stands.usages.usage };
  locks = locks-gone s _ k.state _ n unlocked stands.locks refl (λ q i other at.
      ap (λ b. cond b None (s.at (addresses.Inode q))) (nat_eq_equiv.symm n q ∙ other) ∙ at);
}

-- at most the greater of two is at most one of them
below_max : (g a b : ℕ) → (nat_le g a || nat_le g b) ≡ nat_le g (max a b)
below_max g a b = elim (leb_tells g a) [
  | inl x ↦ ap (λ t. t || nat_le g b) x.0 ∙ sym (le-leb g (max a b) (le_trans g a (max a b) x.1 (le-max_left a b)))
  | inr x ↦ ap (λ t. t || nat_le g b) x.0 ∙ elim (leb_tells g b) [
    | inl y ↦ y.0 ∙ sym (le-leb g (max a b) (le_trans g b (max a b) y.1 (le-max_right a b)))
    | inr y ↦ y.0 ∙ sym (lt-leb g (max a b) (max-lt a b g x.1 y.1))
  ]
]
  where
    le_trans : (x y z : ℕ) → x ≤ y → y ≤ z → x ≤ z
    le_trans x y z h k = omega (arith, h, k)

    max-lt : (x y z : ℕ) → x < z → y < z → max x y < z
    max-lt x y z h k = omega (arith, h, k)

-- no block stands where no inode does
nothing-stored : (s : Store) (k : StoreMeaning) (n : ℕ) → Represents s k → s.at (addresses.Inode n) ≡ None →
    (i : ℕ) → stored_in (s.at (addresses.Block n i)) ≡ []
nothing-stored s k n stands vacant i =
    let mapped : IsMapped false (s.at (addresses.Map n (i / 512))) =
    subst (λ b. IsMapped b (s.at (addresses.Map n (i / 512)))) (ap (λ o. has (pages_of o) (i / 512)) vacant
    ∙ has-none (i / 512)) ((stands.files.blocks n).maps (i / 512)) in
    let none : IsStored false (s.at (addresses.Block n i)) =
    subst (λ b. IsStored b (s.at (addresses.Block n i))) (ap (λ o. has (map_of o) (i % 512)) mapped
    ∙ has-none (i % 512)) ((stands.files.blocks n).blocks i) in
    ap stored_in none

-- a file has nothing of a block that has none
pub filed-none : (map : FileMapValue) (b : ℕ) (o : Option Object) → stored_in o ≡ [] → filed_in map b o ≡ []
filed-none map b o none = elim (has map.remains (b / 512)) as (λ t. cond t [] (stored_in o) ≡ [])
    [ true ↦ refl | false ↦ none ]

-- the bytes of a new file
new-content : (s : Store) (n : ℕ) (i : Inode) → ((b : ℕ) → stored_in (s.at (addresses.Block n b)) ≡ []) →
    HasContent s n (file_bytes (content_of i.content)) i
new-content s n i none map is = by i.content is
  where
    by : (c : Content) → map_in c ≡ Some map →
        IsContent map.size (λ b. filed_in map b (s.at (addresses.Block n b))) (file_bytes (content_of c))
    by (contents.Regular own) is =
        let same : own ≡ map = cc in
        subst (λ (m : FileMapValue). IsContent m.size (λ b. filed_in m b (s.at (addresses.Block n b)))
        (replicate own.size 0))
        same (content-new own.size (λ b. filed_in own b (s.at (addresses.Block n b)))
        (λ b. filed-none own b (s.at (addresses.Block n b)) (none b)))
    by (contents.Directory directory) is = cc
    by (contents.Link text) is = cc
    by (contents.BlockDevice device) is = cc
    by (contents.CharacterDevice device) is = cc
    by contents.Socket is = cc
    by contents.Fifo is = cc

-- no page and no part stands where no inode does
nothing-listed : (s : Store) (k : StoreMeaning) (n : ℕ) → Represents s k → s.at (addresses.Inode n) ≡ None →
    HoldsEntries s n None []
nothing-listed s k n stands vacant = by (stands.directories n)
  where
    by : StandEntries s k n → HoldsEntries s n None []
    by stand =
        let none : HoldsEntries s n None stand.entries =
        subst (λ o. HoldsEntries s n (entry_map_of o) stand.entries) vacant stand.holds in
        none

-- the entries of a new directory: none
new-listing : (s : Store) (n : ℕ) (i : Inode) → HoldsEntries s n None [] →
    IfSome (entry_map_in i.content) (λ m. m ≡ no_entries m.key) →
    HasListing s n (directory_entries (content_of i.content)) i
new-listing s n i none bare = by i.content bare
  where
    by : (c : Content) → IfSome (entry_map_in c) (λ m. m ≡ no_entries m.key) →
        HoldsEntries s n (entry_map_in c) (directory_entries (content_of c))
    by (contents.Regular map) bare = none
    by (contents.Directory directory) bare = subst (λ m. HasEntries s n m []) (sym bare)
        (no-entries s n directory.entries.key none)
    by (contents.Link text) bare = none
    by (contents.BlockDevice device) bare = none
    by (contents.CharacterDevice device) bare = none
    by contents.Socket bare = none
    by contents.Fifo bare = none

pub new-stands : (s : Store) (k : StoreMeaning) (n : ℕ) (i : Inode) → Represents s k → s.at (addresses.Inode n) ≡ None
    → pages_of (Some (objects.Inode i)) ≡ no_bits → IfSome (entry_map_in i.content) (λ m. m ≡ no_entries m.key) →
    IsFitting n i → lives_in k.state.exports i.export ≡ true
    → Represents (with_write s (addresses.Inode n) (Some (objects.Inode i)))
    (with_new k n (living_alone i) i.links (parent_in i.content))
new-stands s k n i stands vacant none bare fits lives = subst (λ (o : Living).
    Represents (with_write s (addresses.Inode n) (Some (objects.Inode i)))
    (with_new k n o i.links (parent_in i.content)))
    (alone-is i) (record {
      tables = tables-stay s _ k.state _ refl stands.tables;
      objects = record {
        objects = lives-put k.state.exports s.at k.state.objects n i new lives stands.objects.objects;
        links = links-put k s n i lives but;
        parents = parents-put k s n i lives but;
        given = given-put s n i (give s.last (addresses.Inode n) (Some (objects.Inode i))) stands.objects.given
            (λ q. more q)
            (subst (λ b. i.generation ≤ cond b (max (s.last n) i.generation) (s.last n))
            (sym ((unsigned_Decides n n).1 refl)) (le-max_right (s.last n) i.generation));
        fits = fits-put s.at n i stands.objects.fits fits;
        numbered = numbered-put k.state s.at n i stands.objects.numbered lives;
        spent = λ q g.
            ap (λ b. b || ((q == n) && nat_le g i.generation)) (stands.objects.spent q g)
            ∙ ap (λ b. nat_le g (s.last q) || (b && nat_le g i.generation)) (nat_eq_equiv.symm q n)
            ∙ elim (n == q) as (λ b. (nat_le g (s.last q) || (b && nat_le g i.generation)) ≡ nat_le g
            (cond b (max (s.last q) i.generation) (s.last q))) [
              | true ↦ below_max g (s.last q) i.generation
              | false ↦ or-false (nat_le g (s.last q))
            ];
      };
      files = put-files s k n i new (give s.last (addresses.Inode n) (Some (objects.Inode i))) but filed
          (new-content s n i (nothing-stored s k n stands vacant)) lives
          (with_new k n (living_of_inode new i) i.links (parent_in i.content)) refl refl;
      directories = put-directories s k n i new (give s.last (addresses.Inode n) (Some (objects.Inode i))) but
          (new-listing s n i (nothing-listed s k n stands vacant) bare)
          (with_new k n (living_of_inode new i) i.links (parent_in i.content)) refl refl;
      usages = record { usage = stands.usages.usage };
      locks = locks-stay s _ k.state _ refl
          (keeps-put s n i (give s.last (addresses.Inode n) (Some (objects.Inode i))) none-was) stands.locks;
    })
  where
    new : Beside
    new = beside_of (content_of i.content)

    but : RepresentsBut n s k
    but = stands-but n s k stands

    none-was : KeepsFile s n i
    none-was was at regular = let no : None ≡ Some (objects.Inode was) = sym vacant ∙ at in cc

    filed : HasBlocks s n (pages_of (Some (objects.Inode i)))
    filed = record {
      maps = λ page. subst (λ b. IsMapped (has b page) (s.at (addresses.Map n page)))
          (ap pages_of vacant ∙ sym none) ((stands.files.blocks n).maps page);
      blocks = (stands.files.blocks n).blocks;
    }

    more : (q : ℕ) → s.last q ≤ cond (n == q) (max (s.last q) i.generation) (s.last q)
    more q = elim (n == q) as (λ b. s.last q ≤ cond b (max (s.last q) i.generation) (s.last q))
        [ true ↦ le-max_left (s.last q) i.generation | false ↦ omega arith ]

-- other mounts
pub mounts-stand : (s : Store) (k : StoreMeaning) (table : List MountBody) → Represents s k
    → Represents (with_write s addresses.Mounts (Some (objects.Mounts table))) (with_mounts k table)
mounts-stand s k table stands = record {
  tables = record {
    table = stands.tables.table;
    exports = stands.tables.exports;
    last_export = stands.tables.last_export;
    mounts = refl;
  };
  objects = objects-stay s _ k _ refl stands.objects;
  files = files-stay s _ k _ refl stands.files;
  directories = directories-stay s _ k _ (λ n page. refl) (λ n bucket part. refl) (λ n. refl) refl (λ n. refl)
      stands.directories;
  usages = record { usage = stands.usages.usage };
  locks = locks-stay s _ k.state _ refl (files-same s) stands.locks;
}

-- these are the locks, shares, requests and grants, and which numbers of grants are spent
abbrev pub locks_with : State → FinMap nat_cmp (List Lock) → FinMap nat_cmp (List Share)
    → FinMap nat_cmp (List Request) →
    FinMap nat_cmp PendingGrant → (ℕ → Bool) → State
locks_with m locks shares waiting granted spent = record m {
  locks = locks;
  shares = shares;
  waiting = waiting;
  granted = granted;
  spent_grants = spent;
}

-- what files have of locks in a bucket is put, and all else stays
module _ (s : Store) (k : StoreMeaning) (locks : FinMap nat_cmp (List Lock)) (shares : FinMap nat_cmp (List Share))
    (waiting : FinMap nat_cmp (List Request)) (granted : FinMap nat_cmp PendingGrant) (spent : ℕ → Bool)
    (stands : Represents s k) where
  abbrev locked : StoreMeaning
  locked = record k { state = locks_with k.state locks shares waiting granted spent }

  pub locks-put : (index : ℕ) (o : Option Object) → StandLocks (with_write s (addresses.Locks index) o) locked.state →
      Represents (with_write s (addresses.Locks index) o) locked
  locks-put index o stand = record {
    tables = tables-stay s _ k.state _ refl stands.tables;
    objects = objects-stay s _ k _ refl stands.objects;
    files = files-stay s _ k _ refl stands.files;
    directories = directories-stay s _ k _ (λ n page. refl) (λ n bucket part. refl) (λ n. refl) refl (λ n. refl)
        stands.directories;
    usages = record { usage = stands.usages.usage };
    locks = stand;
  }

  -- the store is as it was
  pub locks-kept : StandLocks s locked.state → Represents s locked
  locks-kept stand = record {
    tables = tables-stay s s k.state _ refl stands.tables;
    objects = objects-stay s s k _ refl stands.objects;
    files = files-stay s s k _ refl stands.files;
    directories = directories-stay s s k _ (λ n page. refl) (λ n bucket part. refl) (λ n. refl) refl (λ n. refl)
        stands.directories;
    usages = record { usage = stands.usages.usage };
    locks = stand;
  }

-- what stands for a usage is that usage
usage-stored : (u : Usage) → usage_of (stored_usage u) ≡ u
usage-stored u =
    elim (is_none u) as (λ b. is_none u ≡ b → usage_of (cond b None (Some (objects.Usage u))) ≡ u) [
      | true ↦ λ none. (let both = and_parts (u.used == 0) (u.objects == 0) none in
          λ i. record {
            used = sym ((unsigned_Decides u.used 0).0 both.0) i;
            objects = sym ((unsigned_Decides u.objects 0).0 both.1) i;
          })
      | false ↦ λ some. refl
    ] refl

-- what a group's objects use
module _ (s : Store) (k : StoreMeaning) (e n : ℕ) (before after written : Usage)
    (is : counts k.state e ≡ true → written ≡ exchanged before after (k.usage e (group_of n)))
    (stands : Represents s k) where
  abbrev share : Usage → ℕ → Usage
  share u = in_export e u

  abbrev now : StoreMeaning
  now = recounted n (share before) (share after) k

  usage-put : (p q : ℕ) → counts k.state p ≡ true
      → put_at s.at (addresses.Usage e (group_of n)) (stored_usage written) (addresses.Usage p q) ≡
      stored_usage (now.usage p q)
  usage-put p q lives =
      elim (group_of n == q) as (λ b. (group_of n == q) ≡ b →
      cond ((e == p) && b) (stored_usage written) (s.at (addresses.Usage p q))
      ≡ stored_usage (cond b (exchanged (share before p) (share after p) (k.usage p q)) (k.usage p q))) [
        | true ↦ λ group. elim (e == p) as (λ b. (e == p) ≡ b →
            cond (b && true) (stored_usage written) (s.at (addresses.Usage p q))
            ≡ stored_usage (exchanged (cond b before no_usage) (cond b after no_usage) (k.usage p q))) [
              | true ↦ λ export.
                  let same : e ≡ p = (unsigned_Decides e p).0 export in
                  ap stored_usage (is (ap (counts k.state) same ∙ lives))
                  ∙ ap (λ u. stored_usage (exchanged before after u))
                  (ap (λ x. k.usage x (group_of n)) same
                  ∙ ap (k.usage p) ((unsigned_Decides (group_of n) q).0 group))
              | false ↦ λ export. stands.usages.usage p q lives
            ] refl
        | false ↦ λ group.
            ap (λ b. cond b (stored_usage written) (s.at (addresses.Usage p q))) (and-false (e == p))
            ∙ stands.usages.usage p q lives
      ] refl
    where
      and-false : (b : Bool) → (b && false) ≡ false
      and-false true = refl
      and-false false = refl

  pub usage-stands : Represents (with_write s (addresses.Usage e (group_of n)) (stored_usage written)) now
  usage-stands = record {
    tables = tables-stay s _ k.state _ refl stands.tables;
    objects = objects-stay s _ k _ refl stands.objects;
    files = files-stay s _ k _ refl stands.files;
    directories = directories-stay s _ k _ (λ n page. refl) (λ n bucket part. refl) (λ n. refl) refl (λ n. refl)
        stands.directories;
    usages = record { usage = usage-put };
    locks = locks-stay s _ k.state _ refl (files-same s) stands.locks;
  }

module _ (d : DraftValue) where
  pub turns-written : (a : Addr) (o : Option Object) (op : StoreMeaning → StoreMeaning)
      → ((s : Store) (k : StoreMeaning) → Fits d.view s → Represents (with_writes s d.writes) k →
      Represents (with_write (with_writes s d.writes) a o) (op k))
      → Turns d (with_written d a o) op
  turns-written a o op f = record {
    ctx = refl;
    view = refl;
    modes = refl;
    messages = refl;
    turns = λ s k fits stands. subst (λ (x : Store). Represents x (op k)) (sym (writes-append d.writes s a o))
        (f s k fits stands);
  }

  -- the same where this is so of what the store stands for
  pub turns-where-written : (IsSo : StoreMeaning → Type 0) (a : Addr) (o : Option Object) (op : StoreMeaning
      → StoreMeaning)
      → ((s : Store) (k : StoreMeaning) → Fits d.view s → Represents (with_writes s d.writes) k → IsSo k →
      Represents (with_write (with_writes s d.writes) a o) (op k))
      → TurnsWhere IsSo d (with_written d a o) op
  turns-where-written IsSo a o op f = record {
    ctx = refl;
    view = refl;
    modes = refl;
    messages = refl;
    turns = λ s k fits stands so. subst (λ (x : Store). Represents x (op k)) (sym (writes-append d.writes s a o))
        (f s k fits stands so);
  }

  -- the draft with a table of mounts
  pub mounts-turns : (table : List MountBody) →
      Turns d (with_written d addresses.Mounts (Some (objects.Mounts table))) (λ k. with_mounts k table)
  mounts-turns table =
      turns-written addresses.Mounts (Some (objects.Mounts table)) (λ k. with_mounts k table)
      (λ s k fits stands. mounts-stand (with_writes s d.writes) k table stands)

  -- what stands for a group of a living export is what is known of it
  pub usage-known : (e g : ℕ) (u : Usage) → option_map usage_of (known_at d (addresses.Usage e g)) ≡ Some u
      → (s : Store) (k : StoreMeaning) → Fits d.view s → Represents (with_writes s d.writes) k
      → counts k.state e ≡ true → k.usage e g ≡ u
  usage-known e g u known s k fits stands lives =
      by (known_at d (addresses.Usage e g)) refl known
    where
      by : (o : Option (Option Object)) → known_at d (addresses.Usage e g) ≡ o →
          option_map usage_of o ≡ Some u → k.usage e g ≡ u
      by None is found = cc
      by (Some o) is found =
          let there : o ≡ stored_usage (k.usage e g) =
          sym (known-stands d s (addresses.Usage e g) o fits is) ∙ stands.usages.usage e g lives in
          let here : usage_of o ≡ u = cc in
          sym (usage-stored (k.usage e g)) ∙ ap usage_of (sym there) ∙ here

  -- the draft with another usage of the group of a number
  pub usage-turns : (e n : ℕ) (before after u : Usage) → is_same_usage before after ≡ false
      → option_map usage_of (known_at d (addresses.Usage e (group_of n))) ≡ Some u
      → Turns d (with_written d (addresses.Usage e (group_of n)) (stored_usage (moved before after u)))
      (λ k. recounted n (in_export e before) (in_export e after) k)
  usage-turns e n before after u other known =
      turns-written (addresses.Usage e (group_of n)) (stored_usage (moved before after u))
      (λ k. recounted n (in_export e before) (in_export e after) k) (λ s k fits stands.
      usage-stands (with_writes s d.writes) k e n before after (moved before after u)
      (λ lives. sym (ap (λ b. cond b (k.usage e (group_of n)) (moved before after (k.usage e (group_of n)))) other
      ∙ ap (moved before after) (usage-known e (group_of n) u known s k fits stands lives))) stands)

  -- shares that are the same change nothing
  pub same-turns : (e n : ℕ) (before after : Usage) → is_same_usage before after ≡ true
      → Turns d d (λ k. recounted n (in_export e before) (in_export e after) k)
  same-turns e n before after same = record {
    ctx = refl;
    view = refl;
    modes = refl;
    messages = refl;
    turns = λ s k fits stands.
        subst (λ u. Represents (with_writes s d.writes) (record k { usage = u })) (stays k) stands;
  }
    where
      at : (k : StoreMeaning) (p q : ℕ) → exchanged_at n (in_export e before) (in_export e after) k.usage p
          q ≡ k.usage p q
      at k p q =
          elim (group_of n == q) as (λ b.
          cond b (exchanged (in_export e before p) (in_export e after p) (k.usage p q)) (k.usage p q) ≡ k.usage p q) [
            | true ↦ elim (e == p) as (λ b.
                exchanged (cond b before no_usage) (cond b after no_usage) (k.usage p q) ≡ k.usage p q) [
                  | true ↦ ap (λ b. cond b (k.usage p q) (moved before after (k.usage p q))) same
                  | false ↦ refl
                ]
            | false ↦ refl
          ]

      stays : (k : StoreMeaning) → k.usage ≡ exchanged_at n (in_export e before) (in_export e after) k.usage
      stays k = λ i p q. sym (at k p q) i

-- where an inode is put in the place of another with the same map, the file there is as it was
pub filed-same : (s : Store) (k : StoreMeaning) (n : ℕ) (i j : Inode) → Represents s k
    → s.at (addresses.Inode n) ≡ Some (objects.Inode i) → map_in j.content ≡ map_in i.content
    → HasBlocks s n (pages_of (Some (objects.Inode j)))
filed-same s k n i j stands at same = record {
  maps = λ page. subst (λ b. IsMapped (has b page) (s.at (addresses.Map n page)))
      (ap pages_of at ∙ ap (λ f. elim f [ None ↦ no_bits | Some map ↦ map.pages ]) (sym same))
      ((stands.files.blocks n).maps page);
  blocks = (stands.files.blocks n).blocks;
}

-- and where it has the same map of its entries, so is the directory there
pub listing-same : (s : Store) (k : StoreMeaning) (n : ℕ) (i j : Inode) → Represents s k
    → s.at (addresses.Inode n) ≡ Some (objects.Inode i) → inode_there s k.state.exports n ≡ Some i
    → entry_map_in j.content ≡ entry_map_in i.content → HasListing s n (entries_at k.state n) j
listing-same s k n i j stands at there same = by (stands.directories n)
  where
    by : StandEntries s k n → HasListing s n (entries_at k.state n) j
    by stand =
        let own : stand.entries ≡ entries_at k.state n = stand.lives (subst (λ i. IsSome i) (sym there) refl) in
        subst (HoldsEntries s n (entry_map_in j.content)) own (subst (λ m. HoldsEntries s n m stand.entries) (sym same)
        (subst (λ o. HoldsEntries s n (entry_map_of o) stand.entries) at stand.holds))

pub content-same : (s : Store) (k : StoreMeaning) (n : ℕ) (i j : Inode) → Represents s k
    → inode_there s k.state.exports n ≡ Some i → map_in j.content ≡ map_in i.content
    → HasContent s n (bytes_at k.state n) j
content-same s k n i j stands there same = λ map is. stands.files.bytes n i map there (sym same ∙ is)

module _ (d : DraftValue) (n : ℕ) where
  -- the draft after it
  abbrev next : Option Object → DraftValue
  next o = with_written d (addresses.Inode n) o

  turns-next : (o : Option Object) (op : StoreMeaning → StoreMeaning)
      → ((s : Store) (k : StoreMeaning) → Fits d.view s → Represents (with_writes s d.writes) k →
      Represents (with_write (with_writes s d.writes) (addresses.Inode n) o) (op k)) → Turns d (next o) op
  turns-next = turns-written d (addresses.Inode n)

  -- one inode in the place of another, of the same living export, the same generation and with the same parent
  pub edit-turns : (i j : Inode) (object : Living → Living) (links : ℕ → ℕ) →
      known_at d (addresses.Inode n) ≡ Some (Some (objects.Inode i)) → ShowsExport d i.export
      → j.export ≡ i.export
      → ((beside : Beside) → living_of_inode beside j ≡ object (living_of_inode beside i))
      → map_in j.content ≡ map_in i.content → entry_map_in j.content ≡ entry_map_in i.content
      → j.links ≡ links i.links →
      parent_in j.content ≡ parent_in i.content → j.generation ≡ i.generation → IsFitting n j
      → Turns d (next (Some (objects.Inode j))) (λ k. edited k n object links)
  edit-turns i j object links known live exported is kept listed linked under generation fitting =
      turns-next (Some (objects.Inode j)) (λ k. edited k n object links) (λ s k fits stands.
      let at : (with_writes s d.writes).at (addresses.Inode n) ≡ Some (objects.Inode i) =
      known-stands d s (addresses.Inode n) (Some (objects.Inode i)) fits known in
      let there : inode_in k.state.exports ((with_writes s d.writes).at (addresses.Inode n)) ≡ Some i =
      ap (inode_in k.state.exports) at ∙ inode-lives k.state.exports i (live s k fits stands) in
      let beside = beside_at k.state n in
      let lives : get k.state.objects n ≡ Some (living_of_inode beside i) =
      stands.objects.objects n ∙ ap (option_map (living_of_inode beside)) there in
      let counted : k.links n ≡ i.links = stands.objects.links n ∙ ap links_kept there in
      let below : k.parents n ≡ parent_in i.content = stands.objects.parents n ∙ ap parent_kept there in
      let put = put-stands (with_writes s d.writes) k n j beside (stands-but n (with_writes s d.writes) k stands)
      (filed-same (with_writes s d.writes) k n i j stands at kept)
      (content-same (with_writes s d.writes) k n i j stands there kept)
      (listing-same (with_writes s d.writes) k n i j stands at there listed)
      (subst (λ g. g ≤ (with_writes s d.writes).last n) (sym generation) (stands.objects.given n i at)) fitting
      (ap (lives_in k.state.exports) exported ∙ live s k fits stands)
      (keeps-same (with_writes s d.writes) n i j at exported (λ some. subst (λ o. IsSome o) (sym kept) some)) in
      let same : edited k n object links ≡ with_living k n (living_of_inode beside j) j.links (parent_in j.content) =
      ap
      (λ (o : Option Living). elim o [
        | None ↦ k
        | Some o ↦ with_living k n (object o) (links (k.links n))
            (k.parents n)
      ]) lives
      ∙ ap (λ (o : Living). with_living k n o (links (k.links n)) (k.parents n)) (sym (is beside))
      ∙ ap (λ l. with_living k n (living_of_inode beside j) l (k.parents n)) (ap links counted ∙ sym linked)
      ∙ ap (λ p. with_living k n (living_of_inode beside j) j.links p) (below ∙ sym under) in
      subst
      (λ (x : StoreMeaning). Represents (with_write (with_writes s d.writes) (addresses.Inode n)
      (Some (objects.Inode j)))
      x) (sym same) put)

  -- what is no file and no directory goes
  pub free-turns : (i : Option Object) → known_at d (addresses.Inode n) ≡ Some i → file_of i ≡ None →
      entry_map_of i ≡ None → Turns d (next None) (λ k. freed k n)
  free-turns i known other unlisted = turns-next None (λ k. freed k n) (λ s k fits stands.
      let at : (with_writes s d.writes).at (addresses.Inode n) ≡ i = known-stands d s (addresses.Inode n) i fits
      known in
      free-stands (with_writes s d.writes) k n (stands-but n (with_writes s d.writes) k stands) (record {
        maps = λ page. subst (λ b. IsMapped (has b page) ((with_writes s d.writes).at (addresses.Map n page)))
            (ap pages_of at ∙ no-pages i other) ((stands.files.blocks n).maps page);
        blocks = (stands.files.blocks n).blocks;
      }) (emptied (with_writes s d.writes) k (ap entry_map_of at ∙ unlisted) (stands.directories n))
      (none-listed (with_writes s d.writes) k.state n i stands.locks at other))
    where
      emptied : (t : Store) (k : StoreMeaning) → entry_map_of (t.at (addresses.Inode n)) ≡ None → StandEntries t k n →
          HoldsEntries t n None []
      emptied t k none stand =
          let holds : HoldsEntries t n None stand.entries =
          subst (λ m. HoldsEntries t n m stand.entries) none stand.holds in
          holds

      no-pages : (o : Option Object) → file_of o ≡ None → pages_of o ≡ no_bits
      no-pages o is = ap (λ f. elim f [ None ↦ no_bits | Some map ↦ map.pages ]) is

  -- a new inode, once the draft was changed so; the exports stayed, and its own lived before
  pub new-turns : (old : DraftValue) (f : StoreMeaning → StoreMeaning) → Turns old d f → ((k : StoreMeaning) →
      (f k).state.exports ≡ k.state.exports) → (i : Inode) → known_at d (addresses.Inode n) ≡ Some None
      → pages_of (Some (objects.Inode i)) ≡ no_bits → IfSome (entry_map_in i.content) (λ m. m ≡ no_entries m.key)
      → IsFitting n i → ShowsExport old i.export
      → Turns old (next (Some (objects.Inode i)))
      (λ k. with_new (f k) n (living_alone i) i.links (parent_in i.content))
  new-turns old f turns stay i vacant none bare fitting live = record {
    ctx = turns.ctx;
    view = turns.view;
    modes = turns.modes;
    messages = turns.messages;
    turns = λ s k fits stands.
        subst (λ (x : Store). Represents x (with_new (f k) n (living_alone i) i.links (parent_in i.content)))
        (sym (writes-append d.writes s (addresses.Inode n) (Some (objects.Inode i))))
        (new-stands (with_writes s d.writes) (f k) n i (turns.turns s k fits stands)
        (known-stands d s (addresses.Inode n) None (subst (λ v. Fits v s) (sym turns.view) fits) vacant) none bare
        fitting
        (ap (λ es. lives_in es i.export) (stay k) ∙ live s k fits stands));
  }
