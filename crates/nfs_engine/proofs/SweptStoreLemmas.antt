-- A store from which a page was swept stands for what it stood for.
use Rattle.std.proofs.Common.{◌≡◌, ◌==◌, ◌&&◌, ◌/◌, ◌%◌, ◌≤◌, ◌<◌, ◌⊎◌, ◌^◌, ℕ, Bool, true, false, not, cond, List, []}
use Rattle.std.proofs.Common.{◌∷◌, inl, inr, max}
use Rattle.std.proofs.Common.{Option, Some, None, IsSome, find, option_map, refl, sym, ◌∙◌, ap, subst, arith}
use Rattle.std.specs.Cmp.{unsigned_Decides}
use Rattle.std.specs.List.{AllByRecursion, Contains}
use Rattle.std.specs.Prelude.{◌↔◌, nat_le, nat_lt}
use Rattle.nfs_machine.specs.Attributes.{size_of}
use Rattle.nfs_machine.specs.Exports.{LivingExport}
use Rattle.nfs_machine.specs.State.{Entry}
use Rattle.nlm_ranges.specs.Buckets.{LockedValue, bucket_count, file_in}
use Rattle.nfs_objects.proofs.BitSetLemmas.{has-none}
use Rattle.nfs_objects.proofs.SeenLemmas.{is_addr-same}
use Rattle.nfs_objects.proofs.TurnsLemmas.{refiled}
use Rattle.nfs_objects.specs.Bits.{has, no_bits, same_bits}
use Rattle.nfs_objects.specs.Directories.{led_in_part, width_in}
use Rattle.nfs_objects.specs.FileMaps.{FileMapValue, IsContent}
use Rattle.nfs_objects.specs.SameLaws.{bits_decides}
use Rattle.nfs_objects.specs.Stands.{HasBlocks, HoldsEntries, IsMapped, IsPart, IsPendingIn, IsPlaced, IsStored}
use Rattle.nfs_objects.specs.Stands.{StoreMeaning, Represents, StandLocks, beside_at, bucket_at, bucket_there}
use Rattle.nfs_objects.specs.Stands.{bytes_at, content_of, entry_map_in, entry_map_of, export_table_of, exported_file}
use Rattle.nfs_objects.specs.Stands.{exports_of, inode_in, inode_there, links_kept}
use Rattle.nfs_objects.specs.Stands.{lives_in, living_of_inode, map_of, pages_of, parent_kept, stored_bucket}
use Rattle.nfs_objects.specs.Stands.{entries_at, filed_in, map_in, mounts_of, stored_in}
use Rattle.nfs_objects.specs.Unfiled.{RepresentsBut}
use Rattle.nfs_objects.specs.Store.{Store, put_at, with_write}
use Rattle.nfs_objects.specs.Values.{is_addr}
use Rattle.nfs_objects.specs.declared.address.Addr.{Addr}
use Rattle.nfs_objects.specs.declared.address.Addr.TheVariants as addresses
use Rattle.nfs_objects.specs.declared.bits.Bits.{Bits}
use Rattle.nfs_objects.specs.declared.entry_map.EntryMap.{EntryMap}
use Rattle.nfs_objects.specs.declared.object.Content.{Content}
use Rattle.nfs_objects.specs.declared.object.Content.TheVariants as contents
use Rattle.nfs_objects.specs.declared.object.Inode.{Inode}
use Rattle.nfs_objects.specs.declared.object.Object.{Object}
use Rattle.nfs_objects.specs.declared.object.Object.TheVariants as stored
use Rattle.nfs_engine.specs.Sweeps.{IsDeadPage, IsRemainsPage, SweepValue, Sweeps, inode_left, inode_with, is_of_page}
use Rattle.nfs_engine.specs.Sweeps.{swept_at}

-- a number that is another
same-number : (n m : ℕ) → (n == m) ≡ true → n ≡ m
same-number n m is = (unsigned_Decides n m).0 is

is-itself : (n : ℕ) → (n == n) ≡ true
is-itself n = (unsigned_Decides n n).1 refl

other-way : (n m : ℕ) → (m == n) ≡ false → (n == m) ≡ false
other-way n m is = elim (n == m) as (λ b. (n == m) ≡ b → b ≡ false) [
  | true ↦ λ same. (let no : true ≡ false = sym ((unsigned_Decides m n).1 (sym (same-number n m same))) ∙ is in cc)
  | false ↦ λ other. refl
] refl

-- a set is that of none, or it is told apart
none-of : (pages : Bits) → same_bits pages no_bits ≡ true → (page : ℕ) → has pages page ≡ false
none-of pages is page = ap (λ (b : Bits). has b page) ((bits_decides pages no_bits).0 is) ∙ has-none page

-- what is left of a dead inode is dead, has no entries, and has these pages
module _ (exports : List LivingExport) (i : Inode) (map : FileMapValue) (dead : lives_in exports i.export ≡ false) where
  left-dead : inode_in exports (inode_with i map) ≡ None
  left-dead = elim (same_bits map.pages no_bits) as (λ b. inode_in exports
      (cond b None (Some (stored.Inode (record i { content = contents.Regular map })))) ≡ None) [
        | true ↦ refl
        | false ↦ ap (λ b. cond {A = Option Inode} b (Some (record i { content = contents.Regular map })) None) dead
      ]

left-pages : (i : Inode) (map : FileMapValue) (page : ℕ) → has (pages_of (inode_with i map)) page ≡ has map.pages page
left-pages i map page = elim (same_bits map.pages no_bits) as (λ b. same_bits map.pages no_bits ≡ b → has (pages_of
    (cond b None (Some (stored.Inode (record i { content = contents.Regular map }))))) page ≡ has map.pages page) [
      | true ↦ λ none. has-none page ∙ sym (none-of map.pages none page)
      | false ↦ λ some. refl
    ] refl

left-entries : (i : Inode) (map : FileMapValue) → entry_map_of (inode_with i map) ≡ None
left-entries i map = elim (same_bits map.pages no_bits) as (λ b. entry_map_of
    (cond b None (Some (stored.Inode (record i { content = contents.Regular map })))) ≡ None)
    [ true ↦ refl | false ↦ refl ]

-- an inode that is left is the old one but for the pages of its map
left-is : (i j : Inode) (map : FileMapValue) → inode_with i map ≡ Some (stored.Inode j) →
    record i { content = contents.Regular map } ≡ j
left-is i j map = elim (same_bits map.pages no_bits) as (λ b.
    cond b None (Some (stored.Inode (record i { content = contents.Regular map }))) ≡ Some (stored.Inode j) →
    record i { content = contents.Regular map } ≡ j) [
      | true ↦ λ e. cc
      | false ↦ λ e. (let same : record i { content = contents.Regular map } ≡ j = cc in same)
    ]

module _ (old new : Store) (w : SweepValue) (may : IsDeadPage old w) (changed : (a : Addr)
    → new.at a ≡ swept_at w old.at a)
    (given : (n : ℕ) → new.last n ≡ old.last n) where
  abbrev n : ℕ
  n = w.file

  -- nothing else changed
  elsewhere : (a : Addr) → is_of_page w.file w.page a ≡ false → is_addr (addresses.Inode n) a ≡ false →
      new.at a ≡ old.at a
  elsewhere a page inode =
      changed a ∙ ap (λ t. cond t None (put_at old.at (addresses.Inode n) w.inode a)) page
      ∙ ap (λ t. cond t w.inode (old.at a)) inode

  gone : (a : Addr) → is_of_page w.file w.page a ≡ true → new.at a ≡ None
  gone a page = changed a ∙ ap (λ t. cond t None (put_at old.at (addresses.Inode n) w.inode a)) page

  here : new.at (addresses.Inode n) ≡ w.inode
  here = changed (addresses.Inode n)
      ∙ ap (λ t. cond t w.inode (old.at (addresses.Inode n))) (is-itself n)

  -- another inode is as it was
  other-inode : (m : ℕ) → (n == m) ≡ false → new.at (addresses.Inode m) ≡ old.at (addresses.Inode m)
  other-inode m other = elsewhere (addresses.Inode m) refl other

  -- what the inode of another number, and that of this one, tell
  each : (P : Option Object → Option Object → ℕ → Type 0) → P (old.at (addresses.Inode n)) w.inode n →
      ((o : Option Object) (m : ℕ) → (n == m) ≡ false → P o o m) → (m : ℕ) →
      P (old.at (addresses.Inode m)) (new.at (addresses.Inode m)) m
  each P this others m = elim (n == m) as (λ b. (n == m) ≡ b →
      P (old.at (addresses.Inode m)) (new.at (addresses.Inode m)) m) [
        | true ↦ λ same. subst (λ q. P (old.at (addresses.Inode q)) (new.at (addresses.Inode q)) q)
            (same-number n m same) (subst (λ o. P (old.at (addresses.Inode n)) o n) (sym here) this)
        | false ↦ λ other. subst (λ o. P (old.at (addresses.Inode m)) o m) (sym (other-inode m other))
            (others (old.at (addresses.Inode m)) m other)
      ] refl

  stood : old.at (addresses.Inode n) ≡ Some (stored.Inode may.old)
  stood = may.dead.stands

  -- what an inode was that stands there now
  record Was (o : Option Object) (i : Inode) : Type 0 where
    inode : Inode
    stood : o ≡ Some (stored.Inode inode)
    generation : i.generation ≡ inode.generation
    export : i.export ≡ inode.export
    size : size_of (content_of i.content) ≡ size_of (content_of inode.content)

  was-so : (m : ℕ) (i : Inode) → new.at (addresses.Inode m) ≡ Some (stored.Inode i) →
      Was (old.at (addresses.Inode m)) i
  was-so m i = each (λ before after q. after ≡ Some (stored.Inode i) → Was before i)
      (λ left.
      (let is = left-is may.old i (record may.map { pages = may.pages }) (sym may.left ∙ left) in
      record {
        inode = may.old;
        stood = stood;
        generation = sym (ap (λ (x : Inode). x.generation) is);
        export = sym (ap (λ (x : Inode). x.export) is);
        size = sym (ap (λ (x : Inode). size_of (content_of x.content)) is)
            ∙ sym (ap (λ (c : Content). size_of (content_of c)) may.regular);
      }))
      (λ o q other is. record { inode = i; stood = is; generation = refl; export = refl; size = refl }) m

  -- the same entries
  same-entries : (m : ℕ) → entry_map_of (new.at (addresses.Inode m)) ≡ entry_map_of (old.at (addresses.Inode m))
  same-entries = each (λ before after q. entry_map_of after ≡ entry_map_of before)
      (ap entry_map_of may.left ∙ left-entries may.old (record may.map { pages = may.pages })
      ∙ sym (ap entry_map_of stood ∙ ap entry_map_in may.regular))
      (λ o q other. refl)

  -- ---- blocks
  module _ (was : (m : ℕ) → HasBlocks old m (pages_of (old.at (addresses.Inode m)))) where
    -- those of another file
    others-blocks : (m : ℕ) → (n == m) ≡ false → HasBlocks new m (pages_of (new.at (addresses.Inode m)))
    others-blocks m other = record {
      maps = λ page.
          subst (λ o. IsMapped (has (pages_of o) page) (new.at (addresses.Map m page))) (sym (other-inode m other))
          (subst (IsMapped (has (pages_of (old.at (addresses.Inode m))) page))
          (sym (elsewhere (addresses.Map m page) (ap (λ t. t && (w.page == page)) other) refl))
          ((was m).maps page));
      blocks = λ i.
          subst (λ o. IsStored (has (map_of o) (i % 512)) (new.at (addresses.Block m i)))
          (sym (elsewhere (addresses.Map m (i / 512)) (ap (λ t. t && (w.page == i / 512)) other) refl))
          (subst (IsStored (has (map_of (old.at (addresses.Map m (i / 512)))) (i % 512)))
          (sym (elsewhere (addresses.Block m i) (ap (λ t. t && (w.page == i / 512)) other) refl))
          ((was m).blocks i));
    }

    old-pages : pages_of (old.at (addresses.Inode n)) ≡ may.map.pages
    old-pages = ap pages_of stood ∙ ap (λ c. pages_of (Some (stored.Inode (record may.old { content = c }))))
        may.regular

    new-pages : (page : ℕ) → has (pages_of (new.at (addresses.Inode n))) page ≡
        (has may.map.pages page && not (w.page == page))
    new-pages page = ap (λ o. has (pages_of o) page) (here ∙ may.left)
        ∙ left-pages may.old (record may.map { pages = may.pages }) page ∙ may.lost page

    and-not : (b : Bool) → (b && not true) ≡ false
    and-not true = refl
    and-not false = refl

    and-so : (b : Bool) → (b && not false) ≡ b
    and-so true = refl
    and-so false = refl

    -- those of this one
    own-blocks : HasBlocks new n (pages_of (new.at (addresses.Inode n)))
    own-blocks = record {
      maps = λ page. elim (w.page == page) as (λ b. (w.page == page) ≡ b →
          IsMapped (has (pages_of (new.at (addresses.Inode n))) page) (new.at (addresses.Map n page))) [
            | true ↦ λ same.
                subst (λ b. IsMapped b (new.at (addresses.Map n page)))
                (sym (new-pages page ∙ ap (λ b. has may.map.pages page && not b) same
                ∙ and-not (has may.map.pages page)))
                (gone (addresses.Map n page) ((λ i. is-itself n i && same i)))
            | false ↦ λ other.
                subst (λ b. IsMapped b (new.at (addresses.Map n page)))
                (sym (new-pages page ∙ ap (λ b. has may.map.pages page && not b) other ∙ and-so (has may.map.pages page)
                ∙ ap (λ (x : Bits). has x page) (sym old-pages)))
                (subst (IsMapped (has (pages_of (old.at (addresses.Inode n))) page))
                (sym (elsewhere (addresses.Map n page) ((λ i. is-itself n i && other i)) refl)) ((was n).maps page))
          ] refl;
      blocks = λ i. elim (w.page == i / 512) as (λ b. (w.page == i / 512) ≡ b →
          IsStored (has (map_of (new.at (addresses.Map n (i / 512)))) (i % 512)) (new.at (addresses.Block n i))) [
            | true ↦ λ same.
                subst (λ b. IsStored b (new.at (addresses.Block n i)))
                (sym (ap (λ o. has (map_of o) (i % 512))
                (gone (addresses.Map n (i / 512)) ((λ j. is-itself n j && same j)))
                ∙ has-none (i % 512)))
                (gone (addresses.Block n i) ((λ j. is-itself n j && same j)))
            | false ↦ λ other.
                subst (λ o. IsStored (has (map_of o) (i % 512)) (new.at (addresses.Block n i)))
                (sym (elsewhere (addresses.Map n (i / 512)) ((λ j. is-itself n j && other j)) refl))
                (subst (IsStored (has (map_of (old.at (addresses.Map n (i / 512)))) (i % 512)))
                (sym (elsewhere (addresses.Block n i) ((λ j. is-itself n j && other j)) refl)) ((was n).blocks i))
          ] refl;
    }

    swept-blocks : (m : ℕ) → HasBlocks new m (pages_of (new.at (addresses.Inode m)))
    swept-blocks m = elim (n == m) as (λ b. (n == m) ≡ b → HasBlocks new m (pages_of (new.at (addresses.Inode m)))) [
      | true ↦ λ same. subst (λ q. HasBlocks new q (pages_of (new.at (addresses.Inode q)))) (same-number n m same)
          own-blocks
      | false ↦ λ other. others-blocks m other
    ] refl

  -- ---- entries
  swept-entries : (m : ℕ) (map : Option EntryMap) (entries : List Entry) → HoldsEntries old m map entries →
      HoldsEntries new m map entries
  swept-entries m None entries holds = (
    λ page. elsewhere (addresses.Page m page) refl refl ∙ holds.0 page,
    λ bucket part. elsewhere (addresses.Part m bucket part) refl refl ∙ holds.1 bucket part,
  )
  swept-entries m (Some map) entries holds = record {
    once = holds.once;
    buckets = holds.buckets;
    listed = holds.listed;
    pages = λ page. elsewhere (addresses.Page m page) refl refl ∙ holds.pages page;
    counted = holds.counted;
    parts = λ bucket part. subst (IsPart (nat_lt part (width_in map.counts bucket))
        (led_in_part map.key (width_in map.counts bucket) bucket part entries))
        (sym (elsewhere (addresses.Part m bucket part) refl refl)) (holds.parts bucket part);
  }

  -- ---- what it stands for
  module _ (k : StoreMeaning) (was : Represents old k) where
    abbrev exports : List LivingExport
    exports = k.state.exports

    dead : lives_in exports may.old.export ≡ false
    dead = ap (λ es. lives_in es may.old.export) was.tables.exports ∙ may.dead.export

    none-there : inode_in exports (old.at (addresses.Inode n)) ≡ None
    none-there = ap (inode_in exports) stood ∙ ap (λ b. cond b (Some may.old) None) dead

    there : (m : ℕ) → inode_there new exports m ≡ inode_there old exports m
    there = each (λ before after q. inode_in exports after ≡ inode_in exports before)
        (ap (inode_in exports) may.left ∙ left-dead exports may.old (record may.map { pages = may.pages }) dead
        ∙ sym none-there)
        (λ o q other. refl)

    -- what lives is another
    lives-other : (m : ℕ) (i : Inode) → inode_there old exports m ≡ Some i → (n == m) ≡ false
    lives-other m i is = elim (n == m) as (λ b. (n == m) ≡ b → b ≡ false) [
      | true ↦ λ same.
          (let no : None ≡ Some i = sym none-there
          ∙ ap (λ q. inode_there old exports q) (same-number n m same) ∙ is in cc)
      | false ↦ λ other. refl
    ] refl

    same-locks : (b : ℕ) → new.at (addresses.Locks b) ≡ old.at (addresses.Locks b)
    same-locks b = elsewhere (addresses.Locks b) refl refl

    -- no bucket has the file
    placed-on : (index : ℕ) (fs : List LockedValue) →
        (index ≡ n % bucket_count → find (λ (f : LockedValue). f.number == n) fs ≡ None) →
        AllByRecursion (IsPlaced old index) fs → AllByRecursion (IsPlaced new index) fs
    placed-on index [] none all = tt
    placed-on index (f ∷ fs) none all = (
      record {
        bucket = all.0.bucket;
        inode = all.0.inode;
        stands = other-inode f.number (other-way n f.number (apart (f.number == n) refl)) ∙ all.0.stands;
        regular = all.0.regular;
        export = all.0.export;
      },
      placed-on index fs (λ same. behind (f.number == n) (apart (f.number == n) refl) (none same)) all.1,
    )
      where
        apart : (b : Bool) → (f.number == n) ≡ b → (f.number == n) ≡ false
        apart true is = (
            let same : index ≡ n % bucket_count = sym all.0.bucket
            ∙ ap (λ q. q % bucket_count) (same-number f.number n is) in
            let no : Some f ≡ None = sym (ap (λ b. cond b (Some f) (find (λ (g : LockedValue). g.number == n) fs)) is)
            ∙ none same in cc)
        apart false is = is

        behind : (b : Bool) → b ≡ false → cond b (Some f) (find (λ (g : LockedValue). g.number == n) fs) ≡ None →
            find (λ (g : LockedValue). g.number == n) fs ≡ None
        behind true nay e = cc
        behind false is e = e

    swept-locks : StandLocks new k.state
    swept-locks = record {
      held = λ m. was.locks.held m
          ∙ ap (λ o. (exported_file exports (file_in (bucket_at o) m)).held) (sym (same-locks (m % bucket_count)));
      pending = λ number file r. subst (λ o. IsPendingIn k.state number file r ↔
          (Contains (exported_file exports (file_in (bucket_at o) file)).pending r × (r.number ≡ number)))
          (sym (same-locks (file % bucket_count))) (was.locks.pending number file r);
      spent = λ number. was.locks.spent number
          ∙ ap (λ o. nat_lt (number / bucket_count) (bucket_at o).given) (sym (same-locks (number % bucket_count)));
      stored = λ index. subst (λ o. o ≡ stored_bucket (bucket_at o)) (sym (same-locks index)) (was.locks.stored index);
      placed = λ index. subst (λ o. AllByRecursion (IsPlaced new index) (bucket_at o).files) (sym (same-locks index))
          (placed-on index (bucket_there old index).files
          (λ same. ap (λ q. find (λ (f : LockedValue). f.number == n) (bucket_there old q).files) same
          ∙ may.dead.unlocked)
          (was.locks.placed index));
    }

    pub dead-swept : Represents new k
    dead-swept = record {
      tables = record {
        table = subst (λ o. IsSome o) (sym (elsewhere addresses.Exports refl refl)) was.tables.table;
        exports = was.tables.exports ∙ ap exports_of (sym (elsewhere addresses.Exports refl refl));
        last_export = was.tables.last_export
            ∙ ap (λ o. (export_table_of o).last) (sym (elsewhere addresses.Exports refl refl));
        mounts = was.tables.mounts ∙ ap mounts_of (sym (elsewhere addresses.Mounts refl refl));
      };
      objects = record {
        objects = λ m. was.objects.objects m
            ∙ ap (option_map (living_of_inode (beside_at k.state m))) (sym (there m));
        links = λ m. was.objects.links m ∙ ap links_kept (sym (there m));
        parents = λ m. was.objects.parents m ∙ ap parent_kept (sym (there m));
        given = λ m i is.
            (let before = was-so m i is in
            let fits = was.objects.given m before.inode before.stood in
            let same = before.generation in
            let last = given m in
            omega (arith, fits, same, last));
        fits = λ m i is.
            (let before = was-so m i is in
            let fits = was.objects.fits m before.inode before.stood in
            (fits.0, subst (λ s. s < 2 ^ 63) (sym before.size) fits.1));
        spent = λ m g. was.objects.spent m g ∙ ap (nat_le g) (sym (given m));
        numbered = λ m i is.
            (let before = was-so m i is in
            subst (λ e. (lives_in exports e ≡ true) ⊎ (e ≤ k.state.last_export)) (sym before.export)
            (was.objects.numbered m before.inode before.stood));
      };
      files = record {
        blocks = swept-blocks was.files.blocks;
        bytes = λ m i map is regular.
            (let lives = sym (there m) ∙ is in
            let other = lives-other m i lives in
            subst (λ f. IsContent map.size f (bytes_at k.state m))
            (λ j b. filed_in map b (sym (elsewhere (addresses.Block m b)
            (ap (λ t. t && (w.page == b / 512)) other) refl) j))
            (was.files.bytes m i map lives regular));
      };
      directories = λ m. record {
        entries = (was.directories m).entries;
        holds = subst (λ e. HoldsEntries new m e (was.directories m).entries) (sym (same-entries m))
            (swept-entries m (entry_map_of (old.at (addresses.Inode m))) (was.directories m).entries
            (was.directories m).holds);
        lives = λ alive. (was.directories m).lives (subst (λ o. IsSome o) (there m) alive);
      };
      usages = record {
        usage = λ e g counted. elsewhere (addresses.Usage e g) refl refl ∙ was.usages.usage e g counted;
      };
      locks = swept-locks;
    }

-- ---- a page of remains
-- without its blocks and its map the store stands for all but the file
module _ (old : Store) (w : SweepValue) (may : IsRemainsPage old w) (k : StoreMeaning) (was : Represents old k) where
  abbrev number : ℕ
  number = w.file

  -- the store without them
  abbrev bare : Store
  bare = record { at = λ a. cond (is_of_page number w.page a) None (old.at a); last = old.last }

  -- what is of another file stands as it stood
  bare-map : (m page : ℕ) → (number == m) ≡ false → bare.at (addresses.Map m page) ≡ old.at (addresses.Map m page)
  bare-map m page other =
      ap (λ t. cond (t && (w.page == page)) None (old.at (addresses.Map m page))) other

  bare-block : (m i : ℕ) → (number == m) ≡ false → bare.at (addresses.Block m i) ≡ old.at (addresses.Block m i)
  bare-block m i other =
      ap (λ t. cond (t && (w.page == i / 512)) None (old.at (addresses.Block m i))) other

  bare-but : RepresentsBut number bare k
  bare-but = record {
    tables = record {
      table = was.tables.table;
      exports = was.tables.exports;
      last_export = was.tables.last_export;
      mounts = was.tables.mounts;
    };
    objects = record {
      objects = was.objects.objects;
      links = was.objects.links;
      parents = was.objects.parents;
      given = was.objects.given;
      fits = was.objects.fits;
      spent = was.objects.spent;
      numbered = was.objects.numbered;
    };
    files = record {
      blocks = λ m other. record {
        maps = λ page. subst (IsMapped (has (pages_of (old.at (addresses.Inode m))) page)) (sym (bare-map m page other))
            ((was.files.blocks m).maps page);
        blocks = λ i. subst (λ o. IsStored (has (map_of o) (i % 512)) (bare.at (addresses.Block m i)))
            (sym (bare-map m (i / 512) other))
            (subst (IsStored (has (map_of (old.at (addresses.Map m (i / 512)))) (i % 512)))
            (sym (bare-block m i other)) ((was.files.blocks m).blocks i));
      };
      bytes = λ m i map other there is.
          subst (λ (f : ℕ → List ℕ). IsContent map.size f (bytes_at k.state m))
          (λ p b. filed_in map b (sym (bare-block m b other) p)) (was.files.bytes m i map there is);
    };
    directories = λ m other. record {
      entries = (was.directories m).entries;
      holds = bare-entries m (entry_map_of (old.at (addresses.Inode m))) (was.directories m).entries
          (was.directories m).holds;
      lives = (was.directories m).lives;
    };
    usages = record { usage = was.usages.usage };
    locks = record {
      held = was.locks.held;
      pending = was.locks.pending;
      spent = was.locks.spent;
      stored = was.locks.stored;
      placed = λ index. bare-placed index (bucket_there old index).files (was.locks.placed index);
    };
  }
    where
      bare-entries : (m : ℕ) (map : Option EntryMap) (entries : List Entry) → HoldsEntries old m map entries →
          HoldsEntries bare m map entries
      bare-entries m None entries holds = holds
      bare-entries m (Some map) entries holds = record {
        once = holds.once;
        buckets = holds.buckets;
        listed = holds.listed;
        pages = holds.pages;
        counted = holds.counted;
        parts = holds.parts;
      }

      bare-placed : (index : ℕ) (fs : List LockedValue) → AllByRecursion (IsPlaced old index) fs →
          AllByRecursion (IsPlaced bare index) fs
      bare-placed index [] all = tt
      bare-placed index (f ∷ fs) all = (
        record {
          bucket = all.0.bucket;
          inode = all.0.inode;
          stands = all.0.stands;
          regular = all.0.regular;
          export = all.0.export;
        },
        bare-placed index fs all.1,
      )

  abbrev left : FileMapValue
  left = record may.map { pages = may.pages }

  lost-one : (b : Bool) → (b && not true) ≡ false
  lost-one true = refl
  lost-one false = refl

  kept-one : (b : Bool) → (b && not false) ≡ b
  kept-one true = refl
  kept-one false = refl

  and-second : (a b : Bool) → (a && b) ≡ true → b ≡ true
  and-second true b both = both
  and-second false b both = cc

  had-pages : pages_of (old.at (addresses.Inode number)) ≡ may.map.pages
  had-pages = ap pages_of may.stands ∙ ap (λ c. pages_of (Some (stored.Inode (record may.old { content = c }))))
      may.regular

  -- of the file itself the page is not there any more
  page-gone : (page : ℕ) → (w.page == page) ≡ true → bare.at (addresses.Map number page) ≡ None
  page-gone page same =
      (λ j. cond (is-itself number j && same j) None (old.at (addresses.Map number page)))

  block-gone : (i : ℕ) → (w.page == i / 512) ≡ true → bare.at (addresses.Block number i) ≡ None
  block-gone i same = (λ j. cond (is-itself number j && same j) None (old.at (addresses.Block number i)))

  map-stays : (page : ℕ) → (w.page == page) ≡ false → bare.at (addresses.Map number page) ≡
      old.at (addresses.Map number page)
  map-stays page other = (λ j. cond (is-itself number j && other j) None (old.at (addresses.Map number page)))

  block-stays : (i : ℕ) → (w.page == i / 512) ≡ false → bare.at (addresses.Block number i) ≡
      old.at (addresses.Block number i)
  block-stays i other = (λ j. cond (is-itself number j && other j) None (old.at (addresses.Block number i)))

  left-blocks : HasBlocks bare number left.pages
  left-blocks = record {
    maps = λ page. elim (w.page == page) as (λ b. (w.page == page) ≡ b →
        IsMapped (has may.pages page) (bare.at (addresses.Map number page))) [
          | true ↦ λ same. subst (λ b. IsMapped b (bare.at (addresses.Map number page)))
              (sym (may.lost page ∙ ap (λ b. has may.map.pages page && not b) same ∙ lost-one (has may.map.pages page)))
              (page-gone page same)
          | false ↦ λ other. subst (λ b. IsMapped b (bare.at (addresses.Map number page)))
              (sym (may.lost page ∙ ap (λ b. has may.map.pages page && not b) other ∙ kept-one (has may.map.pages page)
              ∙ ap (λ (x : Bits). has x page) (sym had-pages)))
              (subst (IsMapped (has (pages_of (old.at (addresses.Inode number))) page)) (sym (map-stays page other))
              ((was.files.blocks number).maps page))
        ] refl;
    blocks = λ i. elim (w.page == i / 512) as (λ b. (w.page == i / 512) ≡ b →
        IsStored (has (map_of (bare.at (addresses.Map number (i / 512)))) (i % 512))
        (bare.at (addresses.Block number i))) [
          | true ↦ λ same. subst (λ b. IsStored b (bare.at (addresses.Block number i)))
              (sym (ap (λ o. has (map_of o) (i % 512)) (page-gone (i / 512) same) ∙ has-none (i % 512)))
              (block-gone i same)
          | false ↦ λ other. subst (λ o. IsStored (has (map_of o) (i % 512)) (bare.at (addresses.Block number i)))
              (sym (map-stays (i / 512) other))
              (subst (IsStored (has (map_of (old.at (addresses.Map number (i / 512)))) (i % 512)))
              (sym (block-stays i other)) ((was.files.blocks number).blocks i))
        ] refl;
  }

  -- its blocks counted as zeros, and do so still
  same-filed : (i : ℕ) → filed_in may.map i (old.at (addresses.Block number i)) ≡
      filed_in left i (bare.at (addresses.Block number i))
  same-filed i = elim (w.page == i / 512) as (λ b. (w.page == i / 512) ≡ b →
      filed_in may.map i (old.at (addresses.Block number i)) ≡ filed_in left i (bare.at (addresses.Block number i))) [
        | true ↦ λ same.
            (let on : has may.map.remains (i / 512) ≡ true =
            ap (has may.map.remains) (sym (same-number w.page (i / 512) same))
            ∙ and-second (has may.map.pages w.page) (has may.map.remains w.page) may.there in
            ap (λ t. cond t [] (stored_in (old.at (addresses.Block number i)))) on
            ∙ sym (ap (λ t. cond t [] (stored_in (bare.at (addresses.Block number i)))) on))
        | false ↦ λ other. ap (filed_in may.map i) (sym (block-stays i other))
      ] refl

  alive : lives_in k.state.exports may.old.export ≡ true
  alive = ap (λ es. lives_in es may.old.export) was.tables.exports ∙ may.export

  living : inode_there old k.state.exports number ≡ Some may.old
  living = ap (inode_in k.state.exports) may.stands ∙ ap (λ b. cond b (Some may.old) None) alive

  left-content : IsContent left.size (λ b. filed_in left b (bare.at (addresses.Block number b)))
      (bytes_at k.state number)
  left-content = subst (λ (f : ℕ → List ℕ). IsContent may.map.size f (bytes_at k.state number))
      (λ p b. same-filed b p)
      (was.files.bytes number may.old may.map living (ap map_in may.regular))

  no-entries-there : HoldsEntries bare number None (entries_at k.state number)
  no-entries-there = by (entry_map_of (old.at (addresses.Inode number))) none (was.directories number).entries
      (was.directories number).holds
    where
      none : entry_map_of (old.at (addresses.Inode number)) ≡ None
      none = ap entry_map_of may.stands ∙ ap entry_map_in may.regular

      by : (map : Option EntryMap) → map ≡ None → (entries : List Entry) → HoldsEntries old number map entries →
          HoldsEntries bare number None (entries_at k.state number)
      by None is entries holds = holds
      by (Some map) is entries holds = absurd (let no : Some map ≡ None = is in cc)

  module _ (new : Store) (changed : (a : Addr) → new.at a ≡ swept_at w old.at a)
      (given : (n : ℕ) → new.last n ≡ old.last n) where
    abbrev put : Store
    put = with_write bare (addresses.Inode number) (inode_left may.old left)

    -- the new store is this, address by address
    put-at : (a : Addr) → new.at a ≡ put.at a
    put-at a = changed a ∙ by (is_addr (addresses.Inode number) a) refl
        ∙ ap (λ o. cond (is_addr (addresses.Inode number) a) o (bare.at a)) may.left
      where
        by : (b : Bool) → is_addr (addresses.Inode number) a ≡ b →
            cond (is_of_page number w.page a) None (cond b w.inode (old.at a)) ≡
            cond b w.inode (cond (is_of_page number w.page a) None (old.at a))
        by false other = refl
        by true same =
            ap (λ t. cond t None w.inode) (subst (λ c. is_of_page number w.page c ≡ false)
            (is_addr-same (addresses.Inode number) a same) refl)

    put-last : (n : ℕ) → new.last n ≡ put.last n
    put-last n = given n ∙ sym (by (number == n) refl)
      where
        by : (b : Bool) → (number == n) ≡ b →
            cond b (max (old.last n) may.old.generation) (old.last n) ≡ old.last n
        by true same =
            (let fits = was.objects.given number may.old may.stands in
            let is : may.old.generation ≤ old.last n =
            subst (λ m. may.old.generation ≤ old.last m) (same-number number n same) fits in omega (arith, is))
        by false other = refl

    pub remains-swept : Represents new k
    remains-swept = subst (λ (x : Store). Represents x k)
        (λ j. record { at = λ a. sym (put-at a) j; last = λ n. sym (put-last n) j })
        (refiled bare k number may.old may.map left bare-but may.stands may.regular refl alive left-blocks left-content
        no-entries-there)

-- either
pub swept-stands : (old new : Store) (w : SweepValue) → Sweeps old new w → (k : StoreMeaning) → Represents old k →
    Represents new k
swept-stands old new w sweeps k was = by sweeps.may
  where
    by : IsDeadPage old w ⊎ IsRemainsPage old w → Represents new k
    by (inl may) = dead-swept old new w may sweeps.at sweeps.last k was
    by (inr may) = remains-swept old w may k was new sweeps.at sweeps.last
