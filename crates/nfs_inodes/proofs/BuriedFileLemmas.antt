-- A large file that goes leaves its inode, of no export, and all that stands beside it: the store stands for the state
-- without the file.
use Rattle.std.proofs.Common.{◌≡◌, ◌==◌, ◌⊎◌, ◌≤◌, ◌%◌, ◌∙◌, ℕ, true, false, cond, max, nat_le, option_map}
use Rattle.std.proofs.Common.{List, [], ◌∷◌, Option, Some, None, IsSome, inl, inr, is_some, refl, sym, ap, subst, arith}
use Rattle.std.specs.Cmp.{nat_eq_equiv, unsigned_Decides}
use Rattle.std.specs.FinMap.{get}
use Rattle.std.specs.List.{AllByRecursion}
use Rattle.nfs_machine.specs.Exports.{LivingExport, export_at}
use Rattle.nfs_machine.specs.WellFormed.{IsNumbered}
use Rattle.nlm_ranges.specs.Buckets.{bucket_count, file_in}
use Rattle.nfs_objects.proofs.DirectoryStoreLemmas.{directories-but, directories-put}
use Rattle.nfs_objects.proofs.FileStoreLemmas.{files-but, files-put, living_beside, living_bytes, living_entries}
use Rattle.nfs_objects.proofs.LocksStandLemmas.{locks-gone}
use Rattle.nfs_objects.proofs.SeenLemmas.{known-stands, writes-append}
use Rattle.nfs_objects.proofs.TallyLemmas.{get-removed}
use Rattle.nfs_objects.specs.Drafts.{MayGive}
use Rattle.nfs_objects.specs.Edits.{freed, set_at}
use Rattle.nfs_objects.specs.ExportTables.{ExportTableValue, IsExportTable, table_in}
use Rattle.nfs_objects.specs.Knows.{Shows, Turns}
use Rattle.nfs_objects.specs.Bits.{no_bits}
use Rattle.nfs_objects.specs.declared.object.Content.{Content}
use Rattle.nfs_objects.specs.Stands.{HasBlocks, HoldsEntries, IsFitting, StoreMeaning, Represents, bucket_there}
use Rattle.nfs_objects.specs.Stands.{entry_map_in}
use Rattle.nfs_objects.specs.Stands.{entry_map_of, export_table_of, exports_of, inode_in, links_kept, lives_in}
use Rattle.nfs_objects.specs.Stands.{living_in, living_of_inode, map_in, pages_of, parent_kept}
use Rattle.nfs_objects.specs.Store.{Store, with_write, with_writes}
use Rattle.nfs_objects.specs.Values.{DraftValue, known_at, with_written}
use Rattle.nfs_objects.specs.declared.address.Addr.TheVariants as addresses
use Rattle.nfs_objects.specs.declared.object.Inode.{Inode}
use Rattle.nfs_objects.specs.declared.object.Object.{Object}
use Rattle.nfs_objects.specs.declared.object.Object.TheVariants as objects
use Rattle.nfs_inodes.proofs.PutObjectLemmas.{known-inode}
use Rattle.nfs_inodes.specs.Burying.{IsBuried, IsLarge}
use Rattle.nfs_inodes.specs.Known.{HasInode}
use Rattle.nfs_inodes.specs.Locks.{HasNone}

-- ---- no export has the number 0
none-first : (last : ℕ) (exports : List LivingExport) → AllByRecursion (IsNumbered last) exports →
    lives_in exports 0 ≡ false
none-first last [] numbered = refl
none-first last (e ∷ exports) numbered =
    elim (e.number == 0) as (λ b. (e.number == 0) ≡ b → is_some (cond b (Some e) (export_at exports 0)) ≡ false) [
      | true ↦ λ is.
          (let same : e.number ≡ 0 = (unsigned_Decides e.number 0).0 is in
          let low = numbered.0.0 in absurd (omega (arith, same, low)))
      | false ↦ λ other. none-first last exports numbered.1
    ] refl

exports-known : (d : DraftValue) (table : ExportTableValue) (o : Option (Option Object)) →
    known_at d addresses.Exports ≡ o → option_map export_table_of o ≡ Some table →
    Shows d (λ k. k.state.exports ≡ table.exports)
exports-known d table None at is s k fits stands = cc
exports-known d table (Some o) at is s k fits stands =
    stands.tables.exports
    ∙ ap exports_of (known-stands d s addresses.Exports o fits at)
    ∙ (let same : export_table_of o ≡ table = cc in ap (λ (t : ExportTableValue). t.exports) same)

pub none-has : (d : DraftValue) (table : Option ExportTableValue) →
    option_map export_table_of (known_at d addresses.Exports) ≡ Some (table_in table) →
    IsExportTable (table_in table) → Shows d (λ k. lives_in k.state.exports 0 ≡ false)
none-has d table is numbered s k fits stands =
    ap (λ es. lives_in es 0) (exports-known d (table_in table) (known_at d addresses.Exports) refl is s k fits stands)
    ∙ none-first (table_in table).last (table_in table).exports numbered.numbered

-- ---- the inode of a file is put with an export that does not live
last-same : (last generation : ℕ) → generation ≤ last → max last generation ≡ last
last-same last generation within = omega (arith, within)

module _ (s : Store) (k : StoreMeaning) (n : ℕ) (i j : Inode) (stands : Represents s k)
    (at : s.at (addresses.Inode n) ≡ Some (objects.Inode i)) (is : j ≡ record i { export = 0 })
    (none : lives_in k.state.exports 0 ≡ false) (unlocked : file_in (bucket_there s (n % bucket_count)) n ≡ None) where
  abbrev left : Store
  left = with_write s (addresses.Inode n) (Some (objects.Inode j))

  -- it stands for nothing
  dead : inode_in k.state.exports (Some (objects.Inode j)) ≡ None
  dead = ap (λ (x : Inode). cond (lives_in k.state.exports x.export) (Some x) None) is
      ∙ ap (λ b. cond b (Some (record i { export = 0 })) None) none

  -- what was said of what stands at each number is so of it, where it is said of the inode that stood there
  each : (P : ℕ → Inode → Type 0) → P n j
      → ((q : ℕ) (x : Inode) → s.at (addresses.Inode q) ≡ Some (objects.Inode x) → P q x)
      → (q : ℕ) (x : Inode) → left.at (addresses.Inode q) ≡ Some (objects.Inode x) → P q x
  each P here there q x stood =
      elim (n == q) as (λ b. (n == q) ≡ b →
      cond b (Some (objects.Inode j)) (s.at (addresses.Inode q)) ≡ Some (objects.Inode x) → P q x) [
        | true ↦ λ same e. (let own : j ≡ x = cc in
            subst (P q) own (subst (λ m. P m j) ((unsigned_Decides n q).0 same) here))
        | false ↦ λ other e. there q x e
      ] refl stood

  -- it gives no generation anew
  given : j.generation ≤ s.last n
  given = subst (λ (x : Inode). x.generation ≤ s.last n) (sym is) (stands.objects.given n i at)

  last-is : (q : ℕ) → left.last q ≡ s.last q
  last-is q =
      elim (n == q) as (λ b. (n == q) ≡ b → cond b (max (s.last q) j.generation) (s.last q) ≡ s.last q) [
        | true ↦ λ same. last-same (s.last q) j.generation
            (subst (λ m. j.generation ≤ s.last m) ((unsigned_Decides n q).0 same) given)
        | false ↦ λ other. refl
      ] refl

  -- nothing is kept of it
  kept-none : (f : Option Inode → ℕ) (kept : ℕ → ℕ) → f None ≡ 0
      → ((q : ℕ) → kept q ≡ f (inode_in k.state.exports (s.at (addresses.Inode q))))
      → (q : ℕ) → set_at kept n 0 q ≡ f (inode_in k.state.exports (left.at (addresses.Inode q)))
  kept-none f kept zero was q =
      elim (n == q) as (λ b. cond b 0 (kept q) ≡
      f (inode_in k.state.exports (cond b (Some (objects.Inode j)) (s.at (addresses.Inode q))))) [
        | true ↦ sym zero ∙ ap f (sym dead)
        | false ↦ was q
      ]

  content-is : j.content ≡ i.content
  content-is = ap (λ (x : Inode). x.content) is

  abbrev HasBlocksOf : Content → Type 0
  HasBlocksOf c = HasBlocks s n (elim (map_in c) [ None ↦ no_bits | Some map ↦ map.pages ])

  pub buried-stands : Represents left (freed k n)
  buried-stands = record {
    tables = record {
      table = stands.tables.table;
      exports = stands.tables.exports;
      last_export = stands.tables.last_export;
      mounts = stands.tables.mounts;
    };
    objects = record {
      objects = λ q. subst
          (λ g. g ≡ living_in k.state.exports (living_beside g)
          (cond (n == q) (Some (objects.Inode j)) (s.at (addresses.Inode q))))
          (sym (removed q))
          (elim (n == q) as (λ b. cond b None (get k.state.objects q) ≡ living_in k.state.exports
          (living_beside (cond b None (get k.state.objects q)))
          (cond b (Some (objects.Inode j)) (s.at (addresses.Inode q)))) [
            | true ↦ ap (option_map (living_of_inode (living_beside None))) (sym dead)
            | false ↦ stands.objects.objects q
          ]);
      links = kept-none links_kept k.links refl stands.objects.links;
      parents = kept-none parent_kept k.parents refl stands.objects.parents;
      given = each (λ q x. x.generation ≤ left.last q) (subst (λ l. j.generation ≤ l) (sym (last-is n)) given)
          (λ q x stood. subst (λ l. x.generation ≤ l) (sym (last-is q)) (stands.objects.given q x stood));
      fits = each IsFitting (subst (IsFitting n) (sym is) (stands.objects.fits n i at)) stands.objects.fits;
      spent = λ q g. stands.objects.spent q g ∙ ap (λ l. nat_le g l) (sym (last-is q));
      numbered = each (λ q x. (lives_in k.state.exports x.export ≡ true) ⊎ (x.export ≤ k.state.last_export))
          (subst (λ (x : Inode). (lives_in k.state.exports x.export ≡ true) ⊎ (x.export ≤ k.state.last_export)) (sym is)
          (inr (omega arith)))
          stands.objects.numbered;
    };
    files = files-put s k n (Some (objects.Inode j)) left.last (files-but n s k stands.files)
        (subst HasBlocksOf (sym content-is) (subst (λ o. HasBlocks s n (pages_of o)) at (stands.files.blocks n)))
        (freed k n) refl
        (λ q other. ap living_bytes (removed q ∙ ap (λ b. cond b None (get k.state.objects q)) other))
        (λ x there. (let clash : None ≡ Some x = sym dead ∙ there in absurd cc));
    directories = directories-put s k n (Some (objects.Inode j)) left.last (directories-but n s k stands.directories)
        (stands.directories n).entries
        (subst (λ c. HoldsEntries s n (entry_map_in c) (stands.directories n).entries) (sym content-is)
        (subst (λ o. HoldsEntries s n (entry_map_of o) (stands.directories n).entries) at (stands.directories n).holds))
        (freed k n) refl
        (λ q other. ap living_entries (removed q ∙ ap (λ b. cond b None (get k.state.objects q)) other))
        (λ there. (let no = subst (λ x. IsSome x) dead there in absurd cc));
    usages = record { usage = stands.usages.usage };
    locks = locks-gone s left k.state (freed k n).state n unlocked stands.locks refl (λ q x other stood.
        ap (λ b. cond b (Some (objects.Inode j)) (s.at (addresses.Inode q))) (nat_eq_equiv.symm n q ∙ other) ∙ stood);
  }
    where
      removed : (q : ℕ) → get (freed k n).state.objects q ≡ cond (n == q) None (get k.state.objects q)
      removed q = get-removed k.state.objects n q
          ∙ ap (λ b. cond b None (get k.state.objects q)) (nat_eq_equiv.symm q n)

-- ---- the draft
-- what is left of it, made of a copy
pub buried-copy : (d : DraftValue) (n : ℕ) (copy was : Inode) (export : ℕ) → HasInode d n (Some was) →
    IsLarge was.content → copy ≡ was → export ≡ 0 → Shows d (λ k. lives_in k.state.exports export ≡ false) →
    IsBuried d n (record copy { export = export })
buried-copy d n copy was export has large same zero none = record {
  was = was;
  stands = has;
  large = large;
  is = ap (λ e. record copy { export = e }) zero ∙ ap (λ (x : Inode). record x { export = 0 }) same;
  none = subst (λ e. Shows d (λ k. lives_in k.state.exports e ≡ false)) zero none;
}

module _ (d : DraftValue) (n : ℕ) (j : Inode) (buried : IsBuried d n j) where
  pub buried-turns : (new : DraftValue) → HasNone d n
      → new ≡ with_written d (addresses.Inode n) (Some (objects.Inode j)) → Turns d new (λ k. freed k n)
  buried-turns new unlocked put = subst (λ (x : DraftValue). Turns d x (λ k. freed k n)) (sym put) (record {
    ctx = refl;
    view = refl;
    modes = refl;
    messages = refl;
    turns = λ s k fits stands. subst (λ (x : Store). Represents x (freed k n))
        (sym (writes-append d.writes s (addresses.Inode n) (Some (objects.Inode j))))
        (buried-stands (with_writes s d.writes) k n buried.was j stands
        (known-stands d s (addresses.Inode n) (Some (objects.Inode buried.was)) fits
        (known-inode d n buried.was buried.stands)) buried.is (buried.none s k fits stands)
        (unlocked s k fits stands));
  })

  pub buried-generation : MayGive d n j.generation
  buried-generation = inl (
    buried.was,
    known-inode d n buried.was buried.stands,
    sym (ap (λ (x : Inode). x.generation) buried.is),
  )

  pub buried-known : IsSome (known_at d (addresses.Inode n))
  buried-known = subst (λ x. IsSome x) (sym buried.stands.known) refl
