-- The pages and parts of a directory that goes are freed, one after another.
use Rattle.std.proofs.Common.{◌≡◌, ◌⊎◌, ◌<◌, ℕ, ◌==◌, ◌&&◌, ◌||◌, Bool, true, false, cond, List, [], ◌∷◌, ◌++◌}
use Rattle.std.proofs.Common.{Option, Some, None, IsSome, inl, inr, length, refl, sym, ◌∙◌, ap, subst, zero, suc, arith}
use Rattle.std.proofs.Common.{get_or}
use Rattle.std.proofs.lemmas.Bool.{eqb-true, or_left, or_right}
use Rattle.nfs_machine.specs.Attributes.{is_directory}
use Rattle.nfs_objects.proofs.PagePartAddressLemmas.{listed-last}
use Rattle.nfs_objects.proofs.OtherObjectsLemmas.{enters-both, enters-none, enters-page, enters-part}
use Rattle.nfs_objects.proofs.SeenLemmas.{is_addr-refl, known-stands}
use Rattle.nfs_objects.specs.Asks.{IsThere}
use Rattle.nfs_objects.specs.Directories.{AreBeside, is_listed}
use Rattle.nfs_objects.specs.Drafts.{MayChange}
use Rattle.nfs_objects.specs.Fits.{Fits}
use Rattle.nfs_objects.specs.Stands.{HasEntries, HoldsEntries, StoreMeaning, StandEntries, content_of, entry_map_in}
use Rattle.nfs_objects.specs.Stands.{entry_map_of}
use Rattle.nfs_objects.specs.Stands.{inode_of}
use Rattle.nfs_objects.specs.Store.{Store, with_writes}
use Rattle.nfs_objects.specs.Values.{DraftValue, is_addr, known_at, with_written}
use Rattle.nfs_objects.specs.declared.address.Addr.{Addr}
use Rattle.nfs_objects.specs.declared.address.Addr.TheVariants as addresses
use Rattle.nfs_objects.specs.declared.directory.Directory.{Directory}
use Rattle.nfs_objects.specs.declared.entry_map.EntryMap.{EntryMap}
use Rattle.nfs_objects.specs.declared.object.Content.{Content}
use Rattle.nfs_objects.specs.declared.object.Content.TheVariants as contents
use Rattle.nfs_objects.specs.declared.object.Inode.{Inode}
use Rattle.nfs_objects.specs.declared.object.Object.{Object}
use Rattle.nfs_inodes.proofs.DirectoryMapLemmas.{beside-stands, emptied-by}
use Rattle.nfs_inodes.proofs.ReadBlocksLemmas.{unknown-stays}
use Rattle.nfs_inodes.proofs.StillKnownLemmas.{keeps-written, knows-both, knows-none}
use Rattle.nfs_inodes.proofs.WrittenBlocksLemmas.{stands-written}
use Rattle.nfs_inodes.specs.Entered.{EntriesStand, Frees, IsEmptied, is_entries_of}

-- ---- what stands at the number
abbrev pub map_of_inode : Option Inode → Option EntryMap
map_of_inode i = elim i [ None ↦ None | Some i ↦ entry_map_in i.content ]

-- it is no directory
bare-content : (c : Content) → is_directory (content_of c) ≡ false → entry_map_in c ≡ None
bare-content (contents.Regular map) is = refl
bare-content (contents.Directory directory) is = cc
bare-content (contents.Link text) is = refl
bare-content (contents.BlockDevice device) is = refl
bare-content (contents.CharacterDevice device) is = refl
bare-content contents.Socket is = refl
bare-content contents.Fifo is = refl

module _ (d : DraftValue) (n : ℕ) (o : Option Object) (known : known_at d (addresses.Inode n) ≡ Some o) where
  holds : (s : Store) (k : StoreMeaning) → Fits d.view s → (stand : StandEntries (with_writes s d.writes) k n) →
      HoldsEntries (with_writes s d.writes) n (entry_map_of o) stand.entries
  holds s k fits stand = subst (λ x. HoldsEntries (with_writes s d.writes) n (entry_map_of x) stand.entries)
      (known-stands d s (addresses.Inode n) o fits known) stand.holds

  bare-emptied : entry_map_of o ≡ None → IsEmptied d d n
  bare-emptied none = record {
    enters = enters-none n d;
    knows = knows-none d;
    emptied = λ s k fits stand. subst (λ m. HoldsEntries (with_writes s d.writes) n m stand.entries) none
        (holds s k fits stand);
  }

  pub emptied-nothing : None ≡ inode_of o → IsEmptied d d n
  emptied-nothing none = bare-emptied (ap map_of_inode (sym none))

  pub emptied-other : (i : Inode) → Some i ≡ inode_of o → is_directory (content_of i.content) ≡ false → IsEmptied d d n
  emptied-other i is other = bare-emptied (ap map_of_inode (sym is) ∙ bare-content i.content other)

  module _ (i : Inode) (directory : Directory) (is : Some i ≡ inode_of o)
      (content : i.content ≡ contents.Directory directory) (listed : List Addr)
      (beside : length directory.entries.counts ≡ 64 → AreBeside directory.entries n listed) where
    map-is : entry_map_of o ≡ Some directory.entries
    map-is = ap map_of_inode (sym is) ∙ ap entry_map_in content

    has : (s : Store) (k : StoreMeaning) → Fits d.view s → (stand : StandEntries (with_writes s d.writes) k n) →
        HasEntries (with_writes s d.writes) n directory.entries stand.entries
    has s k fits stand =
        subst (λ m. HoldsEntries (with_writes s d.writes) n m stand.entries) map-is (holds s k fits stand)

    -- each address that is listed is known, or something stands there
    pub listed-lives : EntriesStand d n → (a : Addr) → is_listed listed a ≡ true →
        IsSome (known_at d a) ⊎ IsThere d.view a
    listed-lives still a among = by (known_at d a) refl
      where
        by : (x : Option (Option Object)) → known_at d a ≡ x → IsSome x ⊎ IsThere d.view a
        by (Some x) is = inl refl
        by None unknown = inr (λ s k fits stands sound formed.
            (let stand = still s k fits stands in
            let own = has s stand.0 fits stand.1 in
            subst (λ x. IsSome x) (unknown-stays d s a unknown)
            (beside-stands (with_writes s d.writes) n directory.entries stand.1.entries own a
            (sym (beside own.buckets a) ∙ among))))

    pub emptied-all : (new : DraftValue) → Frees d new n listed → IsEmptied d new n
    emptied-all new frees = record {
      enters = frees.enters;
      knows = frees.knows;
      emptied = λ s k fits stand.
          let own = has s k fits stand in
          emptied-by (with_writes s d.writes) (with_writes s new.writes) n directory.entries stand.entries listed own
          (beside own.buckets) (frees.pages s) (frees.parts s);
    }

-- ---- one after another
pub frees-none : (d : DraftValue) (n : ℕ) → Frees d d n []
frees-none d n = record {
  enters = enters-none n d;
  knows = knows-none d;
  pages = λ s page. refl;
  parts = λ s bucket part. refl;
}

both-freed : (a b : Bool) (o : Option Object) → cond (b || false) None (cond a None o) ≡ cond (a || b) None o
both-freed true true o = refl
both-freed true false o = refl
both-freed false true o = refl
both-freed false false o = refl

-- what is freed twice over
freed-next : (listed : List Addr) (b a : Addr) (old mid new : Option Object)
    → mid ≡ cond (is_listed listed a) None old →
    new ≡ cond (is_listed (b ∷ []) a) None mid → new ≡ cond (is_listed (listed ++ b ∷ []) a) None old
freed-next listed b a old mid new first second =
    second ∙ ap (cond (is_listed (b ∷ []) a) None) first ∙ both-freed (is_listed listed a) (is_addr b a) old
    ∙ ap (λ t. cond t None old) (sym (listed-last listed b a))

pub frees-next : (d mid new : DraftValue) (n : ℕ) (listed more : List Addr) (b : Addr) → more ≡ listed ++ b ∷ [] →
    Frees d mid n listed → Frees mid new n (b ∷ []) → Frees d new n more
frees-next d mid new n listed more b is first second = subst (Frees d new n) (sym is) (record {
  enters = enters-both n d mid new first.enters second.enters;
  knows = knows-both d mid new first.knows second.knows;
  pages = λ s page. freed-next listed b (addresses.Page n page) _ _ _ (first.pages s page) (second.pages s page);
  parts = λ s bucket part.
      freed-next listed b (addresses.Part n bucket part) _ _ _ (first.parts s bucket part) (second.parts s bucket part);
})

-- an address at a place of a list is listed
pub listed-at : (listed : List Addr) (place : ℕ) (a default : Addr) → place < length listed →
    a ≡ get_or listed place default → is_listed listed a ≡ true
listed-at [] place a default within is = absurd (omega (arith, within))
listed-at (x ∷ xs) zero a default within is =
    or_left (is_addr x a) (is_listed xs a) (ap (is_addr x) is ∙ is_addr-refl x)
listed-at (x ∷ xs) (suc place) a default within is =
    or_right (is_addr x a) (is_listed xs a) (listed-at xs place a default (omega (arith, within)) is)

-- ---- one of them
or-none : (b : Bool) → b ≡ (b || false)
or-none true = refl
or-none false = refl

-- what is so of each page and each part at a number
of-entries : (P : Addr → Type 0) (n : ℕ) → ((page : ℕ) → P (addresses.Page n page)) →
    ((bucket part : ℕ) → P (addresses.Part n bucket part)) → (a : Addr) → is_entries_of n a ≡ true → P a
of-entries P n pages parts (addresses.Page q page) own =
    subst (λ m. P (addresses.Page m page)) (sym (eqb-true q n own)) (pages page)
of-entries P n pages parts (addresses.Part q bucket part) own =
    subst (λ m. P (addresses.Part m bucket part)) (sym (eqb-true q n own)) (parts bucket part)
of-entries P n pages parts addresses.Exports own = cc
of-entries P n pages parts (addresses.Inode q) own = cc
of-entries P n pages parts (addresses.Map file page) own = cc
of-entries P n pages parts (addresses.Block file index) own = cc
of-entries P n pages parts addresses.Mounts own = cc
of-entries P n pages parts (addresses.Usage export group) own = cc
of-entries P n pages parts (addresses.Locks index) own = cc

pub may-free : (d : DraftValue) (n : ℕ) (a : Addr) → is_entries_of n a ≡ true → MayChange d (addresses.Inode n) →
    MayChange d a
may-free d n a own may = of-entries (MayChange d) n (λ page. may) (λ bucket part. may) a own

-- what is written at an address
freed-at : (d : DraftValue) (s : Store) (b a : Addr) →
    (with_writes s (with_written d b None).writes).at a
    ≡ cond (is_listed (b ∷ []) a) None ((with_writes s d.writes).at a)
freed-at d s b a =
    stands-written d s b None a ∙ ap (λ t. cond t None ((with_writes s d.writes).at a)) (or-none (is_addr b a))

frees-page : (d : DraftValue) (n page : ℕ) →
    Frees d (with_written d (addresses.Page n page) None) n (addresses.Page n page ∷ [])
frees-page d n page = record {
  enters = enters-page n d page None;
  knows = keeps-written d (addresses.Page n page) None refl;
  pages = λ s q. freed-at d s (addresses.Page n page) (addresses.Page n q);
  parts = λ s bucket part. freed-at d s (addresses.Page n page) (addresses.Part n bucket part);
}

frees-part : (d : DraftValue) (n bucket part : ℕ) →
    Frees d (with_written d (addresses.Part n bucket part) None) n (addresses.Part n bucket part ∷ [])
frees-part d n bucket part = record {
  enters = enters-part n d bucket part None;
  knows = keeps-written d (addresses.Part n bucket part) None refl;
  pages = λ s q. freed-at d s (addresses.Part n bucket part) (addresses.Page n q);
  parts = λ s b q. freed-at d s (addresses.Part n bucket part) (addresses.Part n b q);
}

pub frees-own : (d new : DraftValue) (n : ℕ) (a : Addr) → is_entries_of n a ≡ true → new ≡ with_written d a None →
    Frees d new n (a ∷ [])
frees-own d new n a own freed =
    subst (λ x. Frees d x n (a ∷ [])) (sym freed)
    (of-entries (λ b. Frees d (with_written d b None) n (b ∷ [])) n (frees-page d n) (frees-part d n) a own)

-- an address of anything else
pub frees-other : (d : DraftValue) (n : ℕ) (a : Addr) → is_entries_of n a ≡ false → Frees d d n (a ∷ [])
frees-other d n a other = record {
  enters = enters-none n d;
  knows = knows-none d;
  pages = λ s page. stays s (addresses.Page n page) (no-page a other page);
  parts = λ s bucket part. stays s (addresses.Part n bucket part) (no-part a other bucket part);
}
  where
    stays : (s : Store) (b : Addr) → is_addr a b ≡ false →
        (with_writes s d.writes).at b ≡ cond (is_listed (a ∷ []) b) None ((with_writes s d.writes).at b)
    stays s b apart = ap (λ t. cond (t || false) None ((with_writes s d.writes).at b)) (sym apart)

    no-page : (b : Addr) → is_entries_of n b ≡ false → (page : ℕ) → is_addr b (addresses.Page n page) ≡ false
    no-page (addresses.Page q p) is page = ap (λ t. t && (p == page)) is
    no-page (addresses.Part q bucket part) is page = refl
    no-page addresses.Exports is page = refl
    no-page (addresses.Inode q) is page = refl
    no-page (addresses.Map file p) is page = refl
    no-page (addresses.Block file index) is page = refl
    no-page addresses.Mounts is page = refl
    no-page (addresses.Usage export group) is page = refl
    no-page (addresses.Locks index) is page = refl

    no-part : (b : Addr) → is_entries_of n b ≡ false → (bucket part : ℕ) →
        is_addr b (addresses.Part n bucket part) ≡ false
    no-part (addresses.Part q c p) is bucket part = ap (λ t. t && ((c == bucket) && (p == part))) is
    no-part (addresses.Page q p) is bucket part = refl
    no-part addresses.Exports is bucket part = refl
    no-part (addresses.Inode q) is bucket part = refl
    no-part (addresses.Map file p) is bucket part = refl
    no-part (addresses.Block file index) is bucket part = refl
    no-part addresses.Mounts is bucket part = refl
    no-part (addresses.Usage export group) is bucket part = refl
    no-part (addresses.Locks index) is bucket part = refl
