-- A map page of a file goes from a shard address by address.
use Rattle.std.proofs.Common.{◌≡◌, ◌+◌, ◌*◌, ◌<◌, ℕ, Bool, true, false, Option, Some, None, IsSome, is_some, not, refl}
use Rattle.std.proofs.Common.{sym, ◌∙◌, subst}
use Rattle.std.specs.Bool.{Decides}
use Rattle.nfs_objects.specs.declared.address.Addr.{Addr}
use Rattle.nfs_objects.specs.declared.address.Addr.TheVariants.{Block, Inode, Map}
use Rattle.nfs_objects.specs.declared.modes.Mode.{Mode}
use Rattle.nfs_objects.specs.declared.modes.Mode.TheVariants.{Exclusive}
use Rattle.nfs_objects.specs.declared.object.Object.{Object}
use Rattle.nfs_engine.proofs.SweepStepLemmas.{AllBlocks, IsGoneTo, block-of-page, gone-all, gone-first}
use Rattle.nfs_engine.proofs.SweepStepLemmas.{gone-next, map-of-page, page-has}
use Rattle.nfs_engine.specs.Holders.{HoldersValue, IsExcluder, hold_of}
use Rattle.nfs_engine.specs.Shards.{Fills, ShardValue, hold_at, slot_at}
use Rattle.nfs_engine.specs.Sweeps.{IsFreeOf, IsPageFree, SweepValue, SweepsShard}

-- the page is gone from the shard with its first so many blocks
pub record ShardGoneTo (old new : ShardValue) (file page count : ℕ) : Type 0 where
  pub objects : IsGoneTo (λ a. (slot_at old a).object) (λ a. (slot_at new a).object) file page count
  pub holds : (a : Addr) (j : ℕ) → hold_at new a j ≡ hold_at old a j
  pub next_generation : new.next_generation ≡ old.next_generation
  pub index : new.index ≡ old.index

pub shard-first : (old new : ShardValue) (file page : ℕ) → Fills old new (Map file page) None →
    ShardGoneTo old new file page 0
shard-first old new file page fills = record {
  objects = gone-first file page (λ a. (slot_at old a).object) (λ a. (slot_at new a).object) fills.objects;
  holds = fills.holds;
  next_generation = fills.next_generation;
  index = fills.index;
}

pub shard-next : (old mid new : ShardValue) (file page count : ℕ) (a : Addr) → a ≡ Block file (page * 512 + count) →
    ShardGoneTo old mid file page count → Fills mid new a None → ShardGoneTo old new file page (count + 1)
shard-next old mid new file page count a is gone fills = record {
  objects = gone-next file page (λ a. (slot_at old a).object) (λ a. (slot_at mid a).object)
      (λ a. (slot_at new a).object) count (page * 512 + count) refl gone.objects
      (subst (λ (b : Addr). Fills mid new b None) is fills).objects;
  holds = λ a j. fills.holds a j ∙ gone.holds a j;
  next_generation = fills.next_generation ∙ gone.next_generation;
  index = fills.index ∙ gone.index;
}

pub shard-all : (old mid new : ShardValue) (w : SweepValue) (o : Option Object) → o ≡ w.inode →
    ShardGoneTo old mid w.file w.page 512 → Fills mid new (Inode w.file) o → SweepsShard old new w
shard-all old mid new w o is gone fills = record {
  objects = gone-all w.file w.page (λ a. (slot_at old a).object) (λ a. (slot_at mid a).object)
      (λ a. (slot_at new a).object) w.inode gone.objects
      (subst (λ (x : Option Object). Fills mid new (Inode w.file) x) is fills).objects;
  holds = λ a j. fills.holds a j ∙ gone.holds a j;
  next_generation = fills.next_generation ∙ gone.next_generation;
  index = fills.index ∙ gone.index;
}

-- the inode of which something is left stands there still
pub inode-still : (old mid : ShardValue) (w : SweepValue) (o : Option Object) (count n : ℕ) → n ≡ w.file →
    o ≡ w.inode → IsFreeOf old w → ShardGoneTo old mid w.file w.page count → IsSome o →
    IsSome (slot_at mid (Inode n)).object
inode-still old mid w o count n same is free gone some =
    subst (λ (m : ℕ). IsSome (slot_at mid (Inode m)).object) (sym same)
    (subst (λ x. IsSome x) (sym (gone.objects (Inode w.file))) (free.stands (subst (λ x. IsSome x) is some)))

-- ---- who holds it
abbrev pub IsFree : ShardValue → Addr → Type 0
IsFree s a = (j : ℕ) → hold_at s a j ≡ None

pub decides-free : (v : HoldersValue) (r : Option ℕ) → IsExcluder Exclusive v r → (none : Bool) →
    is_some r ≡ not none → Decides none ((j : ℕ) → hold_of v j ≡ None)
decides-free v None excludes true same = (λ e. excludes, λ free. refl)
decides-free v None excludes false same = cc
decides-free v (Some h) excludes true same = cc
decides-free v (Some h) excludes false same = (
  λ e. cc,
  λ free. absurd (held (hold_of v h) (free h) excludes),
)
  where
    held : (m : Option Mode) → m ≡ None → IsSome m → ⊥
    held None e s = cc
    held (Some m) e s = cc

pub page-free : (s : ShardValue) (file page : ℕ) → AllBlocks (IsFree s) file page 512 → IsFree s (Map file page) →
    IsPageFree s file page
page-free s file page all map = page-has (IsFree s) file page all map

pub page-decides : (s : ShardValue) (file page : ℕ) (free : Bool) → AllBlocks (IsFree s) file page 512 →
    Decides free (IsFree s (Map file page)) → Decides free (IsPageFree s file page)
page-decides s file page free all decides = (
  λ e. page-free s file page all (decides.0 e),
  λ so. decides.1 (so (Map file page) (map-of-page file page)),
)

pub block-held : (s : ShardValue) (file page count : ℕ) (a : Addr) → a ≡ Block file (page * 512 + count) →
    count < 512 → (free : Bool) → free ≡ false → Decides free (IsFree s a) → Decides false (IsPageFree s file page)
block-held s file page count a is within free held decides = (
  λ e. cc,
  λ so. (let no : true ≡ false = sym (decides.1 (subst (λ (b : Addr). IsFree s b) (sym is)
      (so (Block file (page * 512 + count)) (block-of-page file page count (page * 512 + count) refl within))))
      ∙ held in
      cc),
)

-- ---- whether it is there
abbrev pub HasLeft : ShardValue → SweepValue → Type 0
HasLeft s w = IsSome w.inode → IsSome (slot_at s (Inode w.file)).object

pub none-left : (s : ShardValue) (w : SweepValue) → w.inode ≡ None → Decides true (HasLeft s w)
none-left s w none = (
  λ e some. (let no : false ≡ true = subst (λ (o : Option Object). IsSome o) none some in cc),
  λ stands. refl,
)

pub left-stands : (s : ShardValue) (w : SweepValue) (last : Bool) → Decides last (w.inode ≡ None) → last ≡ false →
    (n : ℕ) → n ≡ w.file → (there : Bool) → Decides there (IsSome (slot_at s (Inode n)).object) →
    Decides there (HasLeft s w)
left-stands s w last is more n same there decides = (
  λ e some. subst (λ (m : ℕ). IsSome (slot_at s (Inode m)).object) same (decides.0 e),
  λ stands. decides.1 (subst (λ (m : ℕ). IsSome (slot_at s (Inode m)).object) (sym same) (stands (some w.inode refl))),
)
  where
    some : (o : Option Object) → w.inode ≡ o → IsSome w.inode
    some None none = (let no : true ≡ false = sym (is.1 none) ∙ more in cc)
    some (Some x) e = subst (λ (o : Option Object). IsSome o) (sym e) refl

-- where something is not so, it is not free
pub not-left : (s : ShardValue) (w : SweepValue) (left : Bool) → Decides left (HasLeft s w) → left ≡ false →
    Decides false (IsFreeOf s w)
not-left s w left decides nay = (
  λ e. cc,
  λ so. (let no : true ≡ false = sym (decides.1 so.stands) ∙ nay in cc),
)

pub not-free : (s : ShardValue) (w : SweepValue) (n : ℕ) → n ≡ w.file → (free : Bool) →
    Decides free (IsFree s (Inode n)) → free ≡ false → Decides false (IsFreeOf s w)
not-free s w n same free decides nay = (
  λ e. cc,
  λ so. (let no : true ≡ false =
      sym (decides.1 (subst (λ (m : ℕ). IsFree s (Inode m)) (sym same) so.inode)) ∙ nay in cc),
)

pub free-decides : (s : ShardValue) (w : SweepValue) (left : Bool) → Decides left (HasLeft s w) → left ≡ true →
    (n : ℕ) → n ≡ w.file → (free : Bool) → Decides free (IsFree s (Inode n)) → free ≡ true → (page : Bool) →
    Decides page (IsPageFree s w.file w.page) → Decides page (IsFreeOf s w)
free-decides s w left has so n same free unheld said page decides = (
  λ e. record {
    stands = has.0 so;
    inode = subst (λ (m : ℕ). IsFree s (Inode m)) same (unheld.0 said);
    page = decides.0 e;
  },
  λ is. decides.1 is.page,
)
