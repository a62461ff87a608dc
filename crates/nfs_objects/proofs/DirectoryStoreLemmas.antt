-- Directories of a store after writes that leave them, and but for one.
use Rattle.std.proofs.Common.{◌≡◌, ◌==◌, ◌&&◌, ℕ, true, false, cond, Bool}
use Rattle.std.proofs.Common.{List, Option, Some, None, IsSome, refl, sym, ◌∙◌, ap, subst}
use Rattle.std.proofs.Common.{arith, inl}
use Rattle.std.proofs.lemmas.Bool.{le-ltb}
use Rattle.std.specs.Prelude.{nat_lt, replicate, slice_index_or, zero, suc, []}
use Rattle.std.specs.Cmp.{unsigned_Decides}
use Rattle.nfs_machine.specs.State.{Entry}
use Rattle.nfs_objects.specs.Directories.{led_in_part, no_entries, width_in, width_of}
use Rattle.nfs_objects.specs.Stands.{HasEntries, HoldsEntries, IsPart, StoreMeaning, StandDirectories, StandEntries}
use Rattle.nfs_objects.specs.Stands.{entries_at, entry_map_of, inode_in}
use Rattle.nfs_objects.specs.Store.{Store, put_at, with_write}
use Rattle.nfs_objects.specs.Unfiled.{StandDirectoriesBut}
use Rattle.nfs_objects.specs.declared.address.Addr.TheVariants as addresses
use Rattle.nfs_objects.specs.declared.entry_map.EntryMap.{EntryMap}
use Rattle.nfs_objects.specs.declared.object.Object.{Object}

-- ---- directories that stay
module _ (s t : Store) (n : ℕ) (pages : (page : ℕ) → t.at (addresses.Page n page) ≡ s.at (addresses.Page n page))
    (parts : (bucket part : ℕ) → t.at (addresses.Part n bucket part) ≡ s.at (addresses.Part n bucket part)) where
  pub entries-frame : (m : EntryMap) (entries : List Entry) → HasEntries s n m entries → HasEntries t n m entries
  entries-frame m entries has = record {
    once = has.once;
    buckets = has.buckets;
    listed = has.listed;
    pages = λ page. pages page ∙ has.pages page;
    counted = has.counted;
    parts = λ bucket part. subst (IsPart (nat_lt part (width_in m.counts bucket))
        (led_in_part m.key (width_in m.counts bucket) bucket part entries)) (sym (parts bucket part))
        (has.parts bucket part);
  }

  pub holds-frame : (m : Option EntryMap) (entries : List Entry) → HoldsEntries s n m entries
      → HoldsEntries t n m entries
  holds-frame (Some m) entries holds = entries-frame m entries holds
  holds-frame None entries holds =
      (λ page. pages page ∙ holds.0 page, λ bucket part. parts bucket part ∙ holds.1 bucket part)

  pub stand-frame : (k l : StoreMeaning) → t.at (addresses.Inode n) ≡ s.at (addresses.Inode n)
      → l.state.exports ≡ k.state.exports → entries_at l.state n ≡ entries_at k.state n
      → StandEntries s k n → StandEntries t l n
  stand-frame k l inode exports entries stand = record {
    entries = stand.entries;
    holds = subst (λ o. HoldsEntries t n (entry_map_of o) stand.entries) (sym inode)
        (holds-frame (entry_map_of (s.at (addresses.Inode n))) stand.entries stand.holds);
    lives = λ there. stand.lives (subst (λ i. IsSome i) (λ j. inode_in (exports j) (inode j)) there) ∙ sym entries;
  }

-- all directories stay, where their inodes, pages and parts do, and the state has the same exports and objects
pub directories-stay : (s t : Store) (k l : StoreMeaning)
    → ((n page : ℕ) → t.at (addresses.Page n page) ≡ s.at (addresses.Page n page))
    → ((n bucket part : ℕ) → t.at (addresses.Part n bucket part) ≡ s.at (addresses.Part n bucket part))
    → ((n : ℕ) → t.at (addresses.Inode n) ≡ s.at (addresses.Inode n)) → l.state.exports ≡ k.state.exports
    → ((n : ℕ) → entries_at l.state n ≡ entries_at k.state n) → StandDirectories s k → StandDirectories t l
directories-stay s t k l pages parts inodes exports entries stand =
    λ n. stand-frame s t n (pages n) (parts n) k l (inodes n) exports (entries n) (stand n)

pub directories-but : (number : ℕ) (s : Store) (k : StoreMeaning) → StandDirectories s k
    → StandDirectoriesBut number s k
directories-but number s k stand = λ n other. stand n

-- ---- no entry
-- where no page and no part stands, there are those of no entry
pub no-entries : (s : Store) (n : ℕ) (key : List ℕ) → HoldsEntries s n None [] → HasEntries s n (no_entries key) []
no-entries s n key none = record {
  once = tt;
  buckets = refl;
  listed = λ page. refl;
  pages = λ page. none.0 page;
  counted = λ bucket. inl (zeros 64 bucket);
  parts = λ bucket part. subst (λ width. IsPart (nat_lt part width) (led_in_part key width bucket part [])
      (s.at (addresses.Part n bucket part))) (sym (ap width_of (zeros 64 bucket)))
      (subst (λ there. IsPart there (led_in_part key 0 bucket part []) (s.at (addresses.Part n bucket part)))
      (sym (le-ltb part 0 (omega arith))) (none.1 bucket part));
}
  where
    zeros : (count place : ℕ) → ◌≡◌ {A = ℕ} (slice_index_or (replicate count 0) place 0) 0
    zeros zero place = refl
    zeros (suc count) zero = refl
    zeros (suc count) (suc place) = zeros count place

-- ---- an inode is put, or taken away, and the directory there is as its pages and parts are
module _ (s : Store) (k : StoreMeaning) (number : ℕ) (o : Option Object) (last : ℕ → ℕ)
    (others : StandDirectoriesBut number s k) (entries : List Entry)
    (holds : HoldsEntries s number (entry_map_of o) entries) where
  -- the store with this at the number
  abbrev after : Store
  after = record { at = put_at s.at (addresses.Inode number) o; last = last }

  pub directories-put : (l : StoreMeaning) → l.state.exports ≡ k.state.exports
      → ((n : ℕ) → (number == n) ≡ false → entries_at l.state n ≡ entries_at k.state n)
      → (IsSome (inode_in l.state.exports o) → entries ≡ entries_at l.state number)
      → StandDirectories after l
  directories-put l exports stay lives n = by (number == n) refl
    where
      put : (b : Bool) → (number == n) ≡ b → after.at (addresses.Inode n) ≡ cond b o (s.at (addresses.Inode n))
      put b is = ap (λ c. cond c o (s.at (addresses.Inode n))) is

      here : (q : ℕ) → number ≡ q → after.at (addresses.Inode q) ≡ o → StandEntries after l q
      here q same at = subst (λ x. after.at (addresses.Inode x) ≡ o → StandEntries after l x) same (λ is. record {
        entries = entries;
        holds = subst (λ x. HoldsEntries after number (entry_map_of x) entries) (sym is)
            (holds-frame s after number (λ page. refl) (λ bucket part. refl) (entry_map_of o) entries holds);
        lives = λ there. lives (subst (λ x. IsSome (inode_in l.state.exports x)) is there);
      }) at

      by : (b : Bool) → (number == n) ≡ b → StandEntries after l n
      by true is = here n ((unsigned_Decides number n).0 is) (put true is)
      by false is = stand-frame s after n (λ page. refl) (λ bucket part. refl) k l (put false is) exports
          (stay n is) (others n is)

-- ---- writes to the pages and parts of one directory
module _ (number : ℕ) (s : Store) (k : StoreMeaning) (but : StandDirectoriesBut number s k) where
  pub page-but : (page : ℕ) (o : Option Object)
      → StandDirectoriesBut number (with_write s (addresses.Page number page) o) k
  page-but page o n other =
      let t : Store = with_write s (addresses.Page number page) o in
      stand-frame s t n (λ p. ap (λ b. cond (b && (page == p)) o (s.at (addresses.Page n p))) other)
      (λ bucket part. refl) k k refl refl refl (but n other)

  pub part-but : (bucket part : ℕ) (o : Option Object) →
      StandDirectoriesBut number (with_write s (addresses.Part number bucket part) o) k
  part-but bucket part o n other =
      let t : Store = with_write s (addresses.Part number bucket part) o in
      stand-frame s t n (λ p. refl)
      (λ c q. ap (λ b. cond (b && ((bucket == c) && (part == q))) o (s.at (addresses.Part n c q))) other)
      k k refl refl refl (but n other)

  pub map-but : (page : ℕ) (o : Option Object)
      → StandDirectoriesBut number (with_write s (addresses.Map number page) o) k
  map-but page o n other =
      stand-frame s (with_write s (addresses.Map number page) o) n (λ p. refl) (λ bucket part. refl) k k refl refl refl
      (but n other)

  pub block-but : (index : ℕ) (o : Option Object)
      → StandDirectoriesBut number (with_write s (addresses.Block number index) o) k
  block-but index o n other =
      stand-frame s (with_write s (addresses.Block number index) o) n (λ p. refl) (λ bucket part. refl) k k refl
      refl refl
      (but n other)
