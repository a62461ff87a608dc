-- What a draft knows still once pages and parts were written.
use Rattle.std.proofs.Common.{◌≡◌, ℕ, Bool, true, false, cond, Option, Some, None, IsSome, inl, inr, option_map, refl}
use Rattle.std.proofs.Common.{◌∙◌, ap}
use Rattle.std.proofs.Common.{subst, sym}
use Rattle.nfs_objects.proofs.SeenLemmas.{written-append}
use Rattle.nfs_objects.specs.Asks.{IsThere}
use Rattle.nfs_objects.specs.Stands.{exports_of, inode_in}
use Rattle.nfs_objects.specs.Unfiled.{Enters}
use Rattle.nfs_objects.specs.Values.{DraftValue, is_addr, known_at, with_written}
use Rattle.nfs_objects.specs.declared.address.Addr.{Addr}
use Rattle.nfs_objects.specs.declared.address.Addr.TheVariants as addresses
use Rattle.nfs_objects.specs.declared.directory.Directory.{Directory}
use Rattle.nfs_objects.specs.declared.entry_map.EntryMap.{EntryMap}
use Rattle.nfs_objects.specs.declared.object.Inode.{Inode}
use Rattle.nfs_objects.specs.declared.object.Object.{Object}
use Rattle.nfs_inodes.specs.Entered.{DirectoryLives, KeepsKnown, TellsLess, is_entries}
use Rattle.nfs_inodes.specs.Kinds.{HasDirectory, KeepsKinds, kind_of}
use Rattle.nfs_inodes.specs.Known.{HasInode}

-- ---- by writes
pub knows-none : (d : DraftValue) → KeepsKnown d d
knows-none d = record { known = λ a some. some; inodes = λ n. refl; exports = refl }

pub knows-both : (d mid new : DraftValue) → KeepsKnown d mid → KeepsKnown mid new → KeepsKnown d new
knows-both d mid new first second = record {
  known = λ a some. second.known a (first.known a some);
  inodes = λ n. second.inodes n ∙ first.inodes n;
  exports = second.exports ∙ first.exports;
}

-- what is written is known then
pub knows-written : (d : DraftValue) (b : Addr) (o : Option Object) (a : Addr) → IsSome (known_at d a) →
    IsSome (known_at (with_written d b o) a)
knows-written d b o a some =
    subst (λ x. IsSome x) (sym (written-append d.writes _ b o a)) (by (is_addr b a))
  where
    by : (t : Bool) → IsSome (cond t (Some o) (known_at d a))
    by true = refl
    by false = some

-- so it is where a page or a part is written
pub keeps-written : (d : DraftValue) (b : Addr) (o : Option Object) → is_entries b ≡ true →
    KeepsKnown d (with_written d b o)
keeps-written d b o entries = record {
  known = knows-written d b o;
  inodes = λ n. written-append d.writes _ b o (addresses.Inode n)
      ∙ ap (λ t. cond t (Some o) (known_at d (addresses.Inode n))) (apart b entries n).0;
  exports = written-append d.writes _ b o addresses.Exports
      ∙ ap (λ t. cond t (Some o) (known_at d addresses.Exports)) (apart b entries 0).1;
}
  where
    apart : (c : Addr) → is_entries c ≡ true → (n : ℕ) →
        (is_addr c (addresses.Inode n) ≡ false) × (is_addr c addresses.Exports ≡ false)
    apart (addresses.Page m page) is n = (refl, refl)
    apart (addresses.Part m bucket part) is n = (refl, refl)
    apart addresses.Exports is n = cc
    apart (addresses.Inode m) is n = cc
    apart (addresses.Map m page) is n = cc
    apart (addresses.Block m index) is n = cc
    apart addresses.Mounts is n = cc
    apart (addresses.Usage export group) is n = cc
    apart (addresses.Locks index) is n = cc

-- ---- so
-- what stands at a number is known still
pub knows-inode : (d new : DraftValue) (n : ℕ) (i : Option Inode) → KeepsKnown d new → HasInode d n i → HasInode new n i
knows-inode d new n i knows has = record {
  exports = has.exports;
  living = record { object = has.living.object; known = knows.exports ∙ has.living.known; is = has.living.is };
  object = has.object;
  known = knows.inodes n ∙ has.known;
  is = has.is;
}

-- so it may be written
pub inode-known-on : (d new : DraftValue) (n : ℕ) (i : Inode) → KeepsKnown d new → HasInode d n (Some i) →
    IsSome (known_at new (addresses.Inode n))
inode-known-on d new n i knows has =
    subst (λ o. IsSome o) (sym (knows.inodes n ∙ has.known)) refl

-- all that a map tells of is known still, or stands
pub lives-still : (d new : DraftValue) (n : ℕ) (m : EntryMap) → Enters n d new → KeepsKnown d new →
    DirectoryLives d n m → DirectoryLives new n m
lives-still d new n m enters knows lives a told = elim (lives a told) [
  | inl some ↦ inl (knows.known a some)
  | inr there ↦ inr (subst (λ v. IsThere v a) (sym enters.view) there)
]

-- what a map tells of that tells of less is known or stands, where it is so of another one
pub lives-less : (d : DraftValue) (n : ℕ) (less more : EntryMap) → TellsLess less more → DirectoryLives d n more →
    DirectoryLives d n less
lives-less d n less more fewer lives a told = lives a (fewer n a told)

-- and so is the directory there, and of which kind anything is
pub knows-directory : (d new : DraftValue) (n : ℕ) (i : Inode) (h : Directory) → KeepsKnown d new →
    HasDirectory d n i h → HasDirectory new n i h
knows-directory d new n i h knows has = record {
  inode = knows-inode d new n (Some i) knows has.inode;
  content = has.content;
}

pub knows-kinds : (d new : DraftValue) → KeepsKnown d new → KeepsKinds d new
knows-kinds d new knows n = λ p. option_map kind_of (elim (knows.exports p) [
  | None ↦ None
  | Some exports ↦ elim (knows.inodes n p) [ None ↦ None | Some object ↦ inode_in (exports_of exports) object ]
])
