-- The writes of a sweep in a store, address by address.
use Rattle.std.proofs.Common.{◌≡◌, ◌+◌, ◌*◌, ℕ, Option, None, IsSome, refl, sym, ◌∙◌, ap, subst}
use Rattle.nfs_objects.specs.Store.{Store, give, with_write}
use Rattle.nfs_objects.specs.declared.address.Addr.{Addr}
use Rattle.nfs_objects.specs.declared.address.Addr.TheVariants.{Exports, Inode, Map, Block, Page, Part, Mounts, Usage}
use Rattle.nfs_objects.specs.declared.address.Addr.TheVariants.{Locks}
use Rattle.nfs_objects.specs.declared.object.Object.{Object}
use Rattle.nfs_engine.proofs.SweepStepLemmas.{IsGoneTo, PutsAt, gone-all, gone-first, gone-next}
use Rattle.nfs_engine.specs.Sweeps.{SweepValue, swept_at}

puts-of : (s t : Store) (a b : Addr) (o : Option Object) → t ≡ with_write s a o → a ≡ b → PutsAt s.at t.at b o
puts-of s t a b o is same = subst (λ (x : Addr). PutsAt s.at t.at x o) same (λ c. ap (λ (x : Store). x.at c) is)

-- what goes leaves each generation
give-none : (last : ℕ → ℕ) (a : Addr) (q : ℕ) → give last a None q ≡ last q
give-none last Exports q = refl
give-none last (Inode n) q = refl
give-none last (Map n p) q = refl
give-none last (Block n i) q = refl
give-none last (Page n p) q = refl
give-none last (Part n b p) q = refl
give-none last Mounts q = refl
give-none last (Usage e g) q = refl
give-none last (Locks b) q = refl

-- the page is gone from the store with its first so many blocks
pub record StoreGoneTo (old new : Store) (file page count : ℕ) : Type 0 where
  pub at : IsGoneTo old.at new.at file page count
  pub last : (q : ℕ) → new.last q ≡ old.last q

pub store-first : (old new : Store) (file page : ℕ) (a : Addr) → new ≡ with_write old a None → a ≡ Map file page →
    StoreGoneTo old new file page 0
store-first old new file page a is same = record {
  at = gone-first file page old.at new.at (puts-of old new a (Map file page) None is same);
  last = λ q. ap (λ (x : Store). x.last q) is ∙ give-none old.last a q;
}

pub store-next : (old mid new : Store) (file page count : ℕ) (a : Addr) → StoreGoneTo old mid file page count →
    new ≡ with_write mid a None → a ≡ Block file (page * 512 + count) → StoreGoneTo old new file page (count + 1)
store-next old mid new file page count a gone is same = record {
  at = gone-next file page old.at mid.at new.at count (page * 512 + count) refl gone.at
      (puts-of mid new a (Block file (page * 512 + count)) None is same);
  last = λ q. ap (λ (x : Store). x.last q) is ∙ give-none mid.last a q ∙ gone.last q;
}

-- the inode stands there still
pub store-inode : (old mid : Store) (w : SweepValue) (count n : ℕ) (o : Option Object) → o ≡ w.inode → n ≡ w.file →
    (IsSome w.inode → IsSome (old.at (Inode w.file))) → StoreGoneTo old mid w.file w.page count →
    IsSome o → IsSome (mid.at (Inode n))
store-inode old mid w count n o is same stands gone some =
    subst (λ (x : ℕ). IsSome (mid.at (Inode x))) (sym same)
    (subst (λ x. IsSome x) (sym (gone.at (Inode w.file))) (stands (subst (λ x. IsSome x) is some)))

module _ (old mid new : Store) (w : SweepValue) (n : ℕ) (o : Option Object) (is : o ≡ w.inode) (same : n ≡ w.file)
    (gone : StoreGoneTo old mid w.file w.page 512) (put : new ≡ with_write mid (Inode n) o) where
  put-so : new ≡ with_write mid (Inode w.file) w.inode
  put-so = put ∙ (λ i. with_write mid (Inode (same i)) (is i))

  pub store-all : (a : Addr) → new.at a ≡ swept_at w old.at a
  store-all = gone-all w.file w.page old.at mid.at new.at w.inode gone.at
      (puts-of mid new (Inode w.file) (Inode w.file) w.inode put-so refl)

  pub store-last : (q : ℕ) → new.last q ≡ give old.last (Inode w.file) w.inode q
  store-last q = ap (λ (x : Store). x.last q) put-so ∙ (λ i. give (λ x. gone.last x i) (Inode w.file) w.inode q)
