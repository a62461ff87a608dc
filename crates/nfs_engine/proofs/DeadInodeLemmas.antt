-- Which inode is dead, and what may go of it; and what of the remains of another.
use Rattle.std.proofs.Common.{◌≡◌, ◌==◌, ◌&&◌, ◌||◌, ◌-◌, ◌%◌, ◌<◌, ◌≤◌, ℕ, Bool, true, false, not, cond, List, [], ◌∷◌}
use Rattle.std.proofs.Common.{nat_lt, Option, Some, None, find, inl, inr, is_some, refl, sym, ◌∙◌, ap, subst, arith}
use Rattle.std.proofs.Common.{Result, Ok, Err, slice_index_or, ◌/◌}
use Rattle.std.proofs.lemmas.Bool.{and_parts, le-ltb, lt-ltb, ltb-true}
use Rattle.std.specs.Prelude.{IfOk, IfSome}
use Rattle.std.specs.Cmp.{unsigned_Decides}
use Rattle.std.specs.Int.{bit_at}
use Rattle.std.specs.List.{list_any}
use Rattle.nfs_machine.specs.Exports.{LivingExport}
use Rattle.nfs_objects.specs.Bits.{IsEnd, has, no_bits, same_bits}
use Rattle.nfs_objects.specs.FileMaps.{FileMapValue}
use Rattle.nfs_objects.specs.Stands.{bucket_there, exports_of, inode_of, lives_in}
use Rattle.nfs_objects.specs.Store.{Store}
use Rattle.nlm_ranges.specs.Buckets.{LockedValue, bucket_count, file_in}
use Rattle.nfs_objects.specs.declared.address.Addr.TheVariants as addresses
use Rattle.nfs_objects.specs.declared.bits.Bits.{Bits}
use Rattle.nfs_objects.specs.declared.object.Content.TheVariants as contents
use Rattle.nfs_objects.specs.declared.object.Inode.{Inode}
use Rattle.nfs_objects.specs.declared.object.Object.{Object}
use Rattle.nfs_objects.specs.declared.object.Object.TheVariants as stored
use Rattle.nfs_engine.specs.Sweeps.{IsDead, IsDeadPage, IsRemainsPage, MaySweep, SweepValue, inode_left, inode_with}

-- what is found in a list is listed
pub found-any : {X : Type 0} (test : X → Bool) (xs : List X) → is_some (find test xs) ≡ list_any test xs
found-any test [] = refl
found-any test (x ∷ xs) = elim (test x) as (λ b. is_some (cond b (Some x) (find test xs)) ≡ (b || list_any test xs)) [
  | true ↦ refl
  | false ↦ found-any test xs
]

-- the last page of some, which is the one before their end
pub last-lost : (pages : Bits) (end page : ℕ) → IsEnd pages end → page ≡ end - 1 → (q : ℕ) →
    (has pages q && nat_lt q page) ≡ (has pages q && not (page == q))
last-lost pages end page is last q = by (has pages q) refl
  where
    by : (b : Bool) → has pages q ≡ b → (b && nat_lt q page) ≡ (b && not (page == q))
    by false absent = refl
    by true there =
        let below = is.above q there in
        elim (page == q) as (λ b. (page == q) ≡ b → nat_lt q page ≡ not b) [
          | true ↦ λ same.
              (let is : page ≡ q = (unsigned_Decides page q).0 same in
              let up : page ≤ q = omega (arith, is) in le-ltb q page up)
          | false ↦ λ other.
              (let apart : page ≡ q → ⊥ =
              λ same. (let no : true ≡ false = sym ((unsigned_Decides page q).1 same) ∙ other in cc) in
              let less : q < page = omega (arith, below, last, apart) in lt-ltb q page less)
        ] refl

-- what of a dead file may go
pub may-sweep : (s : Store) (n page end : ℕ) (i : Inode) (map : FileMapValue) (pages : Bits) (left : Option Object) →
    IsDead s n i → i.content ≡ contents.Regular map → IsEnd map.pages end → page ≡ end - 1 →
    ((q : ℕ) → has pages q ≡ (has map.pages q && nat_lt q page)) →
    left ≡ inode_with i (record map { pages = pages }) →
    IsDeadPage s (record { file = n; page = page; inode = left })
may-sweep s n page end i map pages left dead regular is last below same = record {
  old = i;
  dead = dead;
  map = map;
  regular = regular;
  pages = pages;
  lost = λ q. below q ∙ last-lost map.pages end page is last q;
  left = same;
}

-- where the inode that stands there is not dead, nothing may go
pub not-dead : (s : Store) (n : ℕ) → ((i : Inode) → IsDead s n i → ⊥) → (w : SweepValue) → w.file ≡ n
    → IsDeadPage s w → ⊥
not-dead s n never w is may = never may.old (subst (λ m. IsDead s m may.old) is may.dead)

-- nor where it is of what is no file
pub not-file : (s : Store) (n : ℕ) (i : Inode) → IsDead s n i →
    ((map : FileMapValue) → i.content ≡ contents.Regular map → ⊥) → (w : SweepValue) → w.file ≡ n → IsDeadPage s w → ⊥
not-file s n i dead other w is may =
    (let both : Some (stored.Inode may.old) ≡ Some (stored.Inode i) =
    sym may.dead.stands ∙ ap (λ m. s.at (addresses.Inode m)) is ∙ dead.stands in
    let same : may.old ≡ i = cc in
    other may.map (ap (λ (x : Inode). x.content) (sym same) ∙ may.regular))

pub not-inode : (s : Store) (n : ℕ) → inode_of (s.at (addresses.Inode n)) ≡ None → (i : Inode) → IsDead s n i → ⊥
not-inode s n none i dead = (let both : None ≡ Some i = sym none ∙ ap inode_of dead.stands in cc)

inode-stands : (o : Option Object) (i : Inode) → inode_of o ≡ Some i → o ≡ Some (stored.Inode i)
inode-stands (Some (stored.Inode j)) i is = (let same : j ≡ i = cc in ap (λ (x : Inode). Some (stored.Inode x)) same)
inode-stands (Some (stored.Exports t)) i is = cc
inode-stands (Some (stored.Map b)) i is = cc
inode-stands (Some (stored.Block b)) i is = cc
inode-stands (Some (stored.Page p)) i is = cc
inode-stands (Some (stored.Part p)) i is = cc
inode-stands (Some (stored.Mounts t)) i is = cc
inode-stands (Some (stored.Usage u)) i is = cc
inode-stands (Some (stored.Locks b)) i is = cc
inode-stands None i is = cc

module _ (s : Store) (n : ℕ) (i : Inode) (there : inode_of (s.at (addresses.Inode n)) ≡ Some i) where
  -- the inode that is dead is this one
  same-inode : (j : Inode) → IsDead s n j → j ≡ i
  same-inode j dead = (let both : Some j ≡ Some i = sym (ap inode_of dead.stands) ∙ there in cc)

  abbrev listed : List LivingExport → Bool
  listed es = list_any (λ (e : LivingExport). e.number == i.export) es

  pub lives-listed : (es : List LivingExport) (r : Bool) → es ≡ exports_of (s.at addresses.Exports) → r ≡ listed es →
      lives_in (exports_of (s.at addresses.Exports)) i.export ≡ r
  lives-listed es r same is =
      found-any (λ (e : LivingExport). e.number == i.export) (exports_of (s.at addresses.Exports))
      ∙ ap listed (sym same) ∙ sym is

  -- it is not dead where its export lives, or something of locks stands for it
  pub not-living : (es : List LivingExport) (r : Bool) → es ≡ exports_of (s.at addresses.Exports) → r ≡ listed es →
      r ≡ true → (j : Inode) → IsDead s n j → ⊥
  not-living es r same is lives j dead =
      (let no : false ≡ true = sym
      (subst (λ (x : Inode). lives_in (exports_of (s.at addresses.Exports)) x.export ≡ false)
      (same-inode j dead) dead.export) ∙ lives-listed es r same is ∙ lives in cc)

  pub not-locked : (r : Bool) → r ≡ is_some (file_in (bucket_there s (n % bucket_count)) n) → r ≡ true →
      (j : Inode) → IsDead s n j → ⊥
  not-locked r is some j dead = (let no : false ≡ true = sym (ap is_some dead.unlocked) ∙ sym is ∙ some in cc)

  none-of : (o : Option LockedValue) → is_some o ≡ false → o ≡ None
  none-of None none = refl
  none-of (Some f) none = cc

  pub is-dead : (es : List LivingExport) (r q : Bool) → es ≡ exports_of (s.at addresses.Exports) → r ≡ listed es →
      r ≡ false → q ≡ is_some (file_in (bucket_there s (n % bucket_count)) n) → q ≡ false → IsDead s n i
  is-dead es r q same is gone locked none = record {
    stands = inode-stands (s.at (addresses.Inode n)) i there;
    export = lives-listed es r same is ∙ gone;
    unlocked = none-of (file_in (bucket_there s (n % bucket_count)) n) (sym locked ∙ none);
  }

-- ---- remains
-- a page of two sets is below 512
pub page-small : (pages remains : Bits) (page : ℕ) → (has pages page && has remains page) ≡ true → page < 512
page-small pages remains page there =
    ltb-true page 512
    (and_parts (nat_lt page 512) (bit_at (slice_index_or pages.words (page / 64) 0) (page % 64) == 1)
    (and_parts (has pages page) (has remains page) there).0).0

-- what may go of a living file
pub may-remains : (s : Store) (n page : ℕ) (i : Inode) (map : FileMapValue) (pages : Bits) (left : Option Object) →
    inode_of (s.at (addresses.Inode n)) ≡ Some i → lives_in (exports_of (s.at addresses.Exports)) i.export ≡ true →
    i.content ≡ contents.Regular map → (has map.pages page && has map.remains page) ≡ true →
    ((q : ℕ) → has pages q ≡ (has map.pages q && not (page == q))) →
    left ≡ inode_left i (record map { pages = pages }) →
    IsRemainsPage s (record { file = n; page = page; inode = left })
may-remains s n page i map pages left is lives regular there lost same = record {
  old = i;
  stands = inode-stands (s.at (addresses.Inode n)) i is;
  export = lives;
  map = map;
  regular = regular;
  there = there;
  pages = pages;
  lost = lost;
  left = same;
}

-- nothing where no inode stands
pub remains-none : (s : Store) (n : ℕ) → inode_of (s.at (addresses.Inode n)) ≡ None → (w : SweepValue) → w.file ≡ n →
    IsRemainsPage s w → ⊥
remains-none s n none w is may =
    (let both : None ≡ Some may.old = sym none ∙ ap (λ m. inode_of (s.at (addresses.Inode m))) (sym is)
    ∙ ap inode_of may.stands in cc)

module _ (s : Store) (n : ℕ) (i : Inode) (there : inode_of (s.at (addresses.Inode n)) ≡ Some i) where
  -- the inode of a page that may go is the one that stands there
  remains-inode : (w : SweepValue) → w.file ≡ n → (may : IsRemainsPage s w) → may.old ≡ i
  remains-inode w is may =
      (let both : Some may.old ≡ Some i = sym (ap inode_of may.stands)
      ∙ ap (λ m. inode_of (s.at (addresses.Inode m))) is ∙ there in cc)

  -- nor where its export does not live
  pub remains-dead : lives_in (exports_of (s.at addresses.Exports)) i.export ≡ false → (w : SweepValue) → w.file ≡ n →
      IsRemainsPage s w → ⊥
  remains-dead dead w is may =
      (let no : true ≡ false = sym may.export
      ∙ ap (λ (x : Inode). lives_in (exports_of (s.at addresses.Exports)) x.export) (remains-inode w is may)
      ∙ dead in cc)

  -- nor where it is of what is no file
  pub remains-other : ((map : FileMapValue) → i.content ≡ contents.Regular map → ⊥) → (w : SweepValue) → w.file ≡ n →
      IsRemainsPage s w → ⊥
  remains-other other w is may =
      other may.map (ap (λ (x : Inode). x.content) (sym (remains-inode w is may)) ∙ may.regular)

  -- nor where no page has remains
  pub remains-over : (map : FileMapValue) → i.content ≡ contents.Regular map →
      ((page : ℕ) → (has map.pages page && has map.remains page) ≡ false) → (w : SweepValue) → w.file ≡ n →
      IsRemainsPage s w → ⊥
  remains-over map regular none w is may =
      (let both : contents.Regular may.map ≡ contents.Regular map = sym may.regular
      ∙ ap (λ (x : Inode). x.content) (remains-inode w is may) ∙ regular in
      let same : may.map ≡ map = cc in
      let no : true ≡ false = sym may.there
      ∙ ap (λ (m : FileMapValue). has m.pages w.page && has m.remains w.page) same ∙ none w.page in cc)

-- what is so of each that is given
pub some-wider : {X E : Type 0} (P Q : X → Type 0) → ((x : X) → P x → Q x) → (r : Result (Option X) E) →
    IfOk r (λ o. IfSome o P) → IfOk r (λ o. IfSome o Q)
some-wider P Q wider (Ok (Some x)) given = wider x given
some-wider P Q wider (Ok None) given = given
some-wider P Q wider (Err e) given = given

-- which may go, one or the other
pub either-none : (s : Store) (n : ℕ) → ((w : SweepValue) → w.file ≡ n → IsDeadPage s w → ⊥) →
    ((w : SweepValue) → w.file ≡ n → IsRemainsPage s w → ⊥) → (w : SweepValue) → w.file ≡ n → MaySweep s w → ⊥
either-none s n dead remains w is (inl may) = dead w is may
either-none s n dead remains w is (inr may) = remains w is may

-- ---- what is left of an inode
pub inode-none : (i : Inode) (map : FileMapValue) → same_bits map.pages no_bits ≡ true → inode_with i map ≡ None
inode-none i map none = ap
    (λ (b : Bool). cond b None (Some (stored.Inode (record i { content = contents.Regular map }))))
    none

pub inode-some : (i : Inode) (map : FileMapValue) → same_bits map.pages no_bits ≡ false →
    inode_with i map ≡ Some (stored.Inode (record i { content = contents.Regular map }))
inode-some i map some = ap
    (λ (b : Bool). cond b None (Some (stored.Inode (record i { content = contents.Regular map }))))
    some
