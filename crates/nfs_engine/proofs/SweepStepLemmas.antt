-- A map page of a file goes address by address.
use Rattle.std.proofs.Common.{◌≡◌, ◌≢◌, ◌==◌, ◌&&◌, ◌||◌, ◌+◌, ◌*◌, ◌/◌, ◌<◌, ◌≤◌, ℕ, Bool, true, false, cond}
use Rattle.std.proofs.Common.{Option, None, nat_lt, refl, sym, ◌∙◌, ap, subst, arith}
use Rattle.std.proofs.lemmas.Bool.{and_parts, false_from_ne_true, le-leb, leb-true, lt-ltb, ltb-true}
use Rattle.std.specs.Cmp.{unsigned_Decides}
use Rattle.std.specs.Prelude.{nat_le}
use Rattle.nfs_objects.specs.Values.{is_addr}
use Rattle.nfs_objects.specs.declared.address.Addr.{Addr}
use Rattle.nfs_objects.specs.declared.address.Addr.TheVariants.{Exports, Inode, Map, Block, Page, Part, Mounts, Usage}
use Rattle.nfs_objects.specs.declared.address.Addr.TheVariants.{Locks}
use Rattle.nfs_objects.specs.declared.object.Object.{Object}
use Rattle.nfs_engine.specs.Sweeps.{is_of_page, swept_at}

-- what stands at each address
abbrev At : Type 0
At = Addr → Option Object

-- whether a block is one of the first so many of the page
abbrev is_before : (page count i : ℕ) → Bool
is_before page count i = nat_le (page * 512) i && nat_lt i (page * 512 + count)

-- whether an address is that of the page, or of one of its first so many blocks
abbrev pub is_gone : (file page count : ℕ) → Addr → Bool
is_gone file page count (Map n p) = (file == n) && (page == p)
is_gone file page count (Block n i) = (file == n) && is_before page count i
is_gone file page count a = false

-- nothing stands there any more, and elsewhere what stood
abbrev pub IsGoneTo : (old new : At) → (file page count : ℕ) → Type 0
IsGoneTo old new file page count = (a : Addr) → new a ≡ cond (is_gone file page count a) None (old a)

-- one address has this now, and the others what they had
abbrev pub PutsAt : (old new : At) → Addr → Option Object → Type 0
PutsAt old new a o = (b : Addr) → new b ≡ cond (is_addr a b) o (old b)

none-before : (page i : ℕ) → is_before page 0 i ≡ false
none-before page i = false_from_ne_true (is_before page 0 i)
    (λ e. (let both = and_parts (nat_le (page * 512) i) (nat_lt i (page * 512 + 0)) e in
    let from = leb-true (page * 512) i both.0 in
    let to = ltb-true i (page * 512 + 0) both.1 in
    absurd (omega (arith, from, to))))

same-test : (a b : Bool) → (a ≡ true → b ≡ true) → (b ≡ true → a ≡ true) → a ≡ b
same-test true b there back = sym (there refl)
same-test false b there back = sym (false_from_ne_true b (λ e. (let no = back e in cc)))

or-true : (a : Bool) → (a || true) ≡ true
or-true true = refl
or-true false = refl

one-more : (page count i index : ℕ) → index ≡ page * 512 + count →
    is_before page (count + 1) i ≡ ((index == i) || is_before page count i)
one-more page count i index is = same-test (is_before page (count + 1) i) ((index == i) || is_before page count i)
    (λ e. (let both = and_parts (nat_le (page * 512) i) (nat_lt i (page * 512 + (count + 1))) e in
    let from = leb-true (page * 512) i both.0 in
    let to = ltb-true i (page * 512 + (count + 1)) both.1 in
    forth (index == i) refl from to))
    (λ e. back (index == i) refl e)
  where
    forth : (b : Bool) → (index == i) ≡ b → page * 512 ≤ i → i < page * 512 + (count + 1) →
        (b || is_before page count i) ≡ true
    forth true e from to = refl
    forth false e from to =
        let apart : index ≢ i = λ same. (let no = (unsigned_Decides index i).1 same in cc) in
        let below : i < page * 512 + count = omega (arith, is, from, to, apart) in
        λ j. le-leb (page * 512) i from j && lt-ltb i (page * 512 + count) below j

    back : (b : Bool) → (index == i) ≡ b → (b || is_before page count i) ≡ true → is_before page (count + 1) i ≡ true
    back true e both =
        let same = (unsigned_Decides index i).0 e in
        let from : page * 512 ≤ i = omega (arith, is, same) in
        let below : i < page * 512 + (count + 1) = omega (arith, is, same) in
        λ j. le-leb (page * 512) i from j && lt-ltb i (page * 512 + (count + 1)) below j
    back false e both =
        let parts = and_parts (nat_le (page * 512) i) (nat_lt i (page * 512 + count)) both in
        let to = ltb-true i (page * 512 + count) parts.1 in
        let below : i < page * 512 + (count + 1) = omega (arith, to) in
        λ j. parts.0 j && lt-ltb i (page * 512 + (count + 1)) below j

all-blocks : (page i : ℕ) → is_before page 512 i ≡ (page == i / 512)
all-blocks page i = same-test (is_before page 512 i) (page == i / 512)
    (λ e. (let both = and_parts (nat_le (page * 512) i) (nat_lt i (page * 512 + 512)) e in
    let from = leb-true (page * 512) i both.0 in
    let to = ltb-true i (page * 512 + 512) both.1 in
    let same : page ≡ i / 512 = omega (arith, from, to) in
    (unsigned_Decides page (i / 512)).1 same))
    (λ e. (let same = (unsigned_Decides page (i / 512)).0 e in
    let from : page * 512 ≤ i = omega (arith, same) in
    let to : i < page * 512 + 512 = omega (arith, same) in
    λ j. le-leb (page * 512) i from j && lt-ltb i (page * 512 + 512) to j))

module _ (file page : ℕ) where
  -- the page goes
  pub gone-first : (old new : At) → PutsAt old new (Map file page) None → IsGoneTo old new file page 0
  gone-first old new puts Exports = puts Exports
  gone-first old new puts (Inode n) = puts (Inode n)
  gone-first old new puts (Map n p) = puts (Map n p)
  gone-first old new puts (Block n i) = puts (Block n i)
      ∙ sym (ap (λ t. cond ((file == n) && t) None (old (Block n i))) (none-before page i)
      ∙ nothing (file == n) (old (Block n i)))
    where
      nothing : (t : Bool) (o : Option Object) → cond (t && false) None o ≡ o
      nothing true o = refl
      nothing false o = refl
  gone-first old new puts (Page n p) = puts (Page n p)
  gone-first old new puts (Part n bucket part) = puts (Part n bucket part)
  gone-first old new puts Mounts = puts Mounts
  gone-first old new puts (Usage e g) = puts (Usage e g)
  gone-first old new puts (Locks b) = puts (Locks b)

  -- one block more
  pub gone-next : (old mid new : At) (count index : ℕ) → index ≡ page * 512 + count →
      IsGoneTo old mid file page count → PutsAt mid new (Block file index) None →
      IsGoneTo old new file page (count + 1)
  gone-next old mid new count index is gone puts Exports = puts Exports ∙ gone Exports
  gone-next old mid new count index is gone puts (Inode n) = puts (Inode n) ∙ gone (Inode n)
  gone-next old mid new count index is gone puts (Map n p) = puts (Map n p) ∙ gone (Map n p)
  gone-next old mid new count index is gone puts (Block n i) =
      puts (Block n i) ∙ ap (λ o. cond ((file == n) && (index == i)) None o) (gone (Block n i))
      ∙ each (file == n) (index == i) (is_before page count i) (old (Block n i))
      ∙ sym (ap (λ t. cond ((file == n) && t) None (old (Block n i))) (one-more page count i index is))
    where
      each : (f e r : Bool) (o : Option Object) →
          cond (f && e) None (cond (f && r) None o) ≡ cond (f && (e || r)) None o
      each true true r o = refl
      each true false r o = refl
      each false e r o = refl
  gone-next old mid new count index is gone puts (Page n p) = puts (Page n p) ∙ gone (Page n p)
  gone-next old mid new count index is gone puts (Part n bucket part) =
      puts (Part n bucket part) ∙ gone (Part n bucket part)
  gone-next old mid new count index is gone puts Mounts = puts Mounts ∙ gone Mounts
  gone-next old mid new count index is gone puts (Usage e g) = puts (Usage e g) ∙ gone (Usage e g)
  gone-next old mid new count index is gone puts (Locks b) = puts (Locks b) ∙ gone (Locks b)

  -- and in the end the inode
  pub gone-all : (old mid new : At) (o : Option Object) → IsGoneTo old mid file page 512 →
      PutsAt mid new (Inode file) o → (a : Addr) →
      new a ≡ swept_at (record { file = file; page = page; inode = o }) old a
  gone-all old mid new o gone puts Exports = puts Exports ∙ gone Exports
  gone-all old mid new o gone puts (Inode n) = puts (Inode n) ∙ ap (λ x. cond (file == n) o x) (gone (Inode n))
  gone-all old mid new o gone puts (Map n p) = puts (Map n p) ∙ gone (Map n p)
  gone-all old mid new o gone puts (Block n i) = puts (Block n i) ∙ gone (Block n i)
      ∙ ap (λ t. cond ((file == n) && t) None (old (Block n i))) (all-blocks page i)
  gone-all old mid new o gone puts (Page n p) = puts (Page n p) ∙ gone (Page n p)
  gone-all old mid new o gone puts (Part n bucket part) = puts (Part n bucket part) ∙ gone (Part n bucket part)
  gone-all old mid new o gone puts Mounts = puts Mounts ∙ gone Mounts
  gone-all old mid new o gone puts (Usage e g) = puts (Usage e g) ∙ gone (Usage e g)
  gone-all old mid new o gone puts (Locks b) = puts (Locks b) ∙ gone (Locks b)

  -- the inode stands still
  pub gone-inode : (old mid : At) (count : ℕ) → IsGoneTo old mid file page count → mid (Inode file) ≡ old (Inode file)
  gone-inode old mid count gone = gone (Inode file)

-- ---- what of it was looked at
-- of the first so many blocks each has this
abbrev pub AllBlocks : (Addr → Type 0) → (file page count : ℕ) → Type 0
AllBlocks P file page count = (i : ℕ) → is_before page count i ≡ true → P (Block file i)

pub blocks-none : (P : Addr → Type 0) (file page : ℕ) → AllBlocks P file page 0
blocks-none P file page i before = (let no : true ≡ false = sym before ∙ none-before page i in cc)

pub blocks-next : (P : Addr → Type 0) (file page count : ℕ) (a : Addr) → a ≡ Block file (page * 512 + count) →
    AllBlocks P file page count → P a → AllBlocks P file page (count + 1)
blocks-next P file page count a is all one i before = by (page * 512 + count == i) refl
  where
    by : (b : Bool) → (page * 512 + count == i) ≡ b → P (Block file i)
    by true e = subst (λ j. P (Block file j)) ((unsigned_Decides (page * 512 + count) i).0 e) (subst P is one)
    by false e = all i (ap (λ t. t || is_before page count i) (sym e)
        ∙ sym (one-more page count i (page * 512 + count) refl) ∙ before)

-- the page and its blocks have it
pub page-has : (P : Addr → Type 0) (file page : ℕ) → AllBlocks P file page 512 → P (Map file page) → (a : Addr) →
    is_of_page file page a ≡ true → P a
page-has P file page all map (Map n p) of =
    let both = and_parts (file == n) (page == p) of in
    subst (λ q. P (Map n q)) ((unsigned_Decides page p).0 both.1)
    (subst (λ m. P (Map m page)) ((unsigned_Decides file n).0 both.0) map)
page-has P file page all map (Block n i) of =
    let both = and_parts (file == n) (page == i / 512) of in
    subst (λ m. P (Block m i)) ((unsigned_Decides file n).0 both.0) (all i (all-blocks page i ∙ both.1))
page-has P file page all map Exports of = cc
page-has P file page all map (Inode n) of = cc
page-has P file page all map (Page n p) of = cc
page-has P file page all map (Part n bucket part) of = cc
page-has P file page all map Mounts of = cc
page-has P file page all map (Usage e g) of = cc
page-has P file page all map (Locks b) of = cc

-- a block of it, and the page
pub block-of-page : (file page count index : ℕ) → index ≡ page * 512 + count → count < 512 →
    is_of_page file page (Block file index) ≡ true
block-of-page file page count index is within =
    let same : page ≡ index / 512 = omega (arith, is, within) in
    λ i. (unsigned_Decides file file).1 refl i && (unsigned_Decides page (index / 512)).1 same i

pub map-of-page : (file page : ℕ) → is_of_page file page (Map file page) ≡ true
map-of-page file page = λ i. (unsigned_Decides file file).1 refl i && (unsigned_Decides page page).1 refl i
