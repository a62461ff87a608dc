-- Addresses that are asked for at once: those that the draft does not know of such as are wanted, each once.
use Rattle.std.proofs.Common.{◌≡◌, ◌≢◌, ◌==◌, ◌&&◌, ◌+◌, ◌-◌, ◌/◌, ◌<◌, ◌≤◌, ◌⊎◌, ℕ, zero, suc, true, false, Bool}
use Rattle.std.proofs.Common.{List, [], ◌∷◌, ◌++◌, Option, Some, None, IsSome, inl, inr, refl, sym, ◌∙◌, ap, subst}
use Rattle.std.proofs.Common.{arith}
use Rattle.std.proofs.Common.{append-nil, append_assoc}
use Rattle.std.proofs.Common.{Result, Ok, Err, IfErr, OnOk}
use Rattle.std.specs.Prelude.{MatchResult}
use Rattle.std.specs.Cmp.{unsigned_Decides}
use Rattle.std.specs.List.{AllByRecursion}
use Rattle.nfs_machine.proofs.ModesLemmas.{all-joined}
use Rattle.nfs_objects.proofs.SeenLemmas.{all-append, all-map, unknown-unseen}
use Rattle.nfs_objects.specs.Asks.{EachOnce, IsThere, MayAsk}
use Rattle.nfs_objects.specs.FileMaps.{FileMapValue, counts}
use Rattle.nfs_objects.specs.Calls.{IsAmong, blocks_at, blocks_from, maps_at}
use Rattle.nfs_objects.specs.Values.{DraftValue, is_addr, known_at}
use Rattle.nfs_objects.specs.declared.address.Addr.{Addr}
use Rattle.nfs_objects.specs.declared.address.Addr.TheVariants as addresses
use Rattle.nfs_objects.specs.declared.change.Missing.{Missing}
use Rattle.nfs_objects.specs.declared.modes.Mode.{Mode}
use Rattle.nfs_objects.specs.Modes.{held_mode}
use Rattle.nfs_objects.specs.declared.object.Object.{Object}
use Rattle.nfs_inodes.proofs.UsageTotalsLemmas.{once-append}
use Rattle.nfs_inodes.specs.Asking.{AsksFor, IsAsking, IsWish, with_wish}
use Rattle.nfs_inodes.specs.Blocks.{IsBlockIn, IsMapIn, end_of, first_of}
use Rattle.nfs_inodes.specs.Stops.{StopsAt}

none-of-more : {X : Type 0} (xs : List X) (x : X) → xs ++ x ∷ [] ≡ [] → ⊥
none-of-more [] x e = cc
none-of-more (y ∷ xs) x e = cc

-- an address that the draft knows, and one that it does not
pub wish-known : (d : DraftValue) (a : Addr) (asked : List (Addr × Mode)) → IsSome (known_at d a) → asked ≡ with_wish
    d a asked
wish-known d a asked some = by (known_at d a) some
  where
    by : (o : Option (Option Object)) → IsSome o → asked ≡ elim o [
      | Some object ↦ asked
      | None ↦ asked ++ (a, held_mode d.modes d.view a) ∷ []
    ]
    by None e = cc
    by (Some object) e = refl

pub wish-unknown : (d : DraftValue) (a : Addr) (asked : List (Addr × Mode)) (wish : Addr × Mode) → known_at d a ≡ None →
    wish ≡ (a, held_mode d.modes d.view a) → asked ++ wish ∷ [] ≡ with_wish d a asked
wish-unknown d a asked wish none is =
    ap (λ w. asked ++ w ∷ []) is ∙ ap (λ (o : Option (Option Object)). elim o [
      | Some object ↦ asked
      | None ↦ asked ++ (a, held_mode d.modes d.view a) ∷ []
    ]) (sym none)

-- two lists of which no address is in both
once-joined : (xs ys : List (Addr × Mode)) → EachOnce xs → EachOnce ys →
    AllByRecursion (λ (x : Addr × Mode). AllByRecursion (λ (y : Addr × Mode). is_addr x.0 y.0 ≡ false) ys) xs →
    EachOnce (xs ++ ys)
once-joined [] ys once also apart = also
once-joined (x ∷ xs) ys once also apart = (
  all-joined (λ (y : Addr × Mode). is_addr x.0 y.0 ≡ false) xs ys once.0 apart.0,
  once-joined xs ys once.1 also apart.1,
)

front-none : {X : Type 0} (xs ys : List X) → xs ++ ys ≡ [] → xs ≡ []
front-none [] ys e = refl
front-none (x ∷ xs) ys e = cc

back-none : {X : Type 0} (xs ys : List X) → xs ++ ys ≡ [] → ys ≡ []
back-none [] ys e = e
back-none (x ∷ xs) ys e = cc

module _ (d : DraftValue) where
  -- nothing is wanted
  pub asks-none : (May Must : Addr → Type 0) (old : List (Addr × Mode)) → ((a : Addr) → Must a → ⊥) →
      AsksFor d May Must old old
  asks-none May Must old none = record {
    more = [];
    grown = sym (append-nil old);
    once = tt;
    each = tt;
    known = λ e a must. absurd (none a must);
  }

  wish-as : (May Will : Addr → Type 0) → ((a : Addr) → May a → Will a) → (w : Addr × Mode) → IsWish d May w →
      IsWish d Will w
  wish-as May Will wider w wish = record { unknown = wish.unknown; mode = wish.mode; may = wider w.0 wish.may }

  -- more may be asked for, and less must be known
  pub asks-as : (May Will Must Shall : Addr → Type 0) (old new : List (Addr × Mode)) →
      ((a : Addr) → May a → Will a) → ((a : Addr) → Shall a → Must a) → AsksFor d May Must old new →
      AsksFor d Will Shall old new
  asks-as May Will Must Shall old new wider fewer asks = record {
    more = asks.more;
    grown = asks.grown;
    once = asks.once;
    each = all-map (IsWish d May) (IsWish d Will) (wish-as May Will wider) asks.more asks.each;
    known = λ none a shall. asks.known none a (fewer a shall);
  }

  -- the same where that it is not known tells why each may be asked for
  pub asks-bounded : (May Will Must : Addr → Type 0) (old new : List (Addr × Mode)) →
      ((a : Addr) → known_at d a ≡ None → May a → Will a) → AsksFor d May Must old new → AsksFor d Will Must old new
  asks-bounded May Will Must old new bounded asks = record {
    more = asks.more;
    grown = asks.grown;
    once = asks.once;
    each = all-map (IsWish d May) (IsWish d Will) (λ w wish. record {
      unknown = wish.unknown;
      mode = wish.mode;
      may = bounded w.0 wish.unknown wish.may;
    }) asks.more asks.each;
    known = asks.known;
  }

  -- an address besides, which is none of those
  module _ (May Must : Addr → Type 0) (a : Addr) (old mid : List (Addr × Mode)) (asks : AsksFor d May Must old mid)
      (apart : (b : Addr) → May b → is_addr b a ≡ false) (new : List (Addr × Mode)) (is-new : new ≡ with_wish d a mid)
    where
      abbrev Will : Addr → Type 0
      Will b = May b ⊎ (a ≡ b)

      abbrev Shall : Addr → Type 0
      Shall b = Must b ⊎ (a ≡ b)

      abbrev wished : Option (Option Object) → List (Addr × Mode)
      wished o = elim o [ Some object ↦ mid | None ↦ mid ++ (a, held_mode d.modes d.view a) ∷ [] ]

      as-wished : (o : Option (Option Object)) → known_at d a ≡ o → AsksFor d Will Shall old (wished o)
      as-wished (Some object) is = record {
        more = asks.more;
        grown = asks.grown;
        once = asks.once;
        each = all-map (IsWish d May) (IsWish d Will) (wish-as May Will (λ b may. inl may)) asks.more asks.each;
        known = λ none b shall. elim shall [
          | inl must ↦ asks.known none b must
          | inr same ↦ subst (λ c. IsSome (known_at d c)) same (subst (λ o. IsSome o) (sym is) refl)
        ];
      }
      as-wished None is = record {
        more = asks.more ++ w ∷ [];
        grown = ap (λ l. l ++ w ∷ []) asks.grown ∙ append_assoc old asks.more (w ∷ []);
        once = once-append asks.more w asks.once
            (all-map (IsWish d May) (λ (b : Addr × Mode). is_addr b.0 a ≡ false) (λ b wish. apart b.0 wish.may)
            asks.more
            asks.each);
        each = all-append (IsWish d Will) asks.more w
            (all-map (IsWish d May) (IsWish d Will) (wish-as May Will (λ b may. inl may)) asks.more asks.each)
            (record { unknown = is; mode = refl; may = inr refl });
        known = λ none b shall. absurd (none-of-more asks.more w none);
      }
        where
          w : Addr × Mode
          w = (a, held_mode d.modes d.view a)

      pub asks-more : AsksFor d Will Shall old new
      asks-more = subst (AsksFor d Will Shall old) (sym is-new) (as-wished (known_at d a) refl)

  -- first some, then others
  pub asks-both : (May Must Will Shall : Addr → Type 0) (old mid new : List (Addr × Mode)) →
      AsksFor d May Must old mid → AsksFor d Will Shall mid new →
      ((b c : Addr) → May b → Will c → is_addr b c ≡ false) →
      AsksFor d (λ b. May b ⊎ Will b) (λ b. Must b ⊎ Shall b) old new
  asks-both May Must Will Shall old mid new first second apart = record {
    more = first.more ++ second.more;
    grown = second.grown ∙ ap (λ l. l ++ second.more) first.grown ∙ append_assoc old first.more second.more;
    once = once-joined first.more second.more first.once second.once
        (all-map (IsWish d May) (λ (x : Addr × Mode). AllByRecursion (λ (y : Addr × Mode). is_addr x.0 y.0 ≡ false)
        second.more)
        (λ x wish. all-map (IsWish d Will) (λ (y : Addr × Mode). is_addr x.0 y.0 ≡ false)
        (λ y other. apart x.0 y.0 wish.may other.may) second.more second.each) first.more first.each);
    each = all-joined (IsWish d (λ b. May b ⊎ Will b)) first.more second.more
        (all-map (IsWish d May) (IsWish d (λ b. May b ⊎ Will b)) (wish-as May (λ b. May b ⊎ Will b) (λ b may. inl may))
        first.more first.each)
        (all-map (IsWish d Will) (IsWish d (λ b. May b ⊎ Will b))
        (wish-as Will (λ b. May b ⊎ Will b) (λ b may. inr may))
        second.more second.each);
    known = λ none a shall. elim shall [
      | inl must ↦ first.known (front-none first.more second.more none) a must
      | inr must ↦ second.known (back-none first.more second.more none) a must
    ];
  }

  -- ---- the end
  module _ (May Must : Addr → Type 0) (asked : List (Addr × Mode)) (asks : AsksFor d May Must [] asked) where
    pub asking-all : (named : List Addr) →
        ((a : Addr) → May a → known_at d a ≡ None → IsAmong named a ⊎ IsThere d.view a) → IsAsking d named asked
    asking-all named bounded = record {
      once = subst EachOnce (sym asks.grown) asks.once;
      each = subst (AllByRecursion (MayAsk d.modes named d.view)) (sym asks.grown)
          (all-map (IsWish d May) (MayAsk d.modes named d.view) (λ w wish. record {
            unseen = unknown-unseen d w.0 wish.unknown;
            mode = wish.mode;
            bounded = bounded w.0 wish.may wish.unknown;
          }) asks.more asks.each);
    }

    pub known-all : asked ≡ [] → (a : Addr) → Must a → IsSome (known_at d a)
    known-all none = asks.known (sym asks.grown ∙ none)

-- ---- addresses that differ
pub same-number : (n : ℕ) → (n == n) ≡ true
same-number n = (unsigned_Decides n n).1 refl

pub not-same : (m n : ℕ) → m ≢ n → (m == n) ≡ false
not-same m n apart = by (m == n) refl
  where
    by : (b : Bool) → (m == n) ≡ b → b ≡ false
    by true is = absurd (apart ((unsigned_Decides m n).0 is))
    by false is = refl

pub differs : (m n : ℕ) → (m == n) ≡ false → m ≢ n
differs m n is e = (let no : true ≡ false = sym ((unsigned_Decides m n).1 e) ∙ is in cc)

pub other-block : (file i j : ℕ) → i ≢ j → is_addr (addresses.Block file i) (addresses.Block file j) ≡ false
other-block file i j apart =
    ap (λ b. b && (i == j)) (same-number file) ∙ not-same i j apart

pub other-map : (file p q : ℕ) → p ≢ q → is_addr (addresses.Map file p) (addresses.Map file q) ≡ false
other-map file p q apart =
    ap (λ b. b && (p == q)) (same-number file) ∙ not-same p q apart

-- ---- one block more of those from one on
module _ (file first : ℕ) where
  pub no-blocks : (end : ℕ) → end ≤ first → (a : Addr) → IsBlockIn file first end a → ⊥
  no-blocks end none a is = absurd (omega (arith, none, is.behind, is.before))

  pub blocks-apart : (end : ℕ) (b : Addr) → IsBlockIn file first end b → is_addr b (addresses.Block file end) ≡ false
  blocks-apart end b is =
      subst (λ c. is_addr c (addresses.Block file end) ≡ false) is.is
      (other-block file is.index end (λ e. absurd (omega (arith, is.before, e))))

  pub blocks-wider : (end : ℕ) → first ≤ end → (b : Addr) → IsBlockIn file first end b ⊎
      (addresses.Block file end ≡ b) →
      IsBlockIn file first (end + 1) b
  blocks-wider end within b (inl is) = record {
    index = is.index;
    behind = is.behind;
    before = omega (arith, is.before);
    is = is.is;
  }
  blocks-wider end within b (inr same) = record { index = end; behind = within; before = omega arith; is = same }

  pub blocks-less : (end : ℕ) (b : Addr) → IsBlockIn file first end b → IsBlockIn file first (end + 1) b
  blocks-less end b is =
      record { index = is.index; behind = is.behind; before = omega (arith, is.before); is = is.is }

  pub blocks-last : (end : ℕ) (b : Addr) → IsBlockIn file first (end + 1) b →
      IsBlockIn file first end b ⊎ (addresses.Block file end ≡ b)
  blocks-last end b is = by (is.index == end) refl
    where
      by : (t : Bool) → (is.index == end) ≡ t → IsBlockIn file first end b ⊎ (addresses.Block file end ≡ b)
      by true same = inr (ap (addresses.Block file) (sym ((unsigned_Decides is.index end).0 same)) ∙ is.is)
      by false other =
          let apart = differs is.index end other in
          inl (record {
            index = is.index;
            behind = is.behind;
            before = omega (arith, is.before, apart);
            is = is.is;
          })

-- ---- those of a range whose map pages are there and count
abbrev pub IsPaged : (file : ℕ) → FileMapValue → (first end : ℕ) → Addr → Type 0
IsPaged file map first end a = (is : IsBlockIn file first end a) × (counts map (is.index / 512) ≡ true)

module _ (d : DraftValue) (file : ℕ) (map : FileMapValue) (first : ℕ) (old mid : List (Addr × Mode)) where
  pub range-none : (end : ℕ) → end ≤ first → AsksFor d (IsBlockIn file first end) (IsPaged file map first end) old old
  range-none end none = asks-none d (IsBlockIn file first end) (IsPaged file map first end) old
      (λ a must. no-blocks file first end none a must.0)

  pub range-more : (end : ℕ) (a : Addr) (new : List (Addr × Mode)) → first ≤ end → a ≡ addresses.Block file end →
      new ≡ with_wish d a mid → AsksFor d (IsBlockIn file first end) (IsPaged file map first end) old mid →
      AsksFor d (IsBlockIn file first (end + 1)) (IsPaged file map first (end + 1)) old new
  range-more end a new within at is asks =
      asks-as d (λ b. IsBlockIn file first end b ⊎ (addresses.Block file end ≡ b)) (IsBlockIn file first (end + 1))
      (λ b. IsPaged file map first end b ⊎ (addresses.Block file end ≡ b)) (IsPaged file map first (end + 1)) old
      new (blocks-wider file first end within)
      (λ b must. by b must (must.0.index == end) refl)
      (asks-more d (IsBlockIn file first end) (IsPaged file map first end) (addresses.Block file end) old mid asks
      (blocks-apart file first end) new (is ∙ ap (λ b. with_wish d b mid) at))
    where
      by : (b : Addr) (must : IsPaged file map first (end + 1) b) (t : Bool) → (must.0.index == end) ≡ t →
          IsPaged file map first end b ⊎ (addresses.Block file end ≡ b)
      by b must true same = inr (ap (addresses.Block file) (sym ((unsigned_Decides must.0.index end).0 same)) ∙
          must.0.is)
      by b must false other =
          let apart = differs must.0.index end other in
          let is = must.0 in
          inl (
            record { index = is.index; behind = is.behind; before = omega (arith, is.before, apart); is = is.is },
            must.1,
          )

  pub range-skip : (end : ℕ) → counts map (end / 512) ≡ false →
      AsksFor d (IsBlockIn file first end) (IsPaged file map first end) old mid →
      AsksFor d (IsBlockIn file first (end + 1)) (IsPaged file map first (end + 1)) old mid
  range-skip end none asks =
      asks-as d (IsBlockIn file first end) (IsBlockIn file first (end + 1)) (IsPaged file map first end)
      (IsPaged file map first (end + 1)) old mid (blocks-less file first end)
      (λ b must. by b must (must.0.index == end) refl) asks
    where
      by : (b : Addr) (must : IsPaged file map first (end + 1) b) (t : Bool) → (must.0.index == end) ≡ t →
          IsPaged file map first end b
      by b must true same = absurd (let no : true ≡ false = sym must.1
          ∙ ap (λ i. counts map (i / 512)) ((unsigned_Decides must.0.index end).0 same) ∙ none in cc)
      by b must false other =
          let apart = differs must.0.index end other in
          let is = must.0 in (
            record { index = is.index; behind = is.behind; before = omega (arith, is.before, apart); is = is.is },
            must.1,
          )

-- ---- all of a range
module _ (d : DraftValue) (file first : ℕ) (old mid : List (Addr × Mode)) where
  pub each-none : (end : ℕ) → end ≤ first → AsksFor d (IsBlockIn file first end) (IsBlockIn file first end) old old
  each-none end none = asks-none d (IsBlockIn file first end) (IsBlockIn file first end) old
      (no-blocks file first end none)

  pub each-more : (end : ℕ) (a : Addr) (new : List (Addr × Mode)) → first ≤ end → a ≡ addresses.Block file end →
      new ≡ with_wish d a mid → AsksFor d (IsBlockIn file first end) (IsBlockIn file first end) old mid →
      AsksFor d (IsBlockIn file first (end + 1)) (IsBlockIn file first (end + 1)) old new
  each-more end a new within at is asks =
      asks-as d (λ b. IsBlockIn file first end b ⊎ (addresses.Block file end ≡ b)) (IsBlockIn file first (end + 1))
      (λ b. IsBlockIn file first end b ⊎ (addresses.Block file end ≡ b)) (IsBlockIn file first (end + 1)) old
      new (blocks-wider file first end within) (blocks-last file first end)
      (asks-more d (IsBlockIn file first end) (IsBlockIn file first end) (addresses.Block file end) old mid asks
      (blocks-apart file first end) new (is ∙ ap (λ b. with_wish d b mid) at))

-- ---- and of map pages behind them
module _ (d : DraftValue) (file : ℕ) (blocks : Addr → Type 0) (first : ℕ) (old mid : List (Addr × Mode))
    (are : (b : Addr) → blocks b → (page : ℕ) → is_addr b (addresses.Map file page) ≡ false) where
  abbrev pub IsWithMaps : (end : ℕ) → Addr → Type 0
  IsWithMaps end a = blocks a ⊎ IsMapIn file first end a

  map-apart : (end : ℕ) (b : Addr) → IsWithMaps end b → is_addr b (addresses.Map file end) ≡ false
  map-apart end b (inl block) = are b block end
  map-apart end b (inr is) = subst (λ c. is_addr c (addresses.Map file end) ≡ false) is.is
      (other-map file is.page end (λ e. absurd (omega (arith, is.before, e))))

  map-less : (end : ℕ) (b : Addr) → IsMapIn file first end b → IsMapIn file first (end + 1) b
  map-less end b is = record { page = is.page; behind = is.behind; before = omega (arith, is.before); is = is.is }

  map-wider : (end : ℕ) → first ≤ end → (b : Addr) → IsWithMaps end b ⊎ (addresses.Map file end ≡ b) →
      IsWithMaps (end + 1) b
  map-wider end within b (inl (inl block)) = inl block
  map-wider end within b (inl (inr is)) = inr (map-less end b is)
  map-wider end within b (inr same) = inr (record { page = end; behind = within; before = omega arith; is = same })

  pub with-no-maps : (end : ℕ) → AsksFor d blocks blocks old mid → AsksFor d (IsWithMaps end) blocks old mid
  with-no-maps end asks = asks-as d blocks (IsWithMaps end) blocks blocks old mid (λ b is. inl is) (λ b is. is) asks

  pub with-map : (end : ℕ) (a : Addr) (new : List (Addr × Mode)) → first ≤ end → a ≡ addresses.Map file end →
      new ≡ with_wish d a mid → AsksFor d (IsWithMaps end) blocks old mid → AsksFor d (IsWithMaps (end + 1)) blocks
      old new
  with-map end a new within at is asks =
      asks-as d (λ b. IsWithMaps end b ⊎ (addresses.Map file end ≡ b)) (IsWithMaps (end + 1))
      (λ b. blocks b ⊎ (addresses.Map file end ≡ b)) blocks old new (map-wider end within) (λ b block. inl block)
      (asks-more d (IsWithMaps end) blocks (addresses.Map file end) old mid asks (map-apart end) new
      (is ∙ ap (λ b. with_wish d b mid) at))

  pub without-map : (end : ℕ) → AsksFor d (IsWithMaps end) blocks old mid → AsksFor d (IsWithMaps (end + 1)) blocks
      old mid
  without-map end asks = asks-as d (IsWithMaps end) (IsWithMaps (end + 1)) blocks blocks old mid
      (λ b is. elim is [ inl block ↦ inl block | inr map ↦ inr (map-less end b map) ]) (λ b is. is) asks

-- a block is no map
pub block-no-map : (file first end : ℕ) (b : Addr) → IsBlockIn file first end b → (page : ℕ) →
    is_addr b (addresses.Map file page) ≡ false
block-no-map file first end b is page = subst (λ c. is_addr c (addresses.Map file page) ≡ false) is.is refl

-- ---- those of a range are named
pub among-blocks : (file first count i : ℕ) → first ≤ i → i < first + count →
    IsAmong (blocks_from file first count) (addresses.Block file i)
unfolding blocks_from
among-blocks file first zero i behind before = absurd (omega (arith, behind, before))
among-blocks file first (suc count) i behind before =
    elim (first == i) as (λ t. (first == i) ≡ t → (addresses.Block file first ≡ addresses.Block file i) ⊎
    IsAmong (blocks_from file (suc first) count) (addresses.Block file i)) [
      | true ↦ λ same. inl (ap (addresses.Block file) ((unsigned_Decides first i).0 same))
      | false ↦ λ other. inr (among-blocks file (suc first) count i
          (let apart = differs first i other in omega (arith, behind, apart)) (omega (arith, before)))
    ] refl

module _ (file offset count : ℕ) (some : 0 < count) (few : count ≤ 65536) where
  pub among-block : (a : Addr) → IsBlockIn file (first_of offset) (end_of offset count) a → IsAmong
      (blocks_at file offset) a
  among-block a is =
      subst (IsAmong (blocks_at file offset)) is.is
      (among-blocks file (offset / 4096) 17 is.index is.behind
      (let b = is.before in omega (arith, b, some, few)))

  pub among-map : (a : Addr) → IsMapIn file (first_of offset / 512) ((end_of offset count - 1) / 512 + 1) a →
      IsAmong (maps_at file offset) a
  among-map a is = subst (IsAmong (maps_at file offset)) is.is (by (offset / 4096 / 512 == is.page) refl)
    where
      first : ℕ
      first = offset / 4096 / 512

      by : (t : Bool) → (first == is.page) ≡ t → IsAmong (maps_at file offset) (addresses.Map file is.page)
      by true same = inl (ap (addresses.Map file) ((unsigned_Decides first is.page).0 same))
      by false other =
          let apart = differs first is.page other in
          let next : suc first ≡ is.page = (let b = is.behind in let c = is.before in omega
          (arith, b, c, apart, some, few)) in
          inr (inl (ap (addresses.Map file) next))

-- ---- how what is asked for ends
pub asked-result : (d : DraftValue) (named : List Addr) (asked : List (Addr × Mode)) (Known : Type 0)
    (r : Result (Unit {0}) Missing) → OnOk r (asked ≡ []) →
    ((e : DraftValue) (some : List Addr) → IsAsking e some asked → IfErr r (StopsAt e some)) → IsAsking d named asked →
    (asked ≡ [] → Known) → MatchResult r (λ _. Known) (StopsAt d named)
asked-result d named asked Known (Ok x) nothing stops asking known = known nothing
asked-result d named asked Known (Err halt) nothing stops asking known = stops d named asking
