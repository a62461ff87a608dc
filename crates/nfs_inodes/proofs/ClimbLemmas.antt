-- The way from a directory up to its root: it ends, and tells what the directory is within.
use Rattle.std.proofs.Common.{◌≡◌, ◌==◌, ℕ, ◌+◌, ◌≤◌, ◌<◌, nat_lt, true, false, Bool, cond}
use Rattle.std.proofs.Common.{List, [], ◌∷◌, length, Option, Some, None, IsSome, option_map, inl, inr, refl, sym}
use Rattle.std.proofs.Common.{◌∙◌, ap, subst, arith}
use Rattle.std.specs.Prelude.{◌↔◌, IfSome, MatchOption}
use Rattle.std.proofs.lemmas.Bool.{le-ltb, lt-ltb, ltb-true}
use Rattle.std.proofs.lemmas.List.Sums.{sum_by-cons}
use Rattle.std.specs.Cmp.{unsigned_Decides}
use Rattle.std.specs.FinMap.{FinMap, get, remove, values}
use Rattle.std.specs.List.{count_by, sum_by}
use Rattle.std.specs.Ordering.{nat_cmp}
use Rattle.nfs_machine.proofs.MapChangeLemmas.{differs-other, differs-remove, itself, part-of_sum, sum-differs}
use Rattle.nfs_machine.proofs.MapChangeLemmas.{weight}
use Rattle.nfs_machine.proofs.NamesCountedLemmas.{has-directory, passing}
use Rattle.nfs_machine.proofs.WellFormedLemmas.{Deep}
use Rattle.nfs_machine.specs.Attributes.{entries_of, is_directory, is_living_directory, names_in}
use Rattle.nfs_machine.specs.RenameSteps as machine
use Rattle.nfs_machine.specs.RenameSteps.{IsWithin, below}
use Rattle.nfs_machine.specs.State.{Entry, Living, State}
use Rattle.nfs_machine.specs.WellFormed.{IsParent, Leads, WellFormed, is_root}
use Rattle.nfs_objects.proofs.StandsInExportLemmas.{object-stands}
use Rattle.nfs_objects.proofs.SeenLemmas.{is_addr-same, unknown-unseen}
use Rattle.nfs_objects.specs.Asks.{IsThere}
use Rattle.nfs_objects.specs.Knows.{Knows, Possible}
use Rattle.nfs_objects.specs.Modes.{held_mode}
use Rattle.nfs_objects.specs.Stands.{StoreMeaning, Represents, beside_at, content_of, filled, header_in}
use Rattle.nfs_objects.specs.Stands.{living_of_inode, parent_in}
use Rattle.nfs_objects.specs.Store.{Store, with_writes}
use Rattle.nfs_objects.specs.Values.{DraftValue, Seen, is_addr, known_at, seen_at, shown_at, written_at}
use Rattle.nfs_objects.specs.declared.address.Addr.{Addr}
use Rattle.nfs_objects.specs.declared.address.Addr.TheVariants as addresses
use Rattle.nfs_objects.specs.declared.directory.Directory.{Directory as Header}
use Rattle.nfs_objects.specs.declared.modes.Mode.{Mode}
use Rattle.nfs_objects.specs.declared.object.Content.TheVariants as contents
use Rattle.nfs_objects.specs.declared.object.Inode.{Inode}
use Rattle.nfs_objects.specs.declared.object.Object.{Object}
use Rattle.nfs_inodes.proofs.PutObjectLemmas.{inode-known}
use Rattle.nfs_inodes.proofs.StandsLemmas.{directory-kind, kind-is, known-lives, lives-there, parent-there}
use Rattle.nfs_inodes.specs.Gathers.{MayWish, wish, wish_above}
use Rattle.nfs_inodes.specs.Known.{HasInode, IsKnown, content_at}
use Rattle.nfs_inodes.specs.declared.kinds.KnownDirectory.{KnownDirectory}

-- ---- one directory up
two-parts : {X : Type 0} (f : X → ℕ) (m : FinMap nat_cmp X) (k j : ℕ) (v u : X) → get m k ≡ Some v →
    get m j ≡ Some u → (j == k) ≡ false → f v + f u ≤ sum_by f (values m)
two-parts f m k j v u at there other =
    let s = sum-differs f m (remove m k) k None (differs-remove m k) in
    let here : weight f (get m k) ≡ f v = ap (weight f) at in
    let rest = part-of_sum f (remove m k) j u (differs-other m (remove m k) k None (differs-remove m k) j other
    ∙ there) in
    omega (arith, s, here, rest)

-- the directory that a name leads down from, where it is another
record Above (m : State) (upper n : ℕ) : Type 0 where
  pub middle : ℕ
  pub directory : Living
  pub within : IsWithin m upper middle
  pub lives : get m.objects middle ≡ Some directory
  pub named : 1 ≤ names_in n directory

above : (m : State) (upper n : ℕ) → IsWithin m upper n → (n == upper) ≡ false → Above m upper n
above m top n (machine.itself k) other = (let no : true ≡ false = sym (itself k) ∙ other in cc)
above m top n (below upper middle lower directory within lives named) other =
    record { middle = middle; directory = directory; within = within; lives = lives; named = named }

module _ (m : State) (w : WellFormed m) (n : ℕ) (o : Living) (at : get m.objects n ≡ Some o)
    (kind : is_directory o.content ≡ true) (parent : ℕ) (p : IsParent m n parent) where
  -- a name leads to it there
  module _ (named : 1 ≤ names_in n p.directory) where
    shallower : w.depth parent < w.depth n
    shallower =
        let found = passing (Deep m w.depth parent) (λ (e : Entry). e.number == n) (entries_of p.directory.content)
        (w.deeper parent p.directory p.lives) named in
        let number : found.0.number ≡ n = (unsigned_Decides found.0.number n).0 found.2 in
        subst (λ k. w.depth parent < w.depth k) number
        (found.1 (ap is_living_directory (ap (get m.objects) number ∙ at) ∙ kind))

    up : (upper : ℕ) → (n == upper) ≡ false → IsWithin m upper n → IsWithin m upper parent
    up upper other within =
        let a = above m upper n within other in
        let same : a.middle ≡ parent = elim (a.middle == parent) as (λ b. (a.middle == parent) ≡ b →
        a.middle ≡ parent) [
          | true ↦ λ t. (unsigned_Decides a.middle parent).0 t
          | false ↦ λ t.
              let both = two-parts (names_in n) m.objects parent a.middle p.directory a.directory p.lives a.lives t in
              let most = w.one_name n o at kind in
              let some = a.named in
              absurd (omega (arith, both, named, some, most))
        ] refl in
        subst (λ k. IsWithin m upper k) same a.within

    down : (upper : ℕ) → IsWithin m upper parent → IsWithin m upper n
    down upper within = below upper parent n p.directory within p.lives named

  -- the root is its own, and no name leads to it
  ends : (upper : ℕ) → parent ≡ n → (n == upper) ≡ false → IsWithin m upper n → ⊥
  ends upper same other within =
      let a = above m upper n within other in
      elim p.named_in [
        | inl root ↦
            let found = passing (Leads m a.directory) (λ (e : Entry). e.number == n) (entries_of a.directory.content)
            (w.names a.middle a.directory a.lives).leads a.named in
            let number : found.0.number ≡ n = (unsigned_Decides found.0.number n).0 found.2 in
            let no : true ≡ false = sym root.1 ∙ ap (is_root m) (sym number) ∙ (found.1).no_root in
            cc
        | inr named ↦
            let less = shallower named in
            let equal : w.depth parent ≡ w.depth n = ap w.depth same in
            absurd (omega (arith, less, equal))
      ]

  -- another parent has a name that leads to it
  named-there : (parent == n) ≡ false → 1 ≤ names_in n p.directory
  named-there other = elim p.named_in [
    | inl root ↦ (let no : true ≡ false = sym ((unsigned_Decides parent n).1 root.0) ∙ other in cc)
    | inr named ↦ named
  ]

-- a parent is a directory
parent-kind : (m : State) (n parent : ℕ) → is_living_directory (get m.objects n) ≡ true →
    IsParent m n parent → is_living_directory (get m.objects parent) ≡ true
parent-kind m n parent kind p = elim p.named_in [
  | inl root ↦ ap (λ q. is_living_directory (get m.objects q)) root.0 ∙ kind
  | inr named ↦ ap is_living_directory p.lives ∙ has-directory n p.directory named
]

living-directory : (x : Option Living) → is_living_directory x ≡ true →
    (o : Living) × (x ≡ Some o) × (is_directory o.content ≡ true)
living-directory None e = cc
living-directory (Some o) e = (o, refl, e)

-- the parent of a directory that a draft shows stands in each store that its view fits
parent-stands : (d : DraftValue) (n : ℕ) (i : Inode) (h : Header) → d.writes ≡ [] → HasInode d n (Some i) →
    i.content ≡ contents.Directory h → IsThere d.view (addresses.Inode h.parent)
parent-stands d n i h none has is s k fits stands sound formed =
    let written = subst (λ ws. Represents (with_writes s ws) k) (sym none) stands in
    let beside = beside_at k.state n in
    let o = living_of_inode beside i in
    let lives : get k.state.objects n ≡ Some o = lives-there d n (Some i) has s k fits written in
    let kind : is_directory o.content ≡ true = ap (λ c. is_directory (filled beside (content_of c))) is in
    let parent = sound.parents n o lives kind in
    let same : k.parents n ≡ h.parent = parent-there d n (Some i) has s k fits written ∙ ap parent_in is in
    object-stands s k h.parent parent.directory stands (ap (get k.state.objects) (sym same) ∙ parent.lives)

-- so it may be asked for
pub parent-wished : (d : DraftValue) (n : ℕ) (i : Inode) (h : Header) → d.writes ≡ [] → HasInode d n (Some i) →
    i.content ≡ contents.Directory h → (wish : Option (Addr × Mode)) →
    MatchOption wish (IsSome (known_at d (addresses.Inode h.parent)))
    (λ w. (known_at d (addresses.Inode h.parent) ≡ None) ×
    (w ≡ (addresses.Inode h.parent, held_mode d.modes d.view (addresses.Inode h.parent)))) →
    IfSome wish (MayWish d)
parent-wished d n i h none has is None lacked = tt
parent-wished d n i h none has is (Some w) lacked = subst (MayWish d) (sym lacked.1) (record {
  unseen = unknown-unseen d (addresses.Inode h.parent) lacked.0;
  mode = refl;
  lives = parent-stands d n i h none has is;
})

-- ---- what is asked for is the next one
-- for what stands at this number, where so much is known of it
abbrev wish-of : DraftValue → ℕ → Option (Option Object) → Option (Addr × Mode)
wish-of d parent known = elim known [ None ↦ Some (wish d parent) | Some object ↦ None ]

-- what a directory with this header leads up to
abbrev above-of : DraftValue → Option Header → Option (Addr × Mode)
above-of d header = elim header [
  | None ↦ None
  | Some header ↦ wish-of d header.parent (known_at d (addresses.Inode header.parent))
]

pub parent-above : (d : DraftValue) (n : ℕ) (i : Inode) (h : Header) → HasInode d n (Some i) →
    i.content ≡ contents.Directory h → (wished : Option (Addr × Mode)) →
    MatchOption wished (IsSome (known_at d (addresses.Inode h.parent)))
    (λ w. (known_at d (addresses.Inode h.parent) ≡ None) ×
    (w ≡ (addresses.Inode h.parent, held_mode d.modes d.view (addresses.Inode h.parent)))) →
    wished ≡ wish_above d n
parent-above d n i h has is wished lacked =
    by wished lacked ∙ ap (above-of d) (sym (ap header_in is))
    ∙ ap (λ (o : Option Inode). above-of d (elim o [ None ↦ None | Some i ↦ header_in i.content ]))
    (sym (inode-known d n (Some i) has))
  where
    known : (o : Option (Option Object)) → IsSome o → None ≡ wish-of d h.parent o
    known (Some object) some = refl
    known None some = cc

    by : (w : Option (Addr × Mode)) → MatchOption w (IsSome (known_at d (addresses.Inode h.parent)))
        (λ w. (known_at d (addresses.Inode h.parent) ≡ None) ×
        (w ≡ (addresses.Inode h.parent, held_mode d.modes d.view (addresses.Inode h.parent)))) →
        w ≡ above-of d (Some h)
    by None some = known (known_at d (addresses.Inode h.parent)) some
    by (Some w) lacks = ap Some lacks.1 ∙ ap (wish-of d h.parent) (sym lacks.0)

-- ---- how many of the addresses that were read stand so high
abbrev is_high : (ℕ → ℕ) → ℕ → Addr → Bool
is_high depth limit (addresses.Inode n) = nat_lt (depth n) limit
is_high depth limit address = false

abbrev pub high_count : (ℕ → ℕ) → ℕ → List Seen → ℕ
high_count depth limit es = count_by (λ (e : Seen). is_high depth limit e.address) es

module _ (depth : ℕ → ℕ) (low high : ℕ) (less : low ≤ high) where
  below-more : (d : ℕ) → nat_lt d low ≡ true → nat_lt d high ≡ true
  below-more d t = lt-ltb d high (let a = ltb-true d low t in omega (arith, a, less))

  high-more : (a : Addr) → is_high depth low a ≡ true → is_high depth high a ≡ true
  high-more addresses.Exports t = cc
  high-more (addresses.Inode n) t = below-more (depth n) t
  high-more (addresses.Map file page) t = cc
  high-more (addresses.Block file index) t = cc
  high-more (addresses.Page directory page) t = cc
  high-more (addresses.Part directory bucket part) t = cc
  high-more addresses.Mounts t = cc
  high-more (addresses.Usage export group) t = cc
  high-more (addresses.Locks bucket) t = cc

  one-more : (a : Addr) → cond {A = ℕ} (is_high depth low a) 1 0 ≤ cond (is_high depth high a) 1 0
  one-more a = elim (is_high depth low a) as (λ b. is_high depth low a ≡ b →
      cond {A = ℕ} b 1 0 ≤ cond (is_high depth high a) 1 0) [
        | true ↦ λ t. (let one : cond {A = ℕ} (is_high depth high a) 1 0 ≡
            1 = ap (λ b. cond {A = ℕ} b 1 0) (high-more a t) in omega (arith, one))
        | false ↦ λ t. omega arith
      ] refl

  counts-more : (es : List Seen) → high_count depth low es ≤ high_count depth high es
  counts-more [] = omega arith
  counts-more (e ∷ es) =
      let rest = counts-more es in
      let here = one-more e.address in
      omega (
        arith,
        rest,
        here,
        sum_by-cons (λ (x : Seen). cond {A = ℕ} (is_high depth low x.address) 1 0) e es,
        sum_by-cons (λ (x : Seen). cond {A = ℕ} (is_high depth high x.address) 1 0) e es,
      )

-- one that was read stands as high as itself
module _ (depth : ℕ → ℕ) (n : ℕ) where
  own-low : is_high depth (depth n) (addresses.Inode n) ≡ false
  own-low = le-ltb (depth n) (depth n) (omega arith)

  own-high : is_high depth (depth n + 1) (addresses.Inode n) ≡ true
  own-high = lt-ltb (depth n) (depth n + 1) (omega arith)

  counts-own : (es : List Seen) → IsSome (shown_at es (addresses.Inode n)) →
      high_count depth (depth n) es + 1 ≤ high_count depth (depth n + 1) es
  counts-own [] some = cc
  counts-own (e ∷ es) some =
      let low-cons = sum_by-cons (λ (x : Seen). cond {A = ℕ} (is_high depth (depth n) x.address) 1 0) e es in
      let high-cons = sum_by-cons (λ (x : Seen). cond {A = ℕ} (is_high depth (depth n + 1) x.address) 1 0) e es in
      let more : depth n ≤ depth n + 1 = omega arith in
      elim (is_addr e.address (addresses.Inode n)) as (λ b. is_addr e.address (addresses.Inode n) ≡ b
      → IsSome (option_map (λ (x : Seen). x.object) (cond b (Some e) (seen_at es (addresses.Inode n)))) →
      high_count depth (depth n) (e ∷ es) + 1 ≤ high_count depth (depth n + 1) (e ∷ es)) [
        | true ↦ λ same there.
            let own : e.address ≡ addresses.Inode n = is_addr-same e.address (addresses.Inode n) same in
            let none : cond {A = ℕ} (is_high depth (depth n) e.address) 1 0 ≡ 0 =
            ap (λ a. cond {A = ℕ} (is_high depth (depth n) a) 1 0) own ∙ ap (λ b. cond {A = ℕ} b 1 0) own-low in
            let one : cond {A = ℕ} (is_high depth (depth n + 1) e.address) 1 0 ≡ 1 =
            ap (λ a. cond {A = ℕ} (is_high depth (depth n + 1) a) 1 0) own
            ∙ ap (λ b. cond {A = ℕ} b 1 0) own-high in
            let rest = counts-more depth (depth n) (depth n + 1) more es in
            omega (arith, none, one, rest, low-cons, high-cons)
        | false ↦ λ other there.
            let rest = counts-own es there in
            let here = one-more depth (depth n) (depth n + 1) more e.address in
            omega (arith, rest, here, low-cons, high-cons)
      ] refl some

-- ---- the way up
pub record Climbs (d : DraftValue) (upper lower number steps : ℕ) : Type 0 where
  pub lives : IsThere d.view (addresses.Inode number)
  pub directory : Knows d (λ k. is_living_directory (get k.state.objects number) ≡ true)
  pub same : Knows d (λ k. WellFormed k.state → IsWithin k.state upper lower ↔ IsWithin k.state upper number)
  -- each step read one more
  pub few : Knows d (λ k. (w : WellFormed k.state) →
      steps + high_count w.depth (w.depth number + 1) d.view.entries ≤ length d.view.entries)

count-all : (p : Seen → Bool) (es : List Seen) → count_by p es ≤ length es
count-all p [] = omega arith
count-all p (e ∷ es) =
    let rest = count-all p es in
    elim (p e) as (λ b. p e ≡ b → count_by p (e ∷ es) ≤ length (e ∷ es)) [
      | true ↦ λ t. (let one : cond {A = ℕ} (p e) 1 0 ≡ 1 = ap (λ b. cond {A = ℕ} b 1 0) t in omega
          (arith, rest, one, sum_by-cons (λ (x : Seen). cond {A = ℕ} (p x) 1 0) e es))
      | false ↦ λ t. (let none : cond {A = ℕ} (p e) 1 0 ≡ 0 = ap (λ b. cond {A = ℕ} b 1 0) t in omega
          (arith, rest, none, sum_by-cons (λ (x : Seen). cond {A = ℕ} (p x) 1 0) e es))
    ] refl

module _ (d : DraftValue) (upper : ℕ) (directory : KnownDirectory) (none : d.writes ≡ [])
    (known : Knows d (λ k. IsKnown k.state directory.known)) where
  abbrev lower : ℕ
  lower = directory.known.number

  pub climbs-first : Climbs d upper lower lower 0
  climbs-first = record {
    lives = known-lives d directory.known none known;
    directory = λ s k w.
        ap is_living_directory (known s k w).lives
        ∙ directory-kind (content_at k.state lower) (kind-is k.state directory.known (known s k w)
        ∙ directory.kind);
    same = λ s k w formed. ((λ x. x), (λ x. x));
    few = λ s k w formed.
        (let all = count-all (λ (e : Seen). is_high formed.depth (formed.depth lower + 1) e.address)
        d.view.entries in omega (arith, all));
  }

  module _ (number steps : ℕ) (c : Climbs d upper lower number steps) where
    pub tells-there : number ≡ upper → Knows d (λ k. WellFormed k.state →
        (true ≡ true) ↔ IsWithin k.state upper lower)
    tells-there same s k w formed = (
      (λ x. ((c.same s k w formed).1 (subst (λ n. IsWithin k.state upper n) (sym same) (machine.itself upper)))),
      (λ x. refl),
    )

    abbrev Parent : ℕ → Type 0
    Parent parent = Knows d (λ k. k.parents number ≡ parent)

    parent-of : (s : Store) (k : StoreMeaning) → Possible d s k → (parent : ℕ) → k.parents number ≡ parent →
        IsParent k.state number parent
    parent-of s k w parent is =
        let o = living-directory (get k.state.objects number) (c.directory s k w) in
        subst (IsParent k.state number) is (w.sound.parents number o.0 o.1 o.2)

    pub tells-root : (number == upper) ≡ false → (parent : ℕ) → Parent parent → parent ≡ number →
        Knows d (λ k. WellFormed k.state → (false ≡ true) ↔ IsWithin k.state upper lower)
    tells-root other parent is same s k w formed =
        let o = living-directory (get k.state.objects number) (c.directory s k w) in (
          (λ x. cc),
          (λ x. absurd (ends k.state formed number o.0 o.1 o.2 parent (parent-of s k w parent (is s k w)) upper same
              other ((c.same s k w formed).0 x))),
        )

    -- an address that is known was read
    read : IsSome (known_at d (addresses.Inode number)) → IsSome (shown_at d.view.entries (addresses.Inode number))
    read some = subst (λ ws. IsSome (written_at (shown_at d.view.entries (addresses.Inode number)) ws
        (addresses.Inode number))) none some

    pub climbs-next : (number == upper) ≡ false → (parent : ℕ) → Parent parent →
        IsSome (known_at d (addresses.Inode number)) → (parent == number) ≡ false
        → Climbs d upper lower parent (steps + 1)
    climbs-next other parent is some apart = record {
      lives = λ s k fits stands sound formed.
          let w : Possible d s k = record {
            fits = fits;
            stands = subst (λ ws. Represents (with_writes s ws) k)
                (sym none) stands;
            sound = sound;
          } in
          let p = parent-of s k w parent (is s k w) in
          object-stands s k parent p.directory stands p.lives;
      directory = λ s k w. parent-kind k.state number parent (c.directory s k w) (parent-of s k w parent (is s k w));
      same = λ s k w formed.
          let o = living-directory (get k.state.objects number) (c.directory s k w) in
          let p = parent-of s k w parent (is s k w) in
          let named = named-there k.state formed number o.0 o.1 o.2 parent p apart in (
            (λ x. up k.state formed number o.0 o.1 o.2 parent p named upper other ((c.same s k w formed).0 x)),
            (λ x. (c.same s k w formed).1 (down k.state formed number o.0 o.1 o.2 parent p named upper x)),
          );
      few = λ s k w formed.
          let o = living-directory (get k.state.objects number) (c.directory s k w) in
          let p = parent-of s k w parent (is s k w) in
          let named = named-there k.state formed number o.0 o.1 o.2 parent p apart in
          let less = shallower k.state formed number o.0 o.1 o.2 parent p named in
          let fewer = counts-more formed.depth (formed.depth parent + 1) (formed.depth number) (omega (arith, less))
          d.view.entries in
          let one = counts-own formed.depth number d.view.entries (read some) in
          let all = c.few s k w formed in
          omega (arith, fewer, one, all);
    }

    pub tells-end : (reads : ℕ) → length d.view.entries ≤ reads → reads < steps →
        Knows d (λ k. WellFormed k.state → (false ≡ true) ↔ IsWithin k.state upper lower)
    tells-end reads most past s k w formed = (let all = c.few s k w formed in absurd (omega (arith, most, past, all)))
