-- After writes to pages and parts of a directory: what was known, held alone and there still is, and what is asked for
-- might have been asked for before.
use Rattle.std.proofs.Common.{◌≡◌, ◌⊎◌, ℕ, Bool, true, false, cond, List, [], ◌∷◌, Option, Some, None, IsSome}
use Rattle.std.proofs.Common.{inl, inr, is_some, not, option_map, refl, sym, ap, subst, ◌∙◌, ◌==◌, ◌&&◌}
use Rattle.std.specs.List.{AllByRecursion}
use Rattle.nfs_machine.specs.State.{Entry}
use Rattle.nfs_objects.proofs.KnowsLemmas.{covers-among, lacks-stops, stops-wider}
use Rattle.nfs_objects.proofs.OtherObjectsLemmas.{enters-both, enters-none, enters-part}
use Rattle.nfs_objects.specs.Asks.{IsThere, Lacks}
use Rattle.nfs_objects.specs.Attempt.{StopsCall}
use Rattle.nfs_objects.specs.Calls.{IsAmong}
use Rattle.nfs_objects.specs.Drafts.{MayChange}
use Rattle.nfs_objects.specs.Modes.{held_mode}
use Rattle.nfs_objects.specs.Stands.{part_of}
use Rattle.nfs_objects.specs.Store.{Store, with_writes}
use Rattle.nfs_objects.specs.Unfiled.{Enters}
use Rattle.nfs_objects.specs.Values.{DraftValue, is_addr, known_at, with_written}
use Rattle.nfs_objects.specs.declared.address.Addr.{Addr}
use Rattle.nfs_objects.specs.declared.address.Addr.TheVariants as addresses
use Rattle.nfs_objects.specs.declared.change.Missing.{Missing}
use Rattle.nfs_objects.specs.declared.modes.Mode.{Mode}
use Rattle.nfs_objects.specs.declared.modes.Mode.TheVariants.{Exclusive}
use Rattle.nfs_objects.specs.declared.object.Object.{Object}
use Rattle.nfs_objects.specs.declared.object.Object.TheVariants as objects
use Rattle.nfs_inodes.proofs.ReadBlocksLemmas.{never-lacking}
use Rattle.nfs_inodes.proofs.StillKnownLemmas.{keeps-written, knows-both, knows-none}
use Rattle.nfs_inodes.proofs.WishesLemmas.{asks-as, asks-more, asks-none, not-same, same-number}
use Rattle.nfs_inodes.proofs.WrittenBlocksLemmas.{stands-here, stands-written}
use Rattle.nfs_inodes.specs.Asking.{AsksFor, with_wish}
use Rattle.nfs_inodes.specs.Entered.{KeepsButBucket, KeepsKnown, PartsLive, lacked_of}
use Rattle.nfs_inodes.specs.Stops.{StopsAt}

-- ---- what is known
-- what is at an address, of which a draft tells this
pub told : {X : Type 0} (f : Option Object → X) (o : Option (Option Object)) (is : X) → option_map f o ≡ Some is →
    (object : Option Object) × (o ≡ Some object) × (f object ≡ is)
told f None is tells = cc
told f (Some object) is tells = (object, refl, (let e : Some (f object) ≡ Some is = tells in cc))

pub told-known : {X : Type 0} (f : Option Object → X) (o : Option (Option Object)) (is : X) → option_map f o ≡ Some is →
    IsSome o
told-known f None is tells = cc
told-known f (Some object) is tells = refl

-- ---- addresses that differ
pub other-page : (n p q : ℕ) → (p ≡ q → ⊥) → is_addr (addresses.Page n p) (addresses.Page n q) ≡ false
other-page n p q apart = ap (λ b. b && (p == q)) (same-number n) ∙ not-same p q apart

pub other-part : (n b p q : ℕ) → (p ≡ q → ⊥) → is_addr (addresses.Part n b p) (addresses.Part n b q) ≡ false
other-part n b p q apart =
    ap (λ t. t && ((b == b) && (p == q))) (same-number n)
    ∙ ap (λ t. t && (p == q)) (same-number b) ∙ not-same p q apart

pub other-bucket : (n b c p q : ℕ) → (b == c) ≡ false → is_addr (addresses.Part n b p) (addresses.Part n c q) ≡ false
other-bucket n b c p q apart =
    ap (λ t. t && ((b == c) && (p == q))) (same-number n) ∙ ap (λ t. t && (p == q)) apart

-- ---- after writes to one directory
module _ (n : ℕ) (old new : DraftValue) (enters : Enters n old new) where
  pub may-change-on : (a : Addr) → MayChange old a → MayChange new a
  may-change-on a may =
      subst (λ v. held_mode new.modes v a ≡ Exclusive) (sym enters.view)
      (subst (λ m. held_mode m old.view a ≡ Exclusive) (sym enters.modes) may)

  pub lives-on : (a : Addr) → KeepsKnown old new → IsSome (known_at old a) ⊎ IsThere old.view a →
      IsSome (known_at new a) ⊎ IsThere new.view a
  lives-on a knows lives = elim lives [
    | inl some ↦ inl (knows.known a some)
    | inr there ↦ inr (subst (λ v. IsThere v a) (sym enters.view) there)
  ]

  pub parts-live-on : (q bucket width : ℕ) → KeepsKnown old new → PartsLive old q bucket width
      → PartsLive new q bucket width
  parts-live-on q bucket width knows live part less =
      lives-on (addresses.Part q bucket part) knows (live part less)

  pub stops-back : (named : List Addr) (halt : Missing) → StopsAt new named halt → StopsAt old named halt
  stops-back named halt stops =
      subst (λ v. StopsCall old.modes named 0 v halt) enters.view
      (subst (λ m. StopsCall m named 0 new.view halt) enters.modes stops)

-- ---- parts of one bucket
pub keeps-none : (d : DraftValue) (n bucket : ℕ) → KeepsButBucket d d n bucket
keeps-none d n bucket = record {
  enters = enters-none n d;
  knows = knows-none d;
  pages = λ s page. refl;
  others = λ s other part apart. refl;
}

pub keeps-both : (d mid new : DraftValue) (n bucket : ℕ) → KeepsButBucket d mid n bucket
    → KeepsButBucket mid new n bucket →
    KeepsButBucket d new n bucket
keeps-both d mid new n bucket first second = record {
  enters = enters-both n d mid new first.enters second.enters;
  knows = knows-both d mid new first.knows second.knows;
  pages = λ s page. second.pages s page ∙ first.pages s page;
  others = λ s other part apart. second.others s other part apart ∙ first.others s other part apart;
}

-- one that is put, or freed
module _ (d new : DraftValue) (n bucket part : ℕ) (o : Option Object)
    (is : new ≡ with_written d (addresses.Part n bucket part) o) where
  pub keeps-part : KeepsButBucket d new n bucket
  keeps-part = subst (λ x. KeepsButBucket d x n bucket) (sym is) (record {
    enters = enters-part n d bucket part o;
    knows = keeps-written d (addresses.Part n bucket part) o refl;
    pages = λ s page. stands-written d s (addresses.Part n bucket part) o (addresses.Page n page);
    others = λ s other q apart.
        stands-written d s (addresses.Part n bucket part) o (addresses.Part n other q)
        ∙ ap (λ t. cond t o ((with_writes s d.writes).at (addresses.Part n other q)))
        (other-bucket n bucket other part q apart);
  })

  pub part-here : (s : Store) → (with_writes s new.writes).at (addresses.Part n bucket part) ≡ o
  part-here s = ap (λ (x : DraftValue). (with_writes s x.writes).at (addresses.Part n bucket part)) is
      ∙ stands-here d s (addresses.Part n bucket part) o

  pub part-there : (s : Store) (q : ℕ) → (q ≡ part → ⊥) → (with_writes s new.writes).at (addresses.Part n bucket q) ≡
      (with_writes s d.writes).at (addresses.Part n bucket q)
  part-there s q apart =
      ap (λ (x : DraftValue). (with_writes s x.writes).at (addresses.Part n bucket q)) is
      ∙ stands-written d s (addresses.Part n bucket part) o (addresses.Part n bucket q)
      ∙ ap (λ t. cond t o ((with_writes s d.writes).at (addresses.Part n bucket q)))
      (other-part n bucket part q (λ same. apart (sym same)))

-- what is known to be a part
pub is-part : (o : Option Object) (part : List Entry) → part_of o ≡ Some part → o ≡ Some (objects.Part part)
is-part None part is = cc
is-part (Some (objects.Exports table)) part is = cc
is-part (Some (objects.Inode i)) part is = cc
is-part (Some (objects.Map bits)) part is = cc
is-part (Some (objects.Block bytes)) part is = cc
is-part (Some (objects.Page page)) part is = cc
is-part (Some (objects.Part names)) part is =
    let same : names ≡ part = (let e : Some names ≡ Some part = is in cc) in ap (λ x. Some (objects.Part x)) same
is-part (Some (objects.Mounts table)) part is = cc
is-part (Some (objects.Usage usage)) part is = cc
is-part (Some (objects.Locks locks)) part is = cc

-- ---- halts
-- what is named, known or there stops nothing else
pub lives-stops : (d : DraftValue) (named : List Addr) (a : Addr) (halt : Missing) →
    IsAmong named a ⊎ (IsSome (known_at d a) ⊎ IsThere d.view a) → Lacks d a halt → StopsAt d named halt
lives-stops d named a halt (inl among) lacks = lacks-stops d named 0 a halt lacks (inl among)
lives-stops d named a halt (inr (inl some)) lacks = absurd (never-lacking d a halt some lacks)
lives-stops d named a halt (inr (inr there)) lacks = lacks-stops d named 0 a halt lacks (inr there)

-- an address that is named and not known is named by those that are not known
pub lacked-among : (d : DraftValue) (named : List Addr) (a : Addr) → IsAmong named a → known_at d a ≡ None →
    IsAmong (lacked_of d named) a
lacked-among d [] a among unknown = among
lacked-among d (b ∷ named) a among unknown = by (is_some (known_at d b)) refl among (lacked-among d named a)
  where
    by : (t : Bool) → is_some (known_at d b) ≡ t → (b ≡ a) ⊎ IsAmong named a →
        (IsAmong named a → known_at d a ≡ None → IsAmong (lacked_of d named) a) →
        IsAmong (cond (not t) (b ∷ lacked_of d named) (lacked_of d named)) a
    by true known (inl same) rest =
        absurd (let clash : false ≡ true = sym (ap is_some (ap (known_at d) same ∙ unknown)) ∙ known in cc)
    by true known (inr others) rest = rest others unknown
    by false lacking (inl same) rest = inl same
    by false lacking (inr others) rest = inr (rest others unknown)

-- and so it is the other way
pub lacked-from : (d : DraftValue) (named : List Addr) (a : Addr) → IsAmong (lacked_of d named) a →
    IsAmong named a × (known_at d a ≡ None)
lacked-from d [] a among = absurd among
lacked-from d (b ∷ named) a among = by (known_at d b) refl among (lacked-from d named a)
  where
    by : (o : Option (Option Object)) → known_at d b ≡ o →
        IsAmong (cond (not (is_some o)) (b ∷ lacked_of d named) (lacked_of d named)) a →
        (IsAmong (lacked_of d named) a → IsAmong named a × (known_at d a ≡ None)) →
        ((b ≡ a) ⊎ IsAmong named a) × (known_at d a ≡ None)
    by None unknown (inl same) rest = (inl same, ap (known_at d) (sym same) ∙ unknown)
    by None unknown (inr others) rest = (let r = rest others in (inr r.0, r.1))
    by (Some object) known others rest = (let r = rest others in (inr r.0, r.1))

-- so of more addresses no fewer are lacking
pub lacked-more : (d : DraftValue) (few named : List Addr) → ((a : Addr) → IsAmong few a → IsAmong named a)
    → (a : Addr) →
    IsAmong (lacked_of d few) a → IsAmong (lacked_of d named) a
lacked-more d few named more a among =
    let is = lacked-from d few a among in lacked-among d named a (more a is.0) is.1

-- what is lacking later was lacking before
pub lacked-back : (old new : DraftValue) (named : List Addr) → KeepsKnown old new → (a : Addr) →
    IsAmong (lacked_of new named) a → IsAmong (lacked_of old named) a
lacked-back old new [] knows a among = among
lacked-back old new (b ∷ named) knows a among =
    by (is_some (known_at old b)) refl (is_some (known_at new b)) refl among (lacked-back old new named knows a)
  where
    by : (t : Bool) → is_some (known_at old b) ≡ t → (u : Bool) → is_some (known_at new b) ≡ u →
        IsAmong (cond (not u) (b ∷ lacked_of new named) (lacked_of new named)) a →
        (IsAmong (lacked_of new named) a → IsAmong (lacked_of old named) a) →
        IsAmong (cond (not t) (b ∷ lacked_of old named) (lacked_of old named)) a
    by true was true is others rest = rest others
    by true was false is others rest = absurd (let clash : true ≡ false = sym (knows.known b was) ∙ is in cc)
    by false was true is others rest = inr (rest others)
    by false was false is (inl same) rest = inl same
    by false was false is (inr others) rest = inr (rest others)

-- what a draft lacks of these stops at them
pub lacked-stops : (d : DraftValue) (named : List Addr) (a : Addr) (halt : Missing) → IsAmong named a → Lacks d a halt →
    StopsAt d (lacked_of d named) halt
lacked-stops d named a halt among lacks =
    lacks-stops d (lacked_of d named) 0 a halt lacks (inl (lacked-among d named a among lacks.unknown))

-- and what stops later at some of them stops before
pub lacked-stops-back : (n : ℕ) (old new : DraftValue) (few named : List Addr) (halt : Missing) → Enters n old new →
    KeepsKnown old new → ((a : Addr) → IsAmong (lacked_of old few) a → IsAmong named a) →
    StopsAt new (lacked_of new few) halt → StopsAt old named halt
lacked-stops-back n old new few named halt enters knows among stops =
    stops-wider old.modes (lacked_of new few) named 0 old.view halt
    (covers-among (lacked_of new few) named old.view (λ a is. among a (lacked-back old new few knows a is)))
    (stops-back n old new enters (lacked_of new few) halt stops)

-- ---- addresses that are asked for one by one
pub all-among : (P : Addr → Type 0) (xs : List Addr) → AllByRecursion P xs → (a : Addr) → IsAmong xs a → P a
all-among P [] all a among = absurd among
all-among P (x ∷ xs) all a (inl same) = subst P same all.0
all-among P (x ∷ xs) all a (inr among) = all-among P xs all.1 a among

module _ (d : DraftValue) (old : List (Addr × Mode)) where
  abbrev pub AsksThese : (xs : List Addr) (Must : Addr → Type 0) (new : List (Addr × Mode)) → Type 0
  AsksThese xs Must new = AsksFor d (IsAmong xs) Must old new

  pub these-none : AsksThese [] (λ a. ⊥) old
  these-none = asks-none d (IsAmong []) (λ a. ⊥) old (λ a must. must)

  -- one that the draft knows then, and one more of which nothing is said
  module _ (xs : List Addr) (Must : Addr → Type 0) (a : Addr) (mid new : List (Addr × Mode))
      (asks : AsksThese xs Must mid) (apart : AllByRecursion (λ b. is_addr b a ≡ false) xs)
      (is : new ≡ with_wish d a mid)
    where
      both : AsksFor d (λ b. IsAmong xs b ⊎ (a ≡ b)) (λ b. Must b ⊎ (a ≡ b)) old new
      both = asks-more d (IsAmong xs) Must a old mid asks (all-among (λ b. is_addr b a ≡ false) xs apart) new is

      swapped : (b : Addr) → IsAmong xs b ⊎ (a ≡ b) → IsAmong (a ∷ xs) b
      swapped b (inl among) = inr among
      swapped b (inr same) = inl same

      pub these-must : AsksThese (a ∷ xs) (λ b. Must b ⊎ (a ≡ b)) new
      these-must = asks-as d (λ b. IsAmong xs b ⊎ (a ≡ b)) (IsAmong (a ∷ xs)) (λ b. Must b ⊎ (a ≡ b))
          (λ b. Must b ⊎ (a ≡ b))
          old new swapped (λ b must. must) both

      pub these-more : AsksThese (a ∷ xs) Must new
      these-more = asks-as d (λ b. IsAmong xs b ⊎ (a ≡ b)) (IsAmong (a ∷ xs)) (λ b. Must b ⊎ (a ≡ b)) Must old new
          swapped (λ b must. inl must) both

  -- each may be asked for
  pub these-may : (xs : List Addr) (May Must Shall : Addr → Type 0) (new : List (Addr × Mode)) → AllByRecursion May xs →
      ((a : Addr) → Shall a → Must a) → AsksThese xs Must new → AsksFor d May Shall old new
  these-may xs May Must Shall new all fewer asks =
      asks-as d (IsAmong xs) May Must Shall old new (all-among May xs all) fewer asks
