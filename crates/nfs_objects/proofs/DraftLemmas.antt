-- What a draft keeps with each write: it suits its modes, and holds and gives what it writes.
use Rattle.std.specs.Prelude.{◌≡◌, ◌++◌, ℕ, true, false, List, [], ◌∷◌, Option, Some, None, IsSome}
use Rattle.std.specs.Prelude.{◌==◌, ◌≤◌, length, option_map, slice_get, suc, take, refl, zero}
use Rattle.std.proofs.Common.{cond, sym, ◌∙◌, ap, subst, inl, inr}
use Rattle.std.proofs.lemmas.List.{length-take-le}
use Rattle.std.specs.List.{AllByRecursion}
use Rattle.nfs_objects.proofs.SeenLemmas.{all-append, all-map, is_addr-same, seen-address, seen-all}
use Rattle.nfs_objects.specs.Asks.{AreFirst, IsFirst}
use Rattle.nfs_objects.specs.Fits.{IsView, NumbersApart, vacant}
use Rattle.nfs_objects.specs.Drafts.{IsDraft, MayWrite}
use Rattle.nfs_objects.specs.Modes.{Suits, covers, held_mode}
use Rattle.nfs_objects.specs.Promise.{Given, Held, IsGeneration, IsGiven}
use Rattle.nfs_objects.specs.Values.{DraftValue, ModesValue, Seen, ViewValue, held_at, is_addr, known_at}
use Rattle.nfs_objects.specs.Values.{seen_at, shown_at, written_at}
use Rattle.nfs_objects.specs.declared.address.Addr.{Addr}
use Rattle.nfs_objects.specs.declared.address.Addr.TheVariants as addresses
use Rattle.nfs_objects.specs.declared.modes.Mode.{Mode}
use Rattle.nfs_objects.specs.declared.modes.Mode.TheVariants.{Shared, Exclusive}
use Rattle.nfs_objects.specs.declared.object.Inode.{Inode}
use Rattle.nfs_objects.specs.declared.object.Object.{Object}
use Rattle.nfs_objects.specs.declared.object.Object.TheVariants as objects
use Rattle.nfs_objects.specs.declared.view.Reserved.{Reserved}

-- a number that has its entry is known
written-some : (ws : List (Addr × Option Object)) (o : Option Object) (a : Addr) → IsSome (written_at (Some o) ws a)
written-some [] o a = refl
written-some (w ∷ ws) o a =
    elim (is_addr w.0 a) as (λ b. IsSome (written_at (cond b (Some w.1) (Some o)) ws a))
    [ true ↦ written-some ws w.1 a | false ↦ written-some ws o a ]

number-known : (d : DraftValue) (r : Reserved) → seen_at d.view.entries (addresses.Inode r.number) ≡ Some (vacant r) →
    IsSome (known_at d (addresses.Inode r.number))
number-known d r seen =
    subst
    (λ (s : Option Seen). IsSome (written_at (option_map (λ (e : Seen). e.object) s) d.writes
    (addresses.Inode r.number))) (sym seen)
    (written-some d.writes None (addresses.Inode r.number))

pub is-first : (d : DraftValue) (r : Reserved) → Some r ≡ slice_get d.view.reserved 0
    → seen_at d.view.entries (addresses.Inode r.number) ≡ Some (vacant r) → IsFirst d r
is-first d r is seen = record {
  first = sym is;
  known = number-known d r seen;
}

-- so are the first so many numbers
all-before : {X : Type 0} (P : X → Type 0) (n : ℕ) (xs : List X) → AllByRecursion P xs → AllByRecursion P (take n xs)
all-before P zero xs all = tt
all-before P (suc n) [] all = tt
all-before P (suc n) (x ∷ xs) all = (all.0, all-before P n xs all.1)

apart-before : (n : ℕ) (rs : List Reserved) → NumbersApart rs → NumbersApart (take n rs)
apart-before zero rs all = tt
apart-before (suc n) [] all = tt
apart-before (suc n) (r ∷ rs) all = (
  all-before (λ (q : Reserved). (r.number == q.number) ≡ false) n rs all.0,
  apart-before n rs all.1,
)

pub are-first : (d : DraftValue) (count : ℕ) → IsView d.view → count ≤ length d.view.reserved →
    AreFirst d count (take count d.view.reserved)
are-first d count is enough = record {
  first = refl;
  counted = length-take-le count d.view.reserved enough;
  known = all-before (λ (r : Reserved). IsSome (known_at d (addresses.Inode r.number))) count d.view.reserved
      (all-map (λ (r : Reserved). seen_at d.view.entries (addresses.Inode r.number) ≡ Some (vacant r))
      (λ (r : Reserved). IsSome (known_at d (addresses.Inode r.number))) (number-known d) d.view.reserved is.held);
  apart = apart-before count d.view.reserved is.apart;
}

-- what may be used alone is held alone
alone : (m : Mode) → covers m Exclusive ≡ true → m ≡ Exclusive
alone Exclusive e = refl
alone Shared e = cc

-- where a view suits the modes, what it shows is held as they want
suits-held : (modes : ModesValue) (view : ViewValue) (a : Addr) → Suits modes view
    → held_mode modes view a ≡ Exclusive → IsSome (shown_at view.entries a) → held_at view.entries a ≡ Some Exclusive
suits-held modes view a suits exclusive shown = at (seen_at view.entries a) refl shown
  where
    at : (s : Option Seen) → seen_at view.entries a ≡ s → IsSome
        (option_map (λ (e : Seen). e.object) (seen_at view.entries a)) →
        option_map (λ (e : Seen). e.mode) (seen_at view.entries a) ≡ Some Exclusive
    at None is some =
        let no : IsSome (option_map (λ (e : Seen). e.object) None) =
        subst (λ (s : Option Seen). IsSome (option_map (λ (e : Seen). e.object) s)) is some in cc
    at (Some x) is some =
        let covered = seen-all (λ (e : Seen). covers e.mode (held_mode modes view e.address) ≡ true) view.entries a x
        suits
        is in
        let same = seen-address view.entries a x is in
        ap (option_map (λ (e : Seen). e.mode)) is
        ∙
        ap Some
        (alone x.mode (subst (λ m. covers x.mode m ≡ true) exclusive
        (subst (λ b. covers x.mode (held_mode modes view b) ≡ true) same covered)))

-- what is known and written is held
held-known : (ws : List (Addr × Option Object)) (view : ViewValue) (a : Addr) (known : Option (Option Object)) →
    Held view ws
    → (IsSome known → held_at view.entries a ≡ Some Exclusive) → IsSome (written_at known ws a) →
    held_at view.entries a ≡ Some Exclusive
held-known [] view a known held has some = has some
held-known (w ∷ ws) view a known held has some =
    held-known ws view a (cond (is_addr w.0 a) (Some w.1) known) held.1
    (elim (is_addr w.0 a) as (λ b. is_addr w.0 a ≡ b → IsSome (cond b (Some w.1) known) →
    held_at view.entries a ≡ Some Exclusive) [
      | true ↦ λ same x. subst (λ b. held_at view.entries b ≡ Some Exclusive) (is_addr-same w.0 a same) held.0
      | false ↦ λ other x. has x
    ] refl) some

-- an inode that is known has a generation that was given
given-known : (ws : List (Addr × Option Object)) (view : ViewValue) (n : ℕ) (known : Option (Option Object))
    (i : Inode) → Given view ws
    → ((j : Inode) → known ≡ Some (Some (objects.Inode j)) → IsGeneration view n j.generation)
    → written_at known ws (addresses.Inode n) ≡ Some (Some (objects.Inode i)) → IsGeneration view n i.generation
given-known [] view n known i given has is = has i is
given-known (w ∷ ws) view n known i given has is =
    given-known ws view n (cond (is_addr w.0 (addresses.Inode n)) (Some w.1) known) i given.1
    (λ j. elim (is_addr w.0 (addresses.Inode n)) as
    (λ b. is_addr w.0 (addresses.Inode n) ≡ b → cond b (Some w.1) known ≡ Some (Some (objects.Inode j)) →
    IsGeneration view n j.generation) [
      | true ↦ λ same e.
          subst (λ o. IsGiven view (addresses.Inode n) o) (let f : w.1 ≡ Some (objects.Inode j) = cc in f)
          (subst (λ b. IsGiven view b w.1) (is_addr-same w.0 (addresses.Inode n) same) given.0)
      | false ↦ λ other e. has j e
    ] refl) is

module _ (d : DraftValue) (is : IsDraft d.modes d.view d.writes) where
  given-with : (a : Addr) (o : Option Object) → MayWrite d a o → IsGiven d.view a o
  given-with (addresses.Inode n) (Some (objects.Inode i)) (inl known) =
      subst (IsGeneration d.view n) known.2
      (given-known d.writes d.view n (shown_at d.view.entries (addresses.Inode n)) known.0 is.given
      (λ j e. inl (j, e, refl)) known.1)
  given-with (addresses.Inode n) (Some (objects.Inode i)) (inr reserved) = inr reserved
  given-with (addresses.Inode n) (Some (objects.Exports table)) may = tt
  given-with (addresses.Inode n) (Some (objects.Map bits)) may = tt
  given-with (addresses.Inode n) (Some (objects.Block bytes)) may = tt
  given-with (addresses.Inode n) (Some (objects.Page page)) may = tt
  given-with (addresses.Inode n) (Some (objects.Part part)) may = tt
  given-with (addresses.Inode n) (Some (objects.Mounts table)) may = tt
  given-with (addresses.Inode n) (Some (objects.Usage u)) may = tt
  given-with (addresses.Inode n) (Some (objects.Locks bucket)) may = tt
  given-with (addresses.Inode n) None may = tt
  given-with addresses.Exports o may = tt
  given-with (addresses.Map n page) o may = tt
  given-with (addresses.Block n i) o may = tt
  given-with (addresses.Page n page) o may = tt
  given-with (addresses.Part n bucket part) o may = tt
  given-with addresses.Mounts o may = tt
  given-with (addresses.Usage e g) o may = tt
  given-with (addresses.Locks b) o may = tt

  pub drafted : (a : Addr) (o : Option Object) → held_mode d.modes d.view a ≡ Exclusive → IsSome (known_at d a) →
      MayWrite d a o
      → IsDraft d.modes d.view (d.writes ++ (a, o) ∷ [])
  drafted a o exclusive some may = record {
    suits = is.suits;
    held = all-append (λ (w : Addr × Option Object). held_at d.view.entries w.0 ≡ Some Exclusive) d.writes
        (a, o) is.held
        (held-known d.writes d.view a (shown_at d.view.entries a) is.held
        (λ shown. suits-held d.modes d.view a is.suits exclusive shown) some);
    given = all-append (λ (w : Addr × Option Object). IsGiven d.view w.0 w.1) d.writes (a, o) is.given
        (given-with a o may);
  }
