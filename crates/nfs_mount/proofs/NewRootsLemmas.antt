-- Roots that are made one after the other.
use Rattle.std.proofs.Common.{◌≡◌, ◌==◌, ◌+◌, ◌-◌, ◌<◌, ℕ, zero, suc, true, false, List, [], ◌∷◌, ◌++◌, Some}
use Rattle.std.proofs.Common.{None, inl, inr, length, take, drop, get_or, sym, ◌∙◌, ap, subst, arith}
use Rattle.std.proofs.lemmas.List.{get_or_default, take_more}
use Rattle.std.proofs.lemmas.Option.{slice_get-get_or}
use Rattle.std.specs.List.{AllByRecursion}
use Rattle.std.specs.Prelude.{slice_get}
use Rattle.nfs_wire.specs.declared.attributes.Time.{Time}
use Rattle.nfs_machine.specs.Replacing.{RootChoice}
use Rattle.nfs_objects.proofs.KnowsLemmas.{stops-wider}
use Rattle.nfs_objects.proofs.PromiseLemmas.{turns-both}
use Rattle.nfs_objects.proofs.SeenLemmas.{all-append, known-stands}
use Rattle.nfs_objects.specs.Calls.{IsAmong, root_usages}
use Rattle.nfs_objects.specs.ExportTables.{ExportTableValue}
use Rattle.nfs_objects.specs.Fits.{NumbersApart}
use Rattle.nfs_objects.specs.Knows.{ShowsExport, Turns}
use Rattle.nfs_objects.specs.Roots.{choice_of, root_choice}
use Rattle.nfs_objects.specs.Stands.{StoreMeaning, exports_of, lives_in}
use Rattle.nfs_objects.specs.Sums.{group_of}
use Rattle.nfs_objects.specs.Values.{DraftValue, known_at}
use Rattle.nfs_objects.specs.declared.address.Addr.TheVariants as addresses
use Rattle.nfs_objects.specs.declared.change.Missing.{Missing}
use Rattle.nfs_objects.specs.declared.object.Object.TheVariants as objects
use Rattle.nfs_objects.specs.declared.view.Reserved.{Reserved}
use Rattle.nfs_inodes.proofs.ReaderHaltLemmas.{stops-before}
use Rattle.nfs_inodes.specs.Kinds.{KeepsOthers}
use Rattle.nfs_inodes.specs.Roots.{ReservedFits, root_made, roots_made}
use Rattle.nfs_inodes.specs.Stops.{StopsAt}

-- ---- the roots that are left
-- what a list has at a place
abbrev pub root_at : List Reserved → ℕ → Reserved
root_at roots i = get_or roots i (record { number = 0; generation = 0 })

pub root-got : (roots : List Reserved) (i : ℕ) → i < length roots → root_at roots i ≡ get_or roots i (root_at roots i)
root-got roots i within =
    get_or_default roots i (record { number = 0; generation = 0 }) (root_at roots i) within

abbrev pub AreVacant : DraftValue → List Reserved → Type 0
AreVacant d roots = AllByRecursion (λ (r : Reserved). known_at d (addresses.Inode r.number) ≡ Some None) roots

-- at a place of a list
pub all-at : {X : Type 0} (P : X → Type 0) (xs : List X) (i : ℕ) (x : X) → AllByRecursion P xs → i < length xs
    → x ≡ get_or xs i x → P x
all-at P [] i x all within at = absurd (omega (arith, within))
all-at P (y ∷ xs) zero x all within at = subst P (sym at) all.0
all-at P (y ∷ xs) (suc i) x all within at = all-at P xs i x all.1 (omega (arith, within)) at

pub all-behind : {X : Type 0} (P : X → Type 0) (xs : List X) (i : ℕ) → AllByRecursion P (drop i xs)
    → AllByRecursion P (drop (suc i) xs)
all-behind P [] i all = tt
all-behind P (x ∷ xs) zero all = all.1
all-behind P (x ∷ xs) (suc i) all = all-behind P xs i all

pub first-left : {X : Type 0} (P : X → Type 0) (xs : List X) (i : ℕ) (x : X) → AllByRecursion P (drop i xs)
    → i < length xs → x ≡ get_or xs i x → P x
first-left P [] i x all within at = absurd (omega (arith, within))
first-left P (y ∷ xs) zero x all within at = subst P (sym at) all.0
first-left P (y ∷ xs) (suc i) x all within at = first-left P xs i x all (omega (arith, within)) at

-- one that is apart from those behind it
apart-left : (roots : List Reserved) (i : ℕ) (r : Reserved) → NumbersApart roots → i < length roots
    → r ≡ get_or roots i r
    → AllByRecursion (λ (q : Reserved). (r.number == q.number) ≡ false) (drop (suc i) roots)
apart-left [] i r apart within at = absurd (omega (arith, within))
apart-left (q ∷ roots) zero r apart within at =
    subst (λ (x : Reserved). AllByRecursion (λ (y : Reserved). (x.number == y.number) ≡ false) roots) (sym at) apart.0
apart-left (q ∷ roots) (suc i) r apart within at = apart-left roots i r apart.1 (omega (arith, within)) at

-- the others are vacant still
pub vacant-left : (old new : DraftValue) (roots : List Reserved) (i : ℕ) (r : Reserved) → NumbersApart roots
    → i < length roots → r ≡ get_or roots i r → KeepsOthers old new r.number → AreVacant old (drop i roots)
    → AreVacant new (drop (i + 1) roots)
vacant-left old new roots i r apart within at others vacant =
    subst (λ n. AreVacant new (drop n roots)) (let more : suc i ≡ i + 1 = omega arith in more)
    (both (drop (suc i) roots) (apart-left roots i r apart within at)
    (all-behind (λ (q : Reserved). known_at old (addresses.Inode q.number) ≡ Some None) roots i vacant))
  where
    both : (rs : List Reserved) → AllByRecursion (λ (q : Reserved). (r.number == q.number) ≡ false) rs
        → AreVacant old rs → AreVacant new rs
    both [] other free = tt
    both (q ∷ rs) other free = (others q.number other.0 ∙ free.0, both rs other.1 free.1)

-- ---- the export lives
pub shows-export : (d : DraftValue) (table : ExportTableValue) (e : ℕ)
    → known_at d addresses.Exports ≡ Some (Some (objects.Exports table)) → lives_in table.exports e ≡ true
    → ShowsExport d e
shows-export d table e known lives s k fits stands =
    ap (λ es. lives_in es e) (stands.tables.exports
    ∙ ap exports_of (known-stands d s addresses.Exports (Some (objects.Exports table)) fits known)) ∙ lives

-- ---- one more
-- what is chosen for the next root is what is reserved at its place
pub chosen-at : (roots : List Reserved) (last i : ℕ) (r : Reserved) → i < length roots → r ≡ get_or roots i r
    → root_choice roots last (last + suc i) ≡ choice_of (Some r)
chosen-at roots last i r within at =
    ap (λ j. choice_of (slice_get roots j)) (let place : last + suc i - suc last ≡ i = omega arith in place)
    ∙ ap choice_of (slice_get-get_or roots i r within ∙ ap Some (sym at))

pub one-more : (old mid new : DraftValue) (now time : Time) (roots : List Reserved) (last export i : ℕ) (r : Reserved)
    → Turns old mid (roots_made now (root_choice roots last) last i)
    → Turns mid new (root_made time export (choice_of (Some r))) → time ≡ now → export ≡ last + suc i
    → i < length roots → r ≡ get_or roots i r
    → Turns old new (roots_made now (root_choice roots last) last (i + 1))
one-more old mid new now time roots last export i r before next timed numbered within at =
    subst (λ n. Turns old new (roots_made now (root_choice roots last) last n))
    (let more : suc i ≡ i + 1 = omega arith in more)
    (turns-both old mid new (roots_made now (root_choice roots last) last i)
    (root_made now (last + suc i) (root_choice roots last (last + suc i))) before
    (subst (λ (c : RootChoice). Turns mid new (root_made now (last + suc i) c))
    (sym (chosen-at roots last i r within at))
    (subst (λ e. Turns mid new (root_made now e (choice_of (Some r)))) numbered
    (subst (λ t. Turns mid new (root_made t export (choice_of (Some r)))) timed next))))

-- all were made
pub all-made : (old new : DraftValue) (now : Time) (roots : List Reserved) (last i : ℕ)
    → Turns old new (roots_made now (root_choice roots last) last i) → i ≡ length roots
    → Turns old new (roots_made now (root_choice roots last) last (length roots))
all-made old new now roots last i made all =
    subst (λ n. Turns old new (roots_made now (root_choice roots last) last n)) all made

pub fit-more : (roots : List Reserved) (i : ℕ) (r : Reserved) → i < length roots → r ≡ get_or roots i r
    → AllByRecursion ReservedFits (take i roots) → ReservedFits r → AllByRecursion ReservedFits (take (i + 1) roots)
fit-more roots i r within at fit one =
    subst (AllByRecursion ReservedFits) (sym (take_more roots i r within
    ∙ ap (λ (x : Reserved). take i roots ++ x ∷ []) (sym at))) (all-append ReservedFits (take i roots) r fit one)

-- ---- what may be asked for
usage-among : (last : ℕ) (roots : List Reserved) (i : ℕ) (r : Reserved) → i < length roots → r ≡ get_or roots i r
    → IsAmong (root_usages last roots) (addresses.Usage (last + suc i) (group_of r.number))
usage-among last [] i r within at = absurd (omega (arith, within))
usage-among last (q ∷ roots) zero r within at =
    inl (λ j. addresses.Usage ((let next : suc last ≡ last + 1 = omega arith in next) j) (group_of (sym at j).number))
usage-among last (q ∷ roots) (suc i) r within at =
    inr (subst (λ e. IsAmong (root_usages (suc last) roots) (addresses.Usage e (group_of r.number)))
    (let next : suc last + suc i ≡ last + suc (suc i) = omega arith in next)
    (usage-among (suc last) roots i r (omega (arith, within)) at))

pub usage-stops : (old mid : DraftValue) (op : StoreMeaning → StoreMeaning) (last : ℕ) (roots : List Reserved)
    (i export : ℕ)
    (r : Reserved) (halt : Missing) → Turns old mid op → i < length roots → r ≡ get_or roots i r → export ≡ last + suc i
    → StopsAt mid (addresses.Usage export (group_of r.number) ∷ []) halt → StopsAt old (root_usages last roots) halt
usage-stops old mid op last roots i export r halt turns within at numbered stops =
    stops-wider old.modes (addresses.Usage export (group_of r.number) ∷ []) (root_usages last roots) 0 old.view halt (
      inl (subst (λ e. IsAmong (root_usages last roots) (addresses.Usage e (group_of r.number))) (sym numbered)
          (usage-among last roots i r within at)),
      tt,
    )
    (stops-before old mid op (λ v. addresses.Usage export (group_of r.number) ∷ []) halt turns stops)
