-- A bucket gets one part more, as one of its parts divides, or one less, as two are joined: its names lead where they
-- did.
use Rattle.std.proofs.Common.{◌≡◌, ◌⊎◌, ℕ, suc, ◌<◌, ◌^◌, ◌==◌, ◌&&◌, ◌||◌, Bool, true, false, cond, List, ◌++◌}
use Rattle.std.proofs.Common.{Option, Some, None, arith, filter, inl, inr, refl, sym, ◌∙◌, ap, subst}
use Rattle.std.specs.Prelude.{nat_lt}
use Rattle.std.proofs.lemmas.Bool.{cases_eq, cases_order, le-ltb, lt-ltb}
use Rattle.nfs_machine.specs.Checks.{entry_of}
use Rattle.nfs_machine.specs.State.{Entry}
use Rattle.nfs_objects.proofs.HashedPartLemmas.{in-either, in-new, in-one, in-other, in-source, source-below}
use Rattle.nfs_objects.proofs.PagesAndPartsLemmas.{find-append, find-filter}
use Rattle.nfs_objects.specs.Directories.{AreApart, is_in_part, led_in_part, part_among, source_of}
use Rattle.nfs_objects.specs.Stands.{IsPart}
use Rattle.nfs_objects.specs.Store.{Store}
use Rattle.nfs_objects.specs.declared.address.Addr.TheVariants as addresses
use Rattle.nfs_objects.specs.declared.object.Object.{Object}
use Rattle.nfs_objects.specs.declared.object.Object.TheVariants as objects
use Rattle.nfs_inodes.specs.Entered.{HasParts}

-- ---- tests of names
both-tests : (a b : Bool) (o : Option Entry) → cond b (cond a o None) None ≡ cond (a && b) o None
both-tests true true o = refl
both-tests true false o = refl
both-tests false true o = refl
both-tests false false o = refl

abbrev pub first-of : Option Entry → Option Entry → Option Entry
first-of front back = elim front [ None ↦ back | Some e ↦ Some e ]

pub first-none : (o : Option Entry) → first-of o None ≡ o
first-none None = refl
first-none (Some e) = refl

-- what leads in one of two parts leads in both together
either-leads : (x a c : Bool) (o : Option Entry) → (x ≡ true → (a || c) ≡ true) →
    first-of (cond (x && a) o None) (cond (x && c) o None) ≡ cond x o None
either-leads false a c o either = refl
either-leads true true true None either = refl
either-leads true true false None either = refl
either-leads true true c (Some e) either = refl
either-leads true false true o either = refl
either-leads true false false o either = let e = either refl in cc

-- a part in which names lead to the same
pub part-as : (there : Bool) (leads others : List ℕ → Option Entry) → ((name : List ℕ) → leads name ≡ others name) →
    (o : Option Object) → IsPart there leads o → IsPart there others o
part-as true leads others same o is = (is.0, is.1, λ name. is.2 name ∙ same name)
part-as false leads others same o is = is

-- where something else than the new part is meant, as many parts are below
same-below : (part width : ℕ) → (part ≡ width → ⊥) → nat_lt part width ≡ nat_lt part (suc width)
same-below part width other = by (cases_order part width)
  where
    by : (part ≡ width) ⊎ ((part < width) ⊎ (width < part)) → nat_lt part width ≡ nat_lt part (suc width)
    by (inl same) = absurd (other same)
    by (inr (inl less)) = lt-ltb part width less ∙ sym (lt-ltb part (suc width) (omega (arith, less)))
    by (inr (inr more)) =
        le-ltb part width (omega (arith, more)) ∙ sym (le-ltb part (suc width) (omega (arith, more)))

module _ (key : List ℕ) (n bucket width : ℕ) (entries : List Entry) (some : 0 < width)
    (small : suc width < 2 ^ 31) where
  abbrev source : ℕ
  source = source_of width

  -- the name's next part
  abbrev next : List ℕ → ℕ
  next name = part_among key (suc width) name

  below : source < width
  below = source-below width some small

  -- what a part that stands leads to
  part-leads : (s : Store) (count part : ℕ) (names : List Entry) → part < count →
      s.at (addresses.Part n bucket part) ≡ Some (objects.Part names) → HasParts key s n bucket count entries →
      (name : List ℕ) → entry_of names name ≡ led_in_part key count bucket part entries name
  part-leads s count part names less at has name =
      let was : IsPart true (led_in_part key count bucket part entries) (s.at (addresses.Part n bucket part)) =
      subst (λ b. IsPart b (led_in_part key count bucket part entries) (s.at (addresses.Part n bucket part)))
      (lt-ltb part count less) (has part) in
      let same : names ≡ was.0 = (let e : Some (objects.Part names) ≡ Some (objects.Part was.0) = sym at
      ∙ was.1 in cc) in
      ap (λ es. entry_of es name) same ∙ was.2 name

  -- names that are kept of a part by where they are next
  sifted : (part : ℕ) (whole : List Entry) →
      ((name : List ℕ) → entry_of whole name ≡ led_in_part key width bucket source entries name) →
      ((name : List ℕ) → is_in_part key (suc width) bucket part name
      ≡ (is_in_part key width bucket source name && (next name == part))) → (name : List ℕ) →
      entry_of (filter (λ (e : Entry). next e.name == part) whole) name
      ≡ led_in_part key (suc width) bucket part entries name
  sifted part whole leads moved name =
      find-filter (λ other. next other == part) whole name
      ∙ ap (λ o. cond (next name == part) o None) (leads name)
      ∙ both-tests (is_in_part key width bucket source name) (next name == part) (entry_of entries name)
      ∙ ap (λ b. cond b (entry_of entries name) None) (sym (moved name))

  -- what is there of other parts, with one part more
  others-on : (part : ℕ) → (part ≡ width → ⊥) → (part ≡ source → ⊥) → (o : Option Object) →
      IsPart (nat_lt part width) (led_in_part key width bucket part entries) o →
      IsPart (nat_lt part (suc width)) (led_in_part key (suc width) bucket part entries) o
  others-on part last first o is =
      subst (λ b. IsPart b (led_in_part key (suc width) bucket part entries) o) (same-below part width last)
      (part-as (nat_lt part width) (led_in_part key width bucket part entries)
      (led_in_part key (suc width) bucket part entries)
      (λ name. ap (λ b. cond b (entry_of entries name) None)
      (sym (in-other key width bucket name some small part last first))) o is)

  others-back : (part : ℕ) → (part ≡ width → ⊥) → (part ≡ source → ⊥) → (o : Option Object) →
      IsPart (nat_lt part (suc width)) (led_in_part key (suc width) bucket part entries) o →
      IsPart (nat_lt part width) (led_in_part key width bucket part entries) o
  others-back part last first o is =
      subst (λ b. IsPart b (led_in_part key width bucket part entries) o) (sym (same-below part width last))
      (part-as (nat_lt part (suc width)) (led_in_part key (suc width) bucket part entries)
      (led_in_part key width bucket part entries)
      (λ name. ap (λ b. cond b (entry_of entries name) None)
      (in-other key width bucket name some small part last first)) o
      is)

  pub divided : (s t : Store) (whole : List Entry) → s.at (addresses.Part n bucket source) ≡ Some (objects.Part whole)
      → t.at (addresses.Part n bucket width)
      ≡ Some (objects.Part (filter (λ (e : Entry). next e.name == width) whole))
      → t.at (addresses.Part n bucket source)
      ≡ Some (objects.Part (filter (λ (e : Entry). next e.name == source) whole))
      → ((part : ℕ) → (part ≡ width → ⊥) → (part ≡ source → ⊥) →
      t.at (addresses.Part n bucket part) ≡ s.at (addresses.Part n bucket part))
      → HasParts key s n bucket width entries → HasParts key t n bucket (suc width) entries
  divided s t whole at new old others has part = by (cases_eq part width) (cases_eq part source)
    where
      standing : (p : ℕ) → Type 0
      standing p = IsPart (nat_lt p (suc width)) (led_in_part key (suc width) bucket p entries)
          (t.at (addresses.Part n bucket p))

      leads : (name : List ℕ) → entry_of whole name ≡ led_in_part key width bucket source entries name
      leads = part-leads s width source whole below at has

      there : (p : ℕ) → p < suc width → IsPart true (led_in_part key (suc width) bucket p entries)
          (t.at (addresses.Part n bucket p)) → standing p
      there p less is = subst (λ b. IsPart b (led_in_part key (suc width) bucket p entries)
          (t.at (addresses.Part n bucket p))) (sym (lt-ltb p (suc width) less)) is

      by : (part ≡ width) ⊎ (part ≡ width → ⊥) → (part ≡ source) ⊎ (part ≡ source → ⊥) → standing part
      by (inl last) first = subst standing (sym last) (there width (omega arith) (
        filter (λ (e : Entry). next e.name == width) whole,
        new,
        sifted width whole leads (λ name. in-new key width bucket name some small),
      ))
      by (inr last) (inl first) = subst standing (sym first) (there source (omega (arith, below)) (
        filter (λ (e : Entry). next e.name == source) whole,
        old,
        sifted source whole leads (λ name. in-source key width bucket name some small),
      ))
      by (inr last) (inr first) =
          subst (IsPart (nat_lt part (suc width)) (led_in_part key (suc width) bucket part entries))
          (sym (others part last first)) (others-on part last first (s.at (addresses.Part n bucket part)) (has part))

  -- no name is in both parts
  pub parts-apart : (s : Store) (stays moves : List Entry) →
      s.at (addresses.Part n bucket source) ≡ Some (objects.Part stays) →
      s.at (addresses.Part n bucket width) ≡ Some (objects.Part moves) → HasParts key s n bucket (suc width) entries →
      AreApart stays moves
  parts-apart s stays moves first last has name = by (in-one key width bucket name some small)
    where
      none : (b : Bool) → b ≡ false → cond (is_in_part key width bucket source name && b) (entry_of entries name) None
          ≡ None
      none b is = ap (λ c. cond (is_in_part key width bucket source name && c) (entry_of entries name) None) is
          ∙ elim (is_in_part key width bucket source name) as
          (λ x. cond (x && false) (entry_of entries name) None ≡ None) [
            | true ↦ refl
            | false ↦ refl
          ]

      by : ((next name == source) ≡ false) ⊎ ((next name == width) ≡ false) →
          (entry_of stays name ≡ None) ⊎ (entry_of moves name ≡ None)
      by (inl away) = inl (part-leads s (suc width) source stays (omega (arith, below)) first has name
          ∙ ap (λ b. cond b (entry_of entries name) None) (in-source key width bucket name some small)
          ∙ none (next name == source) away)
      by (inr away) = inr (part-leads s (suc width) width moves (omega arith) last has name
          ∙ ap (λ b. cond b (entry_of entries name) None) (in-new key width bucket name some small)
          ∙ none (next name == width) away)

  pub joined : (s t : Store) (stays moves : List Entry) →
      s.at (addresses.Part n bucket source) ≡ Some (objects.Part stays)
      → s.at (addresses.Part n bucket width) ≡ Some (objects.Part moves)
      → t.at (addresses.Part n bucket source) ≡ Some (objects.Part (stays ++ moves))
      → t.at (addresses.Part n bucket width) ≡ None
      → ((part : ℕ) → (part ≡ width → ⊥) → (part ≡ source → ⊥) →
      t.at (addresses.Part n bucket part) ≡ s.at (addresses.Part n bucket part))
      → HasParts key s n bucket (suc width) entries → HasParts key t n bucket width entries
  joined s t stays moves first last both gone others has part = by (cases_eq part width) (cases_eq part source)
    where
      standing : (p : ℕ) → Type 0
      standing p = IsPart (nat_lt p width) (led_in_part key width bucket p entries) (t.at (addresses.Part n bucket p))

      leads : (name : List ℕ) → entry_of (stays ++ moves) name ≡ led_in_part key width bucket source entries name
      leads name =
          find-append stays moves name
          ∙ ap (λ o. first-of o (entry_of moves name))
          (part-leads s (suc width) source stays (omega (arith, below)) first has name
          ∙ ap (λ b. cond b (entry_of entries name) None) (in-source key width bucket name some small))
          ∙ ap (λ o. first-of
          (cond (is_in_part key width bucket source name && (next name == source)) (entry_of entries name) None) o)
          (part-leads s (suc width) width moves (omega arith) last has name
          ∙ ap (λ b. cond b (entry_of entries name) None) (in-new key width bucket name some small))
          ∙ either-leads (is_in_part key width bucket source name) (next name == source) (next name == width)
          (entry_of entries name) (in-either key width bucket name some small)

      by : (part ≡ width) ⊎ (part ≡ width → ⊥) → (part ≡ source) ⊎ (part ≡ source → ⊥) → standing part
      by (inl end) start = subst standing (sym end)
          (subst (λ b. IsPart b (led_in_part key width bucket width entries) (t.at (addresses.Part n bucket width)))
          (sym (le-ltb width width (omega arith))) gone)
      by (inr end) (inl start) = subst standing (sym start)
          (subst (λ b. IsPart b (led_in_part key width bucket source entries) (t.at (addresses.Part n bucket source)))
          (sym (lt-ltb source width below)) (stays ++ moves, both, leads))
      by (inr end) (inr start) =
          subst (IsPart (nat_lt part width) (led_in_part key width bucket part entries)) (sym (others part end start))
          (others-back part end start (s.at (addresses.Part n bucket part)) (has part))
