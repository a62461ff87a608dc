-- A name comes to the part that it is in, or goes from it: the other parts of its bucket stay.
use Rattle.std.proofs.Common.{◌≡◌, ◌⊎◌, ℕ, ◌<◌, ◌==◌, ◌&&◌, Bool, true, false, not, cond, List, [], ◌∷◌, ◌++◌}
use Rattle.std.proofs.Common.{Option, Some, None, inl, inr, refl, sym, ◌∙◌, ap, subst}
use Rattle.std.specs.Cmp.Lexicographic.{bytes_decides}
use Rattle.std.specs.Prelude.{nat_lt}
use Rattle.std.proofs.lemmas.Bool.{and_parts, and_right, cases_eq, eqb-true, lt-ltb, ne_eqb}
use Rattle.nfs_machine.specs.Bytes.{same_bytes}
use Rattle.nfs_machine.specs.Checks.{entry_of}
use Rattle.nfs_machine.specs.RemoveSteps.{without}
use Rattle.nfs_machine.specs.State.{Entry}
use Rattle.nfs_objects.proofs.PagesAndPartsLemmas.{find-append, find-filter}
use Rattle.nfs_objects.specs.Directories.{bucket_of, is_in_part, led_in_part, part_among}
use Rattle.nfs_objects.specs.Stands.{IsPart}
use Rattle.nfs_objects.specs.Store.{Store}
use Rattle.nfs_objects.specs.declared.address.Addr.TheVariants as addresses
use Rattle.nfs_objects.specs.declared.object.Object.TheVariants as objects
use Rattle.nfs_inodes.proofs.DividePartLemmas.{first-none, first-of, part-as}
use Rattle.nfs_inodes.specs.Entered.{HasParts}

-- what leads in a part but for this one
abbrev pub HasOthers : (key : List ℕ) → Store → (n bucket width part : ℕ) → List Entry → Type 0
HasOthers key s n bucket width part entries = (q : ℕ) → (q ≡ part → ⊥) →
    IsPart (nat_lt q width) (led_in_part key width bucket q entries) (s.at (addresses.Part n bucket q))

-- ---- which names are meant
module _ (key : List ℕ) (width bucket part : ℕ) (name : List ℕ)
    (own : is_in_part key width bucket part name ≡ true) where
  -- a name is in no other part
  nowhere-else : (q : ℕ) → (q ≡ part → ⊥) → is_in_part key width bucket q name ≡ false
  nowhere-else q other =
      let inner = and_parts (bucket_of name == bucket) (nat_lt part width && (part_among key width name == part)) own in
      let here : part_among key width name ≡ part =
      eqb-true (part_among key width name) part (and_parts (nat_lt part width) (part_among key width name == part)
      inner.1).1 in
      let away : (part_among key width name == q) ≡ false =
      ne_eqb (part_among key width name) q (λ is. other (sym is ∙ here)) in
      and_right (bucket_of name == bucket) (nat_lt q width && (part_among key width name == q))
      (and_right (nat_lt q width) (part_among key width name == q) away)

  -- so a name that is in another part is another name, and one that is not in this part
  others-differ : (q : ℕ) (x : List ℕ) → is_in_part key width bucket q name ≡ false → is_in_part key width bucket q x
      ≡ true →
      same_bytes name x ≡ false
  others-differ q x out there = by (same_bytes name x) refl
    where
      by : (b : Bool) → same_bytes name x ≡ b → same_bytes name x ≡ false
      by true same = absurd (let one : name ≡ x = (bytes_decides name x).0 same in
          let clash : true ≡ false = sym there ∙ ap (is_in_part key width bucket q) (sym one) ∙ out in cc)
      by false other = other

  outside-differ : (x : List ℕ) → is_in_part key width bucket part x ≡ false → same_bytes name x ≡ false
  outside-differ x out = by (same_bytes name x) refl
    where
      by : (b : Bool) → same_bytes name x ≡ b → same_bytes name x ≡ false
      by true same = absurd (let one : name ≡ x = (bytes_decides name x).0 same in
          let clash : true ≡ false = sym own ∙ ap (is_in_part key width bucket part) one ∙ out in cc)
      by false other = other

module _ (key : List ℕ) (s t : Store) (n bucket width part : ℕ) (entries names : List Entry)
    (leads : (x : List ℕ) → entry_of names x ≡ led_in_part key width bucket part entries x) (below : part < width)
    (others : (q : ℕ) → (q ≡ part → ⊥) → t.at (addresses.Part n bucket q) ≡ s.at (addresses.Part n bucket q))
    (has : HasOthers key s n bucket width part entries) where
  -- ---- a name comes
  pub part-gained : (e : Entry) → is_in_part key width bucket part e.name ≡ true →
      t.at (addresses.Part n bucket part) ≡ Some (objects.Part (names ++ e ∷ []))
      → HasParts key t n bucket width (entries ++ e ∷ [])
  part-gained e own at q = by (cases_eq q part)
    where
      last : List ℕ → Option Entry
      last x = cond (same_bytes e.name x) (Some e) None

      standing : (p : ℕ) → Type 0
      standing p = IsPart (nat_lt p width) (led_in_part key width bucket p (entries ++ e ∷ []))
          (t.at (addresses.Part n bucket p))

      here : (x : List ℕ) (b : Bool) → is_in_part key width bucket part x ≡ b →
          first-of (cond b (entry_of entries x) None) (last x) ≡ cond b (entry_of (entries ++ e ∷ []) x) None
      here x true is = sym (find-append entries (e ∷ []) x)
      here x false is = ap (λ c. cond c (Some e) None) (outside-differ key width bucket part e.name own x is)

      there : (p : ℕ) (x : List ℕ) (b : Bool) → (p ≡ part → ⊥) → is_in_part key width bucket p x ≡ b →
          cond b (entry_of entries x) None ≡ cond b (entry_of (entries ++ e ∷ []) x) None
      there p x true other is =
          sym (find-append entries (e ∷ []) x
          ∙ ap (λ c. first-of (entry_of entries x) (cond c (Some e) None))
          (others-differ key width bucket part e.name own p x (nowhere-else key width bucket part e.name own p other)
          is)
          ∙ first-none (entry_of entries x))
      there p x false other is = refl

      by : (q ≡ part) ⊎ (q ≡ part → ⊥) → standing q
      by (inl same) = subst standing (sym same)
          (subst (λ b. IsPart b (led_in_part key width bucket part (entries ++ e ∷ []))
          (t.at (addresses.Part n bucket part)))
          (sym (lt-ltb part width below)) (
            names ++ e ∷ [],
            at,
            λ x. find-append names (e ∷ []) x ∙ ap (λ o. first-of o (last x)) (leads x)
                ∙ here x (is_in_part key width bucket part x) refl,
          ))
      by (inr other) = subst (IsPart (nat_lt q width) (led_in_part key width bucket q (entries ++ e ∷ [])))
          (sym (others q other))
          (part-as (nat_lt q width) (led_in_part key width bucket q entries)
          (led_in_part key width bucket q (entries ++ e ∷ []))
          (λ x. there q x (is_in_part key width bucket q x) other refl) (s.at (addresses.Part n bucket q))
          (has q other))

  -- ---- a name goes
  pub part-lost : (name : List ℕ) → is_in_part key width bucket part name ≡ true →
      t.at (addresses.Part n bucket part) ≡ Some (objects.Part (without names name))
      → HasParts key t n bucket width (without entries name)
  part-lost name own at q = by (cases_eq q part)
    where
      standing : (p : ℕ) → Type 0
      standing p = IsPart (nat_lt p width) (led_in_part key width bucket p (without entries name))
          (t.at (addresses.Part n bucket p))

      found : (es : List Entry) (x : List ℕ) →
          entry_of (without es name) x ≡ cond (not (same_bytes x name)) (entry_of es x) None
      found es x = find-filter (λ y. not (same_bytes y name)) es x

      both : (a b : Bool) (o : Option Entry) → cond a (cond b o None) None ≡ cond b (cond a o None) None
      both true b o = refl
      both false true o = refl
      both false false o = refl

      differs : (x : List ℕ) → same_bytes name x ≡ false → same_bytes x name ≡ false
      differs x other = by-name (same_bytes x name) refl
        where
          by-name : (b : Bool) → same_bytes x name ≡ b → same_bytes x name ≡ false
          by-name true same = absurd (let one : name ≡ x = sym ((bytes_decides x name).0 same) in
              let clash : true ≡ false = sym ((bytes_decides name x).1 one) ∙ other in cc)
          by-name false is = is

      there : (p : ℕ) (x : List ℕ) (b : Bool) → (p ≡ part → ⊥) → is_in_part key width bucket p x ≡ b →
          cond b (entry_of entries x) None ≡ cond b (entry_of (without entries name) x) None
      there p x true other is =
          sym (found entries x
          ∙ ap (λ c. cond (not c) (entry_of entries x) None) (differs x
          (others-differ key width bucket part name own p x (nowhere-else key width bucket part name own p other) is)))
      there p x false other is = refl

      by : (q ≡ part) ⊎ (q ≡ part → ⊥) → standing q
      by (inl same) = subst standing (sym same)
          (subst (λ b. IsPart b (led_in_part key width bucket part (without entries name))
          (t.at (addresses.Part n bucket part)))
          (sym (lt-ltb part width below)) (
            without names name,
            at,
            λ x. found names x
                ∙ ap (λ o. cond (not (same_bytes x name)) o None) (leads x)
                ∙ both (not (same_bytes x name)) (is_in_part key width bucket part x) (entry_of entries x)
                ∙ ap (λ o. cond (is_in_part key width bucket part x) o None) (sym (found entries x)),
          ))
      by (inr other) = subst (IsPart (nat_lt q width) (led_in_part key width bucket q (without entries name)))
          (sym (others q other))
          (part-as (nat_lt q width) (led_in_part key width bucket q entries)
          (led_in_part key width bucket q (without entries name))
          (λ x. there q x (is_in_part key width bucket q x) other refl) (s.at (addresses.Part n bucket q))
          (has q other))
