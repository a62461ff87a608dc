-- What a name leads to in its part is what it leads to among a directory's entries.
use Rattle.std.proofs.Common.{◌≡◌, ℕ, ◌<◌, ◌==◌, ◌&&◌, true, cond, List, Option, Some, None, option_map, refl}
use Rattle.std.proofs.Common.{sym, ◌∙◌, ap, subst}
use Rattle.std.specs.Prelude.{nat_lt}
use Rattle.std.proofs.lemmas.Bool.{and_from, eq-eqb, lt-ltb}
use Rattle.nfs_machine.specs.Checks.{entry_of}
use Rattle.nfs_machine.specs.RemoveSteps.{without}
use Rattle.nfs_machine.specs.State.{Entry}
use Rattle.nfs_objects.proofs.SeenLemmas.{known-stands}
use Rattle.nfs_objects.specs.Directories.{IsPlace, bucket_of, count_in, is_in_part, led_in_part, part_among, width_in}
use Rattle.nfs_objects.specs.Entries.{leaf_of}
use Rattle.nfs_objects.specs.Fits.{Fits}
use Rattle.nfs_objects.specs.Stands.{HasEntries, IsPart, part_of}
use Rattle.nfs_objects.specs.Store.{Store, with_writes}
use Rattle.nfs_objects.specs.Unfiled.{Relists}
use Rattle.nfs_objects.specs.Values.{DraftValue, known_at}
use Rattle.nfs_objects.specs.declared.address.Addr.TheVariants as addresses
use Rattle.nfs_objects.specs.declared.directory.Leaf.{Leaf}
use Rattle.nfs_objects.specs.declared.entry_map.EntryMap.{EntryMap}
use Rattle.nfs_objects.specs.declared.entry_map.NamePlace.{NamePlace}
use Rattle.nfs_objects.specs.declared.object.Object.{Object}
use Rattle.nfs_inodes.proofs.EntryMoreLemmas.{none-there, relists-absent}
use Rattle.nfs_inodes.specs.Entered.{LeadsFrom, ShowsLeaf, always}

module _ (d : DraftValue) (s : Store) (n : ℕ) (m : EntryMap) (entries : List Entry) (fits : Fits d.view s)
    (has : HasEntries (with_writes s d.writes) n m entries) (name : List ℕ) where
  abbrev bucket : ℕ
  bucket = bucket_of name

  abbrev width : ℕ
  width = width_in m.counts bucket

  -- a name is in the part that it has its place in
  own : (part : ℕ) → part ≡ part_among m.key width name → part < width → is_in_part m.key width bucket part name ≡ true
  own part is less =
      and_from (bucket_of name == bucket) (nat_lt part width && (part_among m.key width name == part))
      (eq-eqb (bucket_of name) bucket refl)
      (and_from (nat_lt part width) (part_among m.key width name == part) (lt-ltb part width less)
      (eq-eqb (part_among m.key width name) part (sym is)))

  -- and leads there to what it leads to
  part-leads : (part : ℕ) (o : Option Object) (names : Option (List Entry)) → part ≡ part_among m.key width name →
      part < width →
      (with_writes s d.writes).at (addresses.Part n bucket part) ≡ o → part_of o ≡ names →
      option_map leaf_of (entry_of entries name)
      ≡ elim names [ None ↦ None | Some es ↦ option_map leaf_of (entry_of es name) ]
  part-leads part o names is less at shown =
      let stands : IsPart true (led_in_part m.key width bucket part entries)
      ((with_writes s d.writes).at (addresses.Part n bucket part)) =
      subst (λ b. IsPart b (led_in_part m.key width bucket part entries)
      ((with_writes s d.writes).at (addresses.Part n bucket part))) (lt-ltb part width less) (has.parts bucket part) in
      let same : names ≡ Some stands.0 = sym shown ∙ ap part_of (sym at ∙ stands.1) in
      sym (ap (λ x. elim x [ None ↦ None | Some es ↦ option_map leaf_of (entry_of es name) ]) same
      ∙ ap (option_map leaf_of) (stands.2 name ∙ ap (λ b. cond b (entry_of entries name) None) (own part is less)))

  pub leaf-stands : (leaf : Option Leaf) → ShowsLeaf d n m name leaf →
      option_map leaf_of (entry_of entries name) ≡ leaf
  leaf-stands leaf shows = by shows.place shows.is shows.leads
    where
      by : (place : Option NamePlace) → IsPlace m name place → LeadsFrom d n name leaf place →
          option_map leaf_of (entry_of entries name) ≡ leaf
      by None none leads =
          ap (option_map leaf_of)
          (none-there bucket (count_in m.counts bucket) entries (has.counted bucket) none name refl)
          ∙ sym leads
      by (Some p) is leads = known (known_at d (addresses.Part n p.bucket p.part)) refl
        where
          known : (o : Option (Option Object)) → known_at d (addresses.Part n p.bucket p.part) ≡ o →
              option_map leaf_of (entry_of entries name) ≡ leaf
          known None unknown = absurd (let e : None ≡ Some leads.0 = ap (option_map part_of) (sym unknown)
              ∙ leads.1 in cc)
          known (Some o) found =
              let shown : part_of o ≡ leads.0 =
              (let e : Some (part_of o) ≡ Some leads.0 = ap (option_map part_of) (sym found) ∙ leads.1 in cc) in
              let at : (with_writes s d.writes).at (addresses.Part n bucket p.part) ≡ o =
              ap (λ b. (with_writes s d.writes).at (addresses.Part n b p.part)) (sym is.0)
              ∙ known-stands d s (addresses.Part n p.bucket p.part) o fits found in
              part-leads p.part o leads.0 is.1 is.2 at shown ∙ sym leads.2

-- ---- a name that is not there
none-led : (o : Option Entry) → option_map leaf_of o ≡ None → o ≡ None
none-led None is = refl
none-led (Some e) is = cc

-- it goes without a write
pub gone-absent : (d : DraftValue) (n : ℕ) (m after : EntryMap) (name : List ℕ) → after ≡ m →
    ShowsLeaf d n m name None → Relists n d d m after (λ es. without es name) always
gone-absent d n m after name same shows =
    subst (λ x. Relists n d d m x (λ es. without es name) always) (sym same)
    (relists-absent n d m name (λ s es fits has.
    none-led (entry_of es name) (leaf-stands d s n m es fits has name None shows)))
