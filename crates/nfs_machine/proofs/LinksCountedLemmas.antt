-- How many names lead to what lives on: as many as before, or its time of change tells it.
use Rattle.std.proofs.Common.{◌≡◌, ◌==◌, ℕ, ◌+◌, true, false, cond, [], Some, None}
use Rattle.std.proofs.Common.{nat_le, ◌⊎◌, inl, inr, refl, sym, ◌∙◌, ap, subst, arith}
use Rattle.std.specs.FinMap.{get}
use Rattle.std.specs.List.{AllByRecursion, count_by}
use Rattle.nfs_wire.specs.declared.attributes.Time.{Time}
use Rattle.nfs_machine.specs.Attributes.{attributes_of, entries_of, is_directory, is_living_directory, links_of}
use Rattle.nfs_machine.specs.Attributes.{names_in, names_of}
use Rattle.nfs_machine.specs.RemoveSteps.{losing_name, without_object}
use Rattle.nfs_machine.specs.Shown.{touched, with_object}
use Rattle.nfs_machine.specs.State.{Entry, Living, State}
use Rattle.nfs_machine.specs.TimeLaws.{ShowsChanges, TouchesOnce}
use Rattle.nfs_machine.specs.Times.{touch}
use Rattle.nfs_machine.specs.WellFormed.{Leads, WellFormed}
use Rattle.nfs_machine.proofs.MapChangeLemmas.{differs-insert, differs-remove, differs-there, sum-differs, weight}
use Rattle.nfs_machine.proofs.ContinuesLemmas.{Continues, kinds-continued}
use Rattle.nfs_machine.proofs.WellFormedLemmas.{all_both, all_map, counts-same, is_subdirectory, links-by}
use Rattle.nfs_machine.proofs.WellFormedLemmas.{links-names, replaced-names}

-- what lives on is a directory where it was one; and as many names lead to it, or it was changed at this time
pub record Counts (now : Time) (old new : State) : Type 0 where
  pub kinds : (n : ℕ) (was is : Living) → get old.objects n ≡ Some was → get new.objects n ≡ Some is →
      is_directory is.content ≡ is_directory was.content
  pub names : (n : ℕ) (was is : Living) → get old.objects n ≡ Some was → get new.objects n ≡ Some is →
      (names_of new n ≡ names_of old n) ⊎ (is.changed ≡ touch was.changed now)

-- where no object has other names
pub counts-kept : (now : Time) (old new : State) → Continues now old new →
    ((n : ℕ) → names_of new n ≡ names_of old n) → Counts now old new
counts-kept now old new c names = record {
  kinds = kinds-continued now old new c;
  names = λ n was is at there. inl (names n);
}

-- ---- an object that contains no name loses one
module _ (mid : State) (now : Time) (number : ℕ) (o : Living) (at : get mid.objects number ≡ Some o) where
  -- it is gone, or was changed
  pub changed-losing : (names : ℕ) (is : Living) →
      get (losing_name mid names now number o).objects number ≡ Some is →
      is.changed ≡ touch o.changed now
  changed-losing names is there =
      elim (nat_le names 1) as (λ b. get (cond b (without_object mid number) (with_object mid number
      (touched o now))).objects number ≡ Some is → is.changed ≡ touch o.changed now) [
        | true ↦ λ gone. (let none : get
            (without_object mid number).objects number ≡ None = differs-there mid.objects
            (without_object mid number).objects number None (differs-remove mid.objects number) in cc)
        | false ↦ λ stays.
            let both : Some (touched o now) ≡ Some is = sym (differs-there mid.objects
            (with_object mid number (touched o now)).objects number (Some (touched o now))
            (differs-insert mid.objects number (touched o now))) ∙ stays in
            let same : touched o now ≡ is = cc in
            ap (λ (x : Living). x.changed) (sym same)
      ] there

  -- what other objects are named is as it was
  pub names-losing : entries_of o.content ≡ [] → (names n : ℕ) →
      names_of (losing_name mid names now number o) n ≡ names_of mid n
  names-losing empty names n =
      elim (nat_le names 1) as (λ b. names_of (cond b (without_object mid number) (with_object mid number
      (touched o now))) n ≡ names_of mid n) [
        | true ↦
            let sums = sum-differs (names_in n) mid.objects (without_object mid number).objects number None
            (differs-remove mid.objects number) in
            let none : weight (names_in n) (get mid.objects number) ≡ 0 = ap (weight (names_in n)) at ∙ ap
            (count_by (λ (e : Entry). e.number == n)) empty in
            omega (arith, sums, none)
        | false ↦ replaced-names mid number o (touched o now) at
            (record { export = refl; generation = refl; kind = refl; content = λ e. refl }) n
      ]

-- ---- what is shown of an object
module _ (now : Time) (old new : State) (counts : Counts now old new) (before : WellFormed old) (after : WellFormed new)
  where
    -- the entries of a directory that stays as it is lead to directories where they did
    links-still : (n : ℕ) (o : Living) → get old.objects n ≡ Some o → get new.objects n ≡ Some o →
        names_of new n ≡ names_of old n ⊎ (is_directory o.content ≡ true) →
        links_of new n o.content ≡ links_of old n o.content
    links-still n o at there known = elim (is_directory o.content) as
        (λ b. is_directory o.content ≡ b → links_of new n o.content ≡ links_of old n o.content) [
          | true ↦ λ kind.
              links-by new n o.content
              ∙ ap (λ b. cond b (2 + count_by (is_subdirectory new) (entries_of o.content)) (names_of new n)) kind
              ∙ ap (λ k. 2 + k) (counts-same old new (entries_of o.content) (same-kinds n o at there))
              ∙ sym (ap (λ b. cond b (2 + count_by (is_subdirectory old) (entries_of o.content)) (names_of old n))
              kind)
              ∙ sym (links-by old n o.content)
          | false ↦ λ kind. elim known [
            | inl same ↦ links-names new n o.content kind ∙ same ∙ sym (links-names old n o.content kind)
            | inr other ↦ (let no : true ≡ false = sym other ∙ kind in cc)
          ]
        ] refl
      where
        same-kinds : (n : ℕ) (o : Living) → get old.objects n ≡ Some o → get new.objects n ≡ Some o →
            AllByRecursion (λ (e : Entry). is_subdirectory new e ≡ is_subdirectory old e) (entries_of o.content)
        same-kinds n o at there = all_map (λ (e : Entry). Leads old o e × Leads new o e)
            (λ (e : Entry). is_subdirectory new e ≡ is_subdirectory old e)
            (λ e both. ap is_living_directory (both.1).lives
            ∙ counts.kinds e.number (both.0).object (both.1).object (both.0).lives (both.1).lives
            ∙ sym (ap is_living_directory (both.0).lives))
            (entries_of o.content)
            (all_both (Leads old o) (Leads new o) (entries_of o.content) (before.names n o at).leads
            (after.names n o there).leads)

    pub shows-changes : TouchesOnce now old new → ShowsChanges now old new
    shows-changes touches n was is at there = elim (touches n was is at there) [
      | inr changed ↦ inr changed
      | inl same ↦ elim (counts.names n was is at there) [
        | inr changed ↦ inr changed
        | inl names ↦
            let still : links_of new n was.content ≡ links_of old n was.content = links-still n was at
            (subst (λ x. get new.objects n ≡ Some x) same there) (inl names) in
            inl (
              same,
              ap (attributes_of new n) same ∙ ap
                  (λ k. record (attributes_of old n was) { links = k }) still,
            )
      ]
    ]
