-- The best of the first exports stays the best, or the next one becomes it: what two exports leave of the same names is
-- the shorter, the more names they have themselves.
use Rattle.std.proofs.Common.{◌≡◌, ◌==◌, ℕ, ◌+◌, ◌<◌, ◌≤◌, true, false, cond, nat_lt, List, ◌++◌}
use Rattle.std.proofs.Common.{length, Option, Some, None, inl, inr, refl, sym, ◌∙◌, ap, subst, arith}
use Rattle.std.proofs.Common.{length-append, MatchOption}
use Rattle.std.proofs.lemmas.Bool.Decides.{nat_tests}
use Rattle.std.proofs.lemmas.Bool.{cases_lt}
use Rattle.std.proofs.lemmas.List.Folds.{find_at}
use Rattle.std.proofs.lemmas.Option.{slice_get_within}
use Rattle.std.specs.List.{position_or_len, slice_get}
use Rattle.nfs_machine.specs.Exports.{LivingExport, admits, export_at}
use Rattle.nfs_machine.specs.MountSteps.{NoExport}
use Rattle.nfs_machine.specs.Paths.{parts}
use Rattle.nfs_machine.specs.WellFormed.{AllApart}
use Rattle.nfs_objects.proofs.ExportTableLemmas.{found-by-number}
use Rattle.nfs_mount.specs.Choices.{IsChosen, IsLead, LeadsNot, deeper_of}
use Rattle.nfs_mount.specs.declared.choice.Choice.{Choice}

module _ (exports : List LivingExport) (host : List ℕ) (names : List (List ℕ)) where
  -- of what this export leaves, if it leads there
  abbrev OfLead : LivingExport → (List (List ℕ) → Type 0) → Type 0
  OfLead e P = (rest : List (List ℕ)) → admits e.value host ≡ true → names ≡ parts e.path ++ rest → P rest

  -- of what each of the first exports leaves that leads there
  abbrev OfLeads : ℕ → (List (List ℕ) → Type 0) → Type 0
  OfLeads count P = (i : ℕ) (e : LivingExport) → i < count → slice_get exports i ≡ Some e → OfLead e P

  -- of the first exports, this one leads there and leaves the least, or none does
  abbrev pub IsBestOf : ℕ → Option Choice → Type 0
  IsBestOf count None = OfLeads count (λ rest. ⊥)
  IsBestOf count (Some best) =
      (i : ℕ) × (e : LivingExport) × (slice_get exports i ≡ Some e) × IsLead e host names best
      × OfLeads count (λ rest. length best.rest ≤ length rest)

  sizes : (front rest : List (List ℕ)) → names ≡ front ++ rest → length front + length rest ≡ length names
  sizes front rest e = omega (arith, length-append front rest, ap length e)

  -- as the invariant of the best so far, one export later
  module _ (i : ℕ) (e : LivingExport) (at : slice_get exports i ≡ Some e) where
    upto : (P : List (List ℕ) → Type 0) → OfLeads i P → OfLead e P → OfLeads (i + 1) P
    upto P old new k x less there = elim (cases_lt k i) [
      | inl below ↦ old k x below there
      | inr above ↦ (let same : k ≡ i = omega (arith, less, above) in
          let both : Some e ≡ Some x = sym at ∙ ap (slice_get exports) (sym same) ∙ there in
          let is : e ≡ x = cc in subst (λ (y : LivingExport). OfLead y P) is new)
    ]

    depth-is : (c : Choice) → IsLead e host names c → c.depth + length c.rest ≡ length names
    depth-is c lead = omega (arith, sizes (parts e.path) c.rest lead.begins, lead.depth_is)

    -- what is deeper leaves less
    leaves : (c : Choice) → IsLead e host names c → OfLead e (λ rest. length c.rest ≤ length rest)
    leaves c lead rest admitted begins =
        omega (arith, depth-is c lead, lead.depth_is, sizes (parts e.path) rest begins)

    pub best_step : (best other : Option Choice) → IsBestOf i best
        → MatchOption other (LeadsNot e host names) (IsLead e host names) → IsBestOf (i + 1) (deeper_of best other)
    best_step None None old not = upto (λ rest. ⊥) old not
    best_step None (Some c) old lead = (
      i,
      e,
      at,
      lead,
      upto (λ rest. length c.rest ≤ length rest)
          (λ k x less there rest admitted begins. absurd (old k x less there rest admitted begins)) (leaves c lead),
    )
    best_step (Some b) None old not = (
      old.0,
      old.1,
      old.2,
      old.3,
      upto (λ rest. length b.rest ≤ length rest) old.4
          (λ rest admitted begins. absurd (not rest admitted begins)),
    )
    best_step (Some b) (Some c) old lead =
        let own : b.depth + length b.rest ≡ length names =
        omega (arith, sizes (parts (old.1).path) b.rest (old.3).begins, (old.3).depth_is) in
        elim (nat_lt b.depth c.depth) as
        (λ t. nat_lt b.depth c.depth ≡ t → IsBestOf (i + 1) (cond t (Some c) (Some b))) [
          | true ↦ λ less. (let d : b.depth < c.depth = grind (arith, nat_tests) in (
            i,
            e,
            at,
            lead,
            upto (λ rest. length c.rest ≤ length rest)
                (λ k x below there rest admitted begins.
                omega (arith, own, depth-is c lead, d, old.4 k x below there rest admitted begins)) (leaves c lead),
          ))
          | false ↦ λ more. (let d : c.depth ≤ b.depth = grind (arith, nat_tests) in (
            old.0,
            old.1,
            old.2,
            old.3,
            upto (λ rest. length b.rest ≤ length rest) old.4
                (λ rest admitted begins. omega (arith, own, d, lead.depth_is, sizes (parts e.path) rest begins)),
          ))
        ] refl

  -- what leads there stands at a place
  place-of : (number : ℕ) (e : LivingExport) → export_at exports number ≡ Some e → (i : ℕ) ×
      (i < length exports) × (slice_get exports i ≡ Some e)
  place-of number e stands =
      let at = sym (find_at (λ (x : LivingExport). x.number == number) exports) ∙ stands in (
        position_or_len (λ (x : LivingExport). x.number == number) exports,
        slice_get_within exports (position_or_len (λ (x : LivingExport). x.number == number) exports) e at,
        at,
      )

  -- the best of all is chosen
  pub best_of_all : (count : ℕ) (best : Option Choice) → length exports ≤ count → AllApart exports →
      IsBestOf count best → MatchOption best (NoExport exports host names) (IsChosen exports host names)
  best_of_all count None all apart none = λ number rest matches.
      let place = place-of number matches.export matches.stands in
      none place.0 matches.export (omega (arith, place.1)) place.2 rest matches.admitted matches.begins
  best_of_all count (Some c) all apart best = (
    (best.1).number,
    record {
      matches = record {
        export = best.1;
        stands = found-by-number exports best.0 best.1 apart best.2;
        admitted = (best.3).admitted;
        begins = (best.3).begins;
      };
      longest = λ number rest matches.
          let place = place-of number matches.export matches.stands in
          best.4 place.0 matches.export (omega (arith, place.1)) place.2 rest matches.admitted matches.begins;
    },
    sym (best.3).root_is,
  )
