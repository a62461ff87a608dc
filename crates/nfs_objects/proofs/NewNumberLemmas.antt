-- A view that grew by rounds has no new number, or all that its call wants.
use Rattle.std.proofs.Common.{◌≡◌, ◌⊎◌, ◌<◌, ◌≤◌, List, [], ◌∷◌, ◌++◌, length, map, Option, Some, None, inl, inr, refl}
use Rattle.std.proofs.Common.{sym, ◌∙◌, ap, arith}
use Rattle.std.proofs.lemmas.List.{append_assoc}
use Rattle.nfs_machine.specs.declared.calls.Call.TheVariants as calls
use Rattle.nfs_machine.specs.declared.calls.Call.{Call}
use Rattle.nfs_machine.specs.declared.context.Ctx.{Ctx}
use Rattle.nfs_objects.specs.Bound.{Given, GrownHaveNumbers, Grows, Read, Round, view_after}
use Rattle.nfs_objects.specs.Calls.{exports_shown, new_numbers}
use Rattle.nfs_objects.specs.ExportTables.{ExportTableValue}
use Rattle.nfs_objects.specs.Fits.{vacant}
use Rattle.nfs_objects.specs.Values.{Seen, ViewValue}
use Rattle.nfs_objects.specs.declared.change.Outcome.TheVariants.{Need, Fresh, Done}
use Rattle.nfs_objects.specs.declared.view.Reserved.{Reserved}
use Rattle.nfs_objects.proofs.AsksFewLemmas.{exports-before, wanted_for}

-- how many are wanted is settled
abbrev IsSettled : Call → ViewValue → Type 0
IsSettled call view = (more : List Seen) (numbers : List Reserved) →
    new_numbers call (record { entries = view.entries ++ more; reserved = numbers }) ≡ new_numbers call view

settled : (call : Call) (view : ViewValue) → 0 < new_numbers call view → IsSettled call view
settled (calls.Nfs call) view some more numbers = refl
settled (calls.Mount call) view some more numbers = refl
settled (calls.Nlm call) view some more numbers = refl
settled (calls.Replace exports) view some more numbers = by (exports_shown view) refl
  where
    by : (o : Option ExportTableValue) → exports_shown view ≡ o →
        new_numbers (calls.Replace exports) (record { entries = view.entries ++ more; reserved = numbers })
        ≡ new_numbers (calls.Replace exports) view
    by None none = absurd (let zero : new_numbers (calls.Replace exports) view ≡ 0 = ap (wanted_for exports) none in
        omega (arith, some, zero))
    by (Some table) is = ap (wanted_for exports) (exports-before view more numbers table is)
        ∙ sym (ap (wanted_for exports) is)

abbrev Has : Call → ViewValue → Type 0
Has call view = (view.reserved ≡ []) ⊎ (IsSettled call view × (new_numbers call view ≤ length view.reserved))

grown : (call : Call) (ctx : Ctx) (rounds : List Round) → Grows call ctx rounds → Has call (view_after rounds)
grown call ctx [] grows = inl refl
grown call ctx (Read entries ∷ earlier) (outcome, attempts, gives, grows) = elim (grown call ctx earlier grows) [
  | inl none ↦ inl none
  | inr has ↦
      let same = has.0 entries (view_after earlier).reserved in
      let enough = has.1 in
      inr (
        λ more numbers. ap (λ (es : List Seen). new_numbers call (record { entries = es; reserved = numbers }))
            (append_assoc (view_after earlier).entries entries more) ∙ has.0 (entries ++ more) numbers ∙ sym same,
        omega (arith, same, enough),
      )
]
grown call ctx (Given numbers ∷ earlier) (Need asked, attempts, gives, grows) = absurd gives
grown call ctx (Given numbers ∷ earlier) (Done change, attempts, gives, grows) = absurd gives
grown call ctx (Given numbers ∷ earlier) (Fresh count, attempts, gives, grows) =
    let whole = attempts.whole in
    let some = attempts.some in
    let fixed = settled call (view_after earlier) (omega (arith, whole, some)) in
    let same = fixed (map vacant numbers) ((view_after earlier).reserved ++ numbers) in
    let long : length ((view_after earlier).reserved ++ numbers) ≡ length numbers =
    ap (λ (rs : List Reserved). length (rs ++ numbers)) attempts.none in
    inr (
      λ more later. ap (λ (es : List Seen). new_numbers call (record { entries = es; reserved = later }))
          (append_assoc (view_after earlier).entries (map vacant numbers) more)
          ∙ fixed (map vacant numbers ++ more) later ∙ sym same,
      omega (arith, same, whole, gives, long),
    )

pub grown-have-numbers : GrownHaveNumbers
grown-have-numbers call ctx rounds grows =
    elim (grown call ctx rounds grows) [ inl none ↦ inl none | inr has ↦ inr has.1 ]
