use Rattle.std.proofs.Common.{◌≤◌, ◌++◌, ◌∷◌, [], Ok, true, length, map, arith, sym, ◌∙◌, ap, subst}
use Rattle.std.proofs.lemmas.List.{append_assoc, append-nil, map-append}
use Rattle.nfs_machine.proofs.PageLemmas.{page-ends}
use Rattle.nfs_machine.specs.Pages.{Pages}
use Rattle.nfs_inodes.specs.Listing.{listed_entry}
use Rattle.nfs_names.proofs.FittingPageLemmas.{budget-shrinks, fits-by-sizes, names-below, sizes-more, stops-here}
use Rattle.nfs_names.specs.Pages.{fit_of, page_cut, sizes_fit, sizes_of}
use Rattle.nfs_names.specs.declared.page.Sizes.{Sizes}
use Rattle.nfs_names.proofs.page.longest_page.Goals as goal

pub with_entry-sizes-requires-clause-names : goal.with_entry-sizes-requires-clause-names
with_entry-sizes-requires-clause-names c =
    subst (λ (s : Sizes). s.names ≤ s.whole) (sym c.loop-entry.invariant.sized)
    (names-below c.args.budget (map listed_entry c.loop-entry.entries.items))

pub returns-then-not-allows-2 : goal.returns-then-not-allows-2
returns-then-not-allows-2 c =
    let fit = fit_of c.args.budget in
    let done = map listed_entry c.loop-entry.entries.items in
    let next = listed_entry c.in-Some.entry in
    let sized = sizes-more c.args.budget done next c.loop-entry.sizes c.with_entry-sizes.result
    c.loop-entry.invariant.sized c.with_entry-sizes.ensures.whole c.with_entry-sizes.ensures.names in
    subst (λ r. Pages fit c.args.left r) (sym c.cut.ensures)
    (subst (λ es. Pages fit es (page_cut done))
    (sym (c.loop-entry.invariant.whole ∙ ap (λ es. done ++ es) c.in-Some.ensures.steps))
    (stops-here fit (budget-shrinks c.args.budget) done next _ c.loop-entry.invariant.fits
    (fits-by-sizes c.args.budget (done ++ next ∷ []) ∙ ap (sizes_fit c.args.budget) (sym sized)
    ∙ sym c.if-not-allows-2.ensures)))

pub loop-entry-smaller : goal.loop-entry-smaller
loop-entry-smaller c = let more = ap length c.in-Some.ensures.steps in omega (arith, more)

pub loop-entry-preserved : goal.loop-entry-preserved
loop-entry-preserved c =
    let old = c.loop-entry.entries.items in
    let done = map listed_entry old in
    let next = listed_entry c.in-Some.entry in
    let longer = ap (map listed_entry) c.in_ok-push.ensures.items
    ∙ map-append listed_entry old (c.in-Some.entry ∷ []) in
    let sized = sizes-more c.args.budget done next c.loop-entry.sizes c.with_entry-sizes.result
    c.loop-entry.invariant.sized c.with_entry-sizes.ensures.whole c.with_entry-sizes.ensures.names
    ∙ ap (sizes_of c.args.budget) (sym longer) in
    record {
      sized = sized;
      fits = fits-by-sizes c.args.budget (map listed_entry c.push.new.self.items)
          ∙ ap (sizes_fit c.args.budget) (sym sized) ∙ sym c.if-not-allows-2.ensures;
      whole = c.loop-entry.invariant.whole ∙ ap (λ es. done ++ es) c.in-Some.ensures.steps
          ∙ sym (append_assoc done (next ∷ []) c.next.new.self)
          ∙ ap (λ es. es ++ c.next.new.self) (sym longer);
    }

pub returns : goal.returns
returns c =
    let fit = fit_of c.args.budget in
    let done = map listed_entry c.loop-entry.entries.items in
    subst (λ es. Pages fit es (Ok (record { entries = done; eof = true })))
    (sym (c.loop-entry.invariant.whole ∙ ap (λ es. done ++ es) c.in_default.ensures.steps.0 ∙ append-nil done))
    (page-ends fit done c.loop-entry.invariant.fits)
