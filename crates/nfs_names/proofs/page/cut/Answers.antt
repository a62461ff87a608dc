use Rattle.std.proofs.Common.{◌≡◌, length, map, arith, sym, ◌∙◌, ap}
use Rattle.std.proofs.lemmas.List.{nil_from_length}
use Rattle.std.specs.Cmp.{unsigned_Decides}
use Rattle.std.specs.Vec.{vec_len}
use Rattle.nfs_inodes.specs.Listing.{listed_entry}
use Rattle.nfs_names.proofs.FittingPageLemmas.{cut-listed}
use Rattle.nfs_names.specs.Pages.{page_cut}
use Rattle.nfs_names.proofs.page.cut.Goals as goal

pub returns-then-is_empty : goal.returns-then-is_empty
returns-then-is_empty c =
    let zero = (unsigned_Decides (vec_len c.args.entries) 0).0 (sym c.if-is_empty.ensures) in
    let ok = c.args.entries.ok in
    sym (ap (λ es. page_cut (map listed_entry es))
    (nil_from_length c.args.entries.items (omega (arith, zero, ok))))

pub returns : goal.returns
returns c = cut-listed c.args.entries.items (λ empty.
    (let ok = c.args.entries.ok in
    let none : length c.args.entries.items ≡ 0 = ap length empty in
    let zero : vec_len c.args.entries ≡ 0 = omega (arith, ok, none) in
    let no = c.if-is_empty.ensures ∙ (unsigned_Decides (vec_len c.args.entries) 0).1 zero in cc))
