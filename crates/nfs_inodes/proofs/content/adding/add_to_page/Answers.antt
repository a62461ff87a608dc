use Rattle.std.proofs.Common.{◌≡◌, ◌∙◌, ◌/◌, ◌∷◌, ◌++◌, [], List, ap, inl, refl, sym, unwrap_or}
use Rattle.std.specs.Prelude.{option_copied}
use Rattle.std.proofs.lemmas.Result.{err_from_is_err_and}
use Rattle.nfs_machine.specs.State.{Entry}
use Rattle.nfs_objects.specs.Entries.{entry}
use Rattle.nfs_objects.specs.declared.address.Addr.TheVariants as addresses
use Rattle.nfs_inodes.proofs.AddEntryLemmas.{page-comes}
use Rattle.nfs_inodes.proofs.AsksAfterWritesLemmas.{lacked-stops}
use Rattle.nfs_inodes.proofs.content.adding.add_to_page.Goals as goal
use Rattle.nfs_inodes.proofs.content.adding.add_to_page.Goals.{in-Some+in_ok-entries-in-Some}
use Rattle.nfs_inodes.proofs.content.adding.add_to_page.Goals.{in-None+in_ok-entries-in-None}
use Rattle.nfs_objects.specs.Stands.{stored_page}
use Rattle.nfs_objects.specs.Values.{with_written}

pub returns-in_err-old : goal.returns-in_err-old
returns-in_err-old c =
    let page = addresses.Page c.args.number (c.args.leaf.cookie / 64) in
    let p = err_from_is_err_and c.from_residual.result c.from_residual.ensures.1 in
    rw (p.1, p.2) (lacked-stops c.args.draft.now (page ∷ []) page _ (inl refl) c.in_err-old.ensures)

pub returns : goal.returns
returns c =
    let d = c.args.draft.now in
    let page = addresses.Page c.args.number (c.args.leaf.cookie / 64) in
    let e = entry c.args.name.now c.args.leaf in
    let was = option_copied c.in_ok-old.field-0 in
    let entries : c.match-branch-2.entries ≡ unwrap_or was [] ++ e ∷ [] = elim c.match-branch-2.branch [
      | in-Some+in_ok-entries-in-Some w ↦
          w.entries-is ∙ w.in_ok-entries-in-Some.ensures
          ∙ ap (λ o. unwrap_or (option_copied o) [] ++ e ∷ []) (sym w.in-Some.is)
      | in-None+in_ok-entries-in-None w ↦
          w.entries-is ∙ w.in_ok-entries-in-None.ensures ∙ ap (λ (es : List Entry). es ++ e ∷ []) w.new.ensures
          ∙ ap (λ o. unwrap_or (option_copied o) [] ++ e ∷ []) (sym w.in-None.is)
    ] in
    page-comes d c.put_page.new.self c.args.number c.args.pages.now c.in_ok-with_page.field-0 e was c.in_ok-old.ensures
    (c.in_ok-put_page.ensures.ok ∙ ap (λ es. with_written d page (stored_page es)) entries) c.in_ok-with_page.ensures
