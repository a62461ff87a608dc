-- The exports that are worked through: what lives at each number is told by the map, and the rest computes.
use Rattle.std.proofs.Common.{◌≡◌, ℕ, ◌≤◌, true, List, [], ◌∷◌, ◌++◌, length, Option}
use Rattle.std.proofs.Common.{Some, Result, Ok, codes, inl, inr, refl, sym, ◌∙◌, ap, subst, arith}
use Rattle.std.specs.FinMap.{empty, get, insert}
use Rattle.side_wire.specs.declared.mount.MountStatus.{MountStatus}
use Rattle.side_wire.specs.declared.mount.MountStatus.TheVariants as mount_status
use Rattle.std.specs.Prelude.{ok_or}
use Rattle.nfs_wire.specs.declared.calls.NfsCall.TheVariants as nfs
use Rattle.nfs_wire.specs.declared.status.NfsStatus.{NfsStatus}
use Rattle.nfs_wire.specs.declared.status.NfsStatus.TheVariants as status
use Rattle.nfs_machine.specs.Attributes.{entries_of}
use Rattle.nfs_machine.specs.Checks.{entries_in, entry_of, holding, object_of, permitted}
use Rattle.nfs_machine.specs.Checks.{◌>>=◌}
use Rattle.nfs_machine.specs.Exports.{LivingExport, admits}
use Rattle.nfs_machine.specs.MountSteps.{Matches, MountStep, directory_at, walk}
use Rattle.nfs_machine.specs.NfsSteps.{NfsStep}
use Rattle.nfs_machine.specs.Pages.{all_entries, behind, fits}
use Rattle.nfs_machine.specs.Paths.{parts}
use Rattle.nfs_machine.specs.Permission.{ToList}
use Rattle.nfs_machine.specs.Resolve.{Named, Resolved, Names, living_at, resolve}
use Rattle.nfs_machine.specs.State.{Entry, Living}
use Rattle.nfs_machine.specs.WellFormed.{IsParent}
use Rattle.machine_examples.specs.WorkedExports.{WorkedExporting, dots, exporting, handle, listing, lower_root}
use Rattle.machine_examples.specs.WorkedExports.{objects, page_of, sub, upper, upper_root}
use Rattle.machine_examples.specs.WorkedRun.{nobody}
use Rattle.nfs_machine.proofs.ExportedLemmas.{export-all}
use Rattle.nfs_machine.proofs.PageLemmas.{PagesOf, page-ends}
use Rattle.nfs_machine.proofs.MapSumLemmas.{get-inserted}
use Rattle.nfs_machine.proofs.ChecksPassedLemmas.{numbered}

root-at : get objects 12 ≡ Some upper_root
root-at = get-inserted (insert (insert empty 20 lower_root) 7 sub) 12 upper_root 12

sub-at : get objects 7 ≡ Some sub
sub-at = get-inserted (insert (insert empty 20 lower_root) 7 sub) 12 upper_root 7 ∙ get-inserted
    (insert empty 20 lower_root) 7 sub 7

root-named : resolve exporting nobody (handle 7 12) ≡ Names 12 upper_root
root-named = ap (λ (l : Option Living). living_at l (record { export = 7; start = 7; fileid = 12; generation = 1 }))
    root-at

sub-named : resolve exporting nobody (handle 7 7) ≡ Names 7 sub
sub-named = ap (λ (l : Option Living). living_at l (record { export = 7; start = 7; fileid = 7; generation = 1 }))
    sub-at

root-parent : IsParent exporting 12 12
root-parent = record { directory = upper_root; lives = root-at; named_in = inl (refl, refl) }

sub-parent : IsParent exporting 7 12
sub-parent = record { directory = upper_root; lives = root-at; named_in = inr (omega arith) }

abbrev entries_by : (parent : ℕ) → Resolved → Result (List Entry) NfsStatus
entries_by parent r =
    object_of r >>= λ d. entries_in d.object.content >>= λ entries. permitted nobody d.object ToList
    >>= λ _. holding true
    status.BadCookie >>= λ _. Ok (behind 0 (all_entries d.number parent entries.list))

abbrev one_entry : List Entry
one_entry = record { name = codes "sub"; number = 7; cookie = 3 } ∷ []

parent-of : (number parent : ℕ) (o : Living) → IsParent exporting number parent → (n : ℕ) (d : Living) →
    Names number o ≡ Names n d → IsParent exporting n parent
parent-of number parent o is n d both =
    (let own : number ≡ n = cc in subst (λ k. IsParent exporting k parent) own is)

lists : (directory : List ℕ) (number parent : ℕ) (o : Living) (entries : List Entry) →
    resolve exporting nobody directory ≡ Names number o → IsParent exporting number parent
    → PagesOf (fits 65536) (entries_by parent (Names number o))
    (Ok (record { entries = dots number parent entries; eof = true }))
    → NfsStep exporting nobody (nfs.Readdir (listing directory))
    (page_of directory (dots number parent entries)) [] exporting
unfolding NfsStep
lists directory number parent o entries named is page = record {
  parent = parent;
  is_parent = λ n d at kind. parent-of number parent o is n d (sym named ∙ at);
  page = Ok (record { entries = dots number parent entries; eof = true });
  is_page = subst (λ r. PagesOf (fits 65536) (entries_by parent r)
      (Ok (record { entries = dots number parent entries; eof = true })))
      (sym named) page;
  answers = record { reply_is = refl; no_message = refl; state_is = refl };
}

-- the upper export alone leads to `/a/sub`
abbrev LeavesOne : List (List ℕ) → LivingExport → Type 0
LeavesOne more e = admits e.value (codes "10.0.0.1") ≡ true → parts (codes "/a/sub") ≡ parts e.path ++ more →
    1 ≤ length more

longest : (number : ℕ) (more : List (List ℕ)) →
    Matches exporting.exports (codes "10.0.0.1") (parts (codes "/a/sub")) number more → 1 ≤ length more
longest number more leads = export-all (LeavesOne more) exporting.exports number leads.export
    (above, (λ admitted begins. cc, tt)) leads.stands leads.admitted leads.begins
  where
    above : admits upper.value (codes "10.0.0.1") ≡ true → parts (codes "/a/sub") ≡ parts upper.path ++ more →
        1 ≤ length more
    above admitted begins = (let count = ap length begins in omega arith)

-- the walk of "sub" from its root
abbrev below_by : ℕ → Option Living → Result Named MountStatus
below_by number o = directory_at o >>= λ d. Ok (numbered number d)

abbrev step_by : Option Living → Result Named MountStatus
step_by o = directory_at o >>= λ d.
    ok_or (entry_of (entries_of d.content) (codes "sub")) mount_status.NoEntry >>= λ e.
    below_by e.number (get objects e.number)

found : walk (get objects) 12 (codes "sub" ∷ []) ≡ Ok (numbered 7 sub)
unfolding walk
found = ap (λ (o : Option Living). step_by o) root-at ∙ ap (below_by 7) sub-at

pub worked-exporting : WorkedExporting
unfolding MountStep walk
worked-exporting = record {
  seventh = refl;
  third = refl;
  first = refl;
  root = root-named;
  below = sub-named;
  by_place = refl;
  not_admitted = refl;
  upper_is_root = refl;
  lower_is_root = refl;
  sub_is_none = refl;
  own_parent = root-parent;
  parent = sub-parent;
  lists_root = lists (handle 7 12) 12 12 upper_root one_entry root-named root-parent
      (page-ends (fits 65536) (dots 12 12 one_entry) refl);
  lists_below = lists (handle 7 7) 7 12 sub [] sub-named sub-parent (page-ends (fits 65536) (dots 7 12 []) refl);
  mounts = (
    Ok (handle 7 7),
    refl,
    refl,
    (
      numbered 7 sub,
      (
        refl,
        7,
        codes "sub" ∷ [],
        record {
          matches = record { export = upper; stands = refl; admitted = refl; begins = refl };
          longest = longest;
        },
        sym found,
      ),
      refl,
      refl,
    ),
  );
  exports = record { reply_is = refl; no_message = refl; state_is = refl };
}
