-- The steps of calls that make or take away a name that are worked through: what the root's handle names, and the rest
-- computes.
use Rattle.std.proofs.Common.{◌≡◌, ℕ, ◌+◌, List, [], ◌∷◌, Option, Some, None, option_map}
use Rattle.std.proofs.Common.{Result, Ok, Err, codes, refl, sym, ◌∙◌, ap, subst}
use Rattle.std.specs.Prelude.{ok_or}
use Rattle.std.specs.FinMap.{get, insert}
use Rattle.std.specs.List.{count_by}
use Rattle.nfs_wire.specs.declared.calls.Special.TheVariants as special
use Rattle.nfs_wire.specs.declared.replies.Made.{Made}
use Rattle.nfs_wire.specs.declared.replies.MadeReply.{MadeReply}
use Rattle.nfs_wire.specs.declared.replies.NfsReply.{NfsReply}
use Rattle.nfs_wire.specs.declared.replies.NfsReply.TheVariants as nfs_replies
use Rattle.nfs_wire.specs.declared.replies.RemovedReply.{RemovedReply}
use Rattle.nfs_wire.specs.declared.status.NfsStatus.{NfsStatus}
use Rattle.nfs_wire.specs.declared.status.NfsStatus.TheVariants as status
use Rattle.nfs_machine.specs.Answers.{Ends, answer_of, state_after}
use Rattle.nfs_machine.specs.Attributes.{is_living_directory, names_of}
use Rattle.nfs_machine.specs.Checks.{DirectoryEntries, ◌>>=◌, changeable, entries_in, entry_of, object_of}
use Rattle.nfs_machine.specs.Checks.{permitted, plain_name_checked}
use Rattle.nfs_machine.specs.Making.{MakeStep, Wanted, made}
use Rattle.nfs_machine.specs.MakeSteps.{wanted_of, wanted_special}
use Rattle.nfs_machine.specs.NameSteps.{create_existing}
use Rattle.nfs_machine.specs.NfsSteps.{NfsStep}
use Rattle.nfs_machine.specs.Permission.{ToChange}
use Rattle.nfs_machine.specs.RemoveSteps.{losing_name, object_under, take_end, taken_reply, without}
use Rattle.nfs_machine.specs.RemoveSteps as removing
use Rattle.nfs_machine.specs.Resolve.{Named, Resolved, Names, resolve}
use Rattle.nfs_machine.specs.Shown.{wcc, with_content, with_object}
use Rattle.nfs_machine.specs.State.{Content, Directory, Fifo, Link, Entry, Living, State}
use Rattle.machine_examples.specs.Worked.{root_bytes}
use Rattle.machine_examples.specs.WorkedCreate.{no_attributes}
use Rattle.machine_examples.specs.WorkedFiles.{time}
use Rattle.machine_examples.specs.WorkedMaking.{WorkedMaking, WorkedTaking, d_entry, bare_directory, exclusive}
use Rattle.machine_examples.specs.WorkedMaking.{guarded, made_as, new, not_made, not_removed, root_with_d}
use Rattle.machine_examples.specs.WorkedMaking.{with_new}
use Rattle.machine_examples.specs.WorkedReplies.{root}
use Rattle.machine_examples.specs.WorkedRun.{in_root, nobody, opened, root_with_x, with_hi, x_entry}
use Rattle.nfs_machine.proofs.ChoiceLemmas.{End, EndsAs, known, make_new, makes-so}
use Rattle.machine_examples.proofs.RunWorked.{fresh, root-named, root-opened, root-written, x-lives}
use Rattle.nfs_machine.proofs.MapSumLemmas.{get-inserted}
use Rattle.nfs_machine.proofs.ChecksPassedLemmas.{numbered, entries_with}

root-with-d : (o : Living) → get (with_new o).objects 1 ≡ Some root_with_d
root-with-d o = get-inserted (insert opened.objects 1 root_with_d) 5 o 1 ∙ get-inserted opened.objects 1 root_with_d 1

d-lives : (o : Living) → get (with_new o).objects 5 ≡ Some o
d-lives o = get-inserted (insert opened.objects 1 root_with_d) 5 o 5

-- ---- what is made under a name of the root
module _ (old : State) (name : List ℕ) (wanted : Result Wanted NfsStatus)
    (there : ℕ → Option Living → Result (Made × State) NfsStatus) where
  abbrev make_under : Wanted → ℕ → Living → List Entry → ℕ → Option Entry → Result (End old) NfsStatus
  make_under what number directory entries last e = elim e [
    | Some e ↦ known (there e.number (get old.objects e.number))
    | None ↦ make_new old nobody name what number
        directory entries last
  ]

  abbrev make_by : Resolved → Result (End old) NfsStatus
  make_by r =
      object_of r >>= λ directory. entries_in directory.object.content >>= λ entries. plain_name_checked status.Exists
      status.Exists name >>= λ _. wanted >>= λ what. changeable old.exports directory.object
      >>= λ _. permitted nobody directory.object ToChange >>= λ _. make_under what directory.number directory.object
      entries.list entries.last_cookie (entry_of entries.list name)

  not-made : (o : Living) (reply_of : MadeReply → NfsReply) (e : NfsStatus) → resolve old nobody root_bytes ≡ Names 1 o
      → make_by (Names 1 o) ≡ Err e
      → MakeStep old nobody (in_root name) wanted there reply_of (reply_of (not_made old e)) [] old
  not-made o reply_of e named comes = makes-so (record {
    end = Err e;
    ends = subst (λ r. EndsAs old (make_by r) (Err e)) (sym named) (subst (λ c. EndsAs old c (Err e)) (sym comes) refl);
    answers = record { reply_is = refl; no_message = refl; state_is = refl };
  })

is-opened : resolve opened nobody root_bytes ≡ Names 1 root
is-opened = root-named opened refl root refl refl root-opened

is-written : resolve with_hi nobody root_bytes ≡ Names 1 root_with_x
is-written = root-named with_hi refl root_with_x refl refl root-written

is-made : (o : Living) → resolve (with_new o) nobody root_bytes ≡ Names 1 root_with_d
is-made o = root-named (with_new o) refl root_with_d refl refl (root-with-d o)

is-new : (name : List ℕ) (wanted : Result Wanted NfsStatus)
    (there : ℕ → Option Living → Result (Made × State) NfsStatus) (o : Living)
    (reply_of : MadeReply → NfsReply)
    → EndsAs opened (make_by opened name wanted there (Names 1 root)) (Ok (made (with_new o) nobody 5 o, with_new o))
    → MakeStep opened nobody (in_root name) wanted there reply_of (reply_of (made_as o)) [] (with_new o)
is-new name wanted there o reply_of ends = makes-so (record {
  end = Ok (made (with_new o) nobody 5 o, with_new o);
  ends = subst (λ r. EndsAs opened (make_by opened name wanted there r) (Ok (made (with_new o) nobody 5 o, with_new o)))
      (sym is-opened) ends;
  answers = record { reply_is = refl; no_message = refl; state_is = refl };
})

pub worked-making : WorkedMaking
unfolding NfsStep fresh
worked-making = record {
  directory = is-new (codes "d") (Ok (wanted_of 493 (Directory [] 2) no_attributes))
      (λ number object. Err status.Exists) bare_directory nfs_replies.Mkdir (fresh, refl);
  links = ap (λ (l : Option Living). 2 + count_by (λ (e : Entry). is_living_directory l) (d_entry ∷ []))
      (d-lives bare_directory);
  above = not-made _ _ _ _ _ _ _ is-opened refl;
  link = is-new (codes "d") (Ok (wanted_of 511 (Link (codes "x")) no_attributes)) (λ number object. Err status.Exists)
      (new 511 (Link (codes "x"))) nfs_replies.Symlink (fresh, refl);
  empty_link = not-made _ _ _ _ _ _ _ is-opened refl;
  long_link = not-made _ _ _ _ _ _ _ is-opened refl;
  fifo = is-new (codes "d") (wanted_special (special.Fifo no_attributes)) (λ number object. Err status.Exists)
      (new 420 Fifo) nfs_replies.Mknod (fresh, refl);
  device = not-made _ _ _ _ _ _ _ is-opened refl;
  regular = not-made _ _ _ _ _ _ _ is-opened refl;
  long_name = not-made _ _ _ _ _ _ _ is-opened refl;
  no_name = not-made _ _ _ _ _ _ _ is-opened refl;
  there = not-made _ _ _ _ _ _ _ is-written (ap
      (λ (l : Option Living). known {old = with_hi} (create_existing with_hi nobody (guarded (codes "x")).how 5 l))
      x-lives);
  over_directory = not-made _ _ _ _ _ _ _ (is-made bare_directory)
      (ap (λ (l : Option Living). known {old = with_new bare_directory}
      (create_existing (with_new bare_directory) nobody (exclusive (codes "d")).how 5 l))
      (d-lives bare_directory));
}

-- ---- what is taken away
module _ (old : State) (name : List ℕ) (judged_name : List ℕ → Result (Unit {0}) NfsStatus)
    (judged_content : Content → Result (Unit {0}) NfsStatus) where
  abbrev take_object : (directory : Named) → (entries : DirectoryEntries) → Option Named
      → Result (Unit {0} × State) NfsStatus
  take_object directory entries found =
      ok_or found status.NoEntry >>= λ object. judged_content object.object.content >>= λ _.
      let left = with_object old directory.number (with_content directory.object (time 1000 0)
      (Directory (without entries.list name) entries.last_cookie)) in
      Ok (tt, losing_name left (names_of old object.number) (time 1000 0) object.number object.object)

  abbrev take_by : Resolved → Result (Unit {0} × State) NfsStatus
  take_by r =
      object_of r >>= λ directory. entries_in directory.object.content >>= λ entries. judged_name name >>= λ _.
      changeable old.exports directory.object >>= λ _. permitted nobody directory.object ToChange
      >>= λ _. take_object directory entries (object_under old (entry_of entries.list name))

  not-taken : (o : Living) (reply_of : RemovedReply → NfsReply) (e : NfsStatus)
      → resolve old nobody root_bytes ≡ Names 1 o → take_by (Names 1 o) ≡ Err e
      → Ends old (taken_reply old nobody (in_root name) reply_of)
      (take_end old nobody (in_root name) judged_name judged_content) (reply_of (not_removed old e)) [] old
  not-taken o reply_of e named comes =
      let end = ap take_by named ∙ comes in record {
        reply_is = sym (ap (λ end. reply_of
            (record { directory = wcc (state_after old end) (resolve old nobody root_bytes); result = answer_of end }))
            end);
        no_message = refl;
        state_is = sym (ap (state_after old) end);
      }

pub worked-taking : WorkedTaking
unfolding NfsStep
worked-taking = record {
  self = not-taken opened (codes ".") (plain_name_checked status.Invalid status.Exists) removing.empty_directory root
      nfs_replies.Rmdir status.Invalid is-opened refl;
  above = not-taken opened (codes "..") (plain_name_checked status.Invalid status.Exists) removing.empty_directory root
      nfs_replies.Rmdir status.Exists is-opened refl;
  nothing = not-taken opened (codes "d") (plain_name_checked status.Invalid status.Exists) removing.empty_directory root
      nfs_replies.Rmdir status.NoEntry is-opened refl;
  file =
      not-taken with_hi (codes "x") (plain_name_checked status.Invalid status.Exists) removing.empty_directory
      root_with_x nfs_replies.Rmdir status.NotDirectory is-written
      (ap (λ (l : Option Living). take_object with_hi (codes "x") (plain_name_checked status.Invalid status.Exists)
      removing.empty_directory (numbered 1 root_with_x) (entries_with (x_entry ∷ []) 3)
      (option_map (λ (o : Living). numbered 5 o) l)) x-lives);
  remove_self = not-taken opened (codes ".") (plain_name_checked status.Invalid status.Invalid) removing.not_directory
      root nfs_replies.Remove status.Invalid is-opened refl;
  remove_above = not-taken opened (codes "..") (plain_name_checked status.Invalid status.Invalid) removing.not_directory
      root nfs_replies.Remove status.Invalid is-opened refl;
  directory =
      not-taken (with_new bare_directory) (codes "d") (plain_name_checked status.Invalid status.Invalid)
      removing.not_directory root_with_d nfs_replies.Remove status.IsDirectory (is-made bare_directory)
      (ap (λ (l : Option Living). take_object (with_new bare_directory) (codes "d")
      (plain_name_checked status.Invalid status.Invalid) removing.not_directory (numbered 1 root_with_d)
      (entries_with (d_entry ∷ []) 3) (option_map (λ (o : Living). numbered 5 o) l)) (d-lives bare_directory));
}
