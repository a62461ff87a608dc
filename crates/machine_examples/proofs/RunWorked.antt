-- The run and the steps that are worked through: what lives at each number is told by the maps, and the rest computes.
use Rattle.std.proofs.Common.{◌≡◌, ◌==◌, ℕ, ◌≤◌, ◌^◌, Bool, true, false, ◌||◌}
use Rattle.std.proofs.Common.{◌&&◌, cond, nat_le, List, [], ◌∷◌, ◌++◌, Option, Some, None}
use Rattle.std.proofs.Common.{option_map, replicate, Result, Ok, codes, inl, refl, sym, ◌∙◌, ap, subst}
use Rattle.std.proofs.Common.{arith}
use Rattle.std.specs.Prelude.{◌+◌, is_none, nat_lt, not, ok_or}
use Rattle.std.proofs.lemmas.Bool.{leb-true, or_right}
use Rattle.std.specs.FinMap.{get, insert, get-empty}
use Rattle.std.specs.List.{Contains, list_any}
use Rattle.std.specs.Ordering.{nat_cmp}
use Rattle.nfs_xdr.proofs.SpellingLaws.{writing_spells}
use Rattle.nfs_xdr.specs.Reading.{read}
use Rattle.nfs_xdr.specs.Types.{HasSpelling}
use Rattle.nfs_xdr.specs.Writing.{appended, with_arm, with_hyper, with_padded, with_word}
use Rattle.nfs_rpc.specs.Early.{call_of}
use Rattle.nfs_wire.specs.Calls.{arguments_of, arguments_type, procedure_of}
use Rattle.nfs_wire.specs.declared.calls.NfsCall.{NfsCall}
use Rattle.nfs_wire.specs.declared.calls.NfsCall.TheVariants as nfs
use Rattle.nfs_wire.specs.declared.calls.RenameArguments.{RenameArguments}
use Rattle.nfs_wire.specs.declared.calls.Verifier.{Verifier}
use Rattle.nfs_wire.specs.declared.calls.WriteArguments.{WriteArguments}
use Rattle.nfs_wire.specs.declared.entries.FullEntry.{FullEntry}
use Rattle.nfs_wire.specs.declared.replies.NfsReply.{NfsReply}
use Rattle.nfs_wire.specs.declared.replies.NfsReply.TheVariants as nfs_replies
use Rattle.nfs_wire.specs.declared.replies.Written.{Written}
use Rattle.nfs_wire.specs.declared.status.NfsStatus.{NfsStatus}
use Rattle.nfs_wire.specs.declared.status.NfsStatus.TheVariants as status
use Rattle.nfs_machine.specs.Bytes.{same_bytes}
use Rattle.nfs_machine.specs.Answers.{answer_of, state_after}
use Rattle.nfs_machine.specs.Attributes.{attributes_of, entries_of, is_directory, links_of, names_in, names_of}
use Rattle.nfs_machine.specs.Checks.{DirectoryEntries, ◌>>=◌, changeable, entries_in, entry_of, holding}
use Rattle.nfs_machine.specs.Checks.{link_limit, object_of, permitted, plain_name_checked}
use Rattle.nfs_machine.specs.DataSteps.{write_object, verifier_of}
use Rattle.nfs_machine.specs.LinkSteps.{link_end}
use Rattle.nfs_machine.specs.Making.{made, with_entry}
use Rattle.nfs_machine.specs.NameSteps.{create_existing, wanted_file}
use Rattle.nfs_machine.specs.NfsSteps.{NfsStep}
use Rattle.nfs_machine.specs.Pages.{all_entries, behind, fits, fits_full}
use Rattle.nfs_machine.specs.PageSteps.{page_entry}
use Rattle.nfs_machine.specs.Permission.{ToChange, ToList}
use Rattle.nfs_machine.specs.RemoveSteps.{losing_name, not_directory, object_under, without}
use Rattle.nfs_machine.specs.RenameSteps.{rename_end}
use Rattle.nfs_machine.specs.Exports.{LivingExport}
use Rattle.nfs_machine.specs.Resolve.{Named, Resolved, Stale, Names, living_at, named, resolve}
use Rattle.nfs_machine.specs.Readings.{Has, named_in}
use Rattle.nfs_machine.specs.Run.{Asks, Executes}
use Rattle.nfs_machine.specs.Shown.{handle_at, replaced, shown, touched, wcc, with_content, with_object}
use Rattle.nfs_machine.specs.State.{Directory, Entry, Living, State}
use Rattle.nfs_machine.specs.WellFormed.{IsParent, WellFormed}
use Rattle.machine_examples.specs.Worked.{root_bytes, root_handle}
use Rattle.machine_examples.specs.WorkedCreate.{moment, with_writable, writable}
use Rattle.machine_examples.specs.WorkedFiles.{time}
use Rattle.machine_examples.specs.WorkedPages.{seven, zeros}
use Rattle.machine_examples.specs.WorkedReplies.{root}
use Rattle.machine_examples.specs.WorkedRun.{wrote_reply, exported, received, WorkedLeaving, WorkedLinking}
use Rattle.machine_examples.specs.WorkedRun.{WorkedRenaming, WorkedRun}
use Rattle.machine_examples.specs.WorkedRun.{WorkedSteps, WorkedTurns, all_three, argument_bytes, arrives, executed}
use Rattle.machine_examples.specs.WorkedRun.{first_two, nfs_header, in_root, listed_full_reply, listed_reply, listing}
use Rattle.machine_examples.specs.WorkedRun.{linking, listing_full, made_reply, making, miscounted, nobody}
use Rattle.machine_examples.specs.WorkedRun.{opened, left}
use Rattle.machine_examples.specs.WorkedRun.{page_reply, read_only, refused_reply, renamed, renaming}
use Rattle.machine_examples.specs.WorkedRun.{root_after, root_with, root_with_both, root_with_x, setting}
use Rattle.machine_examples.specs.WorkedRun.{with_x, writing}
use Rattle.machine_examples.specs.WorkedRun.{with_hi, x, x_bytes, x_entry, x_written, y_entry}
use Rattle.nfs_machine.specs.declared.calls.Call.TheVariants as calls
use Rattle.nfs_machine.specs.declared.context.Ctx.{Ctx}
use Rattle.nfs_machine.proofs.ChoiceLemmas.{End, EndsAs, Fresh, known, make_new, makes-so}
use Rattle.nfs_machine.specs.RemoveSteps.{remove_end, without_object}
use Rattle.nfs_machine.proofs.MovedNameLemmas.{move_end}
use Rattle.nfs_machine.proofs.OpeningStateLemmas.{only_roots, roots_formed}
use Rattle.nfs_machine.proofs.StepKeepsLemmas.{chains_keep_form}
use Rattle.nfs_machine.proofs.RunChainLemmas.{runs_are_chains}
use Rattle.nfs_machine.proofs.PageLemmas.{PagesOf, fits-shrinks, page-ends, page-stops}
use Rattle.nfs_machine.proofs.MapSumLemmas.{get-inserted, sum-insert_new, sum-insert_old, sum-none}
use Rattle.nfs_machine.proofs.ChecksPassedLemmas.{numbered, entries_with}

-- ---- what lives where
pub root-opened : get opened.objects 1 ≡ Some root
root-opened = get-inserted _ 1 root 1

pub none-opened : get opened.objects 5 ≡ None
none-opened = get-inserted _ 1 root 5 ∙ get-empty nat_cmp 5

root-made : get with_x.objects 1 ≡ Some root_with_x
root-made = get-inserted (insert opened.objects 1 root_with_x) 5 x 1 ∙ get-inserted opened.objects 1 root_with_x 1

x-made : get with_x.objects 5 ≡ Some x
x-made = get-inserted (insert opened.objects 1 root_with_x) 5 x 5

pub root-written : get with_hi.objects 1 ≡ Some root_with_x
root-written = get-inserted with_x.objects 5 x_written 1 ∙ root-made

pub x-lives : get with_hi.objects 5 ≡ Some x_written
x-lives = get-inserted with_x.objects 5 x_written 5

pub root-named : (m : State) → m.exports ≡ writable → (o : Living) → o.generation ≡ 1 → o.export ≡ 1 →
    get m.objects 1 ≡ Some o → resolve m nobody root_bytes ≡ Names 1 o
root-named m exports o generation export at =
    ap (λ es. named (get m.objects) es nobody (Some root_handle)) exports ∙ ap
    (λ (l : Option Living). living_at l root_handle) at ∙ ap
    (λ k. cond ((k == 1) && (o.export == 1)) (Names 1 o) Stale) generation ∙ ap
    (λ k. cond (k == 1) (Names 1 o) Stale) export

pub x-named : (m : State) → m.exports ≡ writable → (o : Living) → o.generation ≡ 1 → o.export ≡ 1 →
    get m.objects 5 ≡ Some o → resolve m nobody x_bytes ≡ Names 5 o
x-named m exports o generation export at =
    ap (λ es. named (get m.objects) es nobody (Some (record root_handle { fileid = 5 }))) exports ∙ ap
    (λ (l : Option Living). living_at l (record root_handle { fileid = 5 })) at ∙ ap
    (λ k. cond ((k == 1) && (o.export == 1)) (Names 5 o) Stale) generation ∙ ap
    (λ k. cond (k == 1) (Names 5 o) Stale) export

-- ---- the calls arrive
asked : (call : NfsCall) → call_of (received call).bytes ≡ Ok (nfs_header call) →
    HasSpelling (arguments_type (procedure_of call)) (arguments_of call) →
    Asks setting (arrives call) nobody (calls.Nfs call)
asked call read form = record {
  header = nfs_header call;
  read = read;
  is_call = (
    refl,
    refl,
    (
      argument_bytes call,
      [],
      sym (append-nil (argument_bytes call)),
      (writing_spells (arguments_type (procedure_of call)) (arguments_of call) form).spelled,
    ),
  );
  made_under = refl;
}
  where
    append-nil : (xs : List ℕ) → xs ++ [] ≡ xs
    append-nil [] = refl
    append-nil (b ∷ xs) = ap (λ ys. b ∷ ys) (append-nil xs)

making-read : call_of (received (nfs.Create making)).bytes ≡ Ok (nfs_header (nfs.Create making))
unfolding call_of read appended with_word with_hyper with_padded with_arm
making-read = refl

writing-read : call_of (received (nfs.Write writing)).bytes ≡ Ok (nfs_header (nfs.Write writing))
unfolding call_of read appended with_word with_hyper with_padded with_arm
writing-read = refl

pub within : (m n : ℕ) → nat_le m n ≡ true → m ≤ n
within = leb-true

making-form : HasSpelling (arguments_type 8) (arguments_of (nfs.Create making))
making-form = (
  ((within 32 64 refl, within 33 (2 ^ 32) refl), (within 1 4294967295 refl, within 2 (2 ^ 32) refl)),
  (
    within 1 (2 ^ 32) refl,
    refl,
    (tt, (tt, (tt, (tt, ((within 1 (2 ^ 32) refl, refl, tt), (within 1 (2 ^ 32) refl, refl, tt)))))),
  ),
)

writing-form : HasSpelling (arguments_type 7) (arguments_of (nfs.Write writing))
writing-form = (
  (within 32 64 refl, within 33 (2 ^ 32) refl),
  (
    within 1 (2 ^ 64) refl,
    (within 3 (2 ^ 32) refl, ((within 3 (2 ^ 32) refl, refl), (within 2 4294967295 refl, within 3 (2 ^ 32) refl))),
  ),
)

-- ---- CREATE
unfoldable pub fresh : Fresh opened
fresh = record {
  choice = record { number = 5; generation = 1; spent = λ n g. ((n == 5) && (g == 1)) || opened.spent n g };
  is_fresh = record {
    number_fits = within 6 (2 ^ 64) refl;
    generation_fits = within 2 (2 ^ 64) refl;
    free = none-opened;
    never_given = refl;
    given = refl;
    kept = λ n g e. or_right ((n == 5) && (g == 1)) (opened.spent n g) e;
  };
}

abbrev create_under : ℕ → Living → List Entry → ℕ → Option Entry → Result (End opened) NfsStatus
create_under number directory entries last e = elim e [
  | Some e ↦ known (create_existing opened nobody making.how e.number (get opened.objects e.number))
  | None ↦ make_new opened nobody making.place.name (wanted_file making.how) number directory entries last
]

abbrev create_by : Resolved → Result (End opened) NfsStatus
create_by r =
    object_of r >>= λ directory. entries_in directory.object.content >>= λ entries. plain_name_checked status.Exists
    status.Exists making.place.name >>= λ _. changeable writable directory.object >>= λ _. permitted nobody
    directory.object
    ToChange
    >>= λ _. create_under directory.number directory.object entries.list entries.last_cookie
    (entry_of entries.list making.place.name)

creates : NfsStep opened nobody (nfs.Create making) made_reply [] with_x
unfolding NfsStep fresh
creates = makes-so (record {
  end = Ok (made with_x nobody 5 x, with_x);
  ends = subst (λ r. EndsAs opened (create_by r) (Ok (made with_x nobody 5 x, with_x)))
      (sym (root-named opened refl root refl refl root-opened)) (fresh, refl);
  answers = record { reply_is = refl; no_message = refl; state_is = refl };
})

-- ---- WRITE
abbrev write_by : WriteArguments → Resolved → Result (Written × State) NfsStatus
write_by a r = object_of r >>= λ file. write_object writable nobody file.object a >>= λ end. Ok
    (end.told, replaced with_x file.number end.after)

writes : NfsStep with_x nobody (nfs.Write writing) wrote_reply [] with_hi
unfolding NfsStep
writes =
    let named = x-named with_x refl x refl refl x-made in record {
      reply_is = sym (ap (λ r. nfs_replies.Write
          (record {
            wcc = wcc (state_after with_x (write_by writing r)) (resolve with_x nobody x_bytes);
            result = answer_of (write_by writing r);
          })) named);
      no_message = refl;
      state_is = sym (ap (λ r. state_after with_x (write_by writing r)) named);
    }

refused : NfsStep with_x nobody (nfs.Write miscounted) refused_reply [] with_x
unfolding NfsStep
refused =
    let named = x-named with_x refl x refl refl x-made in record {
      reply_is = sym (ap (λ r. nfs_replies.Write
          (record {
            wcc = wcc (state_after with_x (write_by miscounted r)) (resolve with_x nobody x_bytes);
            result = answer_of (write_by miscounted r);
          })) named);
      no_message = refl;
      state_is = sym (ap (λ r. state_after with_x (write_by miscounted r)) named);
    }

-- ---- READDIR
abbrev entries_from : (cookie : ℕ) → Verifier → Resolved → Result (List Entry) NfsStatus
entries_from cookie verifier r =
    object_of r >>= λ d. entries_in d.object.content >>= λ entries. permitted nobody d.object ToList >>= λ _. holding
    ((cookie == 0) || same_bytes verifier.bytes (verifier_of nobody).bytes) status.BadCookie >>= λ _. Ok
    (behind cookie (all_entries d.number 1 entries.list))

abbrev entries_by : Resolved → Result (List Entry) NfsStatus
entries_by = entries_from 0 zeros

-- the root is its own parent
root-parent : (m : State) → m.exports ≡ writable → get m.objects 1 ≡ Some root_with_x →
    (number : ℕ) (d : Living) → Names 1 root_with_x ≡ Names number d → IsParent m number 1
root-parent m exports lives number d both =
    (let own : 1 ≡ number = cc in subst (λ k. IsParent m k 1) own
    (record {
      directory = root_with_x;
      lives = lives;
      named_in = inl (refl, ap (list_any (λ (e : LivingExport). e.root == 1)) exports);
    }))

lists : NfsStep with_hi nobody (nfs.Readdir listing) listed_reply [] with_hi
unfolding NfsStep
lists =
    let named = root-named with_hi refl root_with_x refl refl root-written in record {
      parent = 1;
      is_parent = λ number d is kind. root-parent with_hi refl root-written number d (sym named ∙ is);
      page = Ok (record { entries = all_three; eof = true });
      is_page = subst (λ r. PagesOf (fits 65536) (entries_by r) (Ok (record { entries = all_three; eof = true })))
          (sym named) (page-ends (fits 65536) all_three refl);
      answers = record { reply_is = refl; no_message = refl; state_is = refl };
    }

-- ---- READDIRPLUS
abbrev shown-entry : Entry → Option Living → FullEntry
shown-entry e o = record {
  entry = page_entry e;
  attributes = option_map (attributes_of with_hi e.number) o;
  object = option_map (handle_at nobody e.number) o;
}

abbrev shown-reply : Option Living → Option Living → NfsReply
shown-reply r f = nfs_replies.Readdirplus (record {
  attributes = shown with_hi (resolve with_hi nobody root_bytes);
  result = Ok (record {
    verifier = verifier_of nobody;
    entries = shown-entry
        (record { name = codes "."; number = 1; cookie = 1 }) r ∷ shown-entry
        (record { name = codes ".."; number = 1; cookie = 2 }) r ∷ shown-entry x_entry f ∷ [];
    eof = true;
  });
})

lists-full : NfsStep with_hi nobody (nfs.Readdirplus listing_full) listed_full_reply [] with_hi
unfolding NfsStep
lists-full =
    let named = root-named with_hi refl root_with_x refl refl root-written in record {
      parent = 1;
      is_parent = λ number d is kind. root-parent with_hi refl root-written number d (sym named ∙ is);
      page = Ok (record { entries = all_three; eof = true });
      is_page = subst (λ r. PagesOf (fits_full 65536 65536) (entries_by r)
          (Ok (record { entries = all_three; eof = true }))) (sym named)
          (page-ends (fits_full 65536 65536) all_three refl);
      answers = record { reply_is = shown_by root-written x-lives; no_message = refl; state_is = refl };
    }
  where
    shown_by : get with_hi.objects 1 ≡ Some root_with_x → get with_hi.objects 5 ≡ Some x_written
        → listed_full_reply ≡ shown-reply (get with_hi.objects 1) (get with_hi.objects 5)
    shown_by r f = sym (ap (λ l. shown-reply l (get with_hi.objects 5)) r
        ∙ ap (λ l. shown-reply (Some root_with_x) l) f)

-- ---- REMOVE
names-x : names_of with_hi 5 ≡ 1
names-x =
    let none : names_of opened 5 ≡ 0 = sum-none (names_in 5) opened.objects
    (λ q v at. subst (λ (o : Living). names_in 5 o ≡ 0) (only_roots exported moment q v at).0 refl) in
    let free : get (insert opened.objects 1 root_with_x) 5 ≡ None = get-inserted opened.objects 1 root_with_x 5
    ∙ none-opened in
    let one : names_in 5 root_with_x ≡ 1 = refl in
    let of_root : names_in 5 root ≡ 0 = refl in
    let of_x : names_in 5 x ≡ 0 = refl in
    let of_written : names_in 5 x_written ≡ 0 = refl in
    omega (
      arith,
      none,
      one,
      of_root,
      of_x,
      of_written,
      sum-insert_old (names_in 5) opened.objects 1 root root_with_x root-opened,
      sum-insert_new (names_in 5) (insert opened.objects 1 root_with_x) 5 x free,
      sum-insert_old (names_in 5) with_x.objects 5 x x_written x-made,
    )

-- "x" is removed where its locks, and what waits for it, are any
module _ (k : State) where
  abbrev any_locks : State
  any_locks = record k { objects = with_hi.objects; exports = with_hi.exports }

  abbrev gone_of : State
  gone_of = without_object (with_object any_locks 1 root_after) 5

  abbrev take_object : Option Named → Result (Unit {0} × State) NfsStatus
  take_object found =
      ok_or found status.NoEntry >>= λ o. not_directory o.object.content >>= λ _.
      Ok (
        tt,
        losing_name (with_object any_locks 1 root_after) (names_of any_locks o.number) (time 1000 0) o.number
            o.object,
      )

  abbrev take_under : Named → DirectoryEntries → Result (Unit {0} × State) NfsStatus
  take_under directory entries =
      ok_or (object_under any_locks (entry_of entries.list (codes "x"))) status.NoEntry >>= λ o.
      not_directory o.object.content >>= λ _.
      let left = with_object any_locks directory.number
      (with_content directory.object (time 1000 0)
      (Directory (without entries.list (codes "x")) entries.last_cookie)) in
      Ok (tt, losing_name left (names_of any_locks o.number) (time 1000 0) o.number o.object)

  abbrev take_by : Resolved → Result (Unit {0} × State) NfsStatus
  take_by r =
      object_of r >>= λ directory. entries_in directory.object.content >>= λ entries.
      plain_name_checked status.Invalid
      status.Invalid (codes "x") >>= λ _. changeable writable directory.object >>= λ _.
      permitted nobody directory.object
      ToChange
      >>= λ _. take_under directory entries

  taken : remove_end any_locks nobody (in_root (codes "x")) ≡ Ok (tt, gone_of)
  taken =
      ap take_by (root-named any_locks refl root_with_x refl refl root-written)
      ∙ ap (λ (l : Option Living). take_object (option_map (λ (o : Living). numbered 5 o) l)) x-lives
      ∙ ap (λ n. Ok (tt, losing_name (with_object any_locks 1 root_after) n (time 1000 0) 5 x_written)) names-x

  pub takes-of : NfsStep any_locks nobody (nfs.Remove (in_root (codes "x")))
      (nfs_replies.Remove (record { directory = wcc gone_of (resolve any_locks nobody root_bytes); result = Ok tt }))
      [] gone_of
  unfolding NfsStep
  takes-of = record {
    reply_is = sym (ap (λ end. nfs_replies.Remove (record {
      directory = wcc (state_after any_locks end) (resolve any_locks nobody root_bytes);
      result = answer_of end;
    })) taken);
    no_message = refl;
    state_is = sym (ap (state_after any_locks) taken);
  }

executes-create : Executes setting opened (executed (nfs.Create making) made_reply) with_x
executes-create = record {
  ctx = nobody;
  call = calls.Nfs (nfs.Create making);
  asks = asked (nfs.Create making)
      making-read making-form;
  step = creates;
}

executes-write : Executes setting with_x (executed (nfs.Write writing) wrote_reply) with_hi
executes-write = record {
  ctx = nobody;
  call = calls.Nfs (nfs.Write writing);
  asks = asked (nfs.Write writing)
      writing-read writing-form;
  step = writes;
}

pub worked-run : WorkedRun
worked-run = record {
  run = (with_x, executes-create, (with_hi, executes-write, refl));
  hosts = (within 8 255 refl, (within 8 255 refl, tt));
  given = refl;
  first = root-opened;
  last = root-written;
  later = refl;
}

pub worked-steps : WorkedSteps
worked-steps = record { listed = lists; listed_full = lists-full; removes = takes-of with_hi; refuses = refused }

-- ---- LINK
abbrev link_found : State → List ℕ → (file directory : Named) → (entries : DirectoryEntries) → (links : ℕ)
    → Option Entry → Result (Unit {0} × State) NfsStatus
link_found m name file directory entries links found =
    holding (is_none found) status.Exists >>= λ _. holding (nat_lt links link_limit) status.TooManyLinks
    >>= λ _. holding (nat_lt (entries.last_cookie + 1) (2 ^ 64)) status.NoSpace >>= λ _.
    let wider = with_content directory.object (time 1000 0) (with_entry entries.list entries.last_cookie name
    file.number) in
    Ok (tt, with_object (with_object m directory.number wider) file.number (touched file.object (time 1000 0)))

abbrev link_names : State → List ℕ → (file directory : Named) → (entries : DirectoryEntries) → (links : ℕ)
    → Result (Unit {0} × State) NfsStatus
link_names m name file directory entries links = link_found m name file directory entries links
    (entry_of entries.list name)

abbrev link_by : State → List ℕ → (file directory : Resolved) → Result (Unit {0} × State) NfsStatus
link_by m name f d =
    object_of f >>= λ file. object_of d >>= λ directory. holding (file.object.export == directory.object.export)
    status.CrossDevice >>= λ _. holding (not (is_directory file.object.content)) status.Invalid
    >>= λ _. entries_in directory.object.content >>= λ entries. plain_name_checked status.Invalid status.Invalid
    name >>=
    λ _. changeable m.exports directory.object >>= λ _. permitted nobody directory.object ToChange
    >>= λ _. link_names m name file directory entries (links_of m file.number file.object.content)

module _ (k : State) (entries : List Entry) (of_root : get k.objects 1 ≡ Some (root_with entries))
    (of_x : get k.objects 5 ≡ Some x_written) where
  linked-by : (name : List ℕ) →
      link_end (with_writable k) nobody (linking name) ≡ link_by (with_writable k) name (Names 5 x_written)
      (Names 1 (root_with entries))
  linked-by name =
      ap (λ f. link_by (with_writable k) name f (resolve (with_writable k) nobody root_bytes))
      (x-named (with_writable k) refl x_written refl refl of_x)
      ∙ ap (λ d. link_by (with_writable k) name (Names 5 x_written) d)
      (root-named (with_writable k) refl (root_with entries) refl refl of_root)

  read-by : (name : List ℕ) →
      link_end (read_only (with_writable k)) nobody (linking name) ≡ link_by (read_only (with_writable k)) name
      (Names 5 x_written) (Names 1 (root_with entries))
  read-by name =
      ap (λ f. link_by (read_only (with_writable k)) name f (resolve (read_only (with_writable k)) nobody root_bytes))
      (ap (λ (l : Option Living). living_at l (record root_handle { fileid = 5 })) of_x)
      ∙ ap (link_by (read_only (with_writable k)) name (Names 5 x_written))
      (ap (λ (l : Option Living). living_at l root_handle) of_root)

  -- where the name is found so
  linked-where : (name : List ℕ) (found : Option Entry) → entry_of entries name ≡ found → (links : ℕ)
      → link_names (with_writable k) name (numbered 5 x_written) (numbered 1 (root_with entries))
      (entries_with entries 40000) links ≡ link_found
      (with_writable k) name (numbered 5 x_written) (numbered 1 (root_with entries)) (entries_with entries 40000)
      links found
  linked-where name found is links = ap
      (link_found (with_writable k) name (numbered 5 x_written) (numbered 1 (root_with entries))
      (entries_with entries 40000) links) is

  free-name : entry_of entries (codes "y") ≡ None →
      link_end (with_writable k) nobody (linking (codes "y")) ≡ link_found (with_writable k) (codes "y")
      (numbered 5 x_written) (numbered 1 (root_with entries)) (entries_with entries 40000)
      (names_of (with_writable k) 5) None
  free-name none = linked-by (codes "y") ∙ linked-where (codes "y") None none (names_of (with_writable k) 5)

  pub worked-linking : WorkedLinking (with_writable k) entries
  worked-linking = record {
    last = λ none most. free-name none ∙ ap
        (λ links. link_found (with_writable k) (codes "y") (numbered 5 x_written) (numbered 1 (root_with entries))
        (entries_with entries 40000) links None) most;
    full = λ none many. free-name none ∙ ap
        (λ links. link_found (with_writable k) (codes "y") (numbered 5 x_written) (numbered 1 (root_with entries))
        (entries_with entries 40000) links None) many;
    there = λ e found. linked-by (codes "x") ∙ linked-where (codes "x") (Some e) found
        (names_of (with_writable k) 5);
    self = linked-by (codes ".");
    fixed = read-by (codes "x");
    self_fixed = read-by (codes ".");
    directory =
        ap (λ f. link_by (with_writable k) (codes "y") f (resolve (with_writable k) nobody root_bytes))
        (root-named (with_writable k) refl (root_with entries) refl refl of_root)
        ∙ ap (λ d. link_by (with_writable k) (codes "y") (Names 1 (root_with entries)) d)
        (root-named (with_writable k) refl (root_with entries) refl refl of_root);
    into_file =
        ap (λ f. link_by (with_writable k) (codes "y") f (resolve (with_writable k) nobody x_bytes))
        (x-named (with_writable k) refl x_written refl refl of_x)
        ∙ ap (λ d. link_by (with_writable k) (codes "y") (Names 5 x_written) d)
        (x-named (with_writable k) refl x_written refl refl of_x);
  }

-- ---- RENAME
module _ (m : State) (ctx : Ctx) (a : RenameArguments) (is_within : ℕ → ℕ → Bool) where
  abbrev pub move_found : (from to : Named) → (from_entries to_entries : DirectoryEntries) →
      (moved replaced : Option Named) → Result (Unit {0} × State) NfsStatus
  move_found from to from_entries to_entries moved replaced =
      ok_or moved status.NoEntry >>= λ moved. move_end m (time 1000 0) a is_within from to from_entries to_entries
      moved replaced

  abbrev pub move_by : (from to : Resolved) → Result (Unit {0} × State) NfsStatus
  move_by f t =
      object_of f >>= λ from. object_of t >>= λ to. holding (from.object.export == to.object.export) status.CrossDevice
      >>= λ _. entries_in from.object.content >>= λ from_entries. entries_in to.object.content >>= λ to_entries.
      plain_name_checked status.Invalid status.Invalid a.from.name >>= λ _. plain_name_checked status.Invalid
      status.Invalid a.to.name >>= λ _. changeable m.exports from.object >>= λ _. permitted ctx from.object
      ToChange >>= λ
      _.
      permitted ctx to.object ToChange >>= λ _. move_found from to from_entries to_entries
      (object_under m (entry_of from_entries.list a.from.name))
      (object_under m (entry_of to_entries.list a.to.name))

module _ (k : State) (entries : List Entry) (of_root : get k.objects 1 ≡ Some (root_with entries))
    (of_x : get k.objects 5 ≡ Some x_written) (is_within : ℕ → ℕ → Bool) where
  of-nobody : resolve (with_writable k) nobody root_bytes ≡ Names 1 (root_with entries)
  of-nobody = root-named (with_writable k) refl (root_with entries) refl refl of_root

  of-read : resolve (read_only (with_writable k)) nobody root_bytes ≡ Names 1 (root_with entries)
  of-read = ap (λ (l : Option Living). living_at l root_handle) of_root

  of-file : resolve (with_writable k) nobody x_bytes ≡ Names 5 x_written
  of-file = x-named (with_writable k) refl x_written refl refl of_x

  in-root : (a : RenameArguments) → a.from.directory ≡ root_bytes → a.to.directory ≡ root_bytes →
      rename_end (with_writable k) nobody a is_within ≡ move_by (with_writable k) nobody a is_within
      (Names 1 (root_with entries))
      (Names 1 (root_with entries))
  in-root a from to =
      ap (λ f. move_by (with_writable k) nobody a is_within f (resolve (with_writable k) nobody a.to.directory))
      (ap (resolve (with_writable k) nobody) from ∙ of-nobody)
      ∙ ap (move_by (with_writable k) nobody a is_within (Names 1 (root_with entries)))
      (ap (resolve (with_writable k) nobody) to ∙ of-nobody)

  under-read : (a : RenameArguments) → a.from.directory ≡ root_bytes → a.to.directory ≡ root_bytes →
      rename_end (read_only (with_writable k)) nobody a is_within ≡ move_by (read_only (with_writable k)) nobody a
      is_within
      (Names 1 (root_with entries)) (Names 1 (root_with entries))
  under-read a from to =
      ap (λ f. move_by (read_only (with_writable k)) nobody a is_within f
      (resolve (read_only (with_writable k)) nobody a.to.directory))
      (ap (resolve (read_only (with_writable k)) nobody) from ∙ of-read)
      ∙ ap (move_by (read_only (with_writable k)) nobody a is_within (Names 1 (root_with entries)))
      (ap (resolve (read_only (with_writable k)) nobody) to ∙ of-read)

  abbrev x_to_y : RenameArguments
  x_to_y = renaming (codes "x") (codes "y")

  abbrev found_so : (moved replaced : Option Named) → Result (Unit {0} × State) NfsStatus
  found_so = move_found (with_writable k) nobody x_to_y is_within (numbered 1 (root_with entries))
      (numbered 1 (root_with entries))
      (entries_with entries 40000)
      (entries_with entries 40000)

  -- where both names are found so
  where-found : (from to : Option Entry) → entry_of entries (codes "x") ≡ from →
      entry_of entries (codes "y") ≡ to →
      rename_end (with_writable k) nobody x_to_y is_within ≡ found_so (object_under (with_writable k) from)
      (object_under (with_writable k) to)
  where-found from to is_from is_to =
      in-root x_to_y refl refl ∙ ap
      (λ e. found_so (object_under (with_writable k) e)
      (object_under (with_writable k) (entry_of entries (codes "y")))) is_from ∙ ap
      (λ e. found_so (object_under (with_writable k) from) (object_under (with_writable k) e)) is_to

  pub worked-renaming : WorkedRenaming (with_writable k) entries is_within
  worked-renaming = record {
    self = under-read (renaming (codes ".") (replicate 256 120)) refl refl;
    above = in-root (renaming (codes "x") (codes "..")) refl refl;
    long = in-root (renaming (codes "x") (replicate 256 120)) refl refl;
    fixed = under-read x_to_y refl refl;
    nothing = λ none. where-found None (entry_of entries (codes "y")) none refl;
    from_file =
        ap (λ f. move_by (with_writable k) nobody
        (record { from = record { directory = x_bytes; name = codes "x" }; to = in_root (codes "y") }) is_within f
        (resolve (with_writable k) nobody root_bytes)) of-file
        ∙ ap (move_by (with_writable k) nobody
        (record { from = record { directory = x_bytes; name = codes "x" }; to = in_root (codes "y") }) is_within
        (Names 5 x_written)) of-nobody;
    into_file =
        ap (λ f. move_by (with_writable k) nobody
        (record { from = in_root (codes "x"); to = record { directory = x_bytes; name = codes "y" } }) is_within f
        (resolve (with_writable k) nobody x_bytes)) of-nobody
        ∙ ap (move_by (with_writable k) nobody
        (record { from = in_root (codes "x"); to = record { directory = x_bytes; name = codes "y" } }) is_within
        (Names 1 (root_with entries))) of-file;
    moves = λ cookie found none outside.
        where-found (Some (record { name = codes "x"; number = 5; cookie = cookie })) None found none
        ∙ ap (λ (l : Option Living). found_so (option_map (λ (o : Living). numbered 5 o) l) None) of_x
        ∙ ap (λ b. holding (not b) status.Invalid >>= λ _. Ok (tt, renamed (with_writable k) entries)) outside;
    both = λ cookie other found too.
        where-found (Some (record { name = codes "x"; number = 5; cookie = cookie }))
        (Some (record { name = codes "y"; number = 5; cookie = other })) found too
        ∙ ap (λ (l : Option Living). found_so (option_map (λ (o : Living). numbered 5 o) l)
        (option_map (λ (o : Living). numbered 5 o) l)) of_x;
  }

-- ---- REMOVE of one of two names
abbrev leave_object : State → Named → DirectoryEntries → Option Named → Result (Unit {0} × State) NfsStatus
leave_object m directory entries found =
    ok_or found status.NoEntry >>= λ o. not_directory o.object.content >>= λ _.
    let left = with_object m directory.number (with_content directory.object (time 1000 0)
    (Directory (without entries.list (codes "x")) entries.last_cookie)) in
    Ok (tt, losing_name left (names_of m o.number) (time 1000 0) o.number o.object)

abbrev leave_by : State → Resolved → Result (Unit {0} × State) NfsStatus
leave_by m r =
    object_of r >>= λ directory. entries_in directory.object.content >>= λ entries. plain_name_checked status.Invalid
    status.Invalid (codes "x") >>= λ _. changeable writable directory.object >>= λ _. permitted nobody directory.object
    ToChange
    >>= λ _. leave_object m directory entries (object_under m (entry_of entries.list (codes "x")))

pub worked-leaving : WorkedLeaving
unfolding NfsStep
worked-leaving k of_root of_x two = record {
  reply_is = sym (ap (λ end. nfs_replies.Remove
      (record {
        directory = wcc (state_after (with_writable k) end) (resolve (with_writable k) nobody root_bytes);
        result = answer_of end;
      })) taken);
  no_message = refl;
  state_is = sym (ap (state_after (with_writable k)) taken);
}
  where
    taken : remove_end (with_writable k) nobody (in_root (codes "x")) ≡ Ok (tt, left (with_writable k))
    taken =
        ap (leave_by (with_writable k)) (root-named (with_writable k) refl root_with_both refl refl of_root)
        ∙ ap (λ (l : Option Living). leave_object (with_writable k) (numbered 1 root_with_both)
        (entries_with (x_entry ∷ y_entry ∷ []) 4) (option_map (λ (o : Living). numbered 5 o) l)) of_x
        ∙ ap (λ n. Ok (
          tt,
          losing_name
              (with_object (with_writable k) 1
              (with_content root_with_both (time 1000 0) (Directory (y_entry ∷ []) 4)))
              n (time 1000 0) 5 x_written,
        )) two

-- ---- a reading of the root
-- a page of it, where "x" is its only name
lists-page : (m : State) → m.exports ≡ writable → get m.objects 1 ≡ Some root_with_x →
    (cookie : ℕ) (verifier : Verifier) (count : ℕ) (page : List Entry) (eof : Bool)
    → PagesOf (fits count) (entries_from cookie verifier (Names 1 root_with_x))
    (Ok (record { entries = page; eof = eof }))
    → NfsStep m nobody (nfs.Readdir
    (record { directory = root_bytes; cookie = cookie; verifier = verifier; count = count }))
    (page_reply m page eof) [] m
unfolding NfsStep
lists-page m exports lives cookie verifier count page eof is_page =
    let named = root-named m exports root_with_x refl refl lives in record {
      parent = 1;
      is_parent = λ number d is kind. root-parent m exports lives number d (sym named ∙ is);
      page = Ok (record { entries = page; eof = eof });
      is_page = subst (λ r. PagesOf (fits count) (entries_from cookie verifier r)
          (Ok (record { entries = page; eof = eof }))) (sym named) is_page;
      answers = record { reply_is = refl; no_message = refl; state_is = refl };
    }

-- "x" is one of its names
has-x : (m : State) → m.exports ≡ writable → get m.objects 1 ≡ Some root_with_x →
    Has m nobody root_bytes x_entry
has-x m exports lives number object entries last parent names content is_parent =
    let same : root_with_x ≡ object = (let named = root-named m exports root_with_x refl refl lives in cc) in
    let whole : x_entry ∷ [] ≡ entries = (let shows : Directory (x_entry ∷ []) 3 ≡ Directory entries last = ap
    (λ (o : Living). o.content) same ∙ content in cc) in
    subst (λ es. Contains (all_entries number parent es) x_entry) whole (2, within 3 3 refl, refl)

-- and so is "."
has-self : (m : State) → m.exports ≡ writable → get m.objects 1 ≡ Some root_with_x →
    Has m nobody root_bytes (record { name = codes "."; number = 1; cookie = 1 })
has-self m exports lives number object entries last parent names content is_parent =
    let own : 1 ≡ number = (let named = root-named m exports root_with_x refl refl lives in cc) in
    subst (λ k. Contains (all_entries k parent entries) (record { name = codes "."; number = 1; cookie = 1 })) own
    (0, omega arith, refl)

leads-x : (m : State) → get m.objects 1 ≡ Some root_with_x → named_in m 1 (codes "x") ≡ Some 5
leads-x m lives =
    ap (λ (l : Option Living). elim l as (λ (_ : Option Living). Option ℕ) [
      | None ↦ None
      | Some o ↦ option_map (λ (e : Entry). e.number) (entry_of (entries_of o.content) (codes "x"))
    ]) lives

with-x-formed : WellFormed with_x
with-x-formed =
    let c = runs_are_chains setting opened with_x (executed (nfs.Create making) made_reply ∷ [])
    (with_x, executes-create, refl) in
    chains_keep_form opened with_x c.0 c.1 (roots_formed exported moment (within 1 64 refl) (tt, tt))

pub worked-turns : WorkedTurns
worked-turns = record {
  formed = with-x-formed;
  chain = (
    with_x,
    lists-page with_x refl root-made 0 zeros 160 first_two false first-page,
    (
      with_hi,
      writes,
      (with_hi, lists-page with_hi refl root-written 2 seven 65536 (x_entry ∷ []) true second-page, refl),
    ),
  );
  reads = (record { from = refl; shows = refl }, record { from = refl; shows = refl });
  stays = (has-x with_x refl root-made, (has-x with_hi refl root-written, tt));
  name_stays = (
    leads-x with_x root-made,
    (leads-x with_x root-made, (leads-x with_hi root-written, leads-x with_hi root-written)),
  );
  self_stays = (has-self with_x refl root-made, (has-self with_hi refl root-written, tt));
}
  where
    first-page : PagesOf (fits 160) (entries_from 0 zeros (Names 1 root_with_x))
        (Ok (record { entries = first_two; eof = false }))
    first-page = page-stops (fits 160) (fits-shrinks 160) _ _ x_entry [] refl refl

    second-page : PagesOf (fits 65536) (entries_from 2 seven (Names 1 root_with_x))
        (Ok (record { entries = x_entry ∷ []; eof = true }))
    second-page = page-ends (fits 65536) (x_entry ∷ []) refl
