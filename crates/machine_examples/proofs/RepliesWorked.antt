-- Whole replies from states of which only what lives at one number is known.
use Rattle.std.proofs.Common.{
  ◌≡◌,
  ◌||◌,
  ◌==◌,
  ℕ,
  List,
  [],
  ◌∷◌,
  take,
  Option,
  Some,
  None,
  option_map,
  Result,
  Ok,
  Err,
  refl,
  sym,
  ◌∙◌,
  ap,
}
use Rattle.std.specs.FinMap.{values}
use Rattle.nfs_wire.specs.declared.attributes.Attributes.{Attributes}
use Rattle.nfs_wire.specs.declared.calls.SetattrArguments.{SetattrArguments}
use Rattle.nfs_wire.specs.declared.replies.NfsReply.{NfsReply}
use Rattle.nfs_wire.specs.declared.replies.NfsReply.TheVariants as replies
use Rattle.nfs_wire.specs.declared.replies.Space.{Space}
use Rattle.nfs_wire.specs.declared.calls.NfsCall.TheVariants as calls
use Rattle.nfs_wire.specs.declared.status.NfsStatus.{NfsStatus}
use Rattle.nfs_wire.specs.declared.status.NfsStatus.TheVariants as status
use Rattle.nfs_machine.proofs.MapSumLemmas.{get-inserted}
use Rattle.nfs_machine.proofs.WellFormedLemmas.{replaced-names}
use Rattle.nfs_machine.specs.Attributes.{attributes_of}
use Rattle.nfs_machine.specs.AttributeSteps.{granted, set_object}
use Rattle.nfs_machine.specs.Answers.{answer_of, state_after}
use Rattle.nfs_machine.specs.Checks.{◌>>=◌, bytes_in, object_of, text_in, entries_in, holding, permitted}
use Rattle.nfs_machine.specs.DataSteps.{verifier_of}
use Rattle.nfs_machine.specs.FileSystemSteps.{file_system, path_limits, space_left}
use Rattle.nfs_machine.specs.NfsSteps.{NfsStep}
use Rattle.nfs_machine.specs.Bytes.{same_bytes}
use Rattle.nfs_machine.specs.Pages.{all_entries, behind}
use Rattle.nfs_machine.specs.PageSteps.{entries_left}
use Rattle.nfs_machine.specs.Permission.{ToList}
use Rattle.machine_examples.specs.WorkedPages.{seven, zeros}
use Rattle.nfs_wire.specs.declared.calls.Verifier.{Verifier}
use Rattle.nfs_machine.specs.Resolve.{Resolved, Names, living_at, resolve}
use Rattle.nfs_machine.specs.Shown.{attributes_at, shown, wcc, weak, with_object}
use Rattle.nfs_machine.specs.State.{Entry, Living, State}
use Rattle.machine_examples.specs.Worked.{root_bytes}
use Rattle.machine_examples.specs.WorkedCreate.{called_as, with_writable}
use Rattle.machine_examples.specs.WorkedFiles.{time}
use Rattle.machine_examples.specs.WorkedReplies.{IsReplied, HasFile, HasRootAlone, file_before, file_bytes, file_shown}
use Rattle.machine_examples.specs.WorkedReplies.{known_file, root, root_shown, setting_mode, with_room}
use Rattle.nfs_machine.specs.declared.context.Ctx.{Ctx}

-- the replies as functions of what the handle names
abbrev set_from : State → Ctx → SetattrArguments → Resolved → Result (Unit {0} × State) NfsStatus
set_from m ctx a r = object_of r >>= λ o. set_object m.exports ctx o.object a >>= λ x. Ok (tt, with_object m o.number x)

abbrev setattr_by : State → Ctx → SetattrArguments → Resolved → NfsReply
setattr_by m ctx a r = replies.Setattr
    (record { wcc = wcc (state_after m (set_from m ctx a r)) r; result = answer_of (set_from m ctx a r) })

abbrev access_by : State → Ctx → ℕ → Resolved → NfsReply
access_by m ctx asked r = replies.Access
    (record { attributes = shown m r; result = object_of r >>= λ o. Ok (granted m.exports ctx o.object asked) })

abbrev commit_by : State → Ctx → Resolved → NfsReply
commit_by m ctx r = replies.Commit
    (record {
      wcc = wcc m r;
      result = object_of r >>= λ file. bytes_in file.object.content >>= λ bytes. Ok
          (verifier_of ctx);
    })

abbrev pathconf_by : State → Resolved → NfsReply
pathconf_by m r = replies.Pathconf (record { attributes = shown m r; result = object_of r >>= λ o. Ok path_limits })

abbrev readlink_by : State → Resolved → NfsReply
readlink_by m r = replies.Readlink
    (record { attributes = shown m r; result = object_of r >>= λ o. text_in o.object.content })

abbrev fsinfo_by : State → Resolved → NfsReply
fsinfo_by m r = replies.Fsinfo (record { attributes = shown m r; result = object_of r >>= λ o. Ok file_system })

abbrev fsstat_by : State → ℕ → List Living → Resolved → NfsReply
fsstat_by m total objects r = replies.Fsstat
    (record { attributes = shown m r; result = object_of r >>= λ o. Ok (space_left total objects o.object.export) })

module _ (k : State) (has : HasFile k) where
  named : (uid : ℕ) → resolve (with_writable k) (called_as uid) file_bytes ≡ Names 2 known_file
  named uid = ap (λ (x : Option Living). living_at x (record { export = 1; start = 7; fileid = 2; generation = 4 }))
      has.lives

  at : attributes_at (with_writable k) 2 ≡ Some (file_shown 420 (time 1000 1))
  at = ap (option_map (attributes_of (with_writable k) 2)) has.lives ∙ ap
      (λ n. Some (record (file_shown 420 (time 1000 1)) { links = n })) has.named_once

  abbrev set_file : Living
  set_file = record known_file { mode = 384; changed = time 1000 2 }

  abbrev after : State
  after = with_object (with_writable k) 2 set_file

  set-at : attributes_at after 2 ≡ Some (file_shown 384 (time 1000 2))
  set-at =
      ap (option_map (attributes_of after 2)) (get-inserted (with_writable k).objects 2 set_file 2)
      ∙ ap (λ n. Some (record (file_shown 384 (time 1000 2)) { links = n }))
      (replaced-names (with_writable k) 2 known_file set_file has.lives
      (record { export = refl; generation = refl; kind = refl; content = λ is. refl }) 2 ∙ has.named_once)

  pub guarded : IsReplied (with_writable k) (called_as 0) (calls.Setattr (setting_mode (time 1000 0)))
      (replies.Setattr (record {
        wcc = record { before = Some file_before; after = Some (file_shown 420 (time 1000 1)) };
        result = Err status.NotSynchronized;
      }))
  unfolding NfsStep
  guarded = record {
    reply_is = sym (
        ap (setattr_by (with_writable k) (called_as 0) (setting_mode (time 1000 0))) (named 0)
        ∙ ap (λ (x : Option Attributes). replies.Setattr
        (record { wcc = record { before = Some file_before; after = x }; result = Err status.NotSynchronized }))
        at);
    no_message = refl;
    state_is = sym (ap (λ r. state_after (with_writable k)
        (set_from (with_writable k) (called_as 0) (setting_mode (time 1000 0)) r)) (named 0));
  }

  pub set : NfsStep (with_writable k) (called_as 0) (calls.Setattr (setting_mode (time 1000 1)))
      (replies.Setattr (record
      { wcc = record { before = Some file_before; after = Some (file_shown 384 (time 1000 2)) }; result = Ok tt })) []
      after
  unfolding NfsStep
  set = record {
    reply_is = sym (
        ap (setattr_by (with_writable k) (called_as 0) (setting_mode (time 1000 1))) (named 0)
        ∙ ap (λ (x : Option Attributes). replies.Setattr
        (record { wcc = record { before = Some file_before; after = x }; result = Ok tt })) set-at);
    no_message = refl;
    state_is = sym (ap (λ r. state_after (with_writable k)
        (set_from (with_writable k) (called_as 0) (setting_mode (time 1000 1)) r)) (named 0));
  }

  pub access : IsReplied (with_writable k) (called_as 5) (calls.Access (record { object = file_bytes; rights = 63 }))
      (replies.Access (record { attributes = Some (file_shown 420 (time 1000 1)); result = Ok 1 }))
  unfolding NfsStep
  access = record {
    reply_is = sym (ap (access_by (with_writable k) (called_as 5) 63) (named 5) ∙ ap
        (λ (x : Option Attributes). replies.Access (record { attributes = x; result = Ok 1 })) at);
    no_message = refl;
    state_is = refl;
  }

  pub no_link : IsReplied (with_writable k) (called_as 0) (calls.Readlink file_bytes)
      (replies.Readlink (record { attributes = Some (file_shown 420 (time 1000 1)); result = Err status.Invalid }))
  unfolding NfsStep
  no_link = record {
    reply_is = sym (ap (readlink_by (with_writable k)) (named 0) ∙ ap
        (λ (x : Option Attributes). replies.Readlink (record { attributes = x; result = Err status.Invalid })) at);
    no_message = refl;
    state_is = refl;
  }

  pub committed : IsReplied (with_writable k) (called_as 5)
      (calls.Commit (record { file = file_bytes; offset = 0; count = 0 })) (replies.Commit (record {
        wcc = record { before = Some file_before; after = Some (file_shown 420 (time 1000 1)) };
        result = Ok (verifier_of (called_as 5));
      }))
  unfolding NfsStep
  committed = record {
    reply_is = sym (
        ap (commit_by (with_writable k) (called_as 5)) (named 5)
        ∙ ap (λ (x : Option Attributes). replies.Commit
        (record { wcc = record { before = Some file_before; after = x }; result = Ok (verifier_of (called_as 5)) }))
        at);
    no_message = refl;
    state_is = refl;
  }

  pub limits : IsReplied (with_writable k) (called_as 0) (calls.Pathconf file_bytes)
      (replies.Pathconf (record { attributes = Some (file_shown 420 (time 1000 1)); result = Ok path_limits }))
  unfolding NfsStep
  limits = record {
    reply_is = sym (ap (pathconf_by (with_writable k)) (named 0) ∙ ap
        (λ (x : Option Attributes). replies.Pathconf (record { attributes = x; result = Ok path_limits })) at);
    no_message = refl;
    state_is = refl;
  }

pub bad_handle : (m : State) →
    IsReplied (with_writable m) (called_as 0) (calls.Fsinfo (take 31 file_bytes))
    (replies.Fsinfo (record { attributes = None; result = Err status.BadHandle }))
unfolding NfsStep
bad_handle m = record { reply_is = refl; no_message = refl; state_is = refl }

module _ (k : State) (has : HasRootAlone k) where
  root-named : (bytes : ℕ) → resolve (with_writable k) (with_room bytes) root_bytes ≡ Names 1 root
  root-named bytes = ap
      (λ (x : Option Living). living_at x (record { export = 1; start = 7; fileid = 1; generation = 1 })) has.lives

  root-at : attributes_at (with_writable k) 1 ≡ Some root_shown
  root-at = ap (option_map (attributes_of (with_writable k) 1)) has.lives

  abbrev fresh : Space
  fresh = space_left 1099511627776 (root ∷ []) 1

  pub space : IsReplied (with_writable k) (with_room 1099511627776) (calls.Fsstat root_bytes)
      (replies.Fsstat (record { attributes = Some root_shown; result = Ok fresh }))
  unfolding NfsStep
  space = record {
    reply_is = sym (
        ap (fsstat_by (with_writable k) 1099511627776 (values (with_writable k).objects)) (root-named 1099511627776)
        ∙ ap (λ (x : Option Attributes). replies.Fsstat
        (record { attributes = x; result = Ok (space_left 1099511627776 (values (with_writable k).objects) 1) }))
        root-at
        ∙ ap (λ (os : List Living). replies.Fsstat
        (record { attributes = Some root_shown; result = Ok (space_left 1099511627776 os 1) })) has.alone);
    no_message = refl;
    state_is = refl;
  }

  pub system : IsReplied (with_writable k) (called_as 0) (calls.Fsinfo root_bytes)
      (replies.Fsinfo (record { attributes = Some root_shown; result = Ok file_system }))
  unfolding NfsStep
  system = record {
    reply_is = sym (ap (fsinfo_by (with_writable k)) (root-named 0) ∙ ap
        (λ (x : Option Attributes). replies.Fsinfo (record { attributes = x; result = Ok file_system })) root-at);
    no_message = refl;
    state_is = refl;
  }

  pub no_file : IsReplied (with_writable k) (called_as 0)
      (calls.Commit (record { file = root_bytes; offset = 0; count = 0 }))
      (replies.Commit (record
      { wcc = record { before = Some (weak root); after = Some root_shown }; result = Err status.Invalid }))
  unfolding NfsStep
  no_file = record {
    reply_is = sym (
        ap (commit_by (with_writable k) (called_as 0)) (root-named 0)
        ∙ ap (λ (x : Option Attributes). replies.Commit
        (record { wcc = record { before = Some (weak root); after = x }; result = Err status.Invalid })) root-at);
    no_message = refl;
    state_is = refl;
  }

  -- what is left of the root behind a cookie
  abbrev left_by : ℕ → Verifier → Resolved → Result (List Entry) NfsStatus
  left_by cookie verifier r = do
    d ← object_of r
    entries ← entries_in d.object.content
    _ ← permitted (called_as 0) d.object ToList
    _ ← holding ((cookie == 0) || same_bytes verifier.bytes (verifier_of (called_as 0)).bytes) status.BadCookie
    Ok (behind cookie (all_entries d.number 1 entries.list))

  pub first_cookie : entries_left (with_writable k) (called_as 0) root_bytes 0 zeros 1 ≡ Ok (all_entries 1 1 [])
  first_cookie = ap (left_by 0 zeros) (root-named 0)

  pub other_cookie : entries_left (with_writable k) (called_as 0) root_bytes 4 zeros 1 ≡ Err status.BadCookie
  other_cookie = ap (left_by 4 zeros) (root-named 0)

  pub good_cookie : entries_left (with_writable k) (called_as 0) root_bytes 4 seven 1 ≡ Ok []
  good_cookie = ap (left_by 4 seven) (root-named 0)
