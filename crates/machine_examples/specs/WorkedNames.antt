-- Calls on names worked through by hand: MKDIR, SYMLINK, MKNOD, REMOVE, RMDIR, RENAME and LINK (RFC 1813, 3.3.9 to
-- 3.3.15).
use Rattle.std.specs.Prelude.{◌≡◌, ℕ, ℤ, Bool, true, false, List, [], ◌∷◌, ◌++◌, Option, Some, None}
use Rattle.std.specs.Prelude.{Result, Ok, Err, codes, replicate, is_none}
use Rattle.std.specs.FinMap.{FinMap, empty, get, insert}
use Rattle.std.specs.Ordering.{nat_cmp}
use Rattle.nfs_wire.specs.declared.attributes.DeviceNumber.{DeviceNumber}
use Rattle.nfs_wire.specs.declared.calls.Ordinary.TheVariants as ordinary
use Rattle.nfs_wire.specs.declared.calls.RenameArguments.{RenameArguments}
use Rattle.nfs_wire.specs.declared.calls.Special.TheVariants.{BlockDevice, Fifo, Other}
use Rattle.nfs_wire.specs.declared.status.NfsStatus.{NfsStatus}
use Rattle.nfs_wire.specs.declared.status.NfsStatus.TheVariants as status
use Rattle.side_wire.specs.declared.message.NlmLock.{NlmLock}
use Rattle.side_wire.specs.declared.nlm.ShareAccess.TheVariants as access
use Rattle.side_wire.specs.declared.nlm.ShareMode.TheVariants as mode
use Rattle.nfs_machine.specs.Attributes.{is_directory, links_of, names_in, names_of}
use Rattle.nfs_machine.specs.Checks.{plain_name_checked, entry_of}
use Rattle.nfs_machine.specs.FileLists.{with_list}
use Rattle.nfs_machine.specs.MakeSteps.{wanted_of, wanted_special}
use Rattle.nfs_machine.specs.Making.{Wanted, given_attributes, kind_checked, new_object}
use Rattle.nfs_machine.specs.Refusal.{no_wcc}
use Rattle.nfs_machine.specs.RemoveSteps.{empty_directory, losing_name, not_directory, object_under, without}
use Rattle.nfs_machine.specs.RemoveSteps.{without_object}
use Rattle.nfs_machine.specs.RenameSteps.{IsWithin, TellsWithin, is_compatible, rename_end}
use Rattle.nfs_machine.specs.Resolve.{Named, Stale, Names, resolve}
use Rattle.nfs_machine.specs.Shown.{after_first, touched, wcc, with_content, with_object}
use Rattle.nfs_machine.specs.State.{Content, Regular, Directory, Link, Entry, Living, Lock, PendingGrant, Request}
use Rattle.nfs_machine.specs.State.{octal, Share, State}
use Rattle.nfs_machine.specs.State as state
use Rattle.machine_examples.specs.Worked.{object}
use Rattle.machine_examples.specs.WorkedCreate.{called_as, no_attributes, sized, with_writable}
use Rattle.machine_examples.specs.WorkedFiles.{time}

-- "." and ".." are there in every directory, and never go or move
pub record WorkedSpecialNames : Type 0 where
  pub made_above : plain_name_checked status.Exists status.Exists (codes "..") ≡ Err status.Exists
  pub made_long : plain_name_checked status.Exists status.Exists (replicate 256 120) ≡ Err status.NameTooLong
  pub made_empty : plain_name_checked status.Exists status.Exists [] ≡ Err status.Access
  pub old_self : plain_name_checked status.Invalid status.Invalid (codes ".") ≡ Err status.Invalid
  pub old_above : plain_name_checked status.Invalid status.Invalid (codes "..") ≡ Err status.Invalid
  pub old_plain : plain_name_checked status.Invalid status.Invalid (codes "x") ≡ Ok tt
  pub old_longest : plain_name_checked status.Invalid status.Invalid (replicate 255 120) ≡ Ok tt
  pub old_long : plain_name_checked status.Invalid status.Invalid (replicate 256 120) ≡ Err status.NameTooLong
  pub old_slash : plain_name_checked status.Invalid status.Invalid (codes "a/b") ≡ Err status.Access
  pub rmdir_self : plain_name_checked status.Invalid status.Exists (codes ".") ≡ Err status.Invalid
  pub rmdir_above : plain_name_checked status.Invalid status.Exists (codes "..") ≡ Err status.Exists
  pub rmdir_plain : plain_name_checked status.Invalid status.Exists (codes "x") ≡ Ok tt
  pub rmdir_long : plain_name_checked status.Invalid status.Exists (replicate 256 120) ≡ Err status.NameTooLong

abbrev pub disk : DeviceNumber
disk = record { major = 8; minor = 1 }

-- the object that uid 9 makes where this is wanted
abbrev pub made_by : Wanted → Living
made_by wanted = new_object (called_as 9) 1 4 wanted

-- what MKDIR, SYMLINK and MKNOD make, and what they refuse
pub record WorkedMakes : Type 0 where
  pub regular : wanted_special (Other ordinary.Regular) ≡ Err status.BadType
  pub directory : wanted_special (Other ordinary.Directory) ≡ Err status.BadType
  pub link : wanted_special (Other ordinary.Link) ≡ Err status.BadType
  pub block_by_user : kind_checked (called_as 1) 2 (state.BlockDevice disk) ≡ Err status.Permission
  pub character_by_user : kind_checked (called_as 1) 2 (state.CharacterDevice disk) ≡ Err status.Permission
  pub block_by_root : kind_checked (called_as 0) 2 (state.BlockDevice disk) ≡ Ok tt
  pub fifo_by_user : kind_checked (called_as 1) 2 state.Fifo ≡ Ok tt
  pub socket_by_user : kind_checked (called_as 1) 2 state.Socket ≡ Ok tt
  pub fifo : wanted_special (Fifo no_attributes) ≡ Ok
      (record { mode = octal 6 4 4; content = state.Fifo; attributes = no_attributes; verifier = None })
  pub device : wanted_special (BlockDevice no_attributes disk) ≡ Ok
      (record { mode = octal 6 4 4; content = state.BlockDevice disk; attributes = no_attributes; verifier = None })
  pub empty_text : kind_checked (called_as 9) 2 (Link []) ≡ Err status.Invalid
  pub nul_in_text : kind_checked (called_as 9) 2 (Link (97 ∷ 0 ∷ [])) ≡ Err status.Invalid
  pub plain_text : kind_checked (called_as 9) 2 (Link (codes "../a")) ≡ Ok tt
  pub longest_text : kind_checked (called_as 9) 2 (Link (replicate 4096 97)) ≡ Ok tt
  pub longer_text : kind_checked (called_as 9) 2 (Link (replicate 4097 97)) ≡ Err status.NameTooLong
  pub longer_with_nul : kind_checked (called_as 9) 2 (Link (replicate 4097 97 ++ 0 ∷ [])) ≡ Err status.Invalid
  pub new_directory : made_by (wanted_of (octal 7 5 5) (Directory [] 2) no_attributes) ≡ record
      (object (octal 7 5 5) (Directory [] 2)) {
        generation = 4;
        uid = 9;
        gid = 9;
        accessed = time 1000 0;
        modified = time 1000 0;
        changed = time 1000 0;
      }
  pub link_mode : (made_by (wanted_of (octal 7 7 7) (Link (codes "a")) no_attributes)).mode ≡ octal 7 7 7
  -- a size is for regular files alone
  pub no_size : given_attributes (called_as 9) (wanted_of (octal 7 5 5) (Directory [] 2) (sized 1073741825)).attributes
      ≡ Ok tt

abbrev pub first_entry : Entry
first_entry = record { name = codes "a"; number = 4; cookie = 3 }

abbrev pub second_entry : Entry
second_entry = record { name = codes "b"; number = 5; cookie = 7 }

abbrev pub both_entries : List Entry
both_entries = first_entry ∷ second_entry ∷ []

-- a lock of one byte of a file
abbrev pub lock_of : ℤ → Lock
lock_of process = record {
  range = record {
    owner = record { caller_name = codes "c"; owner = codes "o"; process = process };
    first = 0;
    last = 0;
  };
  exclusive = true;
}

-- a share of it, a request for a lock of it, and one of a file that was granted
abbrev pub a_share : Share
a_share = record { caller_name = codes "c"; owner = codes "o"; mode = mode.DenyNone; access = access.Read }

abbrev pub request_of : NlmLock → Request
request_of lock = record
    { number = 1; host = codes "h"; exclusive = true; asked = lock; by_message = false }

abbrev pub grant_of : NlmLock → ℕ → PendingGrant
grant_of lock file = record { file = file; request = request_of lock }

-- what the fifth file has, and what the fourth has beside it
abbrev pub of_5 : {A : Type 0} → A → FinMap nat_cmp (List A)
of_5 x = with_list empty 5 (x ∷ [])

abbrev pub of_4_and_5 : {A : Type 0} → A → FinMap nat_cmp (List A)
of_4_and_5 x = with_list (of_5 x) 4 (x ∷ [])

-- what REMOVE and RMDIR take away, and what becomes of an object
pub record WorkedRemovals : Type 0 where
  pub remove_directory : not_directory (Directory [] 2) ≡ Err status.IsDirectory
  pub remove_file : not_directory (Regular (codes "x")) ≡ Ok tt
  pub remove_link : not_directory (Link (codes "x")) ≡ Ok tt
  pub rmdir_file : empty_directory (Regular []) ≡ Err status.NotDirectory
  pub rmdir_full : empty_directory (Directory both_entries 7) ≡ Err status.NotEmpty
  pub rmdir_empty : empty_directory (Directory [] 7) ≡ Ok tt
  pub first_taken : without both_entries (codes "a") ≡ second_entry ∷ []
  pub second_taken : without both_entries (codes "b") ≡ first_entry ∷ []
  pub none_taken : without both_entries (codes "c") ≡ both_entries
  -- an object goes with its last name, and its locks with it
  pub last_name : (m : State) (o : Living) → losing_name m 1 (time 1000 0) 4 o ≡ without_object m 4
  pub other_name : (m : State) (o : Living) →
      losing_name m 2 (time 1000 0) 4 o ≡ with_object m 4 (touched o (time 1000 0))
  pub changed : (touched (object (octal 6 4 4) (Regular [])) (time 1000 0)) ≡ record
      (object (octal 6 4 4) (Regular [])) { changed = time 1000 0 }
  pub locks_go : (m : State) (process : ℤ) →
      (without_object (record m { locks = of_4_and_5 (lock_of process) }) 4).locks ≡ of_5 (lock_of process)
  -- and its shares, and what waits for a lock of it or was granted
  pub shares_go : (m : State) → (without_object (record m { shares = of_4_and_5 a_share }) 4).shares ≡ of_5 a_share
  pub waiting_go : (m : State) (lock : NlmLock) →
      (without_object (record m { waiting = of_4_and_5 (request_of lock) }) 4).waiting ≡ of_5 (request_of lock)
  pub grants_go : (m : State) (lock : NlmLock) →
      (without_object (record m { granted = insert (insert empty 2 (grant_of lock 5)) 1 (grant_of lock 4) }) 4).granted
      ≡ insert empty 2 (grant_of lock 5)

-- the links of a directory or a file
pub record WorkedLinks : Type 0 where
  pub last_below : kind_checked (called_as 9) 31999 (Directory [] 2) ≡ Ok tt
  pub one_too_many : kind_checked (called_as 9) 32000 (Directory [] 2) ≡ Err status.TooManyLinks
  -- a directory has 2, and one for each directory in it
  pub empty : (m : State) → links_of m 1 (Directory [] 7) ≡ 2
  pub one_below : (m : State) (a b : Living) → get m.objects 4 ≡ Some a → get m.objects 5 ≡ Some b →
      is_directory a.content ≡ true → is_directory b.content ≡ false
      → links_of m 1 (Directory both_entries 7) ≡ 3
  pub two_below : (m : State) (a b : Living) → get m.objects 4 ≡ Some a → get m.objects 5 ≡ Some b →
      is_directory a.content ≡ true → is_directory b.content ≡ true
      → links_of m 1 (Directory both_entries 7) ≡ 4
  -- both names of one directory may lead to one file
  pub two_names : names_in 4
      (object (octal 7 7 7) (Directory (first_entry ∷ record second_entry { number = 4 } ∷ []) 7)) ≡ 2
  pub taken_name : is_none (entry_of both_entries (codes "b")) ≡ false
  pub free_name : is_none (entry_of both_entries (codes "c")) ≡ true
  -- of two handles, the second is not looked at where the first names nothing
  pub not_read : (m : State) (o : Living) → wcc m (after_first Stale (Names 2 o)) ≡ no_wcc
  pub read : (o : Living) → after_first (Names 4 o) Stale ≡ Stale

-- "a" of a directory becomes "b" of another, or of the same
abbrev pub a_to_b : (from to : List ℕ) → RenameArguments
a_to_b from to = record
    { from = record { directory = from; name = codes "a" }; to = record { directory = to; name = codes "b" } }

-- "a" of directory 2 leads to an object of this content with the number 4, and "b" of the target to this; the
-- directories have these entries
pub record Moves (m : State) (from to : List ℕ) (entries others : List Entry) (content : Content)
    (target last_cookie : ℕ) (replaced : Option Named) : Type 0 where
  pub source : resolve m (called_as 9) from ≡ Names 2 (object (octal 7 7 7) (Directory entries 7))
  pub destination : resolve m (called_as 9) to ≡ Names target (object (octal 7 7 7) (Directory others last_cookie))
  pub moved : object_under m (entry_of entries (codes "a")) ≡
      Some (record { number = 4; object = object (octal 7 7 7) content })
  pub over : object_under m (entry_of others (codes "b")) ≡ replaced

-- what its RENAME comes to, where the target is within the object, or not
abbrev pub MovesTo : State → (entries others : List Entry) → Content → (target last_cookie : ℕ) →
    Option Named → (is_within : Bool) → Result (Unit {0} × State) NfsStatus → Type 0
MovesTo m entries others content target last_cookie replaced is_within end =
    (from to : List ℕ) → Moves m from to entries others content target last_cookie replaced →
    rename_end m (called_as 9) (a_to_b from to) (λ upper lower. is_within) ≡ end

abbrev pub directory_with : List Entry → ℕ → Living
directory_with entries last_cookie = with_content (object (octal 7 7 7) (Directory [] 7)) (time 1000 0)
    (Directory entries last_cookie)

-- the state then: the object has the name "b" of its new directory, with this cookie, behind the names that stay there
abbrev pub moved_among : List Entry → State → Content → (target : ℕ) → List Entry → (cookie : ℕ) → State
moved_among source m content target left cookie =
    with_object (with_object (with_object m 2 (directory_with source 7)) target
    (directory_with (left ++ record { name = codes "b"; number = 4; cookie = cookie } ∷ []) cookie)) 4
    (touched (object (octal 7 7 7) content) (time 1000 0))

-- beside "a" there is "c", and in another directory "d"
abbrev pub third_entry : Entry
third_entry = record { name = codes "c"; number = 6; cookie = 7 }

abbrev pub beside : List Entry
beside = first_entry ∷ third_entry ∷ []

abbrev pub fourth_entry : Entry
fourth_entry = record { name = codes "d"; number = 7; cookie = 5 }

abbrev pub empty_place : Option Named
empty_place = Some (record { number = 5; object = object (octal 7 7 7) (Directory [] 2) })

-- what RENAME comes to
pub record WorkedRenames : Type 0 where
  pub directory_over_empty : is_compatible (Directory both_entries 7) (Directory [] 2) ≡ true
  pub directory_over_full : is_compatible (Directory [] 2) (Directory both_entries 7) ≡ false
  pub directory_over_file : is_compatible (Directory [] 2) (Regular []) ≡ false
  pub file_over_directory : is_compatible (Regular []) (Directory [] 2) ≡ false
  pub file_over_link : is_compatible (Regular []) (Link (codes "x")) ≡ true
  -- two names of one object
  pub same_object : (m : State) (entries others : List Entry) →
      MovesTo (with_writable m) entries others (Regular []) 2 7
      (Some (record { number = 4; object = object (octal 7 7 7) (Regular []) })) false
      (Ok (tt, with_writable m))
  pub over_file : (m : State) →
      MovesTo (with_writable m) both_entries both_entries (Directory [] 2) 2 7
      (Some (record { number = 5; object = object (octal 6 4 4) (Regular []) })) true (Err status.Exists)
  pub over_nothing : (m : State) →
      MovesTo (with_writable m) beside beside (Directory [] 2) 2 7 None false
      (Ok (tt, moved_among (third_entry ∷ []) (with_writable m) (Directory [] 2) 2 (third_entry ∷ []) 8))
  -- what the target keeps: its other names, and in the old name's directory not that one
  pub left_in_other : (m : State) →
      MovesTo (with_writable m) beside (fourth_entry ∷ []) (Regular []) 3 7 None false
      (Ok (tt, moved_among (third_entry ∷ []) (with_writable m) (Regular []) 3 (fourth_entry ∷ []) 8))
  pub left_in_same : (m : State) →
      MovesTo (with_writable m) beside beside (Regular []) 2 7 None false
      (Ok (tt, moved_among (third_entry ∷ []) (with_writable m) (Regular []) 2 (third_entry ∷ []) 8))
  -- a move that brings a link is refused where the target has all its links; the others go on, whatever links it has
  pub last_link : (m : State) (entries others : List Entry) → links_of m 3 (Directory others 40000) ≡ 31999 →
      MovesTo (with_writable m) entries others (Directory [] 2) 3 40000 None false
      (Ok (
        tt,
        moved_among (without entries (codes "a")) (with_writable m) (Directory [] 2) 3
            (without others (codes "b")) 40001,
      ))
  pub link_to_other : (m : State) (entries others : List Entry) → links_of m 3 (Directory others 40000) ≡ 32000 →
      MovesTo (with_writable m) entries others (Directory [] 2) 3 40000 None false (Err status.TooManyLinks)
  -- the target's links are counted behind that
  pub below_first : (m : State) (entries others : List Entry) → links_of m 3 (Directory others 40000) ≡ 32000 →
      MovesTo (with_writable m) entries others (Directory [] 2) 3 40000 None true (Err status.Invalid)
  pub link_to_same : (m : State) (entries : List Entry) →
      MovesTo (with_writable m) entries entries (Directory [] 2) 2 7 None false
      (Ok (
        tt,
        moved_among (without entries (codes "a")) (with_writable m) (Directory [] 2) 2
            (without (without entries (codes "b")) (codes "a")) 8,
      ))
  pub link_over_directory : (m : State) (entries others : List Entry) →
      MovesTo (with_writable m) entries others (Directory [] 2) 3 40000 empty_place false
      (Ok (
        tt,
        losing_name (moved_among (without entries (codes "a")) (with_writable m) (Directory [] 2) 3
            (without others (codes "b")) 40001) (names_of m 5) (time 1000 0) 5 (object (octal 7 7 7) (Directory [] 2)),
      ))
  pub link_of_file : (m : State) (entries others : List Entry) →
      MovesTo (with_writable m) entries others (Regular []) 3 40000 None false
      (Ok (
        tt,
        moved_among (without entries (codes "a")) (with_writable m) (Regular []) 3
            (without others (codes "b")) 40001,
      ))
  pub last_cookie : (m : State) →
      MovesTo (with_writable m) beside (fourth_entry ∷ []) (Regular []) 3 18446744073709551615 None false
      (Err status.NoSpace)
  -- a directory into itself
  pub into_itself : (m : State) (from to : List ℕ) (is_within : ℕ → ℕ → Bool) →
      TellsWithin (with_writable m) is_within →
      Moves (with_writable m) from to beside (fourth_entry ∷ []) (Directory (fourth_entry ∷ []) 7) 4 7 None →
      rename_end (with_writable m) (called_as 9) (a_to_b from to) is_within ≡ Err status.Invalid
  -- and below: a name of the directory 4 leads to the directory 6
  pub below : (m : State) (directory : Living) → get m.objects 4 ≡ Some directory →
      directory.content ≡ Directory (record first_entry { number = 6 } ∷ []) 3 → IsWithin m 4 6
