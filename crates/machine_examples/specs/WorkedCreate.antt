-- CREATE worked through by hand: what a new file is, and what becomes of one that is there (RFC 1813, 3.3.8).
use Rattle.std.specs.Prelude.{◌+◌, replicate, ◌≡◌, ℕ, List, [], ◌∷◌, Option, Some, None, Result, Ok}
use Rattle.std.specs.Prelude.{Err}
use Rattle.std.specs.Prelude.{codes}
use Rattle.std.proofs.Common.{lit<}
use Rattle.nfs_wire.specs.declared.attributes.SetAttributes.{SetAttributes}
use Rattle.nfs_wire.specs.declared.attributes.SetTime.TheVariants.{Leave, ToClient}
use Rattle.nfs_wire.specs.declared.attributes.Time.{Time}
use Rattle.nfs_wire.specs.declared.calls.CreateHow.{CreateHow}
use Rattle.nfs_wire.specs.declared.calls.CreateHow.TheVariants.{Unchecked, Guarded, Exclusive}
use Rattle.nfs_wire.specs.declared.calls.Verifier.{Verifier}
use Rattle.nfs_wire.specs.declared.status.NfsStatus.{NfsStatus}
use Rattle.nfs_wire.specs.declared.status.NfsStatus.TheVariants as status
use Rattle.nfs_machine.specs.Checks.{bytes_in}
use Rattle.nfs_machine.specs.Exports.{LivingExport, opening_exports}
use Rattle.nfs_machine.specs.Making.{Wanted, given_attributes, new_object, with_entry}
use Rattle.nfs_machine.specs.NameSteps.{create_over}
use Rattle.nfs_machine.specs.Opening.{opening_root}
use Rattle.nfs_machine.specs.Shown.{with_content}
use Rattle.nfs_machine.specs.State.{Regular, Directory, Living, State, octal}
use Rattle.machine_examples.specs.Worked.{open_export, user}
use Rattle.machine_examples.specs.WorkedFiles.{time}
use Rattle.nfs_machine.specs.declared.context.Ctx.{Ctx}
use Rattle.nfs_machine.specs.declared.moment.Moment.{Moment}

abbrev pub moment : Moment
moment = record { seconds = 1000; nanoseconds = 0; in_range = lit< tt }

-- a caller with this uid, and the group of the same number
abbrev pub called_as : ℕ → Ctx
called_as uid = record {
  host = codes "10.0.0.1";
  ids = user uid uid;
  moment = moment;
  start = 7;
  limits = record { total_bytes = 0; name_key = [] };
}

-- the exports of that server, and a state with them
abbrev pub writable : List LivingExport
writable = opening_exports (open_export ∷ [])

abbrev pub with_writable : State → State
with_writable m = record m { exports = writable }

-- nothing is given
abbrev pub no_attributes : SetAttributes
no_attributes = record { mode = None; uid = None; gid = None; size = None; accessed = Leave; modified = Leave }

abbrev pub sized : ℕ → SetAttributes
sized size = record no_attributes { size = Some size }

-- a file of uid 9, changed at this time
abbrev pub file : List ℕ → Time → Option (List ℕ) → Living
file bytes changed verifier = record {
  export = 1;
  generation = 4;
  content = Regular bytes;
  mode = octal 6 4 4;
  uid = 9;
  gid = 9;
  accessed = time 1000 0;
  modified = changed;
  changed = changed;
  verifier = verifier;
}

-- what a new object may be given
pub record WorkedAttributes : Type 0 where
  pub none : given_attributes (called_as 9) no_attributes ≡ Ok tt
  pub too_big : given_attributes (called_as 9) (sized 1073741825) ≡ Err status.FileTooBig
  pub biggest : given_attributes (called_as 9) (sized 1073741824) ≡ Ok tt
  pub bad_time : given_attributes (called_as 9)
      (record (sized 1073741825) { accessed = ToClient (time 0 1000000000) }) ≡ Err status.Invalid
  pub foreign : given_attributes (called_as 9) (record no_attributes { uid = Some 8 }) ≡ Err status.Permission
  pub foreign_group : given_attributes (called_as 9) (record no_attributes { gid = Some 8 }) ≡ Err status.Permission
  pub own_group : given_attributes (called_as 9) (record no_attributes { gid = Some 9 }) ≡ Ok tt
  pub by_root : given_attributes (called_as 0) (record no_attributes { uid = Some 8; gid = Some 8 }) ≡ Ok tt

-- an empty file of mode 0644, where these are given
abbrev pub empty_file : SetAttributes → Wanted
empty_file given = record { mode = octal 6 4 4; content = Regular []; attributes = given; verifier = None }

-- a new file, and its directory with the new name
pub record WorkedNewFile : Type 0 where
  pub plain : new_object (called_as 9) 1 4 (empty_file no_attributes) ≡ file [] (time 1000 0) None
  pub mode : (new_object (called_as 9) 1 4 (empty_file
      (record no_attributes { mode = Some (4096 + octal 6 0 0) }))).mode ≡ octal 6 0 0
  pub time_given : (new_object (called_as 9) 1 4
      (empty_file (record no_attributes { modified = ToClient (time 5 6) }))).modified ≡ time 5 6
  pub directory : with_content (opening_root 1 (time 1000 0)) (time 1000 0) (with_entry [] 2 (codes "x") 2) ≡ record
      (opening_root 1 (time 1000 0)) {
        content = Directory (record { name = codes "x"; number = 2; cookie = 3 } ∷ []) 3;
        modified = time 1000 1;
        changed = time 1000 1;
      }

abbrev pub over : ℕ → CreateHow → Living → Result (Option Living) NfsStatus
over uid how o = create_over (called_as uid) how o (bytes_in o.content)

-- a verifier of EXCLUSIVE
abbrev pub made_by : Verifier
made_by = record { bytes = 1 ∷ 2 ∷ 3 ∷ 4 ∷ 5 ∷ 6 ∷ 7 ∷ 8 ∷ [] }

-- what becomes of an object that has the name already
pub record WorkedExisting : Type 0 where
  pub guarded : over 9 (Guarded no_attributes) (file [] (time 1000 0) None) ≡ Err status.Exists
  pub unchecked : over 9 (Unchecked no_attributes) (file (codes "hello") (time 1000 0) None) ≡ Ok None
  pub cut : over 9 (Unchecked (sized 0)) (file (codes "hello") (time 1000 0) None) ≡ Ok
      (Some (file [] (time 1000 1) None))
  pub grown : over 9 (Unchecked (sized 2)) (file [] (time 1000 0) None) ≡ Ok
      (Some (file (0 ∷ 0 ∷ []) (time 1000 1) None))
  pub not_permitted : over 5 (Unchecked (sized 0)) (file [] (time 1000 0) None) ≡ Err status.Access
  pub looked_up : over 5 (Unchecked no_attributes) (file [] (time 1000 0) None) ≡ Ok None
  pub too_big : over 9 (Unchecked (sized 1073741825)) (file [] (time 1000 0) None) ≡ Err status.FileTooBig
  pub directory : over 9 (Unchecked no_attributes) (opening_root 1 (time 1000 0)) ≡ Err status.Exists
  pub exclusive_directory : over 9 (Exclusive made_by) (opening_root 1 (time 1000 0)) ≡ Err status.Exists
  pub own_maker : over 9 (Exclusive made_by) (file [] (time 1000 0) (Some made_by.bytes)) ≡ Ok None
  pub another_maker : over 9 (Exclusive made_by) (file [] (time 1000 0) (Some (replicate 8 0))) ≡ Err status.Exists
  pub other_maker : (v : Verifier) → over 9 (Exclusive v) (file [] (time 1000 0) None) ≡ Err status.Exists
