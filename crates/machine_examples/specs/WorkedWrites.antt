-- WRITE worked through by hand (RFC 1813, 3.3.7).
use Rattle.std.specs.Prelude.{◌≡◌, ℕ, ◌-◌, ◌^◌, List, [], ◌∷◌, ◌++◌, Some, None, Ok, Err}
use Rattle.std.specs.Prelude.{codes}
use Rattle.nfs_wire.specs.declared.calls.Stability.TheVariants.{FileSync}
use Rattle.nfs_wire.specs.declared.calls.WriteArguments.{WriteArguments}
use Rattle.nfs_wire.specs.declared.replies.Written.{Written}
use Rattle.nfs_wire.specs.declared.status.NfsStatus.TheVariants as status
use Rattle.nfs_machine.specs.Attributes.{used_of}
use Rattle.nfs_machine.specs.DataSteps.{write_count, write_object}
use Rattle.nfs_machine.specs.Opening.{opening_root}
use Rattle.nfs_machine.specs.State.{Regular}
use Rattle.machine_examples.specs.WorkedCreate.{called_as, writable}
use Rattle.machine_examples.specs.WorkedFiles.{hello, time}
use Rattle.machine_examples.specs.WorkedPages.{seven}
use Rattle.machine_examples.specs.WorkedSetting.{known, unwritable}

abbrev pub writing : (offset count : ℕ) → List ℕ → WriteArguments
writing offset count bytes = record { file = []; offset = offset; count = count; stable = FileSync; «data» = bytes }

abbrev pub answered : ℕ → Written
answered count = record { count = count; committed = FileSync; verifier = seven }

-- into a file of uid 9 and mode 0644 that holds "hello"
pub record WorkedWrites : Type 0 where
  pub behind_end : write_object writable (called_as 9) known (writing 8 1 (codes "!"))
      ≡ Ok (record {
        told = answered 1;
        after = Some (record known {
          content = Regular (hello ++ 0 ∷ 0 ∷ 0 ∷ 33 ∷ []);
          modified = time 1000 2;
          changed = time 1000 2;
        });
      })
  pub space : used_of (Regular (hello ++ 0 ∷ 0 ∷ 0 ∷ 33 ∷ [])) ≡ 4096
  pub no_space : used_of (Regular []) ≡ 0
  pub last_offset : write_object writable (called_as 9) known
      (writing (2 ^ 64 - 1) 1 (codes "!")) ≡ Err status.FileTooBig
  pub above : write_object writable (called_as 9) known (writing 1073741824 1 (codes "!")) ≡ Err status.FileTooBig
  -- no byte is written at any offset
  pub none : write_object writable (called_as 9) known (writing (2 ^ 64 - 1) 0 [])
      ≡ Ok (record { told = answered 0; after = None })
  pub most : write_count (writing 0 65537 []) ≡ 65536
  pub miscounted : write_object writable (called_as 9) known (writing 0 2 (codes "!")) ≡ Err status.Invalid
  pub read_only : write_object unwritable (called_as 5) known (writing 0 1 (codes "!")) ≡ Err status.ReadOnly
  pub miscounted_first : write_object unwritable (called_as 5) known (writing 0 2 (codes "!")) ≡ Err status.Invalid
  pub not_permitted : write_object writable (called_as 5) known
      (writing (2 ^ 64 - 1) 1 (codes "!")) ≡ Err status.Access
  pub directory : write_object writable (called_as 9) (opening_root 1 (time 1000 0))
      (writing 0 2 (codes "!")) ≡ Err status.Invalid
