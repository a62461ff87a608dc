-- What CREATE comes to where the name is there (RFC 1813, 3.3.8).
use Rattle.std.specs.Prelude.{◌≡◌, ℕ, List, Option, option_map, Result, Ok, nat_le}
use Rattle.std.specs.FinMap.{get}
use Rattle.nfs_wire.specs.declared.attributes.Time.{Time}
use Rattle.nfs_wire.specs.declared.calls.CreateHow.{CreateHow}
use Rattle.nfs_wire.specs.declared.replies.Made.{Made}
use Rattle.nfs_wire.specs.declared.status.NfsStatus.{NfsStatus}
use Rattle.nfs_wire.specs.declared.status.NfsStatus.TheVariants as status
use Rattle.nfs_machine.specs.Checks.{◌>>=◌, holding, permitted}
use Rattle.nfs_machine.specs.Data.{resized, size_limit}
use Rattle.nfs_machine.specs.NameSteps.{create_existing}
use Rattle.nfs_machine.specs.Permission.{ToWrite}
use Rattle.nfs_machine.specs.Shown.{with_content}
use Rattle.nfs_machine.specs.State.{Living, Regular, State}
use Rattle.nfs_machine.specs.declared.context.Ctx.{Ctx}

-- the name leads to this number
abbrev pub IsOverEnd : Ctx → CreateHow → ℕ → State → Result (Made × State) NfsStatus → Type 0
IsOverEnd ctx how number m end = create_existing m ctx how number (get m.objects number) ≡ end

-- the size that the file there is given, judged
abbrev pub size_checked : Ctx → Living → ℕ → Result (Unit {0}) NfsStatus
size_checked ctx o size = do
  _ ← permitted ctx o ToWrite
  holding (nat_le size size_limit) status.FileTooBig

-- the file of these bytes, where a size is given
abbrev pub sized_file : Time → Living → List ℕ → Option ℕ → Option Living
sized_file now o bytes size = option_map (λ s. with_content o now (Regular (resized bytes s))) size

-- what is there is answered, with this file after it
abbrev pub file_over : Time → Living → List ℕ → (size : Result (Option ℕ) NfsStatus) →
    Result (Option Living) NfsStatus
file_over now o bytes size = size >>= λ s. Ok (sized_file now o bytes s)
