-- What calls come to that make an object under a name (RFC 1813, 3.3.8 to 3.3.11).
use Rattle.std.specs.Prelude.{◌≡◌, ℕ, ◌+◌, ◌^◌, List, [], Option, Some, None, Result, Ok, ◌⊎◌}
use Rattle.std.specs.Prelude.{nat_lt}
use Rattle.std.specs.FinMap.{get}
use Rattle.nfs_wire.specs.declared.calls.DirOp.{DirOp}
use Rattle.nfs_wire.specs.declared.replies.Made.{Made}
use Rattle.nfs_wire.specs.declared.replies.MadeReply.{MadeReply}
use Rattle.nfs_wire.specs.declared.replies.NfsReply.{NfsReply}
use Rattle.nfs_wire.specs.declared.status.NfsStatus.{NfsStatus}
use Rattle.nfs_wire.specs.declared.status.NfsStatus.TheVariants as status
use Rattle.nfs_machine.specs.Checks.{◌>>=◌, DirectoryEntries, changeable, entries_in, holding, permitted}
use Rattle.nfs_machine.specs.Checks.{plain_name_checked}
use Rattle.nfs_machine.specs.Exports.{LivingExport}
use Rattle.nfs_machine.specs.MakeSteps.{refused_there}
use Rattle.nfs_machine.specs.Making.{Choice, IsFresh, MakeStep, Wanted, given_attributes, kind_checked, made}
use Rattle.nfs_machine.specs.Making.{make_end, new_object, with_entry}
use Rattle.nfs_machine.specs.NameSteps.{create_existing}
use Rattle.nfs_machine.specs.Permission.{ToChange}
use Rattle.nfs_machine.specs.Shown.{with_content, with_object}
use Rattle.nfs_machine.specs.State.{Living, State}
use Rattle.nfs_machine.specs.Times.{time_of}
use Rattle.nfs_machine.specs.WellFormed.{WellFormed}
use Rattle.nfs_machine.specs.declared.context.Ctx.{Ctx}
use Rattle.nfs_objects.specs.Knows.{Possible, Turns}
use Rattle.nfs_objects.specs.Sound.{Sound}
use Rattle.nfs_objects.specs.Stands.{StoreMeaning}
use Rattle.nfs_objects.specs.Store.{Store}
use Rattle.nfs_objects.specs.Values.{DraftValue}
use Rattle.nfs_inodes.specs.Known.{content_at, listed, object_at}
use Rattle.nfs_inodes.specs.declared.found.Known.{Known}
use Rattle.nfs_names.specs.Checking.{ChecksOf}
use Rattle.nfs_names.specs.declared.make.There.{There}
use Rattle.nfs_names.specs.declared.make.There.TheVariants as there

-- an object and its state, or the status of a refusal
abbrev pub MakeEnd : Type 0
MakeEnd = Result (Made × State) NfsStatus

-- what depends on the machine's choice ends so: whatever is chosen, or with a fresh choice
abbrev pub IsEndBy : State → (Choice → MakeEnd) → MakeEnd → Type 0
IsEndBy m end_of end = ((choice : Choice) → end_of choice ≡ end) ⊎
    ((choice : Choice) × IsFresh m choice × (end_of choice ≡ end))

-- what a call makes of a name that is there
abbrev pub ThereEnd : Type 0
ThereEnd = State → ℕ → Option Living → MakeEnd

abbrev pub there_as : There → Ctx → ThereEnd
there_as there.Refused ctx m = refused_there
there_as (there.Created how) ctx m = create_existing m ctx how.now

-- an end of a call that makes what is asked for
abbrev pub IsMakeEnd : Ctx → DirOp → (asked : Result Wanted NfsStatus) → ThereEnd → State → MakeEnd → Type 0
IsMakeEnd ctx place asked there m = IsEndBy m (λ choice. make_end m ctx choice place asked (there m))

-- one where the name leads to this number
abbrev pub IsThereEnd : ThereEnd → ℕ → State → MakeEnd → Type 0
IsThereEnd there number m end = there m number (get m.objects number) ≡ end

-- what is asked for, judged in a directory of so many links
abbrev pub judged : Ctx → (links : ℕ) → Wanted → Result (Unit {0}) NfsStatus
judged ctx links wanted = do
  _ ← kind_checked ctx links wanted.content
  given_attributes ctx wanted.attributes

-- a new object under a name that the directory with these entries has not, once its kind was checked
abbrev pub placed_end : State → Ctx → Choice → Wanted → Known → List ℕ → DirectoryEntries → MakeEnd
placed_end m ctx choice wanted x name entries = do
  _ ← given_attributes ctx wanted.attributes
  _ ← holding (nat_lt (entries.last_cookie + 1) (2 ^ 64)) status.NoSpace
  let o = new_object ctx x.export choice.generation wanted
  let wider = with_content (object_at m x) (time_of ctx.moment)
      (with_entry entries.list entries.last_cookie name choice.number)
  let new = record (with_object (with_object m x.number wider) choice.number o) { spent = choice.spent }
  Ok (made new ctx choice.number o, new)

-- an end with a new object
abbrev pub IsNewEnd : Ctx → Wanted → Known → List ℕ → State → MakeEnd → Type 0
IsNewEnd ctx wanted x name m = IsEndBy m (λ choice. kind_checked ctx x.attributes.links wanted.content
    >>= λ _. placed_end m ctx choice wanted x name (listed (content_at m x.number)))

-- the checks of the directory and of what is asked for, and then the rest
abbrev pub add_checked : List LivingExport → Ctx → List ℕ → Result Wanted NfsStatus → ChecksOf (Made × State)
add_checked exports ctx name asked o rest = do
  entries ← entries_in o.content
  _ ← plain_name_checked status.Exists status.Exists name
  _ ← asked
  _ ← changeable exports o
  _ ← permitted ctx o ToChange
  rest entries

-- what is told of what lives at a number
abbrev pub made_at : State → Ctx → ℕ → Made
made_at m ctx number = elim (get m.objects number) [
  | None ↦ record { object = None; attributes = None }
  | Some o ↦ made m ctx number o
]

-- A call answered this, and changed the draft with it: in each sound state what is kept stays sound, and this is a step
-- of the machine, whatever procedure has this reply.
pub record MakesReply (old new : DraftValue) (place : DirOp) (asked : Result Wanted NfsStatus) (there : ThereEnd)
    (reply : MadeReply) : Type 0 where
  pub op : StoreMeaning → StoreMeaning
  pub turns : Turns old new op
  pub steps : (s : Store) (k : StoreMeaning) → Possible old s k → WellFormed k.state → Sound (op k) ×
      (Possible new s (op k) → (reply_of : MadeReply → NfsReply) →
      MakeStep k.state old.ctx place asked (there k.state) reply_of (reply_of reply) [] (op k).state)
