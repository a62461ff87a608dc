-- The end of an era: the receipts of all seats are its records, each once.
use Rattle.std.specs.Prelude.{◌≡◌, ℕ, ◌+◌, Bool, true, false, List, [], ◌∷◌, ◌++◌, length, map}
use Rattle.std.specs.Prelude.{IsPermutation, Some, slice_get}
use Rattle.std.specs.List.{AllByRecursion}
use Rattle.std.specs.declared.alloc.Global.{Global}
use Rattle.std.specs.declared.vec.Vec.{Vec}
use Rattle.std.specs.Cmp.Lexicographic.{pointwise}
use Rattle.side_wire.specs.contracts.message.MessagePartialEq.TheImpl.{eq-value as message}
use Rattle.side_wire.specs.declared.message.Message.{Message}
use Rattle.nfs_machine.specs.Run.{Record}
use Rattle.nfs_machine.specs.contracts.calls.ReplyPartialEq.TheImpl.{eq-value as reply}
use Rattle.nfs_machine.specs.declared.calls.Reply.{Reply}
use Rattle.nfs_engine.specs.Arrivals.{shared_value}
use Rattle.nfs_engine.specs.Book.{BookValue, IsRun, Rebases, TakesEra}
use Rattle.nfs_engine.specs.declared.journal.Receipt.{Receipt}
use Rattle.nfs_engine.specs.declared.records.Era.{Era}
use Rattle.nfs_pool.specs.Seats.{SeatValue}
use Rattle.nfs_pool.specs.declared.comparing.Told.{Told}
use Rattle.nfs_pool.specs.declared.sent.FinishError.{FinishError}
use Rattle.nfs_pool.specs.declared.sent.FinishError.TheVariants.{Memory, Missing}

-- ---- what receipts tell
-- a receipt: its record, with the number
abbrev pub told : Receipt → ℕ × Record
told receipt = (receipt.number, shared_value receipt.executed)

-- the same of what was taken from it
abbrev pub told_value : Told → ℕ × Record
told_value t = (t.number, shared_value t.executed)

-- its number
abbrev pub told_number : Told → ℕ
told_number t = t.number

-- what the receipts of each of these tell
abbrev pub told_each : {X : Type 0} → (receipts : X → List Receipt) → List X → List (ℕ × Record)
told_each receipts [] = []
told_each receipts (x ∷ xs) = map told (receipts x) ++ told_each receipts xs

-- of seats
abbrev pub told_by : List SeatValue → List (ℕ × Record)
told_by seats = told_each (λ (s : SeatValue). s.receipts) seats

-- of lists
abbrev pub told_in : List (Vec Receipt Global) → List (ℕ × Record)
told_in lists = told_each (λ (list : Vec Receipt Global). list.items) lists

-- how many receipts these seats have
abbrev pub receipts_count : List SeatValue → ℕ
receipts_count [] = 0
receipts_count (s ∷ seats) = length s.receipts + receipts_count seats

-- ---- beside the records
-- replies and messages that `==` takes for one
abbrev pub same_reply : Reply → Reply → Bool
same_reply = (reply).it

abbrev pub same_messages : List Message → List Message → Bool
same_messages = pointwise (message).it

-- both came in alike, and have equal replies and messages
pub record IsAlike (a b : Record) : Type 0 where
  pub arrival : a.arrival ≡ b.arrival
  pub reply : same_reply a.reply b.reply ≡ true
  pub messages : same_messages a.messages b.messages ≡ true

-- this record is told, with this number
pub record IsTold (number : ℕ) (r : Record) (t : ℕ × Record) : Type 0 where
  pub number_is : t.0 ≡ number
  pub alike : IsAlike t.1 r

-- and that at this place
pub record IsToldAt (tells : List (ℕ × Record)) (place number : ℕ) (r : Record) : Type 0 where
  pub tell : ℕ × Record
  pub there : slice_get tells place ≡ Some tell
  pub told : IsTold number r tell

-- the record at this place is told there, with its number
abbrev pub StandsAt : (before : ℕ) → List Record → (tells : List (ℕ × Record)) → (place : ℕ) → Type 0
StandsAt before records tells place = (r : Record) → slice_get records place ≡ Some r →
    IsToldAt tells place (before + place + 1) r

-- these begin with the records of the era
abbrev pub BeginSo : (before : ℕ) → List Record → (tells : List (ℕ × Record)) → Type 0
BeginSo before records tells = (place : ℕ) → StandsAt before records tells place

-- these are the records, one for one and in order, with the numbers from the next one on
abbrev pub AreTold : (before : ℕ) → List Record → (tells : List (ℕ × Record)) → Type 0
AreTold before [] [] = Unit {0}
AreTold before (r ∷ records) (t ∷ tells) = IsTold (before + 1) r t × AreTold (before + 1) records tells
AreTold before records tells = ⊥

-- in the order of their numbers these are the records of the era, each once
pub record TellAll (before : ℕ) (records : List Record) (receipts : List (ℕ × Record)) : Type 0 where
  pub tells : List (ℕ × Record)
  pub moved : IsPermutation receipts tells
  pub are : AreTold before records tells

-- ---- receipts in lists
-- it is told at this place of this list
abbrev pub IsTellIn : List (Vec Receipt Global) → (index place number : ℕ) → Record → Type 0
IsTellIn lists index place number r = (list : Vec Receipt Global) × (slice_get lists index ≡ Some list) ×
    IsToldAt (map told list.items) place number r

-- nowhere
abbrev pub NoneTells : (number : ℕ) → Record → List (ℕ × Record) → Type 0
NoneTells number r = AllByRecursion (λ (t : ℕ × Record). IsTold number r t → ⊥)

-- a receipt that tells it is taken out, where there is one
abbrev pub TakesTold : (number : ℕ) → Record → (old new : List (ℕ × Record)) → Bool → Type 0
TakesTold number r old new true = (t : ℕ × Record) × IsTold number r t × IsPermutation old (t ∷ new)
TakesTold number r old new false = NoneTells number r old

-- ---- the end of an era
-- The records are a run, and so many. They are the era's, and the next one begins with none, where they led.
pub record LeavesEra (old new : BookValue) (count : ℕ) (era : Era) : Type 0 where
  pub run : IsRun old
  pub counted : length old.records ≡ count
  pub takes : TakesEra old new era
  pub rebases : Rebases old new

-- an era that is over, what its receipts tell, and the room that they stand in
pub record EndedValue : Type 0 where
  pub era : Era
  pub receipts : List (ℕ × Record)
  pub room : ℕ

-- a book came to another with this era, and there are as many receipts
abbrev pub IsLeft : EndedValue → Type 0
IsLeft e = (old : BookValue) × (new : BookValue) × LeavesEra old new (length e.receipts) e.era

-- The records are a run, and these receipts tell them, each once. They are the era's, and the next one begins with
-- none, where they led.
pub record EndsEra (old new : BookValue) (receipts : List (ℕ × Record)) (era : Era) : Type 0 where
  pub run : IsRun old
  pub told : TellAll old.before old.records receipts
  pub takes : TakesEra old new era
  pub rebases : Rebases old new

-- so a book came to this one
abbrev pub EndsIn : (new : BookValue) → List (ℕ × Record) → Era → Type 0
EndsIn new receipts era = (old : BookValue) × EndsEra old new receipts era

-- and to another
abbrev pub EndsSome : List (ℕ × Record) → Era → Type 0
EndsSome receipts era = (new : BookValue) × EndsIn new receipts era

-- ---- an era that is not ended
-- that something is missing is said only where this is so
abbrev pub IfMissing : FinishError → Type 0 → Type 0
IfMissing Missing P = P
IfMissing Memory P = Unit {0}

-- the records of a book are a run, and these receipts do not tell them
abbrev pub LeaveOut : List (ℕ × Record) → Type 0
LeaveOut receipts = (b : BookValue) × IsRun b × (TellAll b.before b.records receipts → ⊥)

-- ---- the next era
-- as many seats, which have no receipt
pub record AreNew (seats : List SeatValue) (count : ℕ) : Type 0 where
  pub count_is : length seats ≡ count
  pub none : AllByRecursion (λ (s : SeatValue). s.receipts ≡ []) seats
