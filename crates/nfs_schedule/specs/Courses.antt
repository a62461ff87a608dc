-- The course of a call: where it is between two of its steps, and which step comes next.
use Rattle.std.specs.Prelude.{◌≡◌, ℕ, ◌+◌, ◌<◌, ◌≤◌, List, [], ◌∷◌, length, Option, Some}
use Rattle.std.specs.Prelude.{None}
use Rattle.std.specs.Vec.Iter.{into_iter_items}
use Rattle.std.specs.declared.alloc.Global.{Global}
use Rattle.std.specs.declared.vec.IntoIter.{IntoIter}
use Rattle.nfs_machine.specs.WellFormed.{WellFormed}
use Rattle.nfs_objects.specs.Asks.{EachOnce}
use Rattle.nfs_objects.specs.Bound.{empty_count, held, view_after}
use Rattle.nfs_objects.specs.Calls.{named_by, new_numbers}
use Rattle.nfs_objects.specs.Fits.{Fits}
use Rattle.nfs_objects.specs.Promise.{IsPromised}
use Rattle.nfs_objects.specs.Rooms.{with_seen, with_number}
use Rattle.nfs_objects.specs.Sound.{Sound}
use Rattle.nfs_objects.specs.Stands.{StoreMeaning, Represents}
use Rattle.nfs_objects.specs.Store.{Store}
use Rattle.nfs_objects.specs.Values.{change_value, done_value, seen_at}
use Rattle.nfs_objects.specs.declared.address.Addr.{Addr}
use Rattle.nfs_objects.specs.declared.modes.Mode.{Mode}
use Rattle.nfs_objects.specs.declared.object.Object.{Object}
use Rattle.nfs_objects.specs.declared.view.Reserved.{Reserved}
use Rattle.nfs_engine.specs.Calls.{TxnValue}
use Rattle.nfs_schedule.specs.Grown.{HasGrown, IsAsking, IsNumbering}
use Rattle.nfs_schedule.specs.declared.course.Course.{Course}
use Rattle.nfs_schedule.specs.declared.course.Considered.{Considered}
use Rattle.nfs_schedule.specs.declared.course.Considered.TheVariants.{Reads, Done, Fails}
use Rattle.nfs_schedule.specs.declared.course.Course.TheVariants.{Begun, FirstHandle, Acquiring, Planned, Reserving}
use Rattle.nfs_schedule.specs.declared.course.NextStep.{NextStep}
use Rattle.nfs_schedule.specs.declared.course.NextStep.TheVariants.{Acquire, Reserve}
use Rattle.nfs_schedule.specs.declared.planning.Plan.{Plan}
use Rattle.nfs_schedule.specs.declared.planning.Plan.TheVariants.{Over}

-- the call is there: what it has read was given in rounds, and it wants this of what an attempt may ask for
abbrev pub IsAt : Course → TxnValue → Type 0
IsAt Begun t = t.view ≡ view_after []
IsAt (FirstHandle address mode) t = IsAsking t ((address, mode) ∷ [])
IsAt (Acquiring wanted plan) t = IsAsking t (into_iter_items wanted)
IsAt (Planned plan) t = HasGrown t
IsAt (Reserving left plan) t = IsNumbering t left

-- ---- the next step
-- An attempt may ask for this address, and the call has it not. Whatever stands there, the call is there once it has
-- it.
pub record TakesNext (t : TxnValue) (a : Addr × Mode) (after : Course) : Type 0 where
  pub others : List (Addr × Mode)
  pub asking : IsAsking t (a ∷ others)
  pub unseen : seen_at t.view.entries a.0 ≡ None
  pub goes_on : (o : Option Object) →
      IsAt after (record t { view = with_seen t.view (record { address = a.0; mode = a.1; object = o }) })

-- an attempt may ask for a number, and whatever is given, the call is there once it has it
pub record NumbersNext (t : TxnValue) (after : Course) : Type 0 where
  pub left : ℕ
  pub numbering : IsNumbering t left
  pub goes_on : (r : Reserved) → IsAt after (record t { view = with_number t.view r })

-- a step that reads more
abbrev pub IsNextStep : TxnValue → NextStep → Type 0
IsNextStep t (Acquire address mode after) = TakesNext t (address, mode) after
IsNextStep t (Reserve after) = NumbersNext t after

-- what is read next, or the call is to be considered
abbrev pub IsNext : TxnValue → Option NextStep → Type 0
IsNext t None = HasGrown t
IsNext t (Some step) = IsNextStep t step

-- what comes of an attempt; an end keeps the promise
abbrev pub IsConsidered : TxnValue → Considered → Type 0
IsConsidered t (Reads step) = IsNextStep t step
IsConsidered t (Done change) = HasGrown t × IsPromised (done_value t.call t.ctx t.view (change_value change))
IsConsidered t Fails = HasGrown t

-- a step was made: the call has read one thing more, and is there
pub record IsMade (old new : TxnValue) (after : Course) : Type 0 where
  pub at : IsAt after new
  pub grown : length new.view.entries ≡ length old.view.entries + 1

-- the step to the first of these, where there is one; the others come then, and behind them the plan
abbrev pub IsFirstOf : List (Addr × Mode) → Plan → Option NextStep → Type 0
IsFirstOf [] plan next = next ≡ None
IsFirstOf (a ∷ others) plan next = (rest : IntoIter (Addr × Mode) Global) × (into_iter_items rest ≡ others) ×
    (next ≡ Some (Acquire a.0 a.1 (Acquiring rest plan)))

-- where a call is that wanted so many numbers and got one, and goes on by the plan
abbrev pub IsAfterNumber : (left : ℕ) → Plan → Course → Type 0
IsAfterNumber left plan (Reserving others after) = (1 < left) × (left ≡ others + 1) × (after ≡ plan)
IsAfterNumber left plan (Planned after) = (left ≤ 1) × (after ≡ plan)
IsAfterNumber left plan course = ⊥

-- ---- how much is read
-- of what a call wants there, how much holds nothing in the store; the addresses of new numbers hold nothing
abbrev pub left_count : Store → Course → ℕ
left_count s (FirstHandle address mode) = empty_count s ((address, mode) ∷ [])
left_count s (Acquiring wanted plan) = empty_count s (into_iter_items wanted)
left_count s (Reserving left plan) = left
left_count s course = 0

-- In every sound store that the view fits, what the call has read and what it wants lie among the addresses of the
-- store, those that the call names, and those of its new numbers.
abbrev pub IsFewAt : Course → TxnValue → Type 0
IsFewAt course t = (s : Store) (k : StoreMeaning) → Fits t.view s → Represents s k → Sound k → WellFormed k.state →
    empty_count s (held t.view.entries) + left_count s course ≤
    length (named_by t.call t.view) + new_numbers t.call t.view

-- it is so wherever a call is on its course
abbrev pub CoursesAreFew : Type 0
CoursesAreFew = (course : Course) (t : TxnValue) → IsAt course t → IsFewAt course t

-- what a call has read is each address once, and few of these hold nothing
pub record HasReadFew (t : TxnValue) : Type 0 where
  pub once : EachOnce (held t.view.entries)
  pub few : IsFewAt (Planned Over) t
