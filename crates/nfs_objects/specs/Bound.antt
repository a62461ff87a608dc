-- How far the view of a call grows. An attempt asks, some of what it asks for is given, and the call is tried again.
use Rattle.std.specs.Prelude.{◌≡◌, ℕ, ◌+◌, ◌≤◌, List, [], ◌∷◌, ◌++◌, length, map, ◌⊎◌}
use Rattle.std.specs.List.{AllByRecursion, count_by}
use Rattle.std.specs.Option.{is_none}
use Rattle.nfs_machine.specs.WellFormed.{WellFormed}
use Rattle.nfs_machine.specs.declared.calls.Call.{Call}
use Rattle.nfs_machine.specs.declared.context.Ctx.{Ctx}
use Rattle.nfs_objects.specs.Asks.{EachOnce}
use Rattle.nfs_objects.specs.Attempt.{Attempts}
use Rattle.nfs_objects.specs.Calls.{IsAmong, named_by, new_numbers}
use Rattle.nfs_objects.specs.Fits.{Fits, vacant}
use Rattle.nfs_objects.specs.Sound.{Sound}
use Rattle.nfs_objects.specs.Stands.{StoreMeaning, Represents}
use Rattle.nfs_objects.specs.Store.{Store}
use Rattle.nfs_objects.specs.Values.{Seen, ViewValue}
use Rattle.nfs_objects.specs.declared.address.Addr.{Addr}
use Rattle.nfs_objects.specs.declared.change.Outcome.{Outcome}
use Rattle.nfs_objects.specs.declared.change.Outcome.TheVariants.{Need, Fresh, Done}
use Rattle.nfs_objects.specs.declared.modes.Mode.{Mode}
use Rattle.nfs_objects.specs.declared.view.Reserved.{Reserved}

-- what is given in one round: what stands at some addresses, or new numbers
pub data Round : Type 0 where
  Read : (entries : List Seen) → Round
  Given : (reserved : List Reserved) → Round

abbrev pub with_round : ViewValue → Round → ViewValue
with_round v (Read entries) = record { entries = v.entries ++ entries; reserved = v.reserved }
with_round v (Given numbers) = record
    { entries = v.entries ++ map vacant numbers; reserved = v.reserved ++ numbers }

-- the view after rounds, of which the last stands first
abbrev pub view_after : List Round → ViewValue
view_after [] = record { entries = []; reserved = [] }
view_after (round ∷ earlier) = with_round (view_after earlier) round

-- the addresses of entries, and how they are held
abbrev pub held : List Seen → List (Addr × Mode)
held entries = map (λ (e : Seen). (e.address, e.mode)) entries

abbrev pub WasAsked : List (Addr × Mode) → Addr × Mode → Type 0
WasAsked [] a = ⊥
WasAsked (b ∷ asked) a = (b ≡ a) ⊎ WasAsked asked a

-- some of the addresses that are asked for are given, each once; or all the numbers are
abbrev pub Gives : Outcome → Round → Type 0
Gives (Need asked) (Read entries) = EachOnce (held entries) × AllByRecursion (WasAsked asked.items) (held entries)
Gives (Fresh count) (Given numbers) = length numbers ≡ count
Gives outcome round = ⊥

-- each round gives of what an attempt may ask for on the view that the rounds before it left
abbrev pub Grows : Call → Ctx → List Round → Type 0
Grows call ctx [] = Unit {0}
Grows call ctx (round ∷ earlier) = (outcome : Outcome) × Attempts call ctx (view_after earlier) outcome ×
    Gives outcome round × Grows call ctx earlier

-- of these addresses, how many hold nothing in the store
abbrev pub empty_count : Store → List (Addr × Mode) → ℕ
empty_count s addresses = count_by (λ (a : Addr × Mode). is_none (s.at a.0)) addresses

-- and of what is asked for; the addresses of new numbers hold nothing
abbrev pub asked_count : Store → Outcome → ℕ
asked_count s (Need asked) = empty_count s asked.items
asked_count s (Fresh count) = count
asked_count s (Done change) = 0

-- In every sound store that the view fits, whatever was given, the view and all that is asked for next lie among the
-- addresses of the store, those that the call names, and those of its new numbers.
abbrev pub AsksFew : Type 0
AsksFew = (call : Call) (ctx : Ctx) (rounds : List Round) (outcome : Outcome) (s : Store) (k : StoreMeaning) →
    Grows call ctx rounds → Attempts call ctx (view_after rounds) outcome →
    Fits (view_after rounds) s → Represents s k → Sound k → WellFormed k.state →
    empty_count s (held (view_after rounds).entries) + asked_count s outcome ≤
    length (named_by call (view_after rounds)) + new_numbers call (view_after rounds)

-- these are few
abbrev pub NamesFew : Type 0
NamesFew = (call : Call) (view : ViewValue) → length (named_by call view) + new_numbers call view ≤ 256

-- what a call named on a view it names on a later one too, and it wants no fewer numbers
pub record StillNames (call : Call) (view later : ViewValue) : Type 0 where
  pub named : (a : Addr) → IsAmong (named_by call view) a → IsAmong (named_by call later) a
  pub numbers : new_numbers call view ≤ new_numbers call later

-- so it is once a round was given
abbrev pub NamesStay : Type 0
NamesStay = (call : Call) (view : ViewValue) (round : Round) → StillNames call view (with_round view round)

-- no number was given yet, or as many as the call wants
abbrev pub HasNumbers : Call → ViewValue → Type 0
HasNumbers call view = (view.reserved ≡ []) ⊎ (new_numbers call view ≤ length view.reserved)

-- so it is of each view that grew by rounds
abbrev pub GrownHaveNumbers : Type 0
GrownHaveNumbers = (call : Call) (ctx : Ctx) (rounds : List Round) → Grows call ctx rounds
    → HasNumbers call (view_after rounds)
