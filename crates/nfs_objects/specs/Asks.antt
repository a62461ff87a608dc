-- What a call may ask for.
use Rattle.std.specs.Prelude.{◌≡◌, ◌≢◌, ◌<◌, ℕ, false, List, [], ◌∷◌, Some, None, IsSome}
use Rattle.std.specs.Prelude.{◌⊎◌, length, slice_get, take}
use Rattle.std.specs.List.{AllByRecursion}
use Rattle.nfs_machine.specs.WellFormed.{WellFormed}
use Rattle.nfs_objects.specs.Calls.{IsAmong}
use Rattle.nfs_objects.specs.Fits.{Fits, NumbersApart}
use Rattle.nfs_objects.specs.Modes.{held_mode}
use Rattle.nfs_objects.specs.Sound.{Sound}
use Rattle.nfs_objects.specs.Stands.{StoreMeaning, Represents}
use Rattle.nfs_objects.specs.Store.{Store}
use Rattle.nfs_objects.specs.Values.{DraftValue, ModesValue, ViewValue, is_addr, known_at, seen_at}
use Rattle.nfs_objects.specs.declared.address.Addr.{Addr}
use Rattle.nfs_objects.specs.declared.address.Addr.TheVariants as addresses
use Rattle.nfs_objects.specs.declared.change.Missing.{Missing}
use Rattle.nfs_objects.specs.declared.change.Missing.TheVariants.{Need, Fresh, Memory}
use Rattle.nfs_objects.specs.declared.modes.Mode.{Mode}
use Rattle.nfs_objects.specs.declared.view.Reserved.{Reserved}

-- something stands at the address in every sound store that the view fits
abbrev pub IsThere : ViewValue → Addr → Type 0
IsThere view a = (s : Store) (k : StoreMeaning) → Fits view s → Represents s k → Sound k → WellFormed k.state →
    IsSome (s.at a)

-- An address may be asked for, in this mode: the view has it in no mode, so there is no upgrade; what the call may
-- change is asked for alone, and what it only reads shared; and the call names the address, or something stands there.
pub record MayAsk (modes : ModesValue) (named : List Addr) (view : ViewValue) (a : Addr × Mode) : Type 0 where
  pub unseen : seen_at view.entries a.0 ≡ None
  pub mode : a.1 ≡ held_mode modes view a.0
  pub bounded : IsAmong named a.0 ⊎ IsThere view a.0

-- no address stands twice
abbrev pub EachOnce : List (Addr × Mode) → Type 0
EachOnce [] = Unit {0}
EachOnce (a ∷ asked) = AllByRecursion (λ (b : Addr × Mode). is_addr a.0 b.0 ≡ false) asked × EachOnce asked

-- addresses are asked for: at least one, each once, and each may be
pub record Asks (modes : ModesValue) (named : List Addr) (view : ViewValue) (asked : List (Addr × Mode)) : Type 0 where
  pub some : asked ≢ []
  pub once : EachOnce asked
  pub each : AllByRecursion (MayAsk modes named view) asked

-- this address alone is asked for, in this mode; or there is no memory to ask
abbrev pub IsNeed : Addr → Mode → Missing → Type 0
IsNeed a mode (Need asked) = asked.items ≡ (a, mode) ∷ []
IsNeed a mode Memory = Unit {0}
IsNeed a mode halt = ⊥

-- the draft does not know the address, and it is asked for
pub record Lacks (d : DraftValue) (a : Addr) (halt : Missing) : Type 0 where
  pub unknown : known_at d a ≡ None
  pub asked : IsNeed a (held_mode d.modes d.view a) halt

-- the number is the first that may be given, and the draft knows its address
pub record IsFirst (d : DraftValue) (r : Reserved) : Type 0 where
  pub first : slice_get d.view.reserved 0 ≡ Some r
  pub known : IsSome (known_at d (addresses.Inode r.number))

-- the numbers are the first so many that may be given, no two are the same, and the draft knows their addresses
pub record AreFirst (d : DraftValue) (count : ℕ) (reserved : List Reserved) : Type 0 where
  pub first : reserved ≡ take count d.view.reserved
  pub counted : length reserved ≡ count
  pub known : AllByRecursion (λ (r : Reserved). IsSome (known_at d (addresses.Inode r.number))) reserved
  pub apart : NumbersApart reserved

-- new numbers are asked for: as many as may be wanted, and none was reserved before
pub record AsksNumbers (numbers : ℕ) (view : ViewValue) (count : ℕ) : Type 0 where
  pub none : view.reserved ≡ []
  pub some : 0 < count
  pub whole : count ≡ numbers

-- so many numbers are asked for, since none may be given
abbrev pub WantsNumbers : DraftValue → (numbers : ℕ) → Missing → Type 0
WantsNumbers d numbers (Fresh count) = AsksNumbers numbers d.view count
WantsNumbers d numbers halt = ⊥

-- a number is
abbrev pub WantsNumber : DraftValue → Missing → Type 0
WantsNumber d halt = WantsNumbers d 1 halt
