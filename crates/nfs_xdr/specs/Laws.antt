-- What reading and writing have to do with spelling, for every type.
use Rattle.std.specs.Prelude.{◌≡◌, ◌≢◌, ℕ, ◌<◌, List, ◌++◌, length, get_or, Result, Ok, Err}
use Rattle.nfs_xdr.specs.declared.XdrError.{XdrError}
use Rattle.nfs_xdr.specs.declared.XdrError.TheVariants.{Memory}
use Rattle.nfs_xdr.specs.Types.{Xdr, Value, Spells, SpellsBy, ZeroPadding, HasSpelling}
use Rattle.nfs_xdr.specs.Reading.{read}
use Rattle.nfs_xdr.specs.Writing.{write, appended}

-- a list of bytes: each number is below 256
abbrev pub IsBytes : List ℕ → Type 0
IsBytes bytes = (i : ℕ) → get_or bytes i 0 < 256

-- Two fronts of one list that spell values of one type are one front, and spell one value.
abbrev pub SpellingIsUnique : Type 0
SpellingIsUnique =
    (t : Xdr) (v w : Value t) (front back front' back' : List ℕ) → front ++ back ≡ front' ++ back' →
    Spells t v front → Spells t w front' → (length front ≡ length front') × (v ≡ w)

-- What is read of bytes is spelled by a front of them, and the rest is what stands behind it.
abbrev pub ReadingFindsSpelling : Type 0
ReadingFindsSpelling =
    (t : Xdr) (bytes rest : List ℕ) (v : Value t) → IsBytes bytes → read t bytes ≡ Ok (v, rest) →
    (front : List ℕ) × (bytes ≡ front ++ rest) × Spells t v front

-- What a front spells is read, whatever stands behind it.
abbrev pub SpellingIsRead : Type 0
SpellingIsRead =
    (t : Xdr) (v : Value t) (front rest : List ℕ) → Spells t v front → read t (front ++ rest) ≡ Ok (v, rest)

-- Where reading refuses, no front spells a value. It never wants memory.
abbrev pub RefusalMeansUnspelled : Type 0
RefusalMeansUnspelled =
    (t : Xdr) (bytes : List ℕ) (e : XdrError) → read t bytes ≡ Err e →
    (e ≢ Memory) × ((v : Value t) (front rest : List ℕ) → bytes ≡ front ++ rest → Spells t v front → ⊥)

-- Only a value that has a spelling is spelled.
abbrev pub SpelledHasSpelling : Type 0
SpelledHasSpelling = (t : Xdr) (v : Value t) (bytes : List ℕ) → Spells t v bytes → HasSpelling t v

-- What is written of a value that has a spelling spells it, and is its one spelling with zeros as padding.
pub record IsItsSpelling (t : Xdr) (v : Value t) (bytes : List ℕ) : Type 0 where
  pub spelled : Spells t v bytes
  pub zeros : SpellsBy ZeroPadding t v bytes
  pub only : (other : List ℕ) → SpellsBy ZeroPadding t v other → other ≡ bytes

abbrev pub WritingSpells : Type 0
WritingSpells = (t : Xdr) (v : Value t) → HasSpelling t v → IsItsSpelling t v (write t v)

-- The bytes that are appended are the value's, whatever stands before them.
abbrev pub WritingAppends : Type 0
WritingAppends = (t : Xdr) (v : Value t) (old : List ℕ) → appended t v old ≡ old ++ write t v

-- What a reader of a whole message tells of its bytes: a front of them spells it, or no front spells any value of
-- the type.
abbrev pub Tells : {X : Type 0} → (t : Xdr) → (X → Value t) → List ℕ → Result X XdrError → Type 0
Tells t view bytes (Ok x) =
    (front : List ℕ) × (rest : List ℕ) × (bytes ≡ front ++ rest) × Spells t (view x) front
Tells t view bytes (Err e) =
    (v : Value t) (front rest : List ℕ) → bytes ≡ front ++ rest → Spells t v front → ⊥
