-- What is said of the calls of each program (RFC 5531). A program has its procedures and the type of each one's
-- arguments, the procedure of each call, and the value of its arguments.
use Rattle.std.specs.Prelude.{◌≡◌, ◌⊎◌, ℕ, true, List, ◌++◌, slice_index_or, Result, Ok, Err}
use Rattle.nfs_xdr.specs.declared.XdrError.{XdrError}
use Rattle.nfs_xdr.specs.declared.XdrError.TheVariants.{BadValue, Memory}
use Rattle.nfs_xdr.specs.declared.arguments.ArgumentsError.{ArgumentsError}
use Rattle.nfs_xdr.specs.declared.arguments.ArgumentsError.TheVariants as told
use Rattle.nfs_xdr.specs.Reading.{read, holds_bytes, HoldsBytes}
use Rattle.nfs_xdr.specs.Types.{Xdr, Void, Value, Spells}

-- the type of a procedure's arguments, of those of all procedures in the order of their numbers
abbrev pub type_at : List Xdr → ℕ → Xdr
type_at types procedure = slice_index_or types procedure Void

-- the bytes spell the arguments of the call
abbrev pub SpellsCall : {C : Type 0} → (types : List Xdr) (procedure_of : C → ℕ) →
    ((call : C) → Value (type_at types (procedure_of call))) → C → List ℕ → Type 0
SpellsCall types procedure_of arguments_of call bytes =
    Spells (type_at types (procedure_of call)) (arguments_of call) bytes

-- a front of the bytes spells the arguments of the call; what follows it is ignored
abbrev pub IsFrontedBy : {C : Type 0} → (C → List ℕ → Type 0) → C → List ℕ → Type 0
IsFrontedBy spells call bytes =
    (front : List ℕ) × (rest : List ℕ) × (bytes ≡ front ++ rest) × spells call front

-- no front of the bytes spells the arguments of a call of this procedure
abbrev pub IsGarbage : {C : Type 0} → (C → ℕ) → (C → List ℕ → Type 0) → ℕ → List ℕ → Type 0
IsGarbage {C} procedure_of spells procedure bytes =
    (call : C) (front rest : List ℕ) → procedure_of call ≡ procedure →
    bytes ≡ front ++ rest → spells call front → ⊥

-- one list of bytes spells at its front at most one call of a procedure
abbrev pub SpellsOneCall : {C : Type 0} → (C → ℕ) → (C → List ℕ → Type 0) → Type 0
SpellsOneCall {C} procedure_of spells =
    (bytes front rest front' rest' : List ℕ) (call call' : C) → procedure_of call ≡ procedure_of call' →
    bytes ≡ front ++ rest → spells call front →
    bytes ≡ front' ++ rest' → spells call' front' → call ≡ call'

-- a front of the bytes spells arguments of this procedure that hold bytes
abbrev pub CallHoldsBytes : List Xdr → ℕ → List ℕ → Type 0
CallHoldsBytes types procedure bytes =
    (value : Value (type_at types procedure)) × (front : List ℕ) × (rest : List ℕ) × (bytes ≡ front ++ rest) ×
    Spells (type_at types procedure) value front × (holds_bytes (type_at types procedure) value ≡ true)

-- What reading a call answers and leaves: the call whose arguments reading gives, or the error that it gives. A
-- procedure that the program has not is refused as a number that stands for none. There is no memory only where the
-- arguments are read, and hold bytes.
abbrev pub ReadsCall : {C : Type 0} → (is_procedure : ℕ → Type 0) →
    (types : List Xdr) (procedure_of : C → ℕ) → ((call : C) → Value (type_at types (procedure_of call))) →
    ℕ → List ℕ → List ℕ → Result C XdrError → Type 0
ReadsCall is_procedure types procedure_of arguments_of procedure old new (Ok call) =
    (procedure_of call ≡ procedure) × (read (type_at types (procedure_of call)) old ≡ Ok (arguments_of call, new))
ReadsCall is_procedure types procedure_of arguments_of procedure old new (Err e) =
    (read (type_at types procedure) old ≡ Err e)
    ⊎ ((e ≡ Memory) × HoldsBytes (type_at types procedure) old)
    ⊎ ((e ≡ BadValue) × (is_procedure procedure → ⊥))

-- what the caller is told of an error in reading: want of memory, or garbage (RFC 5531, section 9: GARBAGE_ARGS)
abbrev pub arguments_error : XdrError → ArgumentsError
arguments_error Memory = told.Memory
arguments_error _ = told.Garbage
