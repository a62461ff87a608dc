-- Reading finds what spells the arguments, since the laws of XDR hold at the type of every procedure's arguments;
-- and a call is made again of its procedure's number and the value of its arguments, so equal values are equal calls.
use Rattle.std.proofs.Common.{◌≡◌, ◌≢◌, ◌⊎◌, inl, inr, ℕ, zero, suc, true, List, [], ◌∷◌}
use Rattle.std.proofs.Common.{◌++◌, Result, Ok, Err, IsOkAnd, refl, sym, subst, ap, ◌∙◌}
use Rattle.std.specs.Result.{IsErrAnd}
use Rattle.nfs_xdr.specs.declared.XdrError.{XdrError}
use Rattle.nfs_xdr.specs.declared.XdrError.TheVariants.{Short, TooLong, BadValue, Memory}
use Rattle.nfs_xdr.specs.declared.arguments.ArgumentsError.{ArgumentsError}
use Rattle.nfs_xdr.specs.declared.arguments.ArgumentsError.TheVariants as told
use Rattle.nfs_xdr.specs.Types.{Xdr, Value, Spells}
use Rattle.nfs_xdr.specs.Laws.{IsBytes}
use Rattle.nfs_xdr.specs.Programs.{type_at, SpellsCall, IsFrontedBy, IsGarbage, SpellsOneCall, CallHoldsBytes}
use Rattle.nfs_xdr.specs.Programs.{ReadsCall, arguments_error}
use Rattle.nfs_xdr.specs.Reading.{read, holds_bytes, HoldsBytes}
use Rattle.nfs_xdr.proofs.NoMemoryLemmas.{no_want}
use Rattle.nfs_xdr.proofs.SpellingLaws.{spelling_is_unique, reading_finds_spelling, refusal_means_unspelled}

-- what is read is spelled by a front
pub IsFrontedBy-read : {C : Type 0} (types : List Xdr) (procedure_of : C → ℕ)
    (arguments_of : (call : C) → Value (type_at types (procedure_of call))) (call : C) (bytes rest : List ℕ) →
    IsBytes bytes → read (type_at types (procedure_of call)) bytes ≡ Ok (arguments_of call, rest) →
    IsFrontedBy (SpellsCall types procedure_of arguments_of) call bytes
IsFrontedBy-read types procedure_of arguments_of call bytes rest fits e =
    let found = reading_finds_spelling (type_at types (procedure_of call)) bytes rest (arguments_of call) fits e in
    (found.0, rest, found.1, found.2)

-- what reading refuses, no front spells
pub IsGarbage-refused : {C : Type 0} (is_procedure : ℕ → Type 0) (types : List Xdr) (procedure_of : C → ℕ)
    (arguments_of : (call : C) → Value (type_at types (procedure_of call))) →
    ((call : C) → is_procedure (procedure_of call)) → (procedure : ℕ) (bytes : List ℕ) (error : XdrError) →
    (is_procedure procedure → read (type_at types procedure) bytes ≡ Err error) →
    IsGarbage procedure_of (SpellsCall types procedure_of arguments_of) procedure bytes
IsGarbage-refused is_procedure types procedure_of arguments_of known procedure bytes error refused call front rest
    of_call whole spelled =
    let Q : ℕ → Type 0 = λ n. read (type_at types n) bytes ≡ Err error in
    let e : read (type_at types (procedure_of call)) bytes ≡ Err error = subst Q (sym of_call)
    (refused (subst is_procedure of_call (known call))) in
    (refusal_means_unspelled (type_at types (procedure_of call)) bytes error e).1
    (arguments_of call) front rest whole spelled

-- what is read, and holds bytes, is spelled by a front
abbrev SpelledWithBytes : (t : Xdr) → List ℕ → Type 0
SpelledWithBytes t bytes =
    (value : Value t) × (front : List ℕ) × (rest : List ℕ) × (bytes ≡ front ++ rest) × Spells t value front ×
    (holds_bytes t value ≡ true)

spelled_of : (t : Xdr) (bytes : List ℕ) → IsBytes bytes → (r : Result (Value t × List ℕ) XdrError)
    → read t bytes ≡ r → IsOkAnd r (λ x. holds_bytes t x.0 ≡ true) → SpelledWithBytes t bytes
spelled_of t bytes fits (Ok x) e holds =
    let found = reading_finds_spelling t bytes x.1 x.0 fits e in
    (x.0, found.0, x.1, found.1, found.2, holds)
spelled_of t bytes fits (Err d) e holds = absurd holds

pub HoldsBytes-spelled : (t : Xdr) (bytes : List ℕ) → IsBytes bytes → HoldsBytes t bytes →
    SpelledWithBytes t bytes
HoldsBytes-spelled t bytes fits held = spelled_of t bytes fits (read t bytes) refl held

-- what a reader that shares tells: where it isn't want of memory no front spells a value; else one that holds bytes
abbrev Told : (t : Xdr) → List ℕ → XdrError → Type 0
Told t bytes error = (read t bytes ≡ Err error) ⊎ ((error ≡ Memory) × HoldsBytes t bytes)

pub refused_told : (t : Xdr) (bytes : List ℕ) (error : XdrError) → Told t bytes error → error ≢ Memory
    → (value : Value t) (front rest : List ℕ) → bytes ≡ front ++ rest → Spells t value front → ⊥
refused_told t bytes error (inl refused) other = (refusal_means_unspelled t bytes error refused).1
refused_told t bytes error (inr held) other = absurd (other held.0)

pub held_told : (t : Xdr) (bytes : List ℕ) (error : XdrError) → Told t bytes error → error ≡ Memory →
    IsBytes bytes
    → SpelledWithBytes t bytes
held_told t bytes error (inl refused) memory fits =
    absurd (no_want t bytes (refused ∙ ap (λ (d : XdrError). Err d) memory))
held_told t bytes error (inr held) memory fits = HoldsBytes-spelled t bytes fits held.1

-- what a reader of calls tells: garbage, or no memory where the arguments hold bytes
module _ {C : Type 0} (is_procedure : ℕ → Type 0) (types : List Xdr) (procedure_of : C → ℕ)
    (arguments_of : (call : C) → Value (type_at types (procedure_of call)))
    (known : (call : C) → is_procedure (procedure_of call)) (procedure : ℕ) (bytes rest : List ℕ)
    (error : XdrError) where
  pub IsGarbage-told : ReadsCall is_procedure types procedure_of arguments_of procedure bytes rest (Err error)
      → error ≢ Memory → IsGarbage procedure_of (SpellsCall types procedure_of arguments_of) procedure bytes
  IsGarbage-told (inl refused) other =
      IsGarbage-refused is_procedure types procedure_of arguments_of known procedure bytes error (λ _. refused)
  IsGarbage-told (inr (inl held)) other = absurd (other held.0)
  IsGarbage-told (inr (inr unknown)) other = λ call front rest' of_call whole spelled.
      unknown.1 (subst is_procedure of_call (known call))

  pub CallHoldsBytes-told : ReadsCall is_procedure types procedure_of arguments_of procedure bytes rest (Err error)
      → error ≡ Memory → IsBytes bytes → CallHoldsBytes types procedure bytes
  CallHoldsBytes-told (inl refused) memory fits =
      absurd (no_want (type_at types procedure) bytes (refused ∙ ap (λ (d : XdrError). Err d) memory))
  CallHoldsBytes-told (inr (inl held)) memory fits = HoldsBytes-spelled (type_at types procedure) bytes fits held.1
  CallHoldsBytes-told (inr (inr unknown)) memory fits =
      let other : BadValue ≡ Memory = sym unknown.0 ∙ memory in
      absurd cc

-- equal values of one procedure make equal calls
made_unique : {C : Type 0} (types : List Xdr) (make : (n : ℕ) → Value (type_at types n) → C) (m n : ℕ) →
    m ≡ n → (v : Value (type_at types m)) (w : Value (type_at types n)) (front rest front' rest' : List ℕ) →
    front ++ rest ≡ front' ++ rest' → Spells (type_at types m) v front → Spells (type_at types n) w front' →
    make m v ≡ make n w
made_unique types make m n same v w front rest front' rest' whole spelled spelled' =
    let P : ℕ → Type 0 = λ k. (w : Value (type_at types k)) → Spells (type_at types k) w front' →
    make m v ≡ make k w in
    let here : P m = λ w spelled'. ap (make m)
    (spelling_is_unique (type_at types m) v w front rest front' rest' whole spelled spelled').1 in
    subst P same here w spelled'

-- a program of which each call is made again of its procedure and its arguments
pub spells_one_call : {C : Type 0} (types : List Xdr) (procedure_of : C → ℕ)
    (arguments_of : (call : C) → Value (type_at types (procedure_of call)))
    (make : (n : ℕ) → Value (type_at types n) → C) →
    ((call : C) → make (procedure_of call) (arguments_of call) ≡ call) →
    SpellsOneCall procedure_of (SpellsCall types procedure_of arguments_of)
spells_one_call types procedure_of arguments_of make again bytes front rest front' rest' call call' same whole spelled
    whole' spelled' =
    sym (again call) ∙ made_unique types make (procedure_of call) (procedure_of call') same (arguments_of call)
    (arguments_of call') front rest front' rest' (sym whole ∙ whole') spelled spelled' ∙ again call'

-- for each type of a list a way to make a call of its value
abbrev pub Makers : Type 0 → List Xdr → Type 0
Makers C [] = Unit {0}
Makers C (t ∷ ts) = (Value t → C) × Makers C ts

-- the call that is made of a value of the type at a place
abbrev pub made : {C : Type 0} → C → (types : List Xdr) → Makers C types → (n : ℕ) →
    Value (type_at types n) → C
made other [] makers n value = other
made other (t ∷ ts) makers zero value = makers.0 value
made other (t ∷ ts) makers (suc n) value = made other ts makers.1 n value

-- what is answered as garbage was no want of memory
pub is_not_memory : {C : Type 0} (result : Result C ArgumentsError) (e : XdrError) →
    IsErrAnd result (λ answer. answer ≡ arguments_error e) → result ≡ Err told.Garbage → e ≢ Memory
is_not_memory {C} result e gives is memory =
    let P : Result C ArgumentsError → Type 0 = λ r. IsErrAnd r (λ answer. answer ≡ arguments_error e) in
    let answered : told.Garbage ≡ told.Memory = subst P is gives ∙ ap arguments_error memory in
    absurd cc

only_memory : (e : XdrError) → arguments_error e ≡ told.Memory → e ≡ Memory
only_memory Short is = absurd cc
only_memory TooLong is = absurd cc
only_memory BadValue is = absurd cc
only_memory Memory is = refl

-- and what is answered as want of memory was it
pub is_memory : {C : Type 0} (result : Result C ArgumentsError) (e : XdrError)
    → IsErrAnd result (λ answer. answer ≡ arguments_error e) → result ≡ Err told.Memory → e ≡ Memory
is_memory {C} result e gives is =
    let P : Result C ArgumentsError → Type 0 = λ r. IsErrAnd r (λ answer. answer ≡ arguments_error e) in
    only_memory e (sym (subst P is gives))
