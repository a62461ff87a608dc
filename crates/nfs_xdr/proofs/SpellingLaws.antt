-- The laws: what a front spells is read with that front's end, so a front, a value and a refusal are each what
-- reading gives, and reading is a function.
use Rattle.std.proofs.Common.{◌≡◌, ℕ, List, ◌++◌, length, OnOk, Result, Ok, Err, sym, ap, ◌∙◌, arith}
use Rattle.std.proofs.lemmas.List.{length-append, length-replicate}
use Rattle.std.specs.Prelude.{replicate}
use Rattle.nfs_xdr.specs.declared.XdrError.{XdrError}
use Rattle.nfs_xdr.specs.Types.{Xdr, Value, AnyPadding, ZeroPadding}
use Rattle.nfs_xdr.specs.Reading.{read, ReadsFront}
use Rattle.nfs_xdr.specs.Writing.{WritesResult, write}
use Rattle.nfs_xdr.specs.Laws.{IsBytes, IsItsSpelling, Tells, SpellingIsUnique, ReadingFindsSpelling, SpellingIsRead}
use Rattle.nfs_xdr.specs.Laws.{RefusalMeansUnspelled, SpelledHasSpelling, WritingSpells, WritingAppends}
use Rattle.nfs_xdr.proofs.NumberBytesLemmas.{ok_is}
use Rattle.nfs_xdr.proofs.ReadIsSpelledLemmas.{found}
use Rattle.nfs_xdr.proofs.SpelledIsReadLemmas.{again}
use Rattle.nfs_xdr.proofs.WrittenBytesLemmas.{appends, writes, only, has_spelling}
use Rattle.nfs_xdr.proofs.NoMemoryLemmas.{no_want}

pub spelling_is_read : SpellingIsRead
spelling_is_read t v front rest s = again AnyPadding t v front rest s

lengths : (front back front' back' : List ℕ) → front ++ back ≡ front' ++ back' → back ≡ back' →
    length front ≡ length front'
lengths front back front' back' e rest =
    omega (
      arith,
      ap (λ (b : List ℕ). length b) e,
      ap (λ (b : List ℕ). length b) rest,
      length-append front back,
      length-append front' back',
    )

pub spelling_is_unique : SpellingIsUnique
spelling_is_unique t v w front back front' back' e s s' =
    let one : read t (front ++ back) ≡ Ok (v, back) = again AnyPadding t v front back s in
    let other : read t (front ++ back) ≡ Ok (w, back') = ap
    (λ (b : List ℕ). read t b) e ∙ again AnyPadding t w front' back' s' in
    let same : (v, back) ≡ (w, back') = ok_is {A = Value t × List ℕ} (v, back) (w, back') (sym one ∙ other) in
    let rest : back ≡ back' = ap (λ (p : Value t × List ℕ). p.1) same in
    (lengths front back front' back' e rest, ap (λ (p : Value t × List ℕ). p.0) same)

pub reading_finds_spelling : ReadingFindsSpelling
reading_finds_spelling t bytes rest v fits e =
    let f = found t bytes (v, rest) fits e in
    (f.front, f.parts, f.spelled)

pub refusal_means_unspelled : RefusalMeansUnspelled
refusal_means_unspelled t bytes e refused = (
  λ is. no_want t bytes (refused ∙ ap (λ (d : XdrError). Err d) is),
  λ v front rest parts s.
      let read_so : read t bytes ≡ Ok (v, rest) = ap
      (λ (b : List ℕ). read t b) parts ∙ again AnyPadding t v front rest s in
      cc,
)

pub spelled_has_spelling : SpelledHasSpelling
spelled_has_spelling t v bytes s = has_spelling AnyPadding t v bytes s

-- zeros are padding of zeros
zeros_are : (n : ℕ) → ZeroPadding (replicate n 0)
zeros_are n = ap (λ (k : ℕ). replicate k 0) (sym (length-replicate n 0))

pub writing_spells : WritingSpells
writing_spells t v h = record {
  spelled = writes AnyPadding (λ _. tt) t v h;
  zeros = writes ZeroPadding zeros_are t v h;
  only = only t v;
}

pub writing_appends : WritingAppends
writing_appends t v old = appends t v old

-- What a composite reader does tells what its bytes spell.
pub tells : {X : Type 0} (t : Xdr) (view : X → Value t) (old new : List ℕ) (result : Result X XdrError) →
    IsBytes old → ReadsFront t view old new result → Tells t view old result
tells t view old new (Ok x) fits e =
    let f = reading_finds_spelling t old new (view x) fits e in
    (f.0, new, f.1, f.2)
tells t view old new (Err d) fits e = (refusal_means_unspelled t old d e).1

-- what is written is the bytes of the value
pub WritesResult-bytes : (x : (t : Xdr) × Value t) (old new : List ℕ) (result : Result (Unit {0}) XdrError) →
    WritesResult x old new result → OnOk result (new ≡ old ++ write x.0 x.1)
WritesResult-bytes x old new (Ok _) written = written.0 ∙ writing_appends x.0 x.1 old
WritesResult-bytes x old new (Err e) written = tt

-- and they spell it
pub WritesResult-spells : (x : (t : Xdr) × Value t) (old new : List ℕ) (result : Result (Unit {0}) XdrError) →
    WritesResult x old new result → OnOk result (IsItsSpelling x.0 x.1 (write x.0 x.1))
WritesResult-spells x old new (Ok _) written = writing_spells x.0 x.1 written.1
WritesResult-spells x old new (Err e) written = tt
