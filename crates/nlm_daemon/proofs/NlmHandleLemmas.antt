-- What a handle names, as a call of NLM checks it.
use Rattle.std.proofs.Common.{◌≡◌, ℕ, Bool, true, false, List, [], ◌∷◌, Option, Some, None, Result, Ok, Err, is_ok}
use Rattle.std.proofs.Common.{refl, sym, ◌∙◌, ap, subst}
use Rattle.std.specs.Prelude.{◌↔◌, IfOk, IsSome}
use Rattle.nfs_wire.specs.declared.attributes.FileType.TheVariants as types
use Rattle.nfs_wire.specs.declared.status.NfsStatus.{NfsStatus}
use Rattle.side_wire.specs.declared.message.NlmLock.{NlmLock}
use Rattle.nfs_machine.specs.Attributes.{type_of}
use Rattle.nfs_machine.specs.Checks.{◌>>=◌, bytes_in, holding, object_of}
use Rattle.nfs_machine.specs.Exports.{LivingExport}
use Rattle.nfs_machine.specs.LockSteps.{LockFault, NotRegular, RangeTooBig, ReadOnly, StaleHandle, file_checked}
use Rattle.nfs_machine.specs.Locks.{fits_offsets, range_of}
use Rattle.nfs_machine.specs.Resolve.{BadHandle, Named, Names, Resolved, Stale, resolve}
use Rattle.nfs_machine.specs.State.{Content}
use Rattle.nfs_objects.specs.Attempt.{HaltsFirst, first_wanted_with}
use Rattle.nfs_objects.specs.Knows.{Knows}
use Rattle.nfs_objects.specs.Values.{DraftValue, ModesValue, ViewValue}
use Rattle.nfs_objects.specs.declared.address.Addr.{Addr}
use Rattle.nfs_objects.specs.declared.change.Missing.{Missing}
use Rattle.nfs_inodes.proofs.StandsLemmas.{kind-is, regular-bytes}
use Rattle.nfs_inodes.specs.Known as known
use Rattle.nfs_inodes.specs.Known.{HasNumber, content_at, object_at, shell}
use Rattle.nfs_inodes.specs.Locks.{IsFileAt}
use Rattle.nfs_inodes.specs.declared.found.Known.{Known}
use Rattle.nfs_inodes.specs.declared.kinds.KnownFile.{KnownFile}
use Rattle.nlm_daemon.specs.Checks.{IsLiving, IsPlaceOf, judged, may_write}
use Rattle.nlm_daemon.specs.declared.checking.LockFault as faults
use Rattle.nlm_daemon.specs.declared.checking.FileRange.{FileRange}

-- ---- the checks of an object
module _ (exports : List LivingExport) (x : Known) (number : ℕ) (fits writes : Bool) (content : Content) where
  abbrev Is : Result ℕ LockFault → Type 0
  Is r = judged exports (shell x content) number fits writes ≡ r

  abbrev by_checks : (regular fits writable : Bool) → Result ℕ LockFault
  by_checks regular fits writable = holding regular NotRegular >>= λ _. holding fits RangeTooBig >>= λ _.
      holding writable ReadOnly >>= λ _. Ok number

  abbrev may : Bool
  may = may_write exports x writes

  pub judged-other : (e : NfsStatus) → bytes_in content ≡ Err e → Is (Err NotRegular)
  judged-other e is = ap (λ r. by_checks (is_ok r) fits may) is

  -- what is no regular file
  pub judged-none : (r : Result KnownFile NfsStatus) → ((f : KnownFile) → r ≡ Ok f → ⊥) → known.ChecksRegular x r →
      type_of content ≡ x.attributes.kind → Is (Err NotRegular)
  judged-none (Ok file) other checks kind = absurd (other file refl)
  judged-none (Err e) other checks kind = judged-other e (checks content kind)

  module _ (bytes : List ℕ) (regular : bytes_in content ≡ Ok bytes) where
    judged-file : Is (by_checks true fits may)
    judged-file = ap (λ r. by_checks (is_ok r) fits may) regular

    pub judged-big : fits ≡ false → Is (Err RangeTooBig)
    judged-big big = judged-file ∙ ap (λ b. by_checks true b may) big

    module _ (small : fits ≡ true) where
      pub judged-read_only : may ≡ false → Is (Err ReadOnly)
      judged-read_only none = judged-file ∙ ap (λ b. by_checks true b may) small ∙ ap (by_checks true true) none

      pub judged-fine : may ≡ true → Is (Ok number)
      judged-fine is = judged-file ∙ ap (λ b. by_checks true b may) small ∙ ap (by_checks true true) is

-- a range that does not fit
never-some : {A : Type 0} (o : Option A) → o ≡ None → IsSome o → ⊥
never-some None none some = cc
never-some (Some x) none some = cc

pub unfit : {A : Type 0} (o : Option A) (b : Bool) → (IsSome o ↔ (b ≡ true)) → o ≡ None → b ≡ false
unfit o true is none = absurd (never-some o none (is.1 refl))
unfit o false is none = refl

pub some-fits : {A : Type 0} (o : Option A) (b : Bool) (x : A) → (IsSome o ↔ (b ≡ true)) → o ≡ Some x → b ≡ true
some-fits None b x is some = absurd cc
some-fits (Some y) true x is some = refl
some-fits (Some y) false x is some = (let no : false ≡ true = is.0 refl in absurd cc)

-- ---- what a handle names
named-is : (r : Resolved) (t : Named) → object_of r ≡ Ok t → r ≡ Names t.number t.object
named-is BadHandle t e = absurd cc
named-is Stale t e = absurd cc
named-is (Names number object) t e =
    let same : record { number = number; object = object } ≡ t = cc in ap (λ (x : Named). Names x.number x.object) same

module _ (d : DraftValue) (handle : List ℕ) (fits writes : Bool) where
  abbrev judged_at : List LivingExport → Resolved → Result ℕ LockFault
  judged_at exports r = elim r as (λ r. Result ℕ LockFault) [
    | Names number object ↦ judged exports object number fits writes
    | other ↦ Err StaleHandle
  ]

  abbrev pub Checks : Result ℕ LockFault → Type 0
  Checks r = Knows d (λ k. file_checked k.state d.ctx handle fits writes ≡ r)

  pub checked-nothing : (e : NfsStatus) → Knows d (λ k. known.NamesNothing d.ctx handle k e) → Checks (Err StaleHandle)
  checked-nothing e names s k w =
      by (resolve k.state d.ctx handle) refl (names s k w).refused
    where
      by : (r : Resolved) → resolve k.state d.ctx handle ≡ r → object_of (resolve k.state d.ctx handle) ≡ Err e →
          judged_at k.state.exports (resolve k.state d.ctx handle) ≡ Err StaleHandle
      by BadHandle is refused = ap (judged_at k.state.exports) is
      by Stale is refused = ap (judged_at k.state.exports) is
      by (Names number object) is refused =
          let no : object_of (Names number object) ≡ Err e = sym (ap object_of is) ∙ refused in absurd cc

  pub checked-judged : (x : Known) (exports : List LivingExport) → Knows d (λ k. known.Names d.ctx handle k x) →
      Knows d (λ k. k.state.exports ≡ exports) → (r : Result ℕ LockFault) →
      ((content : Content) → type_of content ≡ x.attributes.kind →
      judged exports (shell x content) x.number fits writes ≡ r) → Checks r
  checked-judged x exports names lives r judges s k w =
      ap (judged_at k.state.exports)
      (named-is (resolve k.state d.ctx handle) (record { number = x.number; object = object_at k.state x })
      (names s k w).names)
      ∙ ap (λ es. judged es (object_at k.state x) x.number fits writes) (lives s k w)
      ∙ judges (content_at k.state x.number) (kind-is k.state x (names s k w).known)

-- ---- what is wanted first
-- where something came of it, nothing was wanted first
pub first-past : {A B : Type 0} (modes : ModesValue) (view : ViewValue) (wanted : Option Addr) (x : A) →
    HaltsFirst modes view wanted (Ok x) → (r : Result B Missing) → HaltsFirst modes view wanted r
first-past modes view None x first r = tt
first-past modes view (Some a) x first r = absurd first

-- the same where the handle was read as bytes
pub first-read : {A B : Type 0} (modes : ModesValue) (view : ViewValue) (handle bytes : List ℕ) (x : A) →
    bytes ≡ handle → HaltsFirst modes view (first_wanted_with view (bytes ∷ [])) (Ok x) → (r : Result B Missing) →
    HaltsFirst modes view (first_wanted_with view (handle ∷ [])) r
first-read {A} modes view handle bytes x is first r =
    first-past modes view (first_wanted_with view (handle ∷ [])) x
    (subst (λ h. HaltsFirst {A = A} modes view (first_wanted_with view (h ∷ [])) (Ok x)) is first) r

-- and what halts halts so whatever was to come of it
pub first-halts : (A B : Type 0) (modes : ModesValue) (view : ViewValue) (wanted : Option Addr) (halt : Missing) →
    HaltsFirst {A = A} modes view wanted (Err halt) → HaltsFirst {A = B} modes view wanted (Err halt)
first-halts A B modes view None halt first = tt
first-halts A B modes view (Some a) halt first = first

-- ---- a file, and a range of it
module _ (d : DraftValue) (handle : List ℕ) (x : Known) (names : Knows d (λ k. known.Names d.ctx handle k x)) where
  -- what is named is the file, and lives
  lives : (f : KnownFile) → f.known ≡ x → x.attributes.kind ≡ types.Regular → IsLiving d f
  lives f is kind =
      subst (λ (y : Known). Knows d (λ k. IsFileAt k.state y.number y.export)) (sym is) (λ s k w.
      let named = names s k w in
      let regular = regular-bytes (content_at k.state x.number) (kind-is k.state x named.known ∙ kind) in record {
        object = object_at k.state x;
        lives = named.known.lives;
        regular = ap (λ (r : Result (List ℕ) NfsStatus). is_ok r) regular;
        exported = refl;
      })

  pub file-of : (r : Result KnownFile faults.LockFault) → IfOk r (λ (f : KnownFile). f.known ≡ x) →
      IfOk r (λ (f : KnownFile). x.attributes.kind ≡ types.Regular) → IfOk r (λ (f : KnownFile). IsLiving d f)
  file-of (Ok f) is regular = lives f is regular
  file-of (Err e) is regular = tt

  pub place-of : (lock : NlmLock) (r : Result FileRange faults.LockFault) → HasNumber lock.file x.number →
      IfOk r (λ (p : FileRange). (p.file.known ≡ x) × (p.range ≡ range_of lock)) →
      IfOk r (λ (p : FileRange). fits_offsets lock ≡ true)
      → IfOk r (λ (p : FileRange). x.attributes.kind ≡ types.Regular) →
      IfOk r (IsPlaceOf d lock)
  place-of lock (Ok p) number is fits regular = record {
    lives = lives p.file is.0 regular;
    number = subst (λ (y : Known). HasNumber lock.file y.number) (sym is.0) number;
    range = is.1;
    fits = fits;
  }
  place-of lock (Err e) number is fits regular = tt

pub file-number : (handle : List ℕ) (x : Known) (r : Result KnownFile faults.LockFault) → HasNumber handle x.number →
    IfOk r (λ (f : KnownFile). f.known ≡ x) → IfOk r (λ (f : KnownFile). HasNumber handle f.known.number)
file-number handle x (Ok f) number is = subst (λ (y : Known). HasNumber handle y.number) (sym is) number
file-number handle x (Err e) number is = tt
