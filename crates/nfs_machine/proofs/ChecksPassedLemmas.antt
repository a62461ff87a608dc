-- What the checks of a call tell where they are passed.
use Rattle.std.proofs.Common.{
  ◌≡◌,
  ◌==◌,
  ℕ,
  Bool,
  true,
  false,
  not,
  ◌&&◌,
  cond,
  List,
  [],
  ◌∷◌,
  length,
  arith,
  Option,
  Some,
  None,
  Result,
  Ok,
  Err,
  IfOk,
  find,
  refl,
  ap,
  subst,
}
use Rattle.std.specs.Cmp.{unsigned_Decides}
use Rattle.std.specs.Prelude.{is_none, ok_or}
use Rattle.std.specs.FinMap.{get}
use Rattle.std.proofs.lemmas.Bool.{false_from_ne_true, not-true}
use Rattle.nfs_wire.specs.declared.status.NfsStatus.{NfsStatus}
use Rattle.nfs_wire.specs.declared.status.NfsStatus.TheVariants as status
use Rattle.nfs_machine.specs.Attributes.{entries_of, is_directory}
use Rattle.nfs_machine.specs.Bytes.{same_bytes}
use Rattle.nfs_machine.specs.Checks.{DirectoryEntries, ◌>>=◌, holding, object_of, entries_in, bytes_in, entry_of}
use Rattle.nfs_machine.specs.RemoveSteps.{empty_directory, not_directory}
use Rattle.nfs_machine.specs.Exports.{LivingExport, export_admits, export_at}
use Rattle.nfs_machine.specs.Handles.{handle_of}
use Rattle.nfs_machine.specs.Resolve.{Named, Stale, Names, living_at, named, resolve}
use Rattle.nfs_machine.specs.State.{
  Content,
  Regular,
  Directory,
  Link,
  BlockDevice,
  CharacterDevice,
  Socket,
  Fifo,
  Entry,
  Living,
  State,
}
use Rattle.nfs_machine.specs.declared.context.Ctx.{Ctx}
use Rattle.nfs_machine.specs.declared.handle.Handle.{Handle}
use Rattle.nfs_machine.proofs.WellFormedLemmas.{no_entries}

-- what holds after each value that a check gives holds of the chain
pub chained-is : {A B : Type 0} (P : B → Type 0) (r : Result A NfsStatus) (f : A → Result B NfsStatus)
    → ((x : A) → r ≡ Ok x → IfOk (f x) P) → IfOk (r >>= f) P
chained-is P (Ok x) f holds = holds x refl
chained-is P (Err e) f holds = tt

pub holds : (b : Bool) (e : NfsStatus) (x : Unit {0}) → holding b e ≡ Ok x → b ≡ true
holds true e x is = refl
holds false e x is = cc

abbrev pub numbered : ℕ → Living → Named
numbered number o = record { number = number; object = o }

abbrev pub entries_with : List Entry → ℕ → DirectoryEntries
entries_with list last = record { list = list; last_cookie = last }

lives-at : (find : ℕ → Option Living) (h : Handle) (o : Option Living) (x : Named) → find h.fileid ≡ o
    → object_of (living_at o h) ≡ Ok x → find x.number ≡ Some x.object
lives-at find h None x at is = cc
lives-at find h (Some o) x at is =
    elim ((o.generation == h.generation) && (o.export == h.export)) as
    (λ b. object_of (cond b (Names h.fileid o) Stale) ≡ Ok x → find x.number ≡ Some x.object) [
      | true ↦ λ e. (let same : numbered h.fileid o ≡ x = cc in subst (λ (y : Named). find y.number ≡ Some y.object)
          same at)
      | false ↦ λ e. cc
    ] is

named-lives : (find : ℕ → Option Living) (exports : List LivingExport) (ctx : Ctx) (h : Option Handle)
    (x : Named) → object_of (named find exports ctx h) ≡ Ok x → find x.number ≡ Some x.object
named-lives find exports ctx None x is = cc
named-lives find exports ctx (Some h) x is =
    elim ((h.start == ctx.start) && export_admits (export_at exports h.export) ctx.host) as
    (λ b. object_of (cond b (living_at (find h.fileid) h) Stale) ≡ Ok x → find x.number ≡ Some x.object) [
      | true ↦ λ e. lives-at find h (find h.fileid) x refl e
      | false ↦ λ e. cc
    ] is

-- what a handle names lives
pub resolved-lives : (m : State) (ctx : Ctx) (bytes : List ℕ) (x : Named) → object_of (resolve m ctx bytes) ≡ Ok x
    → get m.objects x.number ≡ Some x.object
resolved-lives m ctx bytes x is = named-lives (get m.objects) m.exports ctx (handle_of bytes) x is

pub is-directory : (c : Content) (x : DirectoryEntries) → entries_in c ≡ Ok x → c ≡ Directory x.list x.last_cookie
is-directory (Directory entries last) x is = (let same : entries_with entries last ≡ x = cc in ap
    (λ (y : DirectoryEntries). Directory y.list y.last_cookie) same)
is-directory (Regular bytes) x is = cc
is-directory (Link text) x is = cc
is-directory (BlockDevice device) x is = cc
is-directory (CharacterDevice device) x is = cc
is-directory Socket x is = cc
is-directory Fifo x is = cc

pub is-regular : (c : Content) (x : List ℕ) → bytes_in c ≡ Ok x → is_directory c ≡ false
is-regular (Directory entries last) x is = cc
is-regular (Regular bytes) x is = refl
is-regular (Link text) x is = cc
is-regular (BlockDevice device) x is = cc
is-regular (CharacterDevice device) x is = cc
is-regular Socket x is = cc
is-regular Fifo x is = cc

pub leads-found : (p : Option Named) (x : Named) → ok_or p status.NoEntry ≡ Ok x → p ≡ Some x
leads-found None x is = cc
leads-found (Some y) x is = (let same : y ≡ x = cc in ap (λ (z : Named). Some z) same)

pub absent : (entries : List Entry) (name : List ℕ) → is_none (entry_of entries name) ≡ true
    → find (λ (x : Entry). same_bytes x.name name) entries ≡ None
absent entries name e =
    elim (entry_of entries name) as (λ (o : Option Entry). is_none o ≡ true → o ≡ None) [
      | None ↦ λ t. refl
      | Some x ↦ λ t. cc
    ] e

-- what REMOVE and RMDIR take away contains no name
pub plain-empty : (c : Content) (x : Unit {0}) → not_directory c ≡ Ok x → entries_of c ≡ []
plain-empty c x is = no_entries c (not-true (is_directory c) (holds (not (is_directory c)) _ x is))

-- whether there is none
abbrev pub are_none : List Entry → Bool
are_none es = length es == 0

pub no-entry : (es : List Entry) → are_none es ≡ true → es ≡ []
no-entry [] e = refl
no-entry (x ∷ es) e = (let z = (unsigned_Decides (length (x ∷ es)) 0).0 e in absurd (omega (arith, z)))

pub some-entry : (x : Entry) (es : List Entry) → are_none (x ∷ es) ≡ false
some-entry x es = false_from_ne_true (are_none (x ∷ es))
    (λ e. (let z = (unsigned_Decides (length (x ∷ es)) 0).0 e in omega (arith, z)))

pub directory-empty : (c : Content) (x : Unit {0}) → empty_directory c ≡ Ok x → entries_of c ≡ []
directory-empty (Directory entries last) x is = no-entry entries (holds (are_none entries) _ x is)
directory-empty (Regular bytes) x is = cc
directory-empty (Link text) x is = cc
directory-empty (BlockDevice device) x is = cc
directory-empty (CharacterDevice device) x is = cc
directory-empty Socket x is = cc
directory-empty Fifo x is = cc
