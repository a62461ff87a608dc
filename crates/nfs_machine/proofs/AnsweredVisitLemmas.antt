-- A page that is answered is one of the directory that the handle names.
use Rattle.std.proofs.Common.{◌≡◌, ℕ, Bool, true, false, List, [], ◌∷◌, Result, Ok, refl, ap, arith, ◌||◌, ◌==◌}
use Rattle.nfs_wire.specs.declared.calls.Verifier.{Verifier}
use Rattle.nfs_wire.specs.declared.status.NfsStatus.{NfsStatus}
use Rattle.nfs_wire.specs.declared.status.NfsStatus.TheVariants as status
use Rattle.nfs_machine.specs.Attributes.{is_directory}
use Rattle.nfs_machine.specs.Bytes.{same_bytes}
use Rattle.nfs_machine.specs.DataSteps.{verifier_of}
use Rattle.nfs_machine.proofs.ResolveLemmas.{resolved-lives}
use Rattle.nfs_machine.specs.Checks.{DirectoryEntries, ◌>>=◌, entries_in, holding, object_of, permitted}
use Rattle.nfs_machine.specs.Pages.{DirectoryPage, Pages, all_entries, behind}
use Rattle.nfs_machine.proofs.PageLemmas.{PagesOf}
use Rattle.nfs_machine.specs.PageSteps.{IsParentOf, entries_left}
use Rattle.nfs_machine.specs.Paging.{Rises}
use Rattle.nfs_machine.proofs.VisitLemmas.{ListsPage}
use Rattle.nfs_machine.specs.Permission.{ToList, may}
use Rattle.nfs_machine.specs.Resolve.{Resolved, BadHandle, Stale, Names, resolve}
use Rattle.nfs_machine.specs.State.{
  Content,
  Regular,
  Directory,
  Link,
  BlockDevice,
  CharacterDevice,
  Socket,
  Fifo,
  Entry,
  Living,
  State,
}
use Rattle.nfs_machine.specs.WellFormed.{CookiesRise, WellFormed}
use Rattle.nfs_machine.specs.declared.context.Ctx.{Ctx}

rising : (below last : ℕ) (es : List Entry) → CookiesRise below es last → Rises below es
rising below last [] h = tt
rising below last (e ∷ es) h = (h.0, rising e.cookie last es h.1)

module _ (fit : List Entry → Bool) (p : DirectoryPage) where
  -- the checks were passed
  passed : (b c : Bool) (e f : NfsStatus) (es : List Entry)
      → PagesOf fit (holding b e >>= λ _. holding c f >>= λ _. Ok es) (Ok p) → Pages fit es (Ok p)
  passed true true e f es is = is
  passed true false e f es is = cc
  passed false c e f es is = cc

module _ (m : State) (ctx : Ctx) (w : WellFormed m) (directory : List ℕ) (cookie : ℕ) (verifier : Verifier) (parent : ℕ)
    (is_parent : IsParentOf m ctx directory parent) (fit : List Entry → Bool) (p : DirectoryPage) where
  abbrev Rest : ℕ → Living → DirectoryEntries → Result (List Entry) NfsStatus
  Rest number o entries = do
    _ ← permitted ctx o ToList
    _ ← holding ((cookie == 0) || same_bytes verifier.bytes (verifier_of ctx).bytes) status.BadCookie
    Ok (behind cookie (all_entries number parent entries.list))

  at-directory : (number : ℕ) (o : Living) (c : Content) → resolve m ctx directory ≡ Names number o → o.content ≡ c
      → PagesOf fit (entries_in c >>= Rest number o) (Ok p) → ListsPage m ctx directory cookie fit p
  at-directory number o (Directory entries last) named content is = record {
    number = number;
    object = o;
    is_named = named;
    entries = entries;
    last = last;
    is_directory = content;
    parent = parent;
    is_parent = is_parent number o named (ap is_directory content);
    visit = passed fit p (may ctx.ids o ToList) ((cookie == 0) || same_bytes verifier.bytes (verifier_of ctx).bytes)
        status.Access status.BadCookie (behind cookie (all_entries number parent entries)) is;
    in_order = (
      omega arith,
      (
        omega arith,
        rising 2 last entries
            (w.cookies number o entries last (resolved-lives m ctx directory number o named) content),
      ),
    );
  }
  at-directory number o (Regular bytes) named content is = cc
  at-directory number o (Link text) named content is = cc
  at-directory number o (BlockDevice device) named content is = cc
  at-directory number o (CharacterDevice device) named content is = cc
  at-directory number o Socket named content is = cc
  at-directory number o Fifo named content is = cc

  at-handle : (r : Resolved) → resolve m ctx directory ≡ r
      → PagesOf fit (object_of r >>= λ d. entries_in d.object.content >>= Rest d.number d.object) (Ok p)
      → ListsPage m ctx directory cookie fit p
  at-handle BadHandle named is = cc
  at-handle Stale named is = cc
  at-handle (Names number o) named is = at-directory number o o.content named refl is

  pub lists : PagesOf fit (entries_left m ctx directory cookie verifier parent) (Ok p)
      → ListsPage m ctx directory cookie fit p
  lists is = at-handle (resolve m ctx directory) refl is
