-- A handle that names an object names what lives at its number.
use Rattle.std.proofs.Common.{◌≡◌, ◌==◌, ℕ, ◌&&◌, true, false, cond, List, Option, Some, None, refl, sym, ◌∙◌, ap}
use Rattle.std.specs.FinMap.{get}
use Rattle.nfs_machine.specs.Exports.{LivingExport, export_admits, export_at}
use Rattle.nfs_machine.specs.Handles.{handle_of}
use Rattle.nfs_machine.specs.Resolve.{Stale, Names, living_at, named, resolve}
use Rattle.nfs_machine.specs.State.{Living, State}
use Rattle.nfs_machine.specs.declared.context.Ctx.{Ctx}
use Rattle.nfs_machine.specs.declared.handle.Handle.{Handle}

module _ (find : ℕ → Option Living) (number : ℕ) (o : Living) where
  living : (x : Option Living) (h : Handle) → find h.fileid ≡ x → living_at x h ≡ Names number o → find number ≡ Some o
  living None h at is = cc
  living (Some object) h at is =
      elim ((object.generation == h.generation) && (object.export == h.export)) as
      (λ t. cond t (Names h.fileid object) Stale ≡ Names number o → find number ≡ Some o) [
        | true ↦ λ same. (let n : h.fileid ≡ number = cc in let e : object ≡ o = cc in cc)
        | false ↦ λ same. cc
      ] is

  found : (exports : List LivingExport) (ctx : Ctx) (h : Option Handle) →
      named find exports ctx h ≡ Names number o → find number ≡ Some o
  found exports ctx None is = cc
  found exports ctx (Some h) is =
      elim ((h.start == ctx.start) && export_admits (export_at exports h.export) ctx.host) as
      (λ t. cond t (living_at (find h.fileid) h) Stale ≡ Names number o → find number ≡ Some o) [
        | true ↦ λ same. living (find h.fileid) h refl same
        | false ↦ λ same. cc
      ] is

-- the number is that of the handle
pub resolved-number : (m : State) (ctx : Ctx) (bytes : List ℕ) (h : Handle) (number : ℕ) (o : Living)
    → handle_of bytes ≡ Some h → resolve m ctx bytes ≡ Names number o → number ≡ h.fileid
resolved-number m ctx bytes h number o handle is = admitted
    (sym (ap (named (get m.objects) m.exports ctx) handle) ∙ is)
  where
    same : (x : Option Living) → living_at x h ≡ Names number o → number ≡ h.fileid
    same None at = cc
    same (Some object) at =
        elim ((object.generation == h.generation) && (object.export == h.export)) as
        (λ t. cond t (Names h.fileid object) Stale ≡ Names number o → number ≡ h.fileid)
        [ true ↦ λ e. cc | false ↦ λ e. cc ] at

    admitted : named (get m.objects) m.exports ctx (Some h) ≡ Names number o → number ≡ h.fileid
    admitted at =
        elim ((h.start == ctx.start) && export_admits (export_at m.exports h.export) ctx.host) as
        (λ t. cond t (living_at (get m.objects h.fileid) h) Stale ≡ Names number o → number ≡ h.fileid) [
          | true ↦ λ e. same (get m.objects h.fileid) e
          | false ↦ λ e. cc
        ] at

pub resolved-lives : (m : State) (ctx : Ctx) (bytes : List ℕ) (number : ℕ) (o : Living)
    → resolve m ctx bytes ≡ Names number o → get m.objects number ≡ Some o
resolved-lives m ctx bytes number o is = found (get m.objects) number o m.exports ctx (handle_of bytes) is
