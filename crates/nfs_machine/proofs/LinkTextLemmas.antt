-- Where the texts of links are within their bound, so are the answers of READLINK, and objects that replace others
-- leave it so.
use Rattle.std.proofs.Common.{◌≡◌, ◌==◌, ℕ, ◌≤◌, true, false, cond, List, length, Some, IfOk, refl, sym, ◌∙◌, ap}
use Rattle.std.specs.FinMap.{get}
use Rattle.nfs_machine.proofs.ResolveLemmas.{resolved-lives}
use Rattle.nfs_machine.proofs.MapSumLemmas.{get-inserted}
use Rattle.nfs_machine.specs.Checks.{◌>>=◌, object_of, text_in}
use Rattle.nfs_machine.specs.Resolve.{Resolved, BadHandle, Stale, Names, resolve}
use Rattle.nfs_machine.specs.Shown.{with_object}
use Rattle.nfs_machine.specs.State.{
  Content,
  Regular,
  Directory,
  Link,
  BlockDevice,
  CharacterDevice,
  Socket,
  Fifo,
  Living,
  State,
}
use Rattle.nfs_machine.specs.WellFormed.{TextsFit}
use Rattle.nfs_machine.specs.declared.context.Ctx.{Ctx}

-- an object in the place of another, or of none
pub texts-put : (m : State) (number : ℕ) (o : Living) → TextsFit m → ((text : List ℕ) → o.content ≡ Link text
    → length text ≤ 4096) → TextsFit (with_object m number o)
texts-put m number o fit here n x text at is =
    elim (n == number) as (λ b. cond b (Some o) (get m.objects n) ≡ Some x → length text ≤ 4096) [
      | true ↦ λ e. (let same : o ≡ x = cc in here text (ap (λ (y : Living). y.content) same ∙ is))
      | false ↦ λ e. fit n x text e is
    ] (sym (get-inserted m.objects number o n) ∙ at)

-- what READLINK answers is within it
pub texts-read : (m : State) (ctx : Ctx) (object : List ℕ) → TextsFit m
    → IfOk (object_of (resolve m ctx object) >>= λ link. text_in link.object.content) (λ text. length text ≤ 4096)
texts-read m ctx object fit = at (resolve m ctx object) refl
  where
    of : (o : Living) (c : Content) → ((text : List ℕ) → c ≡ Link text → length text ≤ 4096)
        → IfOk (text_in c) (λ text. length text ≤ 4096)
    of o (Link text) bound = bound text refl
    of o (Regular bytes) bound = tt
    of o (Directory entries last) bound = tt
    of o (BlockDevice device) bound = tt
    of o (CharacterDevice device) bound = tt
    of o Socket bound = tt
    of o Fifo bound = tt

    at : (r : Resolved) → resolve m ctx object ≡ r → IfOk (object_of r >>= λ link. text_in link.object.content)
        (λ text. length text ≤ 4096)
    at BadHandle is = tt
    at Stale is = tt
    at (Names number o) is = of o o.content
        (λ text link. fit number o text (resolved-lives m ctx object number o is) link)
