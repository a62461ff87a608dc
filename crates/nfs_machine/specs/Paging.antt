-- Pages of directories: there is one or none, they are no longer than the caller asks, and where the next goes on (RFC
-- 1813, 3.3.16 and 3.3.17).
use Rattle.std.specs.Prelude.{◌≡◌, ℕ, ◌+◌, ◌<◌, ◌≤◌, Bool, List, [], ◌∷◌, length, Result}
use Rattle.std.specs.Prelude.{IfOk}
use Rattle.nfs_wire.specs.Replies.{result_bytes}
use Rattle.nfs_wire.specs.declared.calls.NfsCall.TheVariants as calls
use Rattle.nfs_wire.specs.declared.calls.ReaddirArguments.{ReaddirArguments}
use Rattle.nfs_wire.specs.declared.calls.ReaddirplusArguments.{ReaddirplusArguments}
use Rattle.nfs_wire.specs.declared.replies.NfsReply.TheVariants as replies
use Rattle.nfs_wire.specs.declared.replies.ReaddirReply.{ReaddirReply}
use Rattle.nfs_wire.specs.declared.replies.ReaddirplusReply.{ReaddirplusReply}
use Rattle.nfs_wire.specs.declared.status.NfsStatus.{NfsStatus}
use Rattle.side_wire.specs.declared.message.Message.{Message}
use Rattle.nfs_machine.specs.NfsSteps.{NfsStep}
use Rattle.nfs_machine.specs.Pages.{DirectoryPage, Pages}
use Rattle.nfs_machine.specs.State.{Entry, State}
use Rattle.nfs_machine.specs.declared.context.Ctx.{Ctx}

-- where the next page goes on
abbrev pub next_cookie : ℕ → List Entry → ℕ
next_cookie cookie [] = cookie
next_cookie cookie (e ∷ page) = next_cookie e.cookie page

-- cookies rise from above a number
abbrev pub Rises : ℕ → List Entry → Type 0
Rises below [] = Unit {0}
Rises below (e ∷ entries) = (below < e.cookie) × Rises e.cookie entries

-- of the same entries there is one page, or there is none
abbrev pub PagesAreOne : Type 0
PagesAreOne = (fit : List Entry → Bool) (entries : List Entry) (one other : Result DirectoryPage NfsStatus) →
    Pages fit entries one → Pages fit entries other → one ≡ other

abbrev pub PagesExist : Type 0
PagesExist = (fit : List Entry → Bool) (entries : List Entry) → (page : Result DirectoryPage NfsStatus) ×
    Pages fit entries page

-- a page is no longer than the caller asks; its count leaves out the status
abbrev pub PagesFit : Type 0
PagesFit = (old : State) (ctx : Ctx) (a : ReaddirArguments) (r : ReaddirReply) (messages : List Message) (new : State)
    → NfsStep old ctx (calls.Readdir a) (replies.Readdir r) messages new →
    IfOk r.result (λ page. length (result_bytes (replies.Readdir r)) ≤ 4 + a.count)

abbrev pub FullPagesFit : Type 0
FullPagesFit = (old : State) (ctx : Ctx) (a : ReaddirplusArguments) (r : ReaddirplusReply) (messages : List Message)
    (new : State)
    → NfsStep old ctx (calls.Readdirplus a) (replies.Readdirplus r) messages new →
    IfOk r.result (λ page. length (result_bytes (replies.Readdirplus r)) ≤ 4 + a.most)
