-- SETATTR leaves names as they are.
use Rattle.std.proofs.Common.{◌≡◌, ℕ, true, ◌&&◌, List, [], Option, Some, None, Result, Ok, IfOk, is_ok}
use Rattle.std.proofs.Common.{refl}
use Rattle.nfs_wire.specs.declared.attributes.Time.{Time}
use Rattle.nfs_wire.specs.declared.calls.SetattrArguments.{SetattrArguments}
use Rattle.nfs_wire.specs.declared.status.NfsStatus.{NfsStatus}
use Rattle.nfs_wire.specs.declared.status.NfsStatus.TheVariants as status
use Rattle.nfs_machine.specs.Data.{resized}
use Rattle.nfs_machine.proofs.CookieLemmas.{kept-same}
use Rattle.nfs_machine.specs.AttributeSteps.{setattr_end}
use Rattle.nfs_machine.proofs.ChecksPassedLemmas.{chained-is, resolved-lives}
use Rattle.nfs_machine.proofs.ProcedureFollowsLemmas.{Alters, Follows, follows-altered, of-ok}
use Rattle.nfs_machine.proofs.ShortReplyLemmas.{chained}
use Rattle.nfs_machine.specs.AttributeSteps.{set_object}
use Rattle.nfs_machine.specs.Attributes.{entries_of, is_directory}
use Rattle.nfs_machine.specs.Checks.{◌>>=◌, bytes_in, changeable, holding, object_of}
use Rattle.nfs_machine.specs.Exports.{LivingExport}
use Rattle.nfs_machine.specs.Laws.{KeepsEntries}
use Rattle.nfs_machine.specs.Resolve.{resolve}
use Rattle.nfs_machine.specs.State.{
  Content,
  Regular,
  Directory,
  Link,
  BlockDevice,
  CharacterDevice,
  Socket,
  Fifo,
  Living,
  State,
}
use Rattle.nfs_machine.specs.Times.{is_time, time_of, touch}
use Rattle.nfs_machine.specs.declared.context.Ctx.{Ctx}

-- a content in the size that is set, if one is
abbrev content_sized : Content → Option ℕ → Result Content NfsStatus
content_sized c size = elim size [ None ↦ Ok c | Some size ↦ bytes_in c >>= λ bytes. Ok (Regular (resized bytes size)) ]

record Sized (was is : Content) : Type 0 where
  kind : is_directory is ≡ is_directory was
  content : is_directory was ≡ true → is ≡ was
  text : (t : List ℕ) → is ≡ Link t → was ≡ Link t
  entries : KeepsEntries (entries_of was) (entries_of is)
  regular : is_ok (bytes_in was) ≡ true → is_ok (bytes_in is) ≡ true

sized-keeps : (c : Content) (size : Option ℕ) → IfOk (content_sized c size) (Sized c)
sized-keeps c None = record
    { kind = refl; content = λ is. refl; text = λ t e. e; entries = kept-same (entries_of c); regular = λ e. e }
sized-keeps (Regular bytes)
    (Some size) = record
    { kind = refl; content = λ is. cc; text = λ t e. cc; entries = kept-same []; regular = λ e. refl }
sized-keeps (Directory entries last) (Some size) = tt
sized-keeps (Link text) (Some size) = tt
sized-keeps (BlockDevice device) (Some size) = tt
sized-keeps (CharacterDevice device) (Some size) = tt
sized-keeps Socket (Some size) = tt
sized-keeps Fifo (Some size) = tt

-- an object in such a content, and with any other attributes
set-alter : (o : Living) (now : Time) (content : Content) (mode uid gid : ℕ) (accessed modified : Time)
    → Sized o.content content
    → Alters now o (record o {
      content = content;
      mode = mode;
      uid = uid;
      gid = gid;
      accessed = accessed;
      modified = modified;
      changed = touch o.changed now;
      verifier = None;
    })
set-alter o now content mode uid gid accessed modified is = record {
  keeps = record { export = refl; generation = refl; kind = is.kind; content = is.content };
  turns = record { generation = refl; kind = is.kind; text = is.text; changed = refl; entries = is.entries };
  regular = is.regular;
}

set-alters : (exports : List LivingExport) (ctx : Ctx) (o : Living) (a : SetattrArguments) →
    IfOk (set_object exports ctx o a) (Alters (time_of ctx.moment) o)
set-alters exports ctx o a =
    let set = a.attributes in
    let P : Living → Type 0 = Alters (time_of ctx.moment) o in
    chained P (changeable exports o) _
    (λ x1. chained P (holding _ status.NotSynchronized) _
    (λ x2. chained P (holding (is_time set.accessed && is_time set.modified) status.Invalid) _ (λ x3.
    chained-is P (content_sized o.content set.size) _ (λ content is.
    let keeps : Sized o.content content = of-ok (Sized o.content) (content_sized o.content set.size) content is
    (sized-keeps o.content set.size) in
    search (chained, set-alter, keeps) depth 10))))

pub setattr-follows : (old : State) (ctx : Ctx) (a : SetattrArguments)
    → IfOk (setattr_end old ctx a) (λ e. Follows (time_of ctx.moment) old e.1)
setattr-follows old ctx a =
    chained-is (λ (e : Unit {0} × State). Follows (time_of ctx.moment) old e.1) (object_of (resolve old ctx a.object)) _
    (λ o at.
    chained-is (λ (e : Unit {0} × State). Follows (time_of ctx.moment) old e.1)
    (set_object old.exports ctx o.object a) _
    (λ x is.
    follows-altered (time_of ctx.moment) old o.number o.object x (resolved-lives old ctx a.object o at)
    (of-ok (Alters (time_of ctx.moment) o.object) (set_object old.exports ctx o.object a) x is
    (set-alters old.exports ctx o.object a))))
