-- What READ reads of an object.
use Rattle.std.proofs.Common.{◌≡◌, Result, Ok, Err, sym, ap, ◌∙◌}
use Rattle.nfs_wire.specs.declared.calls.ReadArguments.{ReadArguments}
use Rattle.nfs_wire.specs.declared.replies.ReadData.{ReadData}
use Rattle.nfs_wire.specs.declared.status.NfsStatus.{NfsStatus}
use Rattle.nfs_machine.specs.Attributes.{type_of}
use Rattle.nfs_machine.specs.Data.{read_at}
use Rattle.nfs_machine.specs.DataSteps.{read_object}
use Rattle.nfs_machine.specs.State.{Content}
use Rattle.nfs_machine.specs.declared.context.Ctx.{Ctx}
use Rattle.nfs_objects.specs.Knows.{Knows}
use Rattle.nfs_objects.specs.Values.{DraftValue}
use Rattle.nfs_inodes.proofs.StandsLemmas.{kind-is}
use Rattle.nfs_inodes.specs.Known.{IsKnown, bytes_of, content_at, object_at, shell}
use Rattle.nfs_inodes.specs.declared.found.Known.{Known}
use Rattle.nfs_data.specs.Reads.{read_found}

-- what the checks came to
abbrev pub Checks : {A : Type 0} → Known → Result A NfsStatus → Ctx → Type 0
Checks x checked ctx = (content : Content) (a : ReadArguments) → type_of content ≡ x.attributes.kind
    → read_object ctx (shell x content) a ≡ read_found content a checked

-- what is read of an object
module _ {A : Type 0} (d : DraftValue) (a : ReadArguments) (x : Known) (known : Knows d (λ k. IsKnown k.state x))
    (checked : Result A NfsStatus)
    (checks : Checks x checked d.ctx) where
  object-end : Knows d (λ k. read_object d.ctx (object_at k.state x) a
      ≡ read_found (content_at k.state x.number) a checked)
  object-end s k w = checks (content_at k.state x.number) a (kind-is k.state x (known s k w))

  pub refuses : (e : NfsStatus) → checked ≡ Err e
      → Knows d (λ k. read_object d.ctx (object_at k.state x) a ≡ Err e)
  refuses e is s k w = object-end s k w ∙ ap (read_found (content_at k.state x.number) a) is

  pub reads : (passes : A) (y : Known) (found : ReadData) → checked ≡ Ok passes → y ≡ x
      → Knows d (λ k. found ≡ read_at (bytes_of (content_at k.state y.number)) a.offset a.count)
      → Knows d (λ k. read_object d.ctx (object_at k.state x) a ≡ Ok found)
  reads passes y found is same finds s k w =
      object-end s k w ∙ ap (read_found (content_at k.state x.number) a) is
      ∙ sym (ap (λ r. Ok r) (finds s k w
      ∙ ap (λ (z : Known). read_at (bytes_of (content_at k.state z.number)) a.offset a.count) same))
