use Rattle.std.proofs.Common.{sym, subst, ◌∙◌, ap, arith}
use Rattle.nfs_replies.specs.Keys.{digest}
use Rattle.nfs_replies.specs.Lists.{IsList}
use Rattle.nfs_replies.proofs.LabelLemmas.{put-left, put-list, list_of}
use Rattle.nfs_replies.proofs.list.KeptList.keep.Goals as goal

pub invariant_of-self : goal.invariant_of-self
invariant_of-self c =
    let fields = c.self.inside in
    let label = c.free_label-label.result in
    subst (IsList fields.key c.max-self-inside.result) (sym c.in-Ok.ensures.entries) (rw c.into_bytes.ensures
    (put-list fields.key fields.numbers fields.entries c.self.invariant c.args.bytes c.args.reply label
    c.max-self-inside.result (c.free_label-label.ensures.hash ∙ c.hash_under.ensures
    ∙ ap (digest fields.key) c.sought.ensures) (omega arith) (omega arith) c.free_label-label.ensures.free
    (rw (← c.self.view_is) at c.requires)))

pub returns-in-Ok-clause-front : goal.returns-in-Ok-clause-front
returns-in-Ok-clause-front c =
    let fields = c.self.inside in
    let label = c.free_label-label.result in
    rw (← c.self.view_is) (ap list_of c.in-Ok.ensures.entries ∙ rw c.into_bytes.ensures (put-left fields.key
    fields.numbers fields.entries c.self.invariant c.args.bytes c.args.reply label c.max-self-inside.result
    (c.free_label-label.ensures.hash ∙ c.hash_under.ensures ∙ ap (digest fields.key) c.sought.ensures) (omega arith)
    (omega arith) c.free_label-label.ensures.free (rw (← c.self.view_is) at c.requires)))
