use Rattle.std.proofs.Common.{◌∙◌, ◌||◌, ap, sym}
use Rattle.nfs_replies.specs.Origins.{is_among}
use Rattle.nfs_replies.specs.declared.origins.Origin.{Origin}
use Rattle.nfs_replies.proofs.OriginLemmas.{first-or-other, key-by}
use Rattle.nfs_replies.proofs.origins.Origins.has.Goals as goal

pub returns-then-is_first : goal.returns-then-is_first
returns-then-is_first c =
    let fields = c.self.inside in
    let o : Origin = record { host = c.args.host.now; bytes = c.args.sought.bytes.now } in
    rw (← c.self.view_is) (sym (first-or-other fields.key o fields.first.entries c.self.invariant _
    (key-by fields.key o _ c.hash_under-hash.ensures) fields.others.items
    ∙ ap (λ b. b || is_among fields.others.items o) (sym (rw c.bytes-bytes.ensures at c.is_first.ensures)
    ∙ c.if-is_first.true) ∙ sym c.if-is_first.true))

pub returns-else-is_first : goal.returns-else-is_first
returns-else-is_first c =
    let fields = c.self.inside in
    let o : Origin = record { host = c.args.host.now; bytes = c.args.sought.bytes.now } in
    rw (← c.self.view_is) (sym (first-or-other fields.key o fields.first.entries c.self.invariant _
    (key-by fields.key o _ c.hash_under-hash.ensures) fields.others.items
    ∙ ap (λ b. b || is_among fields.others.items o) (sym (rw c.bytes-bytes.ensures at c.is_first.ensures)
    ∙ c.if-is_first.false) ∙ sym (rw (c.bytes-bytes.ensures, c.deref.ensures.value) at c.is_other.ensures)))
