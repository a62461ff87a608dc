use Rattle.std.proofs.Common.{sym, ap, ◌∙◌}
use Rattle.nfs_replies.specs.Keys.{digest}
use Rattle.nfs_replies.proofs.OriginLemmas.{key-by, removed-first, removes-first, stays-first}
use Rattle.nfs_replies.proofs.origins.Origins.remove.Goals as goal

pub invariant_of-self : goal.invariant_of-self
invariant_of-self c =
    let fields = c.self.inside in
    let o = c.args.origin.now in
    removed-first fields.key o _ (key-by fields.key o _ (c.hash_under-hash.ensures
    ∙ ap (digest fields.key) c.sought.ensures)) fields.first.entries c.swap_remove.new.self.entries c.self.invariant
    fields.others.items c.remove_other.new.others.items c.remove_other.ensures
    c.swap_remove.ensures.unique c.swap_remove.ensures.updates.0

pub returns-then-is_first : goal.returns-then-is_first
returns-then-is_first c =
    let fields = c.self.inside in
    let o = c.args.origin.now in
    rw (← c.self.view_is) (removes-first fields.key o _ (key-by fields.key o _ (c.hash_under-hash.ensures
    ∙ ap (digest fields.key) c.sought.ensures)) fields.first.entries c.swap_remove.new.self.entries c.self.invariant
    fields.others.items c.remove_other.new.others.items c.remove_other.ensures
    c.swap_remove.ensures.unique c.swap_remove.ensures.updates.0
    (sym (rw c.bytes.ensures at c.is_first.ensures) ∙ c.if-is_first.true))

pub returns-else-is_first : goal.returns-else-is_first
returns-else-is_first c =
    let fields = c.self.inside in
    let o = c.args.origin.now in
    rw (← c.self.view_is) (stays-first fields.key o _ (key-by fields.key o _ (c.hash_under-hash.ensures
    ∙ ap (digest fields.key) c.sought.ensures)) fields.first.entries fields.first.entries c.self.invariant
    fields.others.items c.remove_other.new.others.items c.remove_other.ensures
    (sym (rw c.bytes.ensures at c.is_first.ensures) ∙ c.if-is_first.false))
