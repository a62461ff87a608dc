use Rattle.std.proofs.Common.{◌≡◌, None, Option, is_some, sym, ap, ◌∙◌, false, Some, refl}
use Rattle.nfs_replies.specs.Keys.{digest}
use Rattle.nfs_replies.proofs.OriginLemmas.{added-first, adds-first, key-by}
use Rattle.nfs_replies.proofs.origins.Origins.add.Goals as goal

none : {A : Type 0} (o : Option A) → is_some o ≡ false → o ≡ None
none None e = refl
none (Some a) e = cc

pub invariant_of-self-2 : goal.invariant_of-self-2
invariant_of-self-2 c =
    let fields = c.self.inside in
    let o = c.args.origin in
    added-first fields.key o _ (key-by fields.key o _ (c.hash_under-hash.ensures
    ∙ ap (digest fields.key) c.sought.ensures)) fields.first.entries c.insert.new.self.entries c.self.invariant
    c.in_ok-insert.ensures.unique _ c.into_bytes.ensures (none _ (sym c.contains_key.ensures ∙ c.if-contains_key.false))
    c.in_ok-insert.ensures.updates.0

pub returns-clause-added : goal.returns-clause-added
returns-clause-added c =
    let fields = c.self.inside in
    let o = c.args.origin in
    rw (← c.self.view_is) (adds-first fields.key o _ (key-by fields.key o _ (c.hash_under-hash.ensures
    ∙ ap (digest fields.key) c.sought.ensures)) fields.first.entries c.insert.new.self.entries c.self.invariant
    c.in_ok-insert.ensures.unique _ c.into_bytes.ensures (none _ (sym c.contains_key.ensures ∙ c.if-contains_key.false))
    c.in_ok-insert.ensures.updates.0 fields.others.items)
