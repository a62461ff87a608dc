use Rattle.std.proofs.Common.{◌≡◌, ◌++◌, Bool, false, true, not, ◌&&◌, ◌||◌, [], length, arith, refl, sym}
use Rattle.std.proofs.Common.{ap, append-nil, ◌∙◌, subst}
use Rattle.std.proofs.lemmas.Bool.Decides.{nat_tests}
use Rattle.std.proofs.lemmas.List.{length-map, nil_from_length}
use Rattle.nfs_replies.specs.Entries.{AreFirst, origins_in}
use Rattle.nfs_replies.specs.Keys.{digest}
use Rattle.nfs_replies.specs.Origins.{Removes, same_origin}
use Rattle.nfs_replies.specs.declared.origins.Origin.{Origin}
use Rattle.nfs_replies.proofs.OneOriginLemmas.{alone_out}
use Rattle.nfs_replies.proofs.OriginLemmas.{first-or-other, key-by, none-first, removed-first, removes-first}
use Rattle.nfs_replies.proofs.origins.Origins.take_out.Goals as goal

-- of none, none is taken out
none-left : (o : Origin) → Removes o [] []
none-left o p = by (not (same_origin o p))
  where
    by : (b : Bool) → false ≡ (b && false)
    by true = refl
    by false = refl

alone : (b : Bool) → (b || false) ≡ true → b ≡ true
alone true e = refl
alone false e = e

-- one that stands alone
pub invariant_of-self : goal.invariant_of-self
invariant_of-self c = subst (AreFirst c.self.inside.key) (sym c.clear.ensures.empty) (none-first c.self.inside.key)

pub returns-then-len-eq1 : goal.returns-then-len-eq1
returns-then-len-eq1 c p =
    let fields = c.self.inside in
    let o = c.args.origin.now in
    let none : fields.others.items ≡ [] = nil_from_length fields.others.items (grind (
      arith,
      c.if-not-is_empty.ensures,
      c.is_empty.ensures,
      nat_tests,
    )) in
    let one : c.len.result ≡ 1 = omega arith in
    let there = rw (← c.self.view_is, none) at c.requires in
    rw (← c.self.view_is, none, c.clear.ensures.empty) (alone_out (origins_in fields.first.entries ++ []) o
    (ap length (append-nil (origins_in fields.first.entries)) ∙ length-map fields.first.entries _
    ∙ sym c.len.ensures.len ∙ one) there p)

-- one that stands among others, each at its own key
pub invariant_of-self-2 : goal.invariant_of-self-2
invariant_of-self-2 c =
    let fields = c.self.inside in
    let o = c.args.origin.now in
    removed-first fields.key o _ (key-by fields.key o _ (c.hash_under-hash.ensures
    ∙ ap (digest fields.key) c.sought.ensures)) fields.first.entries c.swap_remove.new.self.entries c.self.invariant
    [] [] (none-left o) c.swap_remove.ensures.unique c.swap_remove.ensures.updates.0

pub returns : goal.returns
returns c =
    let fields = c.self.inside in
    let o = c.args.origin.now in
    let key = key-by fields.key o _ (c.hash_under-hash.ensures ∙ ap (digest fields.key) c.sought.ensures) in
    let none : fields.others.items ≡ [] = nil_from_length fields.others.items (grind (
      arith,
      c.if-not-is_empty.ensures,
      c.is_empty.ensures,
      nat_tests,
    )) in
    let there = rw (← c.self.view_is, none) at c.requires in
    rw (← c.self.view_is, none) (removes-first fields.key o _ key fields.first.entries
    c.swap_remove.new.self.entries c.self.invariant [] [] (none-left o) c.swap_remove.ensures.unique
    c.swap_remove.ensures.updates.0
    (alone _ (sym (first-or-other fields.key o fields.first.entries c.self.invariant _ key []) ∙ there)))
