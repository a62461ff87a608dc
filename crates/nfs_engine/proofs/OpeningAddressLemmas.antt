-- An address that nobody holds is taken, filled, and let go.
use Rattle.std.proofs.Common.{◌≡◌, ◌==◌, ℕ, Bool, true, false, cond, Option, Some, None, IsSome}
use Rattle.std.proofs.Common.{refl, sym, ◌∙◌, ap, subst}
use Rattle.std.specs.Cmp.{unsigned_Decides}
use Rattle.nfs_objects.proofs.SeenLemmas.{is_addr-refl, is_addr-same}
use Rattle.nfs_objects.specs.Values.{is_addr}
use Rattle.nfs_objects.specs.declared.address.Addr.{Addr}
use Rattle.nfs_objects.specs.declared.modes.Mode.{Mode}
use Rattle.nfs_objects.specs.declared.object.Object.{Object}
use Rattle.nfs_engine.specs.Shards.{Fills, IsHeld, Retakes, ShardValue, hold_at}

-- who took an address holds it
pub taken-held : (old new : ShardValue) (a : Addr) (id : ℕ) (m : Mode) → Retakes old new a id (Some m) → IsHeld new a
taken-held old new a id m taken = record {
  holder = id;
  holds =
      let own : (id == id) ≡ true = (unsigned_Decides id id).1 refl in
      subst (λ (o : Option Mode). IsSome o) (sym (taken.holds a id
      ∙ ap (λ t. cond t (cond (id == id) (Some m) (hold_at old a id)) (hold_at old a id)) (is_addr-refl a)
      ∙ ap (λ t. cond t (Some m) (hold_at old a id)) own)) refl;
}

-- what a holder let go that nobody held before
let-go : (here own : Bool) (held before : Option Mode) (m : Option Mode) → held ≡ cond here (cond own m before) before →
    (here ≡ true → before ≡ None) → cond here (cond own None held) held ≡ before
let-go true true held before m was free = sym (free refl)
let-go true false held before m was free = was
let-go false own held before m was free = was

pub filled-once : (old taken filled new : ShardValue) (a : Addr) (id : ℕ) (m : Mode) (o : Option Object) →
    ((j : ℕ) → hold_at old a j ≡ None) → Retakes old taken a id (Some m) → Fills taken filled a o →
    Retakes filled new a id None → Fills old new a o
filled-once old taken filled new a id m o free takes fills leaves = record {
  objects = λ b. leaves.objects b ∙ fills.objects b
      ∙ ap (λ x. cond (is_addr a b) o x) (takes.objects b);
  holds = λ b j. leaves.holds b j
      ∙ let-go (is_addr a b) (id == j) (hold_at filled b j) (hold_at old b j) (Some m)
      (fills.holds b j ∙ takes.holds b j)
      (λ same. ap (λ c. hold_at old c j) (sym (is_addr-same a b same)) ∙ free j);
  next_generation = leaves.next_generation ∙ fills.next_generation ∙ takes.next_generation;
  index = leaves.index ∙ fills.index ∙ takes.index;
}
