-- What is left is of other addresses, and the new failure ends 10 seconds from now.
use Rattle.std.proofs.Common.{◌≡◌, ◌∙◌, ◌+◌, ◌++◌, Bool, true, false, List, [], ◌∷◌, ap, rules, subst, sym, tests}
use Rattle.std.proofs.Common.{if◌then◌else◌}
use Rattle.std.proofs.lemmas.Fn.{All-from_retain}
use Rattle.std.proofs.lemmas.List.Elements.{All-append, All-cons, All-nil}
use Rattle.std.specs.List.{All}
use Rattle.std.specs.Time.{instant_nanos}
use Rattle.nfs_server.specs.PassedOver.{rest_end}
use Rattle.nfs_server.proofs.network.failures.Failures.add.Goals as goal

pushed : {X : Type 0} (P : X → Type 0) (b : Bool) (old new : List X) (item : X) →
    new ≡ (if b then old ++ item ∷ [] else old) → All P old → P item → All P new
pushed P true old new item is all one =
    subst (All P) (sym is) (All-append P old (item ∷ []) all (All-cons P item [] one (All-nil P)))
pushed P false old new item is all one = subst (All P) (sym is) all

pub returns-in-Some : goal.returns-in-Some
returns-in-Some c =
    pushed (λ failure. failure.address ≡ c.args.address → instant_nanos failure.until ≡ rest_end c.args.now) _
    c.retain.new.self.items _ _ c.push.ensures.items
    (All-from_retain _ (λ failure. failure.address ≡ c.args.address → instant_nanos failure.until ≡ rest_end c.args.now)
    _ (λ x b q k. search (rules, tests)) _ _ c.retain.ensures.filtered)
    (λ _. c.in-Some.ensures.some ∙ ap (λ n. instant_nanos c.args.now + n) c.from_secs.ensures)

pub returns-in_default : goal.returns-in_default
returns-in_default c =
    All-from_retain _ (λ failure. failure.address ≡ c.args.address → instant_nanos failure.until ≡ rest_end c.args.now)
    _ (λ x b q k. search (rules, tests)) _ _ c.retain.ensures.filtered
