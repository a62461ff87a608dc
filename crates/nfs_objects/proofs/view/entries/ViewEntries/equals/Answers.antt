use Rattle.std.specs.Prelude.{◌≡◌, ◌+◌, Bool, true, false, not, is_some, length, drop, slice_get, option_map}
use Rattle.std.specs.Prelude.{refl, Option, Some, None}
use Rattle.std.proofs.Common.{◌&&◌, ◌∙◌, sym, ap, arith, rules}
use Rattle.std.specs.Cmp.Lexicographic.{pointwise}
use Rattle.nfs_objects.proofs.EntryPlaceLemmas.{compared-from, ended-from, longer-from}
use Rattle.nfs_objects.specs.Same.{same_seen}
use Rattle.nfs_objects.specs.Values.{Seen, seen_of}
use Rattle.nfs_objects.proofs.view.entries.ViewEntries.equals.Goals as goal

pub returns-in_default-at : goal.returns-in_default-at
returns-in_default-at c =
    let mine : Seen = seen_of (c.in-Some.mine.0, c.in-Some.mine.1.now) in
    let there : slice_get c.args.self.now.seen c.loop-place.place ≡ Some mine = search rules in
    let ended : slice_get c.args.other.now.seen c.loop-place.place ≡ None = search rules in
    sym (longer-from same_seen c.args.self.now.seen c.args.other.now.seen c.loop-place.place mine there ended)
    ∙ c.loop-place.invariant

pub returns-then-not-are_one : goal.returns-then-not-are_one
returns-then-not-are_one c =
    let mine : Seen = seen_of (c.in-Some.mine.0, c.in-Some.mine.1.now) in
    let theirs : Seen = seen_of (c.in-Some-at.theirs.0, c.in-Some-at.theirs.1.now) in
    let there : slice_get c.args.self.now.seen c.loop-place.place ≡ Some mine = search rules in
    let beside : slice_get c.args.other.now.seen c.loop-place.place ≡ Some theirs = search rules in
    let others : same_seen mine theirs ≡ false = search rules in
    sym (compared-from same_seen c.args.self.now.seen c.args.other.now.seen c.loop-place.place mine theirs there beside
    ∙ ap (λ b. b && pointwise same_seen (drop (c.loop-place.place + 1) c.args.self.now.seen)
    (drop (c.loop-place.place + 1) c.args.other.now.seen)) others)
    ∙ c.loop-place.invariant

pub loop-place-preserved : goal.loop-place-preserved
loop-place-preserved c =
    let mine : Seen = seen_of (c.in-Some.mine.0, c.in-Some.mine.1.now) in
    let theirs : Seen = seen_of (c.in-Some-at.theirs.0, c.in-Some-at.theirs.1.now) in
    let there : slice_get c.args.self.now.seen c.loop-place.place ≡ Some mine = search rules in
    let beside : slice_get c.args.other.now.seen c.loop-place.place ≡ Some theirs = search rules in
    let same : same_seen mine theirs ≡ true = search rules in
    sym (compared-from same_seen c.args.self.now.seen c.args.other.now.seen c.loop-place.place mine theirs there beside
    ∙ ap (λ b. b && pointwise same_seen (drop (c.loop-place.place + 1) c.args.self.now.seen)
    (drop (c.loop-place.place + 1) c.args.other.now.seen)) same)
    ∙ c.loop-place.invariant

mapped_none : {X Y : Type 0} (f : X → Y) (o : Option X) → is_some (option_map f o) ≡ is_some o
mapped_none f None = refl
mapped_none f (Some x) = refl

denied : (r b : Bool) → b ≡ not r → r ≡ not b
denied true b is = sym (ap not is)
denied false b is = sym (ap not is)

pub returns : goal.returns
returns c =
    let mine = c.args.self.now.seen in
    let theirs = c.args.other.now.seen in
    let over : c.loop-place.place ≡ length mine =
    omega (arith, c.loop-place-test.false, c.loop-place.auto.place-end, c.len-place-end.ensures) in
    let at : c.is_none.result ≡ not (is_some (slice_get theirs c.len.result)) =
    denied c.is_none.result _
    (sym (ap is_some c.at-2.ensures) ∙ mapped_none _ c.at-2.result ∙ c.is_none.ensures) in
    at ∙ ap (λ n. not (is_some (slice_get theirs n))) c.len.ensures
    ∙ sym (ended-from same_seen mine theirs)
    ∙ ap (λ n. pointwise same_seen (drop n mine) (drop n theirs)) (sym over)
    ∙ c.loop-place.invariant
