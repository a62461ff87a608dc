use Rattle.std.proofs.Common.{◌≡◌, ◌==◌, ◌&&◌, ap, length, rules, sym, true, ◌∙◌}
use Rattle.nlm_ranges.proofs.BucketPartsLemmas.{none-listed}
use Rattle.nlm_ranges.proofs.bucket.LockBucket.is_empty.Goals as goal
use Rattle.nlm_ranges.specs.Buckets.{has_none}
use Rattle.nlm_ranges.specs.Parts.{files_of}

pub returns-then-self-eq0 : goal.returns-then-self-eq0
returns-then-self-eq0 c =
    let none : (c.self.inside.given == 0) ≡ true = search rules in
    c.is_empty.ensures ∙ ap (λ n. n == 0) c.self.inside.parts.ok.0
    ∙ sym (none-listed c.self.inside.parts.items c.self.invariant.1.filled)
    ∙ sym (ap (λ t. t && (length (files_of c.self.inside.parts.items) == 0)) none)
    ∙ ap has_none c.self.view_is
