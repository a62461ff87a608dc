use Rattle.std.proofs.Common.{◌==◌, ap, ◌∙◌, rules, tests}
use Rattle.std.proofs.lemmas.Iterator.{YieldsList-from_slice}
use Rattle.std.proofs.lemmas.Iterator.Search.{find_from_yields_List}
use Rattle.nlm_ranges.proofs.BucketPartsLemmas.{found-at}
use Rattle.nlm_ranges.proofs.bucket.LockBucket.find.Goals as goal
use Rattle.nlm_ranges.specs.Buckets.{BucketValue, LockedValue, file_in}

pub returns : goal.returns
returns c =
    find_from_yields_List (λ (f : LockedValue). f.number == c.args.number) _ _ c.find.result c.find.ensures.ran
    (YieldsList-from_slice c.files_at-files.result.now cc) (λ x b q k. search (rules, tests))
    ∙ found-at c.args.number c.self.inside.parts.items c.self.invariant.1 c.part_index.result c.deref.result.now
    c.files_at-files.result.now c.part_index.ensures c.deref.ensures.value c.files_at-files.ensures
    ∙ ap (λ (b : BucketValue). file_in b c.args.number) c.self.view_is
