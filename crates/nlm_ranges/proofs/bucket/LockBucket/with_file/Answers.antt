use Rattle.std.proofs.Common.{subst, sym}
use Rattle.nlm_ranges.proofs.BucketPartsLemmas.{are-put, put-in-parts, put-parts}
use Rattle.nlm_ranges.proofs.bucket.LockBucket.with_file.Goals as goal
use Rattle.nlm_ranges.specs.Buckets.{IsInserted}
use Rattle.nlm_ranges.specs.Parts.{AreParts, files_of}

pub invariant_of-result : goal.invariant_of-result
invariant_of-result c = (
  c.self.invariant.0,
  subst AreParts
      (sym (put-parts c.args.file c.self.inside.parts.items c.number.result c.number-2.result c.part_index-index.result
      c.deref.result.now c.deref-2.result.now c.files_at.result.now c.in_ok-others.others.items
      c.in_ok-files.files.items c.in_ok-parts.parts.items c.number.ensures c.number-2.ensures c.part_index-index.ensures
      c.deref.ensures.value c.deref-2.ensures.value c.files_at.ensures c.in_ok-others.ensures c.in_ok-files.ensures
      c.in_ok-parts.ensures))
      (are-put c.self.inside.parts.items c.args.file c.self.invariant.1),
)

pub returns : goal.returns
returns c =
    subst (λ b. IsInserted b c.args.file (record {
      given = c.self.inside.given;
      files = files_of c.in_ok-parts.parts.items;
    }))
    c.self.view_is
    (subst (λ ps. IsInserted (record { given = c.self.inside.given; files = files_of c.self.inside.parts.items })
    c.args.file (record { given = c.self.inside.given; files = files_of ps }))
    (sym (put-parts c.args.file c.self.inside.parts.items c.number.result c.number-2.result c.part_index-index.result
    c.deref.result.now c.deref-2.result.now c.files_at.result.now c.in_ok-others.others.items c.in_ok-files.files.items
    c.in_ok-parts.parts.items c.number.ensures c.number-2.ensures c.part_index-index.ensures c.deref.ensures.value
    c.deref-2.ensures.value c.files_at.ensures c.in_ok-others.ensures c.in_ok-files.ensures c.in_ok-parts.ensures))
    (put-in-parts c.self.inside.parts.items c.args.file c.self.invariant.1 c.self.inside.given))
