use Rattle.std.proofs.Common.{ap, subst, sym, ◌∙◌}
use Rattle.nlm_ranges.proofs.BucketPartsLemmas.{are-left, left-in-parts, left-parts}
use Rattle.nlm_ranges.proofs.bucket.LockBucket.without_file.Goals as goal
use Rattle.nlm_ranges.specs.Buckets.{without_file}
use Rattle.nlm_ranges.specs.Parts.{AreParts, files_of}

pub invariant_of-result : goal.invariant_of-result
invariant_of-result c = (
  c.self.invariant.0,
  subst AreParts
      (sym (left-parts c.args.number c.self.inside.parts.items c.part_index-index.result c.deref.result.now
      c.deref-2.result.now c.files_at.result.now c.in_ok-files.files.items c.in_ok-parts.parts.items
      c.part_index-index.ensures c.deref.ensures.value c.deref-2.ensures.value c.files_at.ensures c.in_ok-files.ensures
      c.in_ok-parts.ensures))
      (are-left c.args.number c.self.inside.parts.items c.self.invariant.1),
)

pub returns : goal.returns
returns c =
    ap (λ fs. record { given = c.self.inside.given; files = fs })
    (ap files_of (left-parts c.args.number c.self.inside.parts.items c.part_index-index.result c.deref.result.now
    c.deref-2.result.now c.files_at.result.now c.in_ok-files.files.items c.in_ok-parts.parts.items
    c.part_index-index.ensures c.deref.ensures.value c.deref-2.ensures.value c.files_at.ensures c.in_ok-files.ensures
    c.in_ok-parts.ensures)
    ∙ left-in-parts c.args.number c.self.inside.parts.items c.self.invariant.1)
    ∙ ap (without_file c.args.number) c.self.view_is
