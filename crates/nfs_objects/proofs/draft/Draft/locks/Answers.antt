use Rattle.std.proofs.Common.{Some, option_map, sym, ap, ◌∙◌}
use Rattle.nfs_objects.specs.Stands.{bucket_at, bucket_in}
use Rattle.nfs_objects.proofs.draft.Draft.locks.Goals as goal

pub returns : goal.returns
returns c =
    ap (option_map bucket_at) c.in_ok-find.ensures ∙ ap (λ b. Some (bucket_in b)) (sym c.bucket_known.ensures)
