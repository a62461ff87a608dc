use Rattle.std.proofs.Common.{◌+◌, List, subst, sym}
use Rattle.nfs_objects.proofs.PagePartAddressLemmas.{besides-last, besides-none, no-part, part-more}
use Rattle.nfs_objects.proofs.entry_map.push_parts.Goals as goal
use Rattle.nfs_objects.specs.Directories.{HasBesides, is_part_of}
use Rattle.nfs_objects.specs.declared.address.Addr.{Addr}
use Rattle.nfs_objects.specs.declared.address.Addr.TheVariants.{Part}

pub loop-part-init : goal.loop-part-init
loop-part-init c =
    besides-none (is_part_of c.args.directory c.args.bucket 0) c.args.addresses.now.items
    (no-part c.args.directory c.args.bucket)

pub loop-part-preserved : goal.loop-part-preserved
loop-part-preserved c =
    subst (λ (l : List Addr). HasBesides (is_part_of c.args.directory c.args.bucket (c.loop-part.part + 1))
    c.args.addresses.now.items l) (sym c.in_ok-push.ensures.items)
    (besides-last (is_part_of c.args.directory c.args.bucket c.loop-part.part)
    (is_part_of c.args.directory c.args.bucket (c.loop-part.part + 1)) c.args.addresses.now.items
    c.loop-part.addresses.items (Part c.args.directory c.args.bucket c.loop-part.part) c.loop-part.invariant
    (part-more c.args.directory c.args.bucket c.loop-part.part))
