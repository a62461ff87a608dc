use Rattle.std.proofs.Common.{◌+◌, ◌∙◌, ◌||◌, [], List, ap, arith, subst, sym}
use Rattle.nfs_objects.proofs.PagePartAddressLemmas.{besides-both, bucket-more, buckets-all, is_beside_below}
use Rattle.nfs_objects.proofs.PagePartAddressLemmas.{pages-first}
use Rattle.nfs_objects.proofs.entry_map.EntryMap.addresses.Goals as goal
use Rattle.nfs_objects.specs.Directories.{HasBesides, is_listed, is_page_of, is_part_of}
use Rattle.nfs_objects.specs.declared.address.Addr.{Addr}

pub loop-bucket-init : goal.loop-bucket-init
loop-bucket-init c =
    let pages = subst (λ (l : List Addr). HasBesides (is_page_of c.args.self.now.pages c.args.directory) l
    c.push_pages.new.addresses.items) c.new-addresses.ensures.items c.in_ok-push_pages.ensures in
    λ a. pages a ∙ ap (λ b. is_listed [] a || b) (sym (pages-first c.args.self.now c.args.directory a))

pub loop-bucket-preserved : goal.loop-bucket-preserved
loop-bucket-preserved c =
    let bucket = c.loop-bucket.bucket in
    besides-both (is_beside_below c.args.self.now c.args.directory bucket)
    (is_part_of c.args.directory bucket c.width.result)
    (is_beside_below c.args.self.now c.args.directory (bucket + 1)) [] c.loop-bucket.addresses.items
    c.push_parts.new.addresses.items c.loop-bucket.invariant c.in_ok-push_parts.ensures
    (λ a. bucket-more c.args.self.now c.args.directory bucket a
    ∙ ap (λ w. is_beside_below c.args.self.now c.args.directory bucket a || is_part_of c.args.directory bucket w a)
    (sym c.width.ensures.which))

pub returns : goal.returns
returns c = λ count a.
    c.loop-bucket.invariant a
    ∙ buckets-all c.args.self.now c.args.directory count c.loop-bucket.bucket (omega arith) a
