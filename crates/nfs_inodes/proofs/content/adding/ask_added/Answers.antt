use Rattle.std.proofs.Common.{◌≡◌, ◌<◌, ◌∙◌, ap, arith}
use Rattle.nfs_objects.specs.Directories.{bucket_of, count_in, width_in}
use Rattle.nfs_objects.specs.declared.address.Addr.TheVariants as addresses
use Rattle.nfs_inodes.proofs.AddEntryLemmas.{asks-divided, asks-first, asks-own, asks-same, width-more, width-some}
use Rattle.nfs_inodes.specs.Asking.{with_wish}
use Rattle.indexmap.proofs.MapLemmas.{OnOk-map}
use Rattle.nfs_inodes.proofs.content.adding.ask_added.Goals as goal

pub returns-then-before-after : goal.returns-then-before-after
returns-then-before-after c =
    let d = c.args.draft.now in
    let n = c.args.number in
    let m = c.args.map.now in
    let name = c.args.name.now in
    let bucket = c.bucket_of-bucket.ensures.which in
    let some : 0 < c.width_with_one_more-after.result =
    omega (
      arith,
      c.width_with_one_more-after.ensures.which,
      width-some
          (count_in m.counts c.bucket_of-bucket.result),
    ) in
    let before : c.width-before.result ≡ width_in m.counts (bucket_of name) =
    c.width-before.ensures.which ∙ ap (width_in m.counts) bucket in
    let less : c.part_among-part.result < width_in m.counts (bucket_of name) =
    omega (arith, c.part_among-part.ensures.within some, c.if-before-after.true, before) in
    OnOk-map c.add-then-before-after.result _ _
    (λ is. asks-same d n m name c.args.cookie c.args.asking.now.asked.items c.add.new.self.asked.items
    c.in_ok-add.ensures.ok
    c.part_among-part.result c.add-then-before-after.new.self.asked.items less
    (is ∙ ap (λ a. with_wish d a c.add.new.self.asked.items)
    (c.part_at.ensures ∙ ap (λ b. addresses.Part n b c.part_among-part.result) bucket)))
    c.add-then-before-after.ensures.ok

pub returns-then-before-eq0 : goal.returns-then-before-eq0
returns-then-before-eq0 c =
    let d = c.args.draft.now in
    let n = c.args.number in
    let m = c.args.map.now in
    let name = c.args.name.now in
    let bucket = c.bucket_of-bucket.ensures.which in
    let before : c.width-before.result ≡ width_in m.counts (bucket_of name) =
    c.width-before.ensures.which ∙ ap (width_in m.counts) bucket in
    asks-first d n m name c.args.cookie c.args.asking.now.asked.items c.add.new.self.asked.items c.in_ok-add.ensures.ok
    c.add-2.new.self.asked.items
    (c.in_ok-add-2.ensures.ok ∙ ap (λ a. with_wish d a c.add.new.self.asked.items)
    (c.part_at-2.ensures ∙ ap (λ b. addresses.Part n b c.width-before.result) bucket
    ∙ ap (addresses.Part n (bucket_of name)) before))

pub returns-else-part-source : goal.returns-else-part-source
returns-else-part-source c =
    let d = c.args.draft.now in
    let n = c.args.number in
    let m = c.args.map.now in
    let name = c.args.name.now in
    let bucket = c.bucket_of-bucket.ensures.which in
    let before : c.width-before.result ≡ width_in m.counts (bucket_of name) =
    c.width-before.ensures.which ∙ ap (width_in m.counts) bucket in
    asks-divided d n m name c.args.cookie c.args.asking.now.asked.items c.add.new.self.asked.items
    c.in_ok-add.ensures.ok
    c.add-2.new.self.asked.items
    (c.in_ok-add-2.ensures.ok ∙ ap (λ a. with_wish d a c.add.new.self.asked.items)
    (c.part_at-2.ensures ∙ ap (λ b. addresses.Part n b c.width-before.result) bucket
    ∙ ap (addresses.Part n (bucket_of name)) before))
    c.source_of-source.result (omega (arith, c.source_of-source.ensures.within, before)) c.add-3.new.self.asked.items
    (c.in_ok-add-3.ensures.ok ∙ ap (λ a. with_wish d a c.add-2.new.self.asked.items)
    (c.part_at-3.ensures ∙ ap (λ b. addresses.Part n b c.source_of-source.result) bucket))

pub returns-in_ok-add-4 : goal.returns-in_ok-add-4
returns-in_ok-add-4 c =
    let d = c.args.draft.now in
    let n = c.args.number in
    let m = c.args.map.now in
    let name = c.args.name.now in
    let bucket = c.bucket_of-bucket.ensures.which in
    let before : c.width-before.result ≡ width_in m.counts (bucket_of name) =
    c.width-before.ensures.which ∙ ap (width_in m.counts) bucket in
    let count = count_in m.counts c.bucket_of-bucket.result in
    let some : 0 < c.width_with_one_more-after.result =
    omega (arith, c.width_with_one_more-after.ensures.which, width-some count) in
    let more = width-more count (omega (arith, c.width-before.ensures.which, c.width-before.ensures.small)) in
    let less : c.part_among-part.result < width_in m.counts (bucket_of name) =
    omega (
      arith,
      c.part_among-part.ensures.within some,
      c.if-part-before.true,
      before,
      more,
      c.width_with_one_more-after.ensures.which,
      c.width-before.ensures.which,
    ) in
    asks-own d n m name c.args.cookie c.args.asking.now.asked.items c.add.new.self.asked.items c.in_ok-add.ensures.ok
    c.add-2.new.self.asked.items
    (c.in_ok-add-2.ensures.ok ∙ ap (λ a. with_wish d a c.add.new.self.asked.items)
    (c.part_at-2.ensures ∙ ap (λ b. addresses.Part n b c.width-before.result) bucket
    ∙ ap (addresses.Part n (bucket_of name)) before))
    c.source_of-source.result (omega (arith, c.source_of-source.ensures.within, before)) c.add-3.new.self.asked.items
    (c.in_ok-add-3.ensures.ok ∙ ap (λ a. with_wish d a c.add-2.new.self.asked.items)
    (c.part_at-3.ensures ∙ ap (λ b. addresses.Part n b c.source_of-source.result) bucket))
    c.part_among-part.result c.add-then-part-before.new.self.asked.items less c.if-part-source.true
    (c.in_ok-add-4.ensures.ok ∙ ap (λ a. with_wish d a c.add-3.new.self.asked.items)
    (c.part_at-then-part-before.ensures ∙ ap (λ b. addresses.Part n b c.part_among-part.result) bucket))
