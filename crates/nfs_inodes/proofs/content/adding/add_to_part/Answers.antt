use Rattle.std.proofs.Common.{◌≡◌, ◌∙◌, ◌<◌, suc, ◌∷◌, [], ap, arith, inl, inr, subst, sym}
use Rattle.std.specs.Prelude.{option_copied}
use Rattle.std.proofs.lemmas.Result.{err_from_is_err_and}
use Rattle.nfs_objects.specs.Directories.{bucket_of, count_in, counted_up, part_among, width_in, width_of}
use Rattle.nfs_objects.specs.Entries.{entry}
use Rattle.nfs_objects.specs.declared.address.Addr.TheVariants as addresses
use Rattle.nfs_inodes.proofs.AddEntryLemmas.{Comes, MayDivide, part-comes, part-stops, width-more, width-some}
use Rattle.nfs_inodes.proofs.AsksAfterWritesLemmas.{keeps-none}
use Rattle.nfs_inodes.specs.Entered.{Divides, KeepsButBucket, PartsLive, lacked_of}
use Rattle.nfs_inodes.specs.Stops.{StopsAt}
use Rattle.nfs_inodes.proofs.content.adding.add_to_part.Goals as goal
use Rattle.nfs_inodes.proofs.content.adding.add_to_part.Goals.{then-before-gt0+then-before-after+in_ok-divide}
use Rattle.nfs_inodes.proofs.content.adding.add_to_part.Goals.{else-before-gt0}
use Rattle.nfs_inodes.proofs.content.adding.add_to_part.Goals.{else-before-gt0-via-then-before-gt0+else-before-after}
use Rattle.nfs_inodes.proofs.content.adding.add_to_part.Goals.{else-before-gt0-via-else-before-gt0}

pub divide-requires-clause-lives : goal.divide-requires-clause-lives
divide-requires-clause-lives c =
    let bucket : c.bucket_of-bucket.result ≡ bucket_of c.args.name.now =
    c.bucket_of-bucket.ensures.which ∙ ap bucket_of c.as_slice.ensures in
    subst (λ w. PartsLive c.args.draft.now c.args.number c.bucket_of-bucket.result w) (sym c.width-before.ensures.which)
    (subst (λ b. PartsLive c.args.draft.now c.args.number b (width_in c.args.counts.now b)) (sym bucket)
    c.requires.lives)

pub returns-in_err-part : goal.returns-in_err-part
returns-in_err-part c =
    let d = c.args.draft.now in
    let n = c.args.number in
    let b = c.bucket_of-bucket.result in
    let counts = c.args.counts.now in
    let mid = c.if-before-gt0.draft in
    let bucket : b ≡ bucket_of c.args.name.now = c.bucket_of-bucket.ensures.which ∙ ap bucket_of c.as_slice.ensures in
    let keeps : KeepsButBucket d mid n b = elim c.if-before-gt0.branch [
      | then-before-gt0+then-before-after+in_ok-divide w ↦
          subst (λ x. KeepsButBucket d x n b) (sym w.draft-is) w.in_ok-divide.ensures.keeps
      | else-before-gt0 w ↦ subst (λ x. KeepsButBucket d x n b) (sym w.draft-is) (keeps-none d n b)
    ] in
    let some : 0 < c.width_with_one_more-after.result =
    omega (arith, c.width_with_one_more-after.ensures.which, width-some (count_in counts b)) in
    let more = width-more (count_in counts b)
    (omega (arith, c.width-before.ensures.which, c.width-before.ensures.small)) in
    let less : c.part_among.result < suc (width_in counts b) =
    omega (arith, c.part_among.ensures.within some, more, c.width_with_one_more-after.ensures.which) in
    let p = err_from_is_err_and c.from_residual-in_err-part.result c.from_residual-in_err-part.ensures.1 in
    rw (p.1, p.2) (subst (λ q. StopsAt d (lacked_of d (addresses.Part n q (width_in counts q) ∷ []))
    c.in_err-part.field-0.0) bucket
    (part-stops d mid n b (width_in counts b) c.part_among.result _ keeps
    (subst (λ q. PartsLive d n q (width_in counts q)) (sym bucket) c.requires.lives) less c.in_err-part.ensures))

pub returns : goal.returns
returns c =
    let d = c.args.draft.now in
    let n = c.args.number in
    let b = c.bucket_of-bucket.result in
    let counts = c.args.counts.now in
    let mid = c.if-before-gt0.draft in
    let e = entry c.args.name.now c.args.leaf in
    let was = option_copied c.in_ok-part.field-0 in
    let wider = c.in_ok-with_one_more.field-0 in
    let bucket : b ≡ bucket_of c.args.name.now = c.bucket_of-bucket.ensures.which ∙ ap bucket_of c.as_slice.ensures in
    let before : c.width-before.result ≡ width_in counts b = c.width-before.ensures.which in
    let after : c.width_with_one_more-after.result ≡ width_of (counted_up (count_in counts b)) =
    c.width_with_one_more-after.ensures.which in
    let divides : MayDivide c.args.key.now d mid n b (width_in counts b) (width_of (counted_up (count_in counts b))) =
    elim c.if-before-gt0.branch [
      | then-before-gt0+then-before-after+in_ok-divide w ↦ inl (
        subst (λ width. Divides c.args.key.now d mid n b width) before
            (subst (λ x. Divides c.args.key.now d x n b c.width-before.result) (sym w.draft-is) w.in_ok-divide.ensures),
        λ same. w.if-before-after.true (before ∙ same ∙ sym after),
      )
      | else-before-gt0 w ↦ elim w.else-before-gt0.branch [
        | else-before-gt0-via-then-before-gt0+else-before-after v ↦
            inr (w.draft-is, inr (sym before ∙ v.if-before-after.false ∙ after))
        | else-before-gt0-via-else-before-gt0 v ↦ inr (w.draft-is, inl (omega (arith, v.if-before-gt0.false, before)))
      ]
    ] in
    part-comes c.args.key.now d mid c.put_part.new.self n counts wider e c.part_among.result was c.in_ok-entries.entries
    (subst (λ q. Comes c.args.key.now d mid c.put_part.new.self n counts wider e c.part_among.result was
    c.in_ok-entries.entries q) bucket
    (record {
      counted = c.in_ok-with_one_more.ensures;
      small = omega (arith, before, c.width-before.ensures.small);
      divides = divides;
      place = c.part_among.ensures.which ∙ ap (λ w. part_among c.args.key.now w c.as_slice-2.result.now) after
          ∙ ap (part_among c.args.key.now (width_of (counted_up (count_in counts b)))) c.as_slice-2.ensures;
      within = (let less = c.part_among.ensures.within (omega (arith, after, width-some (count_in counts b))) in
          omega (arith, less, after));
      tells = c.in_ok-part.ensures;
      comes = c.in_ok-entries.ensures;
      is = c.in_ok-put_part.ensures.ok;
    }))
