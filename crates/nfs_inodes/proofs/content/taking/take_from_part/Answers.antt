use Rattle.std.proofs.Common.{◌≡◌, ◌<◌, [], Some, None, ap, arith, ◌∙◌, inr, option_copied, option_map, subst, sym}
use Rattle.std.proofs.lemmas.Result.{err_from_is_err_and}
use Rattle.nfs_objects.specs.Directories.{bucket_of, count_in, counted_down, width_in, with_count}
use Rattle.nfs_objects.specs.Stands.{part_of}
use Rattle.nfs_objects.specs.Values.{known_at, with_written}
use Rattle.nfs_objects.specs.declared.address.Addr.TheVariants as addresses
use Rattle.nfs_objects.specs.declared.object.Object.TheVariants as objects
use Rattle.nfs_inodes.proofs.DropNameLemmas.{absent-part, joined-lost, one-less, rest-lost, whole-lost}
use Rattle.nfs_inodes.proofs.AsksAfterWritesLemmas.{keeps-part, lives-on, lives-stops}
use Rattle.nfs_inodes.proofs.TakenNameAsksLemmas.{part-beside, place-lives}
use Rattle.nfs_inodes.specs.Entered.{Joins}
use Rattle.nfs_inodes.proofs.content.taking.take_from_part.Goals as goal
use Rattle.nfs_inodes.proofs.content.taking.take_from_part.Goals.{then-before-after+in_ok-join, else-before-after}

pub returns-in_err-old : goal.returns-in_err-old
returns-in_err-old c =
    let p = err_from_is_err_and c.from_residual-in_err-old.result c.from_residual-in_err-old.ensures.1 in
    let place = c.args.place in
    rw (p.1, p.2) (lives-stops c.args.draft.now [] (addresses.Part c.args.number place.bucket place.part) _
    (inr (place-lives c.args.draft.now c.args.number c.args.map.now c.args.name.now place c.requires.place
    c.requires.lives)) c.in_err-old.ensures)

pub returns-in_default : goal.returns-in_default
returns-in_default c =
    let d = c.args.draft.now in
    let n = c.args.number in
    let place = c.args.place in
    let before = c.args.map.now.counts in
    let after = c.in_ok-narrower.narrower in
    absent-part c.args.map.now.key d n before after c.args.name.now place.part c.requires.place.1 c.requires.place.2
    (subst (λ b. after ≡ with_count before b (counted_down (count_in before b))) c.requires.place.0
    c.in_ok-narrower.ensures)
    (subst (λ b. option_map part_of (known_at d (addresses.Part n b place.part)) ≡ Some None) c.requires.place.0
    (c.in_ok-old.ensures ∙ ap (λ o. Some (option_copied o)) c.in_default.is))

pub returns-then-after-eq0 : goal.returns-then-after-eq0
returns-then-after-eq0 c =
    let d = c.args.draft.now in
    let n = c.args.number in
    let place = c.args.place in
    let before = c.args.map.now.counts in
    let after = c.in_ok-narrower.narrower in
    whole-lost c.args.map.now.key d n before after c.args.name.now place.part c.requires.place.1 c.requires.place.2
    (subst (λ b. after ≡ with_count before b (counted_down (count_in before b))) c.requires.place.0
    c.in_ok-narrower.ensures)
    c.free_at.new.self
    (c.in_ok-free_at.ensures.ok
    ∙ ap (λ b. with_written d (addresses.Part n b place.part) None) c.requires.place.0)
    (subst (λ b. width_in after b ≡ 0) c.requires.place.0 (sym c.width-after.ensures.which ∙ c.if-after-eq0.true))

pub join-requires-clause-live : goal.join-requires-clause-live
join-requires-clause-live c = λ part less.
    let d = c.args.draft.now in
    let n = c.args.number in
    let place = c.args.place in
    let before = c.args.map.now.counts in
    let after = c.in_ok-narrower.narrower in
    let put = c.put_part.new.self in
    let some : place.part < width_in before place.bucket =
    subst (λ b. place.part < width_in before b) (sym c.requires.place.0) c.requires.place.2 in
    let one = one-less before after place.bucket c.in_ok-narrower.ensures (omega (arith, some))
    (λ same. c.if-before-after.true (c.width-before.ensures.which ∙ same ∙ sym c.width-after.ensures.which)) in
    let keeps = keeps-part d put n place.bucket place.part (Some (objects.Part c.in_ok-rest.rest))
    c.in_ok-put_part.ensures.ok in
    let address = addresses.Part n place.bucket part in
    lives-on n d put keeps.enters address keeps.knows
    (c.requires.lives address (part-beside c.args.map.now n place.bucket part
    (omega (arith, less, one, c.width-after.ensures.which))))

pub returns : goal.returns
returns c =
    let d = c.args.draft.now in
    let n = c.args.number in
    let place = c.args.place in
    let name = c.args.name.now in
    let before = c.args.map.now.counts in
    let after = c.in_ok-narrower.narrower in
    let mid = c.put_part.new.self in
    let old = c.in-Some.old.now in
    let rest = c.in_ok-rest.rest in
    let counts = subst (λ b. after ≡ with_count before b (counted_down (count_in before b))) c.requires.place.0
    c.in_ok-narrower.ensures in
    let known = subst (λ b. option_map part_of (known_at d (addresses.Part n b place.part)) ≡ Some (Some old))
    c.requires.place.0 (c.in_ok-old.ensures ∙ ap (λ o. Some (option_copied o)) c.in-Some.is) in
    let put = c.in_ok-put_part.ensures.ok
    ∙ ap (λ b. with_written d (addresses.Part n b place.part) (Some (objects.Part rest))) c.requires.place.0 in
    let was : c.width-before.result ≡ width_in before (bucket_of name) =
    c.width-before.ensures.which ∙ ap (width_in before) c.requires.place.0 in
    let is : c.width-after.result ≡ width_in after (bucket_of name) =
    c.width-after.ensures.which ∙ ap (width_in after) c.requires.place.0 in
    elim c.if-before-after.branch [
      | then-before-after+in_ok-join w ↦
          rw w.draft-is (joined-lost c.args.map.now.key d n before after name place.part c.requires.place.1
          c.requires.place.2 counts old rest
          known c.in_ok-rest.ensures mid put w.join.new.draft (λ same. w.if-before-after.true (was ∙ same ∙ sym is))
          (subst (λ b. Joins mid w.join.new.draft n b (width_in after (bucket_of name))) c.requires.place.0
          (subst (λ x. Joins mid w.join.new.draft n place.bucket x) is w.in_ok-join.ensures)))
      | else-before-after w ↦
          rw w.draft-is (rest-lost c.args.map.now.key d n before after name place.part c.requires.place.1
          c.requires.place.2 counts old rest
          known c.in_ok-rest.ensures mid put (sym was ∙ w.if-before-after.false ∙ is))
    ]
