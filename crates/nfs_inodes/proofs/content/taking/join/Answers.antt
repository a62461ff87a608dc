use Rattle.std.proofs.Common.{◌≡◌, [], Some, None, IsSome, ap, arith, ◌∙◌, inr, option_copied, option_map, subst, sym}
use Rattle.std.proofs.lemmas.Result.{err_from_is_err_and}
use Rattle.nfs_objects.specs.Stands.{part_of}
use Rattle.nfs_objects.specs.Values.{DraftValue, known_at, with_written}
use Rattle.nfs_objects.specs.declared.address.Addr.TheVariants as addresses
use Rattle.nfs_objects.specs.declared.object.Object.TheVariants as objects
use Rattle.nfs_inodes.proofs.DropNameLemmas.{absent-last, absent-source, parts-joined}
use Rattle.nfs_inodes.proofs.AsksAfterWritesLemmas.{lives-stops, told-known}
use Rattle.nfs_inodes.proofs.StillKnownLemmas.{knows-written}
use Rattle.nfs_inodes.proofs.content.taking.join.Goals as goal

pub returns-in_err-moves : goal.returns-in_err-moves
returns-in_err-moves c =
    let p = err_from_is_err_and c.from_residual.result c.from_residual.ensures.1 in
    rw (p.1, p.2) (lives-stops c.args.draft.now [] (addresses.Part c.args.number c.args.bucket c.args.width) _
    (inr (c.requires.live c.args.width (omega arith))) c.in_err-moves.ensures)

pub returns-in_default : goal.returns-in_default
returns-in_default c =
    absent-last c.args.draft.now c.args.number c.args.bucket c.args.width c.requires.some c.requires.small
    (c.in_ok-moves.ensures ∙ ap (λ o. Some (option_copied o)) c.in_default.is)

pub returns-in_err-stays : goal.returns-in_err-stays
returns-in_err-stays c =
    let p = err_from_is_err_and c.from_residual-in_err-stays.result c.from_residual-in_err-stays.ensures.1 in
    let source = c.source_of.result in
    rw (p.1, p.2) (lives-stops c.args.draft.now [] (addresses.Part c.args.number c.args.bucket source) _
    (inr (c.requires.live source (omega (arith, c.source_of.ensures.within)))) c.in_err-stays.ensures)

pub returns-in_default-2 : goal.returns-in_default-2
returns-in_default-2 c =
    let d = c.args.draft.now in
    let n = c.args.number in
    let bucket = c.args.bucket in
    absent-source d n bucket c.args.width c.requires.some c.requires.small
    (subst (λ p. option_map part_of (known_at d (addresses.Part n bucket p)) ≡ Some None) c.source_of.ensures.which
    (c.in_ok-stays.ensures ∙ ap (λ o. Some (option_copied o)) c.in_default-2.is))

pub free_at-requires-clause-known : goal.free_at-requires-clause-known
free_at-requires-clause-known c =
    let d = c.args.draft.now in
    let last = addresses.Part c.args.number c.args.bucket c.args.width in
    subst (λ (x : DraftValue). IsSome (known_at x last)) (sym c.in_ok-put_part.ensures.ok)
    (knows-written d (addresses.Part c.args.number c.args.bucket c.source_of.result)
    (Some (objects.Part c.in_ok-joined.joined)) last (told-known part_of (known_at d last) _ c.in_ok-moves.ensures))

pub returns : goal.returns
returns c =
    let d = c.args.draft.now in
    let n = c.args.number in
    let bucket = c.args.bucket in
    let joined = c.in_ok-joined.joined in
    parts-joined d n bucket c.args.width c.requires.some c.requires.small c.put_part.new.self c.free_at.new.self
    c.in-Some.moves.now c.in-Some-2.stays.now joined
    (c.in_ok-moves.ensures ∙ ap (λ o. Some (option_copied o)) c.in-Some.is)
    (subst (λ p. option_map part_of (known_at d (addresses.Part n bucket p)) ≡ Some (Some c.in-Some-2.stays.now))
    c.source_of.ensures.which (c.in_ok-stays.ensures ∙ ap (λ o. Some (option_copied o)) c.in-Some-2.is))
    c.in_ok-joined.ensures
    (c.in_ok-put_part.ensures.ok
    ∙ ap (λ p. with_written d (addresses.Part n bucket p) (Some (objects.Part joined))) c.source_of.ensures.which)
    c.in_ok-free_at.ensures.ok
