use Rattle.std.proofs.Common.{◌≡◌, ◌∙◌, ◌+◌, ◌==◌, ◌∷◌, [], IsSome, Some, ap, arith, filter, inl, inr, option_map, refl}
use Rattle.std.proofs.Common.{subst, sym}
use Rattle.std.specs.Prelude.{option_copied}
use Rattle.std.proofs.lemmas.Result.{err_from_is_err_and}
use Rattle.nfs_machine.specs.State.{Entry}
use Rattle.nfs_objects.specs.Directories.{part_among, source_of}
use Rattle.nfs_objects.specs.Stands.{part_of}
use Rattle.nfs_objects.specs.Values.{known_at, with_written}
use Rattle.nfs_objects.specs.declared.address.Addr.TheVariants as addresses
use Rattle.nfs_objects.specs.declared.object.Object.TheVariants as objects
use Rattle.nfs_inodes.proofs.AddEntryLemmas.{none-divides, part-divides}
use Rattle.nfs_inodes.proofs.AsksAfterWritesLemmas.{lacked-stops, lives-stops, told-known}
use Rattle.nfs_inodes.proofs.StillKnownLemmas.{knows-written}
use Rattle.nfs_inodes.specs.Entered.{lacked_of}
use Rattle.nfs_inodes.proofs.content.adding.divide.Goals as goal

pub returns-in_err-part : goal.returns-in_err-part
returns-in_err-part c =
    let part = addresses.Part c.args.number c.args.bucket c.args.width in
    let p = err_from_is_err_and c.from_residual.result c.from_residual.ensures.1 in
    rw (p.1, p.2) (lacked-stops c.args.draft.now (part ∷ []) part _ (inl refl) c.in_err-part.ensures)

pub returns-in_err-old : goal.returns-in_err-old
returns-in_err-old c =
    let d = c.args.draft.now in
    let p = err_from_is_err_and c.from_residual-in_err-old.result c.from_residual-in_err-old.ensures.1 in
    rw (p.1, p.2) (lives-stops d (lacked_of d (addresses.Part c.args.number c.args.bucket c.args.width ∷ []))
    (addresses.Part c.args.number c.args.bucket c.source_of.result) _
    (inr (c.requires.lives c.source_of.result c.source_of.ensures.within)) c.in_err-old.ensures)

pub returns-in_default : goal.returns-in_default
returns-in_default c =
    none-divides c.args.key.now c.args.draft.now c.args.number c.args.bucket c.args.width c.requires.some
    c.requires.small
    (subst (λ s. option_map part_of (known_at c.args.draft.now (addresses.Part c.args.number c.args.bucket s)) ≡ Some _)
    c.source_of.ensures.which (c.in_ok-old.ensures ∙ ap (λ o. Some (option_copied o)) c.in_default.is))

pub put_part-requires-2-clause-known : goal.put_part-requires-2-clause-known
put_part-requires-2-clause-known c =
    let added = addresses.Part c.args.number c.args.bucket c.args.width in
    subst (λ d. IsSome (known_at d added)) (sym c.in_ok-put_part.ensures.ok)
    (knows-written c.args.draft.now (addresses.Part c.args.number c.args.bucket c.source_of.result) _ added
    (told-known part_of (known_at c.args.draft.now added) _ c.in_ok-part.ensures))

pub returns : goal.returns
returns c =
    let d = c.args.draft.now in
    let n = c.args.number in
    let b = c.args.bucket in
    let whole = c.in-Some.old.now in
    let which : c.source_of.result ≡ source_of c.args.width = c.source_of.ensures.which in
    part-divides c.args.key.now d c.put_part.new.self c.put_part-2.new.self n b c.args.width (c.args.width + 1) whole
    c.requires.some
    c.requires.small (omega arith)
    (subst (λ s. option_map part_of (known_at d (addresses.Part n b s)) ≡ Some (Some whole)) which
    (c.in_ok-old.ensures ∙ ap (λ o. Some (option_copied o)) c.in-Some.is))
    (c.in_ok-put_part.ensures.ok
    ∙ ap (λ o. with_written d (addresses.Part n b c.source_of.result) (Some (objects.Part o))) c.in_ok-stays.ensures
    ∙ ap (λ s. with_written d (addresses.Part n b s)
    (Some (objects.Part (filter (λ (e : Entry). part_among c.args.key.now (c.args.width + 1) e.name == s) whole))))
    which)
    (c.in_ok-put_part-2.ensures.ok
    ∙ ap (λ o. with_written c.put_part.new.self (addresses.Part n b c.args.width) (Some (objects.Part o)))
    c.in_ok-moves.ensures)
