-- What the checks of RENAME tell of a name that moves; and that handles stay.
use Rattle.std.proofs.Common.{◌≡◌, ◌==◌, true, false, cond, Option, Some, None, option_map, refl, sym, ◌∙◌, ap, subst}
use Rattle.std.specs.Cmp.{unsigned_Decides}
use Rattle.std.specs.FinMap.{get}
use Rattle.nfs_wire.specs.declared.attributes.Time.{Time}
use Rattle.nfs_machine.specs.Attributes.{entries_of, is_directory, names_of}
use Rattle.nfs_machine.specs.Checks.{entry_of}
use Rattle.nfs_machine.specs.Laws.{KeepsEntries}
use Rattle.nfs_machine.specs.Making.{with_entry}
use Rattle.nfs_machine.specs.RemoveSteps.{without, object_under}
use Rattle.nfs_machine.specs.RenameSteps.{is_compatible}
use Rattle.nfs_machine.specs.Shown.{touched, with_object}
use Rattle.nfs_machine.specs.State.{Directory, Entry, Living, State}
use Rattle.nfs_machine.specs.Resolve.{Named}
use Rattle.nfs_machine.proofs.ContinuesLemmas.{
  Continues,
  continues-itself,
  continues-losing,
  continues-touched,
  continues-with,
}
use Rattle.nfs_machine.proofs.CookieLemmas.{kept-added, kept-of, kept-same, kept-without}
use Rattle.nfs_machine.proofs.MovedNameLemmas.{Move, entries_kept, with_moved, with_names_moved, without_replaced}
use Rattle.nfs_machine.proofs.TakenNameLemmas.{IsNamedEntry, kept-taken, under-entry}
use Rattle.nfs_machine.proofs.ChecksPassedLemmas.{numbered}

-- what the checks of a RENAME tell where a name moves
pub record IsMove (m : State) (move : Move) : Type 0 where
  pub from : IsNamedEntry m move.from
  pub lives : get m.objects move.target ≡ Some move.directory
  pub content : move.directory.content ≡ Directory move.entries move.last_cookie
  pub export : move.from.directory.export ≡ move.directory.export
  pub over : move.replaced ≡ object_under m (entry_of move.entries move.name)
  pub other : (o : Named) → move.replaced ≡ Some o → (o.number == move.from.number) ≡ false
  pub compatible : (o : Named) → move.replaced ≡ Some o → is_compatible move.from.object.content o.object.content ≡ true

-- the same before what has the name is judged
pub record IsBegun (m : State) (move : Move) : Type 0 where
  pub from : IsNamedEntry m move.from
  pub lives : get m.objects move.target ≡ Some move.directory
  pub content : move.directory.content ≡ Directory move.entries move.last_cookie
  pub export : move.from.directory.export ≡ move.directory.export
  pub over : move.replaced ≡ object_under m (entry_of move.entries move.name)

module _ (m : State) (move : Move) (begun : IsBegun m move) where
  pub moves-free : move.replaced ≡ None → IsMove m move
  moves-free is = record {
    from = begun.from;
    lives = begun.lives;
    content = begun.content;
    export = begun.export;
    over = begun.over;
    other = λ o some. (let both : None ≡ Some o = sym is ∙ some in cc);
    compatible = λ o some. (let both : None ≡ Some o = sym is ∙ some in cc);
  }

  pub moves-over : (r : Named) → move.replaced ≡ Some r → (r.number == move.from.number) ≡ false
      → is_compatible move.from.object.content r.object.content ≡ true → IsMove m move
  moves-over r is differs compatible = record {
    from = begun.from;
    lives = begun.lives;
    content = begun.content;
    export = begun.export;
    over = begun.over;
    other = λ o some. (let both : Some r ≡ Some o = sym is
        ∙ some in let same : r ≡ o = cc in subst (λ (x : Named). (x.number == move.from.number) ≡ false) same differs);
    compatible = λ o some.
        let both : Some r ≡ Some o = sym is ∙ some in
        let same : r ≡ o = cc in
        subst (λ (x : Named). is_compatible move.from.object.content x.object.content ≡ true) same compatible;
  }

module _ (m : State) (now : Time) (move : Move) (is : IsMove m move) where
  -- the name that it has then led to another object, or to nothing
  elsewhere : (e : Entry) → entry_of move.entries move.name ≡ Some e → move.from.number ≡ e.number → ⊥
  elsewhere e found same =
      let lives : get m.objects e.number ≡ Some move.from.object = ap (get m.objects) (sym same) ∙ is.from.object in
      let over : move.replaced ≡ Some (numbered e.number move.from.object) = is.over ∙ ap (object_under m) found
      ∙ ap (option_map (λ (o : Living). numbered e.number o)) lives in
      let no : true ≡ false = sym ((unsigned_Decides e.number move.from.number).1 (sym same))
      ∙ is.other (numbered e.number move.from.object) over in
      cc

  left : KeepsEntries move.entries (entries_kept move)
  left =
      let others = kept-without move.entries move.entries move.name (kept-same move.entries) in
      elim (move.target == move.from.place) as
      (λ b. KeepsEntries move.entries (cond b (without (without move.entries move.name) move.from.name)
      (without move.entries move.name))) [
        | true ↦ kept-without move.entries (without move.entries move.name) move.from.name others
        | false ↦ others
      ]

  keeps : KeepsEntries (entries_of move.directory.content)
      (entries_of (with_entry (entries_kept move) move.last_cookie move.name move.from.number))
  keeps = kept-of move.directory.content move.entries _ move.last_cookie is.content
      (kept-added move.entries (entries_kept move) _ left elsewhere)

  names-moved : Continues now m (with_names_moved m now move)
  names-moved =
      continues-with now m _
      (continues-with now m m (continues-itself now m) move.from.place move.from.directory is.from.lives
      (ap is_directory is.from.content) (without move.from.entries move.from.name) move.from.last_cookie
      (kept-taken m move.from is.from))
      move.target move.directory is.lives (ap is_directory is.content) _ _ keeps

  object-moved : Continues now m (with_object (with_names_moved m now move) move.from.number
      (touched move.from.object now))
  object-moved = continues-touched now m (with_names_moved m now move) names-moved move.from.number move.from.object
      is.from.object

  pub continues-moved : Continues now m (with_moved m now move)
  continues-moved = over move.replaced refl
    where
      over : (r : Option Named) → move.replaced ≡ r
          → Continues now m (without_replaced m (with_object (with_names_moved m now move) move.from.number
          (touched move.from.object now)) now r)
      over None e = object-moved
      over (Some o) e =
          continues-losing now m (with_object (with_names_moved m now move) move.from.number
          (touched move.from.object now)) object-moved o.number o.object
          (under-entry m (entry_of move.entries move.name) o (sym is.over ∙ e)).3 (names_of m o.number)
