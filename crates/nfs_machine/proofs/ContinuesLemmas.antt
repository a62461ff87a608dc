-- What lives after a step lived before it under the same handle, and is as it was or was changed once; or it is new.
use Rattle.std.proofs.Common.{
  ◌≡◌,
  ◌==◌,
  ℕ,
  ◌+◌,
  ◌≤◌,
  true,
  false,
  cond,
  List,
  [],
  Some,
  None,
  ◌⊎◌,
  inl,
  inr,
  nat_le,
  refl,
  sym,
  ◌∙◌,
  ap,
  subst,
  arith,
}
use Rattle.std.proofs.lemmas.Bool.{leb-true, leb-false}
use Rattle.std.specs.Cmp.{unsigned_Decides}
use Rattle.std.specs.FinMap.{get}
use Rattle.nfs_wire.specs.declared.attributes.Time.{Time}
use Rattle.nfs_machine.specs.Attributes.{entries_of, is_directory, names_of}
use Rattle.nfs_machine.specs.Laws.{GivesOnce, KeepsCookies, KeepsEntries, LivesAs}
use Rattle.nfs_machine.specs.RemoveSteps.{losing_name, without_object}
use Rattle.nfs_machine.specs.Shown.{touched, with_content, with_object}
use Rattle.nfs_machine.specs.State.{Directory, Link, Entry, Living, State}
use Rattle.nfs_machine.specs.TimeLaws.{TouchesOnce}
use Rattle.nfs_machine.specs.Times.{touch}
use Rattle.nfs_machine.specs.WellFormed.{TextsFit, WellFormed, is_root}
use Rattle.nfs_machine.proofs.MapChangeLemmas.{differs-insert, differs-other, differs-remove, differs-there}
use Rattle.nfs_machine.proofs.CookieLemmas.{kept-same}
use Rattle.nfs_machine.proofs.LooseLemmas.{
  Beside,
  Loose,
  also,
  fastened,
  loose-come,
  loose-touched,
  none_loose,
  tightened,
}

-- an object in the place of another: under the same handle, changed at this time, with no new text, and with entries
-- that keep their cookies
pub record Turns (now : Time) (was is : Living) : Type 0 where
  pub generation : is.generation ≡ was.generation
  pub kind : is_directory is.content ≡ is_directory was.content
  pub text : (t : List ℕ) → is.content ≡ Link t → was.content ≡ Link t
  pub changed : is.changed ≡ touch was.changed now
  pub entries : KeepsEntries (entries_of was.content) (entries_of is.content)

-- all that lives lived, and is as it was, or in its place
pub record Continues (now : Time) (old new : State) : Type 0 where
  pub kept : (n g : ℕ) → old.spent n g ≡ true → new.spent n g ≡ true
  pub lived : (n : ℕ) (o : Living) → get new.objects n ≡ Some o → (p : Living) × (get old.objects n ≡ Some p)
      × ((o ≡ p) ⊎ Turns now p o)

module _ (now : Time) where
  pub continues-itself : (m : State) → Continues now m m
  continues-itself m = record { kept = λ n g e. e; lived = λ n o at. (o, at, inl refl) }

  -- it lived under the same handle
  pub lived-as : (old new : State) → Continues now old new → (n g : ℕ) → LivesAs new n g → LivesAs old n g
  lived-as old new c n g l =
      let p = c.lived n l.object l.lives in
      record {
        object = p.0;
        lives = p.1;
        generation_is = elim p.2 [
          | inl same ↦ ap (λ (x : Living). x.generation)
              (sym same)
          | inr t ↦ sym t.generation
        ] ∙ l.generation_is;
      }

  pub gives-continued : (old new : State) → Continues now old new → GivesOnce old new
  gives-continued old new c = record { kept = c.kept; handles = λ n g l. inl (lived-as old new c n g l) }

  pub touches-continued : (old new : State) → Continues now old new → TouchesOnce now old new
  touches-continued old new c n was is at there =
      let p = c.lived n is there in
      let same : p.0 ≡ was = (let both : Some p.0 ≡ Some was = sym p.1 ∙ at in cc) in
      elim p.2 [
        | inl stays ↦ inl (stays ∙ same)
        | inr t ↦ inr (t.changed ∙ ap (λ (x : Living). touch x.changed now) same)
      ]

  pub kinds-continued : (old new : State) → Continues now old new → (n : ℕ) (was is : Living) →
      get old.objects n ≡ Some was → get new.objects n ≡ Some is →
      is_directory is.content ≡ is_directory was.content
  kinds-continued old new c n was is at there =
      let p = c.lived n is there in
      let same : p.0 ≡ was = (let both : Some p.0 ≡ Some was = sym p.1 ∙ at in cc) in
      let of-was : is_directory p.0.content ≡ is_directory was.content = ap
      (λ (x : Living). is_directory x.content) same in
      elim p.2 [
        | inl stays ↦ ap (λ (x : Living). is_directory x.content) stays ∙ of-was
        | inr t ↦ t.kind ∙ of-was
      ]

  pub cookies-continued : (old new : State) → Continues now old new → KeepsCookies old new
  cookies-continued old new c n was is at there =
      let p = c.lived n is there in
      let same : p.0 ≡ was = (let both : Some p.0 ≡ Some was = sym p.1 ∙ at in cc) in
      elim p.2 [
        | inl stays ↦ subst (λ (x : Living). KeepsEntries (entries_of was.content) (entries_of x.content))
            (sym (stays ∙ same)) (kept-same (entries_of was.content))
        | inr t ↦ subst (λ (x : Living). KeepsEntries (entries_of x.content) (entries_of is.content)) same t.entries
      ]

  pub texts-continued : (old new : State) → Continues now old new → TextsFit old → TextsFit new
  texts-continued old new c fit n o text at is =
      let p = c.lived n o at in
      fit n p.0 text p.1 (elim p.2 [
        | inl same ↦ ap (λ (x : Living). x.content) (sym same)
            ∙ is
        | inr t ↦ t.text text is
      ])

module _ (now : Time) (old mid : State) (c : Continues now old mid) (number : ℕ) (was : Living)
    (at : get old.objects number ≡ Some was) where
  abbrev Lived : ℕ → Living → Type 0
  Lived n p = (q : Living) × (get old.objects n ≡ Some q) × ((p ≡ q) ⊎ Turns now q p)

  pub continues-over : (o : Living) → Turns now was o → Continues now old (with_object mid number o)
  continues-over o turns = record {
    kept = c.kept;
    lived = λ n p there. elim (n == number) as (λ b. (n == number) ≡ b → Lived n p) [
      | true ↦ λ e.
          let is : n ≡ number = (unsigned_Decides n number).0 e in
          let both : Some o ≡ Some p = sym (ap (get (with_object mid number o).objects) is
          ∙ differs-there mid.objects (with_object mid number o).objects number (Some o)
          (differs-insert mid.objects number o)) ∙ there in
          let new : o ≡ p = cc in
          (was, ap (get old.objects) is ∙ at, inr (subst (Turns now was) new turns))
      | false ↦ λ e. c.lived n p (sym (differs-other mid.objects (with_object mid number o).objects number (Some o)
          (differs-insert mid.objects number o) n e) ∙ there)
    ] refl;
  }

  continues-gone : Continues now old (without_object mid number)
  continues-gone = record {
    kept = c.kept;
    lived = λ n p there. elim (n == number) as (λ b. (n == number) ≡ b → Lived n p) [
      | true ↦ λ e.
          let is : n ≡ number = (unsigned_Decides n number).0 e in
          let none : get (without_object mid number).objects n ≡ None = ap (get (without_object mid number).objects) is
          ∙ differs-there mid.objects (without_object mid number).objects number None
          (differs-remove mid.objects number) in cc
      | false ↦ λ e. c.lived n p
          (sym (differs-other mid.objects (without_object mid number).objects number None
          (differs-remove mid.objects number) n e) ∙ there)
    ] refl;
  }

  -- its time of change alone
  pub continues-touched : Continues now old (with_object mid number (touched was now))
  continues-touched = continues-over (touched was now)
      (record {
        generation = refl;
        kind = refl;
        text = λ t e. e;
        changed = refl;
        entries = kept-same (entries_of was.content);
      })

  -- a directory with other entries
  pub continues-with : is_directory was.content ≡ true → (entries : List Entry) (last : ℕ) →
      KeepsEntries (entries_of was.content) entries →
      Continues now old (with_object mid number (with_content was now (Directory entries last)))
  continues-with kind entries last keeps = continues-over (with_content was now (Directory entries last))
      (record { generation = refl; kind = sym kind; text = λ t e. cc; changed = refl; entries = keeps })

  pub continues-losing : (names : ℕ) → Continues now old (losing_name mid names now number was)
  continues-losing names =
      elim (nat_le names 1) as
      (λ b. Continues now old (cond b (without_object mid number) (with_object mid number (touched was now)))) [
        | true ↦ continues-gone
        | false ↦ continues-touched
      ]

-- an object that contains no name and lost one goes with its last, or stays
module _ (mid : State) (number : ℕ) (object : Living) (at : get mid.objects number ≡ Some object)
    (l : Loose (also number none_loose) mid) (no_root : is_root mid number ≡ false) where
  gone : entries_of object.content ≡ [] → names_of mid number ≡ 0 → Beside (without_object mid number) →
      WellFormed (without_object mid number)
  gone empty none beside =
      tightened (without_object mid number) beside
      (fastened number none_loose (without_object mid number)
      (loose-come mid (without_object mid number) number (Some object) None (record {
        lives = at;
        objects = differs-remove mid.objects number;
        nameless = none;
        was_empty = empty;
        is_empty = tt;
        is_new = tt;
        no_root = no_root;
        spent = λ n g e. e;
        keeps = record { exports = refl; last = refl };
      }) none_loose l)
      (λ o there. (let nothing : get (without_object mid number).objects number ≡ None = differs-there mid.objects
      (without_object mid number).objects number None (differs-remove mid.objects number) in cc)))

  stays : (now : Time) → 1 ≤ names_of mid number → Beside (with_object mid number (touched object now)) →
      WellFormed (with_object mid number (touched object now))
  stays now some beside = tightened (with_object mid number (touched object now)) beside
      (loose-touched mid number object at none_loose (fastened number none_loose mid l (λ o there. some)) now)

  pub well_formed-losing : (names : ℕ) (now : Time) → entries_of object.content ≡ [] →
      names_of mid number + 1 ≡ names → Beside (losing_name mid names now number object)
      → WellFormed (losing_name mid names now number object)
  well_formed-losing names now empty count =
      elim (nat_le names 1) as
      (λ b. nat_le names 1 ≡ b →
      Beside (cond b (without_object mid number) (with_object mid number (touched object now)))
      → WellFormed (cond b (without_object mid number) (with_object mid number (touched object now)))) [
        | true ↦ λ e. (let few = leb-true names 1 e in gone empty (omega (arith, few, count)))
        | false ↦ λ e. (let more = leb-false names 1 e in stays now (omega (arith, more, count)))
      ] refl
