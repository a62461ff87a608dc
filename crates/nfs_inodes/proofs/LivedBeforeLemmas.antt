-- What lives after a change of a call lived before it, in the same export: so what its group uses stands there.
use Rattle.std.proofs.Common.{◌≡◌, ◌==◌, ℕ, true, false, cond, List, [], Option, Some, None, Result, Ok, Err, refl}
use Rattle.std.proofs.Common.{◌++◌, ◌∷◌, sym, ◌∙◌, ap}
use Rattle.std.specs.Cmp.{unsigned_Decides}
use Rattle.std.specs.FinMap.{get}
use Rattle.nfs_wire.specs.declared.attributes.Time.{Time}
use Rattle.nfs_wire.specs.declared.status.NfsStatus.{NfsStatus}
use Rattle.nfs_machine.specs.Attributes.{is_directory}
use Rattle.nfs_machine.specs.Checks.{DirectoryEntries, entries_in}
use Rattle.nfs_machine.specs.RemoveSteps.{without}
use Rattle.nfs_machine.specs.Shown.{touched, with_content, with_object}
use Rattle.nfs_machine.specs.State.{Directory, Entry, Living}
use Rattle.nfs_objects.specs.Edits.{with_living}
use Rattle.nfs_objects.specs.Knows.{Turns}
use Rattle.nfs_objects.specs.Stands.{StoreMeaning}
use Rattle.nfs_objects.specs.Values.{DraftValue}
use Rattle.nfs_inodes.proofs.UsageChangeLemmas.{LivedIn, counted-lives}
use Rattle.nfs_inodes.proofs.KeptBesideLemmas.{others-stay, put-there}
use Rattle.nfs_inodes.specs.Makes.{changed_with, name_taken, without_name}
use Rattle.nfs_inodes.specs.Renames.{name_given, name_left, rehomed, staying, with_name_given}
use Rattle.nfs_inodes.specs.Stops.{UsageLives}

abbrev pub LivesAsBefore : (StoreMeaning → StoreMeaning) → Type 0
LivesAsBefore op = (k : StoreMeaning) (n : ℕ) (o : Living) → get (op k).state.objects n ≡ Some o
    → LivedIn k.state n o.export

pub lived-same : LivesAsBefore (λ k. k)
lived-same k n o at = record { object = o; lives = at; same = refl }

pub lived-both : (f g : StoreMeaning → StoreMeaning) → LivesAsBefore f → LivesAsBefore g → LivesAsBefore (λ k. g (f k))
lived-both f g first second k n o at =
    let mid = second (f k) n o at in
    let was = first k n mid.object mid.lives in
    record { object = was.object; lives = was.lives; same = was.same ∙ mid.same }

-- one object in the place of another of the same export
lived-on : (k : StoreMeaning) (place : ℕ) (was is : Living) (links parent : ℕ) → get k.state.objects place ≡ Some was →
    was.export ≡ is.export → (n : ℕ) (o : Living) →
    get (with_living k place is links parent).state.objects n ≡ Some o → LivedIn k.state n o.export
lived-on k place was is links parent lives export n o at =
    elim (place == n) as (λ b. (place == n) ≡ b → LivedIn k.state n o.export) [
      | true ↦ λ same.
          let here : place ≡ n = (unsigned_Decides place n).0 same in
          let both : Some is ≡ Some o = sym (put-there k.state place is)
          ∙ ap (get (with_object k.state place is).objects) here ∙ at in
          let own : is ≡ o = cc in
          record {
            object = was;
            lives = ap (get k.state.objects) (sym here) ∙ lives;
            same = export ∙ ap (λ (x : Living). x.export) own;
          }
      | false ↦ λ other. record { object = o; lives = sym (others-stay k.state place is n other) ∙ at; same = refl }
    ] refl

-- a change of an object that leaves its export
lived-changed : (k : StoreMeaning) (place links : ℕ) (change : Living → Option Living) →
    ((o p : Living) → change o ≡ Some p → o.export ≡ p.export) → (n : ℕ) (o : Living) →
    get (changed_with k place links change).state.objects n ≡ Some o → LivedIn k.state n o.export
lived-changed k place links change keeps n o at = by (get k.state.objects place) refl at
  where
    into : Option Living → StoreMeaning
    into y = elim y [ None ↦ k | Some p ↦ with_living k place p links (k.parents place) ]

    over : Option Living → StoreMeaning
    over x = elim x [ None ↦ k | Some w ↦ into (change w) ]

    then : (w : Living) → get k.state.objects place ≡ Some w → (y : Option Living) → change w ≡ y →
        get (into y).state.objects n ≡ Some o → LivedIn k.state n o.export
    then w is None made there = lived-same k n o there
    then w is (Some p) made there = lived-on k place w p links (k.parents place) is (keeps w p made) n o there

    by : (x : Option Living) → get k.state.objects place ≡ x → get (over x).state.objects n ≡ Some o →
        LivedIn k.state n o.export
    by None is there = lived-same k n o there
    by (Some w) is there = then w is (change w) refl there

-- ---- names
without-keeps : (now : Time) (name : List ℕ) (o p : Living) → without_name now name o ≡ Some p → o.export ≡ p.export
without-keeps now name o p is = by (entries_in o.content) is
  where
    by : (r : Result DirectoryEntries NfsStatus) → elim r [
      | Ok es ↦ Some (with_content o now (Directory (without es.list name) es.last_cookie))
      | Err e ↦ None
    ] ≡ Some p → o.export ≡ p.export
    by (Ok es) made =
        let same : with_content o now (Directory (without es.list name) es.last_cookie) ≡ p = cc in
        ap (λ (x : Living). x.export) same
    by (Err e) made = cc

given-keeps : (now : Time) (left : Option (List ℕ)) (e : Entry) (o p : Living) → with_name_given now left e o ≡ Some p →
    o.export ≡ p.export
given-keeps now left e o p is = by (entries_in o.content) is
  where
    by : (r : Result DirectoryEntries NfsStatus) → elim r [
      | Ok es ↦ Some (with_content o now (Directory (staying es.list e.name left ++ e ∷ []) e.cookie))
      | Err status ↦ None
    ] ≡ Some p → o.export ≡ p.export
    by (Ok es) made =
        let same : with_content o now (Directory (staying es.list e.name left ++ e ∷ []) e.cookie) ≡ p = cc in
        ap (λ (x : Living). x.export) same
    by (Err status) made = cc

pub lived-taken : (now : Time) (place : ℕ) (name : List ℕ) → LivesAsBefore (name_taken now place name)
lived-taken now place name k = lived-changed k place (k.links place) (without_name now name) (without-keeps now name)

pub lived-left : (now : Time) (place : ℕ) (name : List ℕ) (links : ℕ) → LivesAsBefore (name_left now place name links)
lived-left now place name links k = lived-changed k place links (without_name now name) (without-keeps now name)

pub lived-given : (now : Time) (place : ℕ) (left : Option (List ℕ)) (e : Entry) (links : ℕ) →
    LivesAsBefore (name_given now place left e links)
lived-given now place left e links k = lived-changed k place links (with_name_given now left e) (given-keeps now left e)

pub lived-rehomed : (now : Time) (number directory : ℕ) → LivesAsBefore (rehomed now number directory)
lived-rehomed now number directory k n o at = by (get k.state.objects number) refl at
  where
    over : Option Living → StoreMeaning
    over x = elim x [
      | None ↦ k
      | Some w ↦ with_living k number (touched w now) (k.links number)
          (cond (is_directory w.content) directory (k.parents number))
    ]

    by : (x : Option Living) → get k.state.objects number ≡ x → get (over x).state.objects n ≡ Some o →
        LivedIn k.state n o.export
    by None is there = lived-same k n o there
    by (Some w) is there = lived-on k number w (touched w now) (k.links number)
        (cond (is_directory w.content) directory (k.parents number)) is refl n o there

-- ---- so a draft that came of one with no write knows of no object but where what its group uses stands
pub usage-there : (old new : DraftValue) (op : StoreMeaning → StoreMeaning) → old.writes ≡ [] → Turns old new op
    → LivesAsBefore op →
    (n : ℕ) → UsageLives new n
usage-there old new op none turns lived n =
    counted-lives old new op turns none n (λ s k w formed o at. lived k n o at)
