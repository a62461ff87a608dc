use Rattle.std.proofs.Common.{◌≡◌, ◌==◌, ℕ, Bool, true, false, refl, ◌∙◌, ap, arith, List}
use Rattle.std.proofs.Common.{◌∷◌, Ok, Option, Some, None, [], codes, nat_lt}
use Rattle.std.specs.List.{count_by}
use Rattle.nfs_wire.specs.declared.status.NfsStatus.TheVariants as status
use Rattle.nfs_machine.specs.Attributes.{entries_of, is_living_directory, names_in}
use Rattle.nfs_machine.specs.Checks.{◌>>=◌, entry_of, holding, link_limit, object_of}
use Rattle.nfs_machine.specs.RemoveSteps.{object_under, without}
use Rattle.nfs_machine.specs.RenameSteps.{below, itself, rename_end}
use Rattle.nfs_machine.specs.Resolve.{Named, Names, resolve}
use Rattle.nfs_machine.specs.State.{Content, Directory, Entry, State}
use Rattle.machine_examples.specs.Worked.{object}
use Rattle.machine_examples.specs.WorkedCreate.{called_as, with_writable}
use Rattle.machine_examples.specs.WorkedFiles.{time}
use Rattle.machine_examples.specs.WorkedNames.{Moves, a_to_b, beside, fourth_entry, moved_among}
use Rattle.nfs_machine.proofs.ChecksPassedLemmas.{entries_with, numbered, resolved-lives}
use Rattle.nfs_machine.proofs.MovedNameLemmas.{move_end}
use Rattle.machine_examples.proofs.RunWorked.{move_by, move_found}
use Rattle.machine_examples.proofs.worked.worked_renames.Goals as goal

-- what its checks find
found : (k : State) (is_within : ℕ → ℕ → Bool) (from to : List ℕ) (entries others : List Entry)
    (content : Content) (target last_cookie : ℕ) (replaced : Option Named)
    → Moves (with_writable k) from to entries others content target last_cookie replaced
    → rename_end (with_writable k) (called_as 9) (a_to_b from to) is_within
    ≡ move_end (with_writable k) (time 1000 0) (a_to_b from to) is_within
    (numbered 2 (object 511 (Directory entries 7)))
    (numbered target (object 511 (Directory others last_cookie))) (entries_with entries 7)
    (entries_with others last_cookie)
    (numbered 4 (object 511 content)) replaced
found k is_within from to entries others content target last_cookie replaced is =
    let m : State = with_writable k in
    let a = a_to_b from to in
    let source : Named = numbered 2 (object 511 (Directory entries 7)) in
    let destination : Named = numbered target (object 511 (Directory others last_cookie)) in
    ap (λ f. move_by m (called_as 9) a is_within f (resolve m (called_as 9) to)) is.source
    ∙ ap (move_by m (called_as 9) a is_within (Names 2 (object 511 (Directory entries 7)))) is.destination
    ∙ ap (λ o. move_found m (called_as 9) a is_within source destination (entries_with entries 7)
    (entries_with others last_cookie) o
    (object_under m (entry_of others (codes "b")))) is.moved
    ∙ ap (move_found m (called_as 9) a is_within source destination (entries_with entries 7)
    (entries_with others last_cookie)
    (Some (numbered 4 (object 511 content)))) is.over

pub returns : goal.returns
returns c = record {
  directory_over_empty = refl;
  directory_over_full = refl;
  directory_over_file = refl;
  file_over_directory = refl;
  file_over_link = refl;
  same_object = λ m entries others from to is. found m (λ upper lower. false) from to _ _ _ _ _ _ is;
  over_file = λ m from to is. found m (λ upper lower. true) from to _ _ _ _ _ _ is;
  over_nothing = λ m from to is. found m (λ upper lower. false) from to _ _ _ _ _ _ is;
  left_in_other = λ m from to is. found m (λ upper lower. false) from to _ _ _ _ _ _ is;
  left_in_same = λ m from to is. found m (λ upper lower. false) from to _ _ _ _ _ _ is;
  last_link = λ m entries others most from to is.
      found m (λ upper lower. false) from to _ _ _ _ _ _ is
      ∙ ap (λ k. holding (nat_lt k link_limit) status.TooManyLinks >>= λ _. Ok (
        tt,
        moved_among (without entries (codes "a")) (with_writable m) (Directory [] 2) 3
            (without others (codes "b")) 40001,
      )) most;
  link_to_other = λ m entries others full from to is.
      found m (λ upper lower. false) from to _ _ _ _ _ _ is
      ∙ ap (λ k. holding (nat_lt k link_limit) status.TooManyLinks >>= λ _. Ok (
        tt,
        moved_among (without entries (codes "a")) (with_writable m) (Directory [] 2) 3
            (without others (codes "b")) 40001,
      )) full;
  below_first = λ m entries others full from to is. found m (λ upper lower. true) from to _ _ _ _ _ _ is;
  link_to_same = λ m entries from to is. found m (λ upper lower. false) from to _ _ _ _ _ _ is;
  link_over_directory = λ m entries others from to is. found m (λ upper lower. false) from to _ _ _ _ _ _ is;
  link_of_file = λ m entries others from to is. found m (λ upper lower. false) from to _ _ _ _ _ _ is;
  last_cookie = λ m from to is. found m (λ upper lower. false) from to _ _ _ _ _ _ is;
  into_itself = λ m from to is_within tells is.
      let lives = resolved-lives (with_writable m) (called_as 9) to
      (numbered 4 (object 511 (Directory (fourth_entry ∷ []) 7)))
      (ap object_of is.destination) in
      let inside : is_within 4 4 ≡ true = (tells 4 4 (ap is_living_directory lives)).1 (itself 4) in
      found m is_within from to _ _ _ _ _ _ is
      ∙ ap (λ b. move_end (with_writable m) (time 1000 0) (a_to_b from to) (λ upper lower. b)
      (numbered 2 (object 511 (Directory beside 7))) (numbered 4 (object 511 (Directory (fourth_entry ∷ []) 7)))
      (entries_with beside 7) (entries_with (fourth_entry ∷ []) 7)
      (numbered 4 (object 511 (Directory (fourth_entry ∷ []) 7))) None) inside;
  below = λ m directory lives content.
      let one : names_in 6 directory ≡ 1 = ap (λ d. count_by (λ (e : Entry). e.number == 6) (entries_of d)) content in
      below 4 4 6 directory (itself 4) lives (omega (arith, one));
}
