-- Exports that are replaced: what lives at a number is told by the maps, and the rest computes.
use Rattle.std.proofs.Common.{◌≡◌, ◌==◌, ◌&&◌, ℕ, Bool, true, false, cond, List, [], ◌∷◌, Option, Some, None}
use Rattle.std.proofs.Common.{is_some, refl, sym, ◌∙◌, ap}
use Rattle.std.specs.FinMap.{FinMap, get, get-retain_keys, insert, nat_cmp-IsAntisymmetric}
use Rattle.std.specs.Option.{option_map_or}
use Rattle.std.specs.Ordering.{nat_cmp}
use Rattle.nfs_wire.specs.declared.attributes.Time.{Time}
use Rattle.nfs_machine.specs.Exports.{LivingExport, export_at}
use Rattle.nfs_machine.specs.MountSteps.{MountStep}
use Rattle.nfs_machine.specs.Replacing.{ReplaceStep, new_root, staying}
use Rattle.nfs_machine.specs.Resolve.{Names, Stale, living_at}
use Rattle.nfs_machine.specs.State.{Living, State}
use Rattle.nfs_machine.proofs.MapSumLemmas.{get-inserted}
use Rattle.machine_examples.specs.WorkedReplacing.{WorkedNumberings, WorkedReplacings, data_export, data_fixed}
use Rattle.machine_examples.specs.WorkedReplacing.{living_as, new_export, new_fixed}

-- what lives stays where its export does
abbrev stays : List LivingExport → Option Living → Bool
stays exports o = option_map_or (λ (x : Living). is_some (export_at exports x.export)) o false

staying-at : (exports : List LivingExport) (objects : FinMap nat_cmp Living) (n : ℕ) (o : Living) (b : Bool) →
    get objects n ≡ Some o → is_some (export_at exports o.export) ≡ b →
    get (staying exports objects) n ≡ cond b (Some o) None
staying-at exports objects n o b at lives =
    get-retain_keys objects (λ q. stays exports (get objects q)) n
    (λ x tied. ap (λ q. stays exports (get objects q)) (sym (nat_cmp-IsAntisymmetric n x tied)))
    ∙ ap (λ x. cond (stays exports x) x None) at ∙ ap (λ c. cond c (Some o) None) lives

pub worked-numbers : WorkedNumberings
worked-numbers root = record {
  kept = refl;
  new = refl;
  two_new = refl;
  below = refl;
  gone = refl;
  back = refl;
  none = refl;
  last_number = refl;
  used_up = refl;
  one_too_many = refl;
  none_wanted = refl;
}

-- the exports behind each of the steps
abbrev fixed_data : List LivingExport
fixed_data = living_as 1 1 data_fixed ∷ []

abbrev only_new : List LivingExport
only_new = living_as 2 102 new_export ∷ []

abbrev both : List LivingExport
both = living_as 2 9 new_fixed ∷ living_as 3 103 data_export ∷ []

module _ (m : State) (time : Time) (o : Living) (at : get m.objects 9 ≡ Some o) where
  of-export : (exports : List LivingExport) (number : ℕ) (b : Bool) → o.export ≡ number →
      is_some (export_at exports number) ≡ b → get (staying exports m.objects) 9 ≡ cond b (Some o) None
  of-export exports number b of lives =
      staying-at exports m.objects 9 o b at (ap (λ n. is_some (export_at exports n)) of ∙ lives)

  beside-root : o.export ≡ 1 → get (insert (staying only_new m.objects) 102 (new_root 2 1 time)) 9 ≡ None
  beside-root of = get-inserted (staying only_new m.objects) 102 (new_root 2 1 time) 9
      ∙ of-export only_new 1 false of refl

  lives-on : o.export ≡ 2 → get (insert (staying both m.objects) 103 (new_root 3 1 time)) 9 ≡ Some o
  lives-on of = get-inserted (staying both m.objects) 103 (new_root 3 1 time) 9 ∙ of-export both 2 true of refl

  named-on : o.export ≡ 2 → o.generation ≡ 1 →
      living_at (get (insert (staying both m.objects) 103 (new_root 3 1 time)) 9)
      (record { export = 2; start = 7; fileid = 9; generation = 1 }) ≡ Names 9 o
  named-on of first =
      ap (λ l. living_at l (record { export = 2; start = 7; fileid = 9; generation = 1 })) (lives-on of)
      ∙ ap (λ g. cond ((g == 1) && (o.export == 2)) (Names 9 o) Stale) first
      ∙ ap (λ e. cond (e == 2) (Names 9 o) Stale) of

pub worked-replacings : WorkedReplacings
unfolding ReplaceStep MountStep
worked-replacings m spent time o = record {
  lives_on = λ at of. of-export m time o at fixed_data 1 true of refl;
  goes = beside-root m time o;
  root_lives = get-inserted (staying only_new m.objects) 102 (new_root 2 1 time) 102;
  handle_goes = refl;
  stays_gone = refl;
  handle_stays = named-on m time o;
  listed = record { reply_is = refl; no_message = refl; state_is = refl };
  used_up = λ faultless. (faultless, refl, refl);
}
