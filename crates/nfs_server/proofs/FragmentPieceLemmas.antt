-- Bytes of a fragment that are taken at once lead to where they lead one by one.
use Rattle.std.proofs.Common.{◌≡◌, ◌∙◌, ℕ, zero, suc, ◌-◌, ◌<◌, ◌≤◌, ◌||◌, Bool, true, false, List, [], ◌∷◌, length}
use Rattle.std.proofs.Common.{drop, length-drop, max, min, refl, ap, arith, subst, sym, take, tests}
use Rattle.std.proofs.lemmas.List.{take_all}
use Rattle.nfs_server.specs.Stages.{StepsOn, behind, has_ended, in_body, is_between}
use Rattle.nfs_server.specs.declared.marks.Stage.{Stage}
use Rattle.nfs_server.specs.declared.marks.Stage.TheVariants.{Between, Header, Body}

pub body_more : (last : Bool) (missing : ℕ) → 0 < missing → in_body last missing ≡ Body last missing
body_more last missing some = grind (arith, tests)

less_more : (missing n : ℕ) → (missing - 1) - suc n ≡ missing - suc (suc n)
less_more missing n = omega arith

pub skip_leads : (last : Bool) (missing size : ℕ) (piece : List ℕ) → 0 < size → size ≤ length piece →
    size ≤ max missing 1 → behind (Body last missing) piece ≡ behind (in_body last (missing - size)) (drop size piece)
skip_leads last missing zero piece some within few = absurd (omega (arith, some))
skip_leads last missing (suc n) [] some within few = absurd (omega (arith, within))
skip_leads last missing (suc zero) (byte ∷ bytes) some within few = refl
skip_leads last missing (suc (suc n)) (byte ∷ bytes) some within few =
    ap (λ stage. behind stage bytes) (body_more last (missing - 1) (omega (arith, few)))
    ∙ skip_leads last (missing - 1) (suc n) bytes (omega arith) (omega (arith, within)) (omega (arith, few))
    ∙ ap (λ m. behind (in_body last m) (drop (suc n) bytes)) (less_more missing n)

pub skip_ends : (last : Bool) (missing size : ℕ) (piece : List ℕ) → 0 < size → size ≤ length piece →
    size ≤ max missing 1 → has_ended (Body last missing) piece
    ≡ (is_between (in_body last (missing - size)) || has_ended (in_body last (missing - size)) (drop size piece))
skip_ends last missing zero piece some within few = absurd (omega (arith, some))
skip_ends last missing (suc n) [] some within few = absurd (omega (arith, within))
skip_ends last missing (suc zero) (byte ∷ bytes) some within few = refl
skip_ends last missing (suc (suc n)) (byte ∷ bytes) some within few =
    ap (λ stage. is_between stage || has_ended stage bytes) (body_more last (missing - 1) (omega (arith, few)))
    ∙ skip_ends last (missing - 1) (suc n) bytes (omega arith) (omega (arith, within)) (omega (arith, few))
    ∙ ap (λ m. is_between (in_body last m) || has_ended (in_body last m) (drop (suc n) bytes)) (less_more missing n)

pub steps_body : (last : Bool) (missing size : ℕ) (piece : List ℕ) → 0 < length piece →
    size ≡ min (max missing 1) (length piece) →
    StepsOn (Body last missing) piece (in_body last (missing - size)) (take (length piece - size) (drop size piece))
steps_body last missing size piece some is =
    let left : take (length piece - size) (drop size piece) ≡ drop size piece =
    take_all (length piece - size) (drop size piece) (omega (arith, length-drop size piece)) in
    let taken : 0 < size = omega (arith, some, is) in
    let within : size ≤ length piece = omega (arith, is) in
    let few : size ≤ max missing 1 = omega (arith, is) in
    subst (λ left. StepsOn (Body last missing) piece (in_body last (missing - size)) left) (sym left)
    (record {
      leads = skip_leads last missing size piece taken within few;
      ended = skip_ends last missing size piece taken within few;
      shorter = omega (arith, length-drop size piece, taken, within);
    })
