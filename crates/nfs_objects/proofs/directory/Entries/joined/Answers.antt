use Rattle.std.proofs.Common.{◌≡◌, ◌≤◌, ◌∙◌, ◌++◌, List, ℕ, Some, ap, arith, length, nat_eq, rules, subst, sym}
use Rattle.std.proofs.Math.Seq.{take_all}
use Rattle.std.proofs.lemmas.Map.Entries.{entries_from_clone}
use Rattle.std.specs.Cmp.Lexicographic.{pointwise}
use Rattle.std.specs.List.{IsDistinct}
use Rattle.std.specs.Map.{keys_of}
use Rattle.std.specs.Prelude.{slice_get}
use Rattle.indexmap.specs.IndexMap.{insert_all}
use Rattle.nfs_objects.proofs.NameMapLemmas.{entries-back, inserted-next, listed-apart, pairs-back, pairs_of, take-none}
use Rattle.nfs_objects.proofs.directory.Entries.joined.Goals as goal
use Rattle.nfs_objects.specs.Directories.{AreApart}
use Rattle.nfs_objects.specs.Entries.{entries_of_pairs}
use Rattle.nfs_objects.specs.declared.directory.Leaf.{Leaf}

pub loop-place-init : goal.loop-place-init
loop-place-init c =
    let own = sym (pairs-back c.self.inside.map.entries) ∙ ap pairs_of c.self.view_is in
    entries_from_clone _ _ (λ x y same. same) (λ v w same. same) _ _ c.in_ok-map.ensures.cases ∙ own
    ∙ ap (insert_all (pointwise nat_eq) (pairs_of c.args.self.now)) (sym (take-none (pairs_of c.args.others.now)))

pub loop-place-preserved : goal.loop-place-preserved
loop-place-preserved c =
    let pair : List ℕ × Leaf = (c.unwrap.result.0.now, c.unwrap.result.1.now) in
    let own = sym (pairs-back c.others.inside.map.entries) ∙ ap pairs_of c.others.view_is in
    let there : slice_get c.others.inside.map.entries c.loop-place.place ≡ Some pair = search rules in
    inserted-next (pairs_of c.args.self.now) (pairs_of c.args.others.now) c.loop-place.map.entries
    c.insert.new.self.entries c.loop-place.place pair c.loop-place.invariant
    (ap (λ l. slice_get l c.loop-place.place) (sym own) ∙ there)
    (rw c.in_ok-clone.ensures.cases at c.in_ok-insert.ensures.entries)

pub returns : goal.returns
returns c = λ apart.
    let mine = pairs_of c.args.self.now in
    let theirs = pairs_of c.args.others.now in
    let own : c.others.inside.map.entries ≡ theirs =
    sym (pairs-back c.others.inside.map.entries) ∙ ap pairs_of c.others.view_is in
    let past : length theirs ≤ c.loop-place.place =
    rw (← own) (omega (arith, c.len-place-end.ensures.len, c.loop-place-test.false)) in
    let distinct : IsDistinct (pointwise nat_eq) (keys_of theirs) =
    subst (λ l. IsDistinct (pointwise nat_eq) (keys_of l)) own c.len-place-end.ensures.unique in
    let parted : AreApart (entries_of_pairs mine) (entries_of_pairs theirs) =
    subst (λ es. AreApart es (entries_of_pairs theirs)) (sym (entries-back c.args.self.now))
    (subst (λ es. AreApart c.args.self.now es) (sym (entries-back c.args.others.now)) apart) in
    ap entries_of_pairs (c.loop-place.invariant
    ∙ ap (insert_all (pointwise nat_eq) mine) (take_all c.loop-place.place theirs past))
    ∙ listed-apart mine theirs parted distinct
    ∙ (λ i. entries-back c.args.self.now i ++ entries-back c.args.others.now i)
