use Rattle.std.proofs.Common.{ap, ◌∙◌, not, rules, ℕ, List}
use Rattle.std.proofs.lemmas.Map.Entries.{entries_from_clone}
use Rattle.indexmap.proofs.CallerLemmas.{filter-RetainsPairs}
use Rattle.nfs_machine.specs.Bytes.{same_bytes}
use Rattle.nfs_machine.specs.RemoveSteps.{without}
use Rattle.nfs_objects.proofs.NameMapLemmas.{kept-listed}
use Rattle.nfs_objects.specs.Entries.{entries_of_pairs}
use Rattle.nfs_objects.proofs.directory.Entries.without_name.Goals as goal

pub returns : goal.returns
returns c =
    ap entries_of_pairs (filter-RetainsPairs _ _ _ (λ k v b w g call. search rules) _ _ c.retain.ensures.filtered)
    ∙ kept-listed (λ (name : List ℕ). not (same_bytes name c.args.name.now)) c.in_ok-map.map.entries
    ∙ ap (λ es. without es c.args.name.now)
    (ap entries_of_pairs (entries_from_clone _ _ (λ x y same. same)
    (λ v w same. same) _ _ c.in_ok-map.ensures.cases) ∙ c.self.view_is)
