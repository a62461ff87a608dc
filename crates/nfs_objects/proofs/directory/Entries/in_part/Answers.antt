use Rattle.std.proofs.Common.{ap, ◌∙◌, ◌==◌, filter, rules, ℕ, List}
use Rattle.std.proofs.lemmas.Map.Entries.{entries_from_clone}
use Rattle.indexmap.proofs.CallerLemmas.{filter-RetainsPairs}
use Rattle.nfs_machine.specs.State.{Entry}
use Rattle.nfs_objects.proofs.NameMapLemmas.{kept-listed}
use Rattle.nfs_objects.specs.Directories.{part_among}
use Rattle.nfs_objects.specs.Entries.{entries_of_pairs}
use Rattle.nfs_objects.proofs.directory.Entries.in_part.Goals as goal

pub returns : goal.returns
returns c =
    ap entries_of_pairs (filter-RetainsPairs _ _ _ (λ k v b w g call. search rules) _ _ c.retain.ensures.filtered)
    ∙ kept-listed (λ (name : List ℕ). part_among c.args.key.now c.args.width name == c.args.part)
    c.in_ok-map.map.entries
    ∙ ap (λ es. filter (λ (e : Entry). part_among c.args.key.now c.args.width e.name == c.args.part) es)
    (ap entries_of_pairs (entries_from_clone _ _ (λ x y same. same)
    (λ v w same. same) _ _ c.in_ok-map.ensures.cases) ∙ c.self.view_is)
