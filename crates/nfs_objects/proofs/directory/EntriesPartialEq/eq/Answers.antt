use Rattle.std.proofs.Common.{ℕ, Bool, List, sym, ◌∙◌}
use Rattle.std.specs.Cmp.Derive.Mapped.{pointwise-map}
use Rattle.std.specs.Cmp.Lexicographic.{pointwise}
use Rattle.nfs_objects.specs.Entries.{entry}
use Rattle.nfs_objects.specs.Same.{same_entry}
use Rattle.nfs_objects.specs.SameLaws.{entries_decide, told_so}
use Rattle.nfs_objects.specs.declared.directory.Leaf.{Leaf}
use Rattle.nfs_objects.proofs.directory.EntriesPartialEq.eq.Goals as goal

abbrev pair : List ℕ × Leaf → List ℕ × Leaf → Bool
pair p q = same_entry (entry p.0 p.1) (entry q.0 q.1)

pub returns-clause-test : goal.returns-clause-test
returns-clause-test c =
    c.eq.ensures ∙ (λ i. pointwise pair (c.as_slice.ensures.entries i) (c.as_slice-2.ensures.entries i))
    ∙ sym (pointwise-map (λ (p : List ℕ × Leaf). entry p.0 p.1) same_entry c.self.inside.map.entries
    c.other.inside.map.entries)
    ∙ (λ i. pointwise same_entry (c.self.view_is i) (c.other.view_is i))

pub returns-clause-same : goal.returns-clause-same
returns-clause-same c = told_so entries_decide _ _ _ (returns-clause-test c)
