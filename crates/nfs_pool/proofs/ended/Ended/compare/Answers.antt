use Rattle.std.proofs.Common.{◌≡◌, ◌∙◌, List, ap, length, map, refl, subst, sym, ℕ}
use Rattle.std.specs.declared.alloc.Global.{Global}
use Rattle.std.specs.declared.sync.Arc.{Arc}
use Rattle.std.proofs.lemmas.Bool.{false≢true}
use Rattle.std.proofs.lemmas.List.{length-map}
use Rattle.nfs_machine.specs.Run.{Record}
use Rattle.nfs_engine.specs.Arrivals.{shared_value}
use Rattle.nfs_engine.specs.declared.arrival.Executed.{Executed}
use Rattle.nfs_pool.specs.Eras.{EndedValue, EndsEra, TellAll, told_in}
use Rattle.nfs_pool.proofs.ended.Ended.compare.Goals as goal

pub take_all_told-are_told-requires : goal.take_all_told-are_told-requires
take_all_told-are_told-requires c =
    let leaves = c.self.invariant.2 in
    sym leaves.counted ∙ sym (ap length leaves.takes.records) ∙ length-map c.self.inside.era.records.items shared_value
    ∙ ap length (sym c.deref.ensures.value)

pub returns-then-are_told-clause-ends : goal.returns-then-are_told-clause-ends
returns-then-are_told-clause-ends c =
    let old = c.self.invariant.0 in
    let new = c.self.invariant.1 in
    let leaves = c.self.invariant.2 in
    let era = c.self.inside.era in
    let receipts = told_in c.self.inside.lists.items in
    let tell : TellAll era.before (map shared_value era.records.items) receipts =
    subst (λ (rs : List (Arc Executed Global)). TellAll era.before (map shared_value rs) receipts) c.deref.ensures.value
    (c.if-are_told.ensures.told.0 refl) in
    let told : TellAll old.before old.records receipts =
    subst (λ (n : ℕ). TellAll n old.records receipts) leaves.takes.before
    (subst (λ (rs : List Record). TellAll era.before rs receipts) leaves.takes.records tell) in
    let ends : EndsEra old new receipts era =
    record { run = leaves.run; told = told; takes = leaves.takes; rebases = leaves.rebases } in
    (new, (old, subst (λ (e : EndedValue). EndsEra old new e.receipts era) c.self.view_is ends))

pub returns-else-are_told-clause-missing : goal.returns-else-are_told-clause-missing
returns-else-are_told-clause-missing c =
    let era = c.self.inside.era in
    let receipts = told_in c.self.inside.lists.items in
    subst (λ (e : EndedValue). TellAll e.era.before (map shared_value e.era.records.items) e.receipts → ⊥)
    c.self.view_is
    (λ tell. false≢true (c.if-are_told.ensures.told.1
    (subst (λ (rs : List (Arc Executed Global)). TellAll era.before (map shared_value rs) receipts)
    (sym c.deref.ensures.value) tell)))
