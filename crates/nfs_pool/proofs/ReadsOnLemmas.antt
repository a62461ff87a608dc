-- A call that reads on.
use Rattle.std.proofs.Common.{◌≡◌, ℕ, ◌+◌, ◌^◌, refl, sym, ◌∙◌, ap, subst}
use Rattle.nfs_objects.specs.Values.{ViewValue}
use Rattle.nfs_engine.specs.Calls.{FinishedValue, TxnValue}
use Rattle.nfs_engine.specs.declared.journal.Receipt.{Receipt}
use Rattle.nfs_pool.specs.Passes.{IsNext, Reads}
use Rattle.nfs_pool.specs.Steps.{IsMadeAbove}

-- it has another view
pub reads_so : (t u : TxnValue) (view : ViewValue) → u ≡ record t { view = view } → Reads t u
reads_so t u view is = is ∙ ap (λ (v : ViewValue). record t { view = v }) (sym (ap (λ (x : TxnValue). x.view) is))

pub reads_twice : (a b c : TxnValue) → Reads a b → Reads b c → Reads a c
reads_twice a b c one two = two ∙ ap (λ (t : TxnValue). record t { view = c.view }) one

-- what was made of a call, by another name, is the next receipt
pub made_next : (f made : FinishedValue) (last before after : ℕ) (receipt : Receipt) → made ≡ f
    → IsMadeAbove last made receipt → after ≡ before + 2 ^ 64 → IsNext f.received last before after receipt
made_next f made last before after receipt same is counted =
    let of_call : IsMadeAbove last f receipt = subst (λ (x : FinishedValue). IsMadeAbove last x receipt) same is in
    record {
      of_call = record { finished = f; received = refl; called = of_call.called; made = of_call.made };
      above = of_call.above;
      counted = counted;
    }
