-- A record is read as one header; calls of one program and procedure that fronts of its arguments spell are equal.
use Rattle.std.proofs.Common.{◌≡◌, ℕ, List, sym, ◌∙◌, ap, subst}
use Rattle.nfs_rpc.specs.Messages.{CallHeader}
use Rattle.nfs_rpc.specs.declared.programs.Program.{Program}
use Rattle.nfs_wire.specs.Calls.{SpellsOneCall}
use Rattle.nfs_xdr.specs.Programs as program
use Rattle.side_wire.specs.Mount.{mount_procedure_of, SpellsMountArguments}
use Rattle.side_wire.specs.Nlm.{nlm_procedure_of, SpellsNlmArguments}
use Rattle.nfs_machine.specs.Run.{Arrival, FromHost, NewExports, Asks, IsCall, Setting, context_of}
use Rattle.nfs_machine.specs.declared.calls.Call.{Call}
use Rattle.nfs_machine.specs.declared.calls.Call.TheVariants as calls
use Rattle.nfs_machine.specs.declared.context.Ctx.{Ctx}

one_call : SpellsOneCall → program.SpellsOneCall mount_procedure_of SpellsMountArguments
    → program.SpellsOneCall nlm_procedure_of SpellsNlmArguments
    → (of : Program) (procedure : ℕ) (bytes : List ℕ) (call call' : Call) → IsCall of procedure bytes call
    → IsCall of procedure bytes call' → call ≡ call'
one_call nfs mount nlm of procedure bytes (calls.Nfs k) (calls.Nfs k') (_, p, (front, rest, is, s))
    (_, p', (front', rest', is', s')) =
    ap calls.Nfs (nfs bytes front rest front' rest' k k' (p ∙ sym p') is s is' s')
one_call nfs mount nlm of procedure bytes (calls.Mount k) (calls.Mount k') (_, p, (front, rest, is, s))
    (_, p', (front', rest', is', s')) =
    ap calls.Mount (mount bytes front rest front' rest' k k' (p ∙ sym p') is s is' s')
one_call nfs mount nlm of procedure bytes (calls.Nlm k) (calls.Nlm k') (_, p, (front, rest, is, s))
    (_, p', (front', rest', is', s')) =
    ap calls.Nlm (nlm bytes front rest front' rest' k k' (p ∙ sym p') is s is' s')
one_call nfs mount nlm of procedure bytes (calls.Nfs k) (calls.Mount k') a b = let same = sym a.0 ∙ b.0 in cc
one_call nfs mount nlm of procedure bytes (calls.Nfs k) (calls.Nlm k') a b = let same = sym a.0 ∙ b.0 in cc
one_call nfs mount nlm of procedure bytes (calls.Mount k) (calls.Nfs k') a b = let same = sym a.0 ∙ b.0 in cc
one_call nfs mount nlm of procedure bytes (calls.Mount k) (calls.Nlm k') a b = let same = sym a.0 ∙ b.0 in cc
one_call nfs mount nlm of procedure bytes (calls.Nlm k) (calls.Nfs k') a b = let same = sym a.0 ∙ b.0 in cc
one_call nfs mount nlm of procedure bytes (calls.Nlm k) (calls.Mount k') a b = let same = sym a.0 ∙ b.0 in cc
one_call nfs mount nlm of procedure bytes (calls.Replace k) call a b = absurd a
one_call nfs mount nlm of procedure bytes (calls.Nfs k) (calls.Replace k') a b = absurd b
one_call nfs mount nlm of procedure bytes (calls.Mount k) (calls.Replace k') a b = absurd b
one_call nfs mount nlm of procedure bytes (calls.Nlm k) (calls.Replace k') a b = absurd b

pub asked_once : SpellsOneCall → program.SpellsOneCall mount_procedure_of SpellsMountArguments
    → program.SpellsOneCall nlm_procedure_of SpellsNlmArguments
    → (setting : Setting) (arrival : Arrival) (ctx ctx' : Ctx) (call call' : Call)
    → Asks setting arrival ctx call → Asks setting arrival ctx' call' → (ctx ≡ ctx') × (call ≡ call')
asked_once nfs mount nlm setting (FromHost received) ctx ctx' call call' a b =
    let read = sym a.read ∙ b.read in
    let same : a.header ≡ b.header = cc in
    let P : CallHeader → Type 0 = λ (h : CallHeader). IsCall h.program h.procedure h.arguments call in (
      a.made_under ∙ (ap (λ (h : CallHeader). context_of setting received.host h.ids received.moment) same ∙ sym
          b.made_under),
      one_call nfs mount nlm b.header.program b.header.procedure b.header.arguments call call' (subst P same a.is_call)
          b.is_call,
    )
asked_once nfs mount nlm setting (NewExports exports moment) ctx ctx' call call' a b = (a.1 ∙ sym b.1, a.0 ∙ sym b.0)
