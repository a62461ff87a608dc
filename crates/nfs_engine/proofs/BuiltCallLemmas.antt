-- A call that a record asks is of a procedure that is built: its header was read, and the last test of a header is
-- that.
use Rattle.std.proofs.Common.{◌≡◌, ℕ, Bool, true, false, List, Result, Ok, Err, IfOk, refl, sym, subst}
use Rattle.nfs_rpc.specs.Early.{◌>>=◌, call_of, heading_of, holding}
use Rattle.nfs_rpc.specs.Messages.{CallHeader}
use Rattle.nfs_rpc.specs.Programs.{is_built}
use Rattle.nfs_rpc.specs.declared.faults.Early.{Early}
use Rattle.nfs_rpc.specs.declared.programs.Program.{Program}
use Rattle.nfs_rpc.specs.declared.programs.Program.TheVariants as programs
use Rattle.nfs_machine.specs.Run.{Arrival, FromHost, NewExports, IsCall}
use Rattle.nfs_machine.specs.declared.calls.Call.{Call}
use Rattle.nfs_machine.specs.declared.calls.Call.TheVariants as calls
use Rattle.nfs_engine.specs.Asked.{IsAsked, IsAskedBy}
use Rattle.nfs_engine.specs.Built.{IsBuilt}
use Rattle.nfs_engine.specs.declared.asking.Asked.{Asked}

abbrev HasBuilt : CallHeader → Type 0
HasBuilt header = is_built header.program header.procedure ≡ true

chained : {A B : Type 0} (P : B → Type 0) (r : Result A Early) (f : A → Result B Early) → ((x : A) → IfOk (f x) P)
    → IfOk (r >>= f) P
chained P (Ok x) f holds = holds x
chained P (Err e) f holds = tt

held : {B : Type 0} (P : B → Type 0) (b : Bool) (e : Early) (f : Unit {0} → Result B Early) → (b ≡ true → IfOk (f tt) P)
    → IfOk (holding b e >>= f) P
held P true e f holds = holds refl
held P false e f holds = tt

heading-built : (xid number version procedure flavor : ℕ) (body arguments : List ℕ)
    → IfOk (heading_of xid number version procedure flavor body arguments) HasBuilt
heading-built xid number version procedure flavor body arguments = search (chained, held) depth 10

record-built : (bytes : List ℕ) → IfOk (call_of bytes) HasBuilt
unfolding call_of
record-built bytes = search (chained, heading-built) depth 10

of-built : (program : Program) (procedure : ℕ) (bytes : List ℕ) (call : Call) → IsCall program procedure bytes call
    → is_built program procedure ≡ true → IsBuilt call
of-built program procedure bytes (calls.Nfs call) (of, number, spelled) built =
    subst (λ (n : ℕ). is_built programs.Nfs n ≡ true) (sym number) (subst (λ (p : Program). is_built p procedure ≡ true)
    of built)
of-built program procedure bytes (calls.Mount call) (of, number, spelled) built =
    subst (λ (n : ℕ). is_built programs.Mount n ≡ true) (sym number)
    (subst (λ (p : Program). is_built p procedure ≡ true) of built)
of-built program procedure bytes (calls.Nlm call) (of, number, spelled) built =
    subst (λ (n : ℕ). is_built programs.Nlm n ≡ true) (sym number) (subst (λ (p : Program). is_built p procedure ≡ true)
    of built)
of-built program procedure bytes (calls.Replace exports) is built = absurd is

pub asked-built : (bytes : List ℕ) (asked : Asked) → IsAsked bytes asked → IsBuilt asked.call
asked-built bytes asked is =
    let header : HasBuilt is.header = subst (λ (r : Result CallHeader Early). IfOk r HasBuilt) is.read
    (record-built bytes) in
    of-built is.header.program is.header.procedure is.header.arguments asked.call is.is_call header

pub arrival-built : (arrival : Arrival) (asked : Asked) → IsAskedBy arrival asked → IsBuilt asked.call
arrival-built (FromHost received) asked is = asked-built received.bytes asked is
arrival-built (NewExports exports moment) asked is = subst (λ (a : Asked). IsBuilt a.call) (sym is) tt
