-- What came in, and records of what was executed.
use Rattle.std.specs.Prelude.{◌≡◌, ℕ, List, Option}
use Rattle.std.specs.Arc.{arc_value}
use Rattle.std.specs.declared.sync.Arc.{Arc}
use Rattle.std.specs.declared.alloc.Global.{Global}
use Rattle.nfs_rpc.specs.declared.faults.Early.{Early}
use Rattle.nfs_rpc.specs.declared.faults.Early.TheVariants.{Drop}
use Rattle.nfs_machine.specs.RpcReplies.{FirstFault}
use Rattle.nfs_machine.specs.Run as machine
use Rattle.nfs_engine.specs.Answers.{answer_of, fault_answer}
use Rattle.nfs_engine.specs.Asked.{IsAskedBy}
use Rattle.nfs_engine.specs.Hosts.{IsHost}
use Rattle.nfs_engine.specs.declared.arrival.Executed.{Executed}
use Rattle.nfs_engine.specs.declared.arrival.Incoming.{Incoming}
use Rattle.nfs_engine.specs.declared.arrival.Incoming.TheVariants as incoming
use Rattle.nfs_engine.specs.declared.arrival.Reading.{Reading}
use Rattle.nfs_engine.specs.declared.arrival.Reading.TheVariants.{Asks, Faulted}
use Rattle.nfs_engine.specs.declared.arrival.Received.{Received}

-- a record that came in, as the machine has it
abbrev pub received_value : Received → machine.Received
received_value r = record { host = r.host; bytes = r.message; moment = r.moment }

-- what came in, as the machine has it
abbrev pub incoming_value : Incoming → machine.Arrival
incoming_value (incoming.Record received) = machine.FromHost (received_value received)
incoming_value (incoming.Exports exports moment) = machine.NewExports exports moment

pub record ArrivalValue : Type 0 where
  pub received : machine.Arrival
  pub reading : Reading

-- the host that sent a record has 1 to 255 bytes; exports come from none
abbrev pub HostIsNamed : machine.Arrival → Type 0
HostIsNamed (machine.FromHost received) = IsHost received.host
HostIsNamed (machine.NewExports exports moment) = Unit {0}

-- a record that has no answer: it is a reply, or it is cut short before its arguments
abbrev pub IsDropped : List ℕ → Type 0
IsDropped bytes = FirstFault bytes Drop

-- the answer is that of the record's first fault; there is none just where the record is dropped
pub record IsFaultAnswer (bytes : List ℕ) (answer : Option (List ℕ)) : Type 0 where
  pub fault : Early
  pub is : FirstFault bytes fault
  pub answered : answer ≡ fault_answer fault

-- only a record has a fault
abbrev pub IsFaultedBy : machine.Arrival → (answer : Option (List ℕ)) → Type 0
IsFaultedBy (machine.FromHost received) answer = IsFaultAnswer received.bytes answer
IsFaultedBy (machine.NewExports exports moment) answer = ⊥

abbrev pub IsReading : machine.Arrival → Reading → Type 0
IsReading arrival (Asks asked) = IsAskedBy arrival asked
IsReading arrival (Faulted answer) = IsFaultedBy arrival (answer_of answer)

-- what came in is what it was read as
pub record IsArrival (a : ArrivalValue) : Type 0 where
  pub named : HostIsNamed a.received
  pub reading : IsReading a.received a.reading

-- what was executed, as the machine records it
abbrev pub record_value : Executed → machine.Record
record_value x = record
    { arrival = incoming_value x.received; reply = x.reply; messages = x.messages.items }

abbrev pub shared_value : Arc Executed Global → machine.Record
shared_value x = record_value (arc_value x)
