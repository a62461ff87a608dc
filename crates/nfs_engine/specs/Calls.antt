-- Calls in progress: what they are, and what they have read.
use Rattle.std.specs.Prelude.{◌≡◌, ℕ, [], map}
use Rattle.std.specs.Arc.{arc_value}
use Rattle.std.specs.declared.sync.Arc.{Arc}
use Rattle.std.specs.declared.alloc.Global.{Global}
use Rattle.std.specs.declared.vec.Vec.{Vec}
use Rattle.nfs_machine.specs.Run.{Arrival, Setting, host_in, moment_in}
use Rattle.nfs_machine.specs.declared.calls.Call.{Call}
use Rattle.nfs_machine.specs.declared.context.Ctx.{Ctx}
use Rattle.nfs_objects.specs.Promise.{IsPromised}
use Rattle.nfs_objects.specs.Values.{ChangeValue, DoneValue, ViewValue, done_value, write_value}
use Rattle.nfs_objects.specs.declared.change.Write.{Write}
use Rattle.nfs_engine.specs.Arrivals.{HostIsNamed, incoming_value}
use Rattle.nfs_engine.specs.Asked.{IsAskedBy}
use Rattle.nfs_engine.specs.declared.arrival.Executed.{Executed}

-- what a call is made under was made by a server that was started so
pub record IsUnder (setting : Setting) (ctx : Ctx) : Type 0 where
  pub start : ctx.start ≡ setting.start
  pub limits : ctx.limits ≡ setting.limits

-- the call is what asks that came in, with this xid, and is made under who sent it and when
pub record IsCalled (received : Arrival) (xid : ℕ) (call : Call) (ctx : Ctx) : Type 0 where
  pub asked : IsAskedBy received (record { xid = xid; ids = ctx.ids; call = call })
  pub host : ctx.host ≡ host_in received
  pub moment : ctx.moment ≡ moment_in received
  pub named : HostIsNamed received

pub record TxnValue : Type 0 where
  -- a number that no other call ever has
  pub id : ℕ
  -- its place among the calls in progress
  pub key : ℕ
  pub received : Arrival
  pub xid : ℕ
  pub call : Call
  pub ctx : Ctx
  pub view : ViewValue

pub record FinishedValue : Type 0 where
  pub id : ℕ
  pub key : ℕ
  pub received : Arrival
  pub xid : ℕ
  pub done : DoneValue

pub record PendingValue : Type 0 where
  pub id : ℕ
  pub key : ℕ
  pub received : Arrival
  pub xid : ℕ
  pub call : Call
  pub ctx : Ctx

-- the call with its end
abbrev pub finished_of : TxnValue → ChangeValue → FinishedValue
finished_of t change = record {
  id = t.id;
  key = t.key;
  received = t.received;
  xid = t.xid;
  done = done_value t.call t.ctx t.view change;
}

-- the call without its end
abbrev pub txn_of : FinishedValue → TxnValue
txn_of f = record {
  id = f.id;
  key = f.key;
  received = f.received;
  xid = f.xid;
  call = f.done.call;
  ctx = f.done.ctx;
  view = f.done.view;
}

-- the call without what it has read
abbrev pub pending_of : TxnValue → PendingValue
pending_of t = record
    { id = t.id; key = t.key; received = t.received; xid = t.xid; call = t.call; ctx = t.ctx }

-- the call, which has read nothing
abbrev pub again_of : PendingValue → TxnValue
again_of p = record {
  id = p.id;
  key = p.key;
  received = p.received;
  xid = p.xid;
  call = p.call;
  ctx = p.ctx;
  view = record { entries = []; reserved = [] };
}

-- what these writes change, and what is recorded of it
abbrev pub change_from : Vec Write Global → Arc Executed Global → ChangeValue
change_from writes executed = record {
  writes = map write_value writes.items;
  messages = (arc_value executed).messages.items;
  reply = (arc_value executed).reply;
}

-- the end of a call with these writes, and with what is recorded of it
abbrev pub done_from : Call → Ctx → ViewValue → Vec Write Global → Arc Executed Global → DoneValue
done_from call ctx view writes executed = done_value call ctx view (change_from writes executed)

-- the call is what came in asks, its end keeps the promise, and it is recorded with what came in
pub record IsFinished (received : Arrival) (xid : ℕ) (done : DoneValue)
    (executed : Arc Executed Global) : Type 0 where
  pub called : IsCalled received xid done.call done.ctx
  pub promised : IsPromised done
  pub recorded : incoming_value (arc_value executed).received ≡ received
