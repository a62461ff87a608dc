-- What came in and asks a call, with all that the call's admission wants.
use Rattle.std.specs.Prelude.{◌≡◌, Option}
use Rattle.nfs_machine.specs.Run.{host_in, moment_in}
use Rattle.nfs_replies.specs.declared.origins.Origin.{Origin}
use Rattle.nfs_engine.specs.Arrivals.{ArrivalValue, IsArrival, incoming_value}
use Rattle.nfs_engine.specs.Repeats.{origin_of}
use Rattle.nfs_engine.specs.declared.arrival.Reading.TheVariants as readings
use Rattle.nfs_engine.specs.declared.request.Request.{Request}

-- what came in, and what it asks
abbrev pub candidate_value : Request → ArrivalValue
candidate_value r = record {
  received = incoming_value r.received;
  reading = readings.Asks (record { xid = r.xid; ids = r.ctx.ids; call = r.call });
}

-- it asks this, under who sent it and when
pub record IsAskedSo (r : Request) : Type 0 where
  pub arrival : IsArrival (candidate_value r)
  pub host : r.ctx.host ≡ host_in (incoming_value r.received)
  pub moment : r.ctx.moment ≡ moment_in (incoming_value r.received)

-- and this is what a repeat of it would come with
pub record IsCandidate (r : Request) (origin : Option Origin) : Type 0 where
  pub arrival : IsArrival (candidate_value r)
  pub host : r.ctx.host ≡ host_in (incoming_value r.received)
  pub moment : r.ctx.moment ≡ moment_in (incoming_value r.received)
  pub origin_is : origin ≡ origin_of (incoming_value r.received) r.call
