-- What came in: the call that it asks, in its place, or a record with a fault.
use Rattle.nfs_engine.specs.Arrivals.{ArrivalValue, IsArrival, incoming_value}
use Rattle.nfs_engine.specs.Candidates.{IsAskedSo, candidate_value}
use Rattle.nfs_engine.specs.declared.arrival.Came.{Came}
use Rattle.nfs_engine.specs.declared.arrival.Came.TheVariants.{Call, Faulted}
use Rattle.nfs_engine.specs.declared.arrival.Reading.TheVariants as readings

abbrev pub came_value : Came → ArrivalValue
came_value (Call request) = candidate_value request.value
came_value (Faulted received answer) =
    record { received = incoming_value received; reading = readings.Faulted answer }

-- a call is asked under who sent it and when
abbrev pub IsCame : Came → Type 0
IsCame (Call request) = IsAskedSo request.value
IsCame (Faulted received answer) = IsArrival (came_value (Faulted received answer))
