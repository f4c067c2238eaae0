-- A request that fails by tries, where the script has few faults: completeness refuses it.
use Rattle.std.proofs.Common.{inr}
use Rattle.trace_replay.specs.requests.Requests.{Failed, Fault}
use Rattle.promise_rows.specs.Strikes.{FailedByFewStrikes}

pub failed_by_few_strikes : FailedByFewStrikes
failed_by_few_strikes script tables old new moments promises ahead between after at line done r kind cut there joined online unlocked usable few =
    promises.complete ahead between after at line r kind (Failed Fault done) cut there
    (record { joined = joined; online = online; unlocked = unlocked; usable = usable; tries = inr few })
