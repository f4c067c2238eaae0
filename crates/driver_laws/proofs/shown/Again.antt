-- Behind a request that is waited for the driver stands for the replay behind it.
use Rattle.std.proofs.Common.{sym, subst}
use Rattle.trace_replay.specs.Replay.{Replay}
use Rattle.driver_laws.specs.rules.Stands.{Setup}
use Rattle.driver_laws.specs.rules.Sessions.{behind_all, waited}
use Rattle.driver_laws.specs.rules.Rest.{IsAtRest}
use Rattle.driver_laws.proofs.rules.WaitedLaws.{all_rest_again}
use Rattle.driver_laws.specs.shown.Quiet.{setup_of}
use Rattle.driver_laws.specs.shown.QuietCalls.{QuietAgain}

pub quiet_again : QuietAgain
quiet_again held left w now s line r asked drained q waits opened marks same =
    let last : Replay = behind_all s (waited line r asked drained) in
    record {
      rest = subst (λ (z : Setup). IsAtRest z last) (sym same)
          (all_rest_again (setup_of w held) s line r asked drained left waits
          (record { sectors = opened.stands.packs.sectors; marked = opened.stands.packs.marks; marks = marks })).rest;
      stands = opened.stands;
      consistent = opened.consistent;
      there = opened.there;
      finished = opened.may.finished;
    }
