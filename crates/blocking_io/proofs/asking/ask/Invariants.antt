use Rattle.std.proofs.Common.{◌≡◌, ◌≤◌, [], false, IsTrue}
use Rattle.blocking_io.specs.declared.reached.Reached.TheVariants.{Before}
use Rattle.hp_driver.specs.Subsystem.{asked}
use Rattle.driver_laws.specs.answers.Outcome.{IsFront}
use Rattle.blocking_io.specs.Calls.{stage, telling}
use Rattle.blocking_io.proofs.Waiting.{SoDrained, Turns}
use Rattle.blocking_io.proofs.asking.ask.Given as goal

-- the drain came so far, and so many events are left at the most
abbrev pub invariant-loop-turn : goal.invariant-loop-turn
invariant-loop-turn g l = record {
  never_again : IsTrue (g.P.Packs.tells l.packs) → IsTrue (g.P.Packs.tells l.fn.packs);
  never_again_trace : IsTrue (g.T.Sink.tells l.trace) → IsTrue (g.T.Sink.tells l.fn.trace);
  later : g.P.Packs.faults l.fn.packs ≤ g.P.Packs.faults l.packs;
  later_trace : g.T.Sink.faults l.fn.trace ≤ g.T.Sink.faults l.trace;
  going : l.subsystem.failed ≡ false;
  sent : IsTrue (g.T.Sink.tells l.trace) → IsFront (g.T.Sink.taken l.fn.trace) (g.T.Sink.taken l.trace);
  outstanding : l.subsystem.outstanding ≡ l.fn.subsystem.outstanding;
  none_waits : l.subsystem.world.answers ≡ [];
  turns : Turns l.line l.turn l.subsystem.world;
  drained : SoDrained l.line (asked l.fn.request l.from)
      (stage g.P.Packs.tells g.P.Packs.held g.T.Sink.tells g.T.Sink.taken l.fn.subsystem.world l.fn.packs l.fn.trace (Before 0) l.fn.into)
      (telling g.P.Packs.tells g.P.Packs.held g.T.Sink.tells g.T.Sink.taken l.subsystem l.packs l.trace l.reached l.into);
}
