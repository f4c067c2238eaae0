use Rattle.std.proofs.Common.{◌≡◌, IsTrue}
use Rattle.trace_replay.specs.Script.{Plays, Drain}
use Rattle.event_player.specs.Calls.{MayGoOn}
use Rattle.event_player.specs.Spots.{Keeps}
use Rattle.event_player.specs.Steps.{Brings}
use Rattle.event_player.proofs.Draining.{Draining}
use Rattle.event_player.proofs.drains.go_on.Given as goal

-- so many events have happened
abbrev pub invariant-loop-turn : goal.invariant-loop-turn
invariant-loop-turn g l = record {
  ready : MayGoOn (g.V.Venue.at l.venue).driver;
  outstanding : (g.V.Venue.at l.venue).driver.outstanding ≡ (g.V.Venue.at l.fn.venue).driver.outstanding;
  keeps : Keeps (g.V.Venue.at l.fn.venue) (g.V.Venue.at l.venue);
  brings : Brings (Plays Drain) (g.V.Venue.at l.fn.venue).driver.world (g.V.Venue.at l.venue).driver.world;
  plays : IsTrue (g.V.Venue.at l.venue).packs.tells → Draining l.number l.turn (g.V.Venue.at l.fn.venue) (g.V.Venue.at l.venue);
}
