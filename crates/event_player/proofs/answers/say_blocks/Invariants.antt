use Rattle.std.proofs.Common.{◌≡◌, [], take}
use Rattle.std.specs.Prelude.{Ok}
use Rattle.outside_traits.specs.declared.traits.SinkFailed.{SinkFailed}
use Rattle.driver_machine.specs.World.{World}
use Rattle.trace_lines.specs.answers.AnswerText.{block_texts}
use Rattle.event_player.specs.Answering.{first_blocks}
use Rattle.event_player.specs.Spots.{SaysText}
use Rattle.event_player.proofs.answers.say_blocks.Given as goal

-- the lines of the blocks below k were said
abbrev pub invariant-loop-k : goal.invariant-loop-k
invariant-loop-k g l =
    let w : World = (g.V.Venue.at l.fn.venue).driver.world in
    record {
      says : SaysText {T = Unit {0}} {E = SinkFailed} [] (block_texts 0 (take l.k (first_blocks w w.answers))) (Ok tt) (g.V.Venue.at l.fn.venue) (g.V.Venue.at l.venue);
      driver : (g.V.Venue.at l.venue).driver ≡ (g.V.Venue.at l.fn.venue).driver;
    }
