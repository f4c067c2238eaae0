-- What moments ask for, one list behind the other.
use Rattle.std.proofs.Common.{ℕ, List, [], ◌∷◌, ◌++◌}
use Rattle.trace_replay.specs.Moments as moment
use Rattle.trace_replay.specs.Moments.{Moment, Played, Told, Idle}
use Rattle.trace_replay.specs.Causes.{AskSome, AsksSome}
use Rattle.trace_replay.specs.Script as script
use Rattle.driver_laws.specs.rules.Drains.{AreOf, IsOf}
use Rattle.driver_machine.specs.World.{World, held_in, slot_in_hand, unit_at}
use Rattle.driver_machine.specs.Acts.{Act, Of, after}
use Rattle.driver_machine.specs.Lines.{deed_told, lines_with, lines_of, lines_of_all}
use Rattle.driver_laws.specs.shown.Drains.{AreAsked}
use Rattle.trace_replay.specs.Script.{Input}
use Rattle.driver_laws.specs.shown.Runs.{with_call}

some_append : (ms ns : List Moment) → AskSome ms → AskSome ns → AskSome (ms ++ ns)
some_append [] ns first later = later
some_append (Played line input ∷ ms) ns first later = (first.0, some_append ms ns first.1 later)
some_append (Told line unit id deed ∷ ms) ns first later = some_append ms ns first later
some_append (Idle line ∷ ms) ns first later = some_append ms ns first later

of_append : (there : List ℕ) (ms ns : List Moment) → AreOf there ms → AreOf there ns → AreOf there (ms ++ ns)
of_append there [] ns first later = later
of_append there (Played line input ∷ ms) ns first later = (first.0, of_append there ms ns first.1 later)
of_append there (Told line unit id deed ∷ ms) ns first later = of_append there ms ns first later
of_append there (Idle line ∷ ms) ns first later = of_append there ms ns first later

pub asked_append : (there : List ℕ) (ms ns : List Moment) → AreAsked there ms → AreAsked there ns → AreAsked there (ms ++ ns)
asked_append there ms ns first later = record {
  some = some_append ms ns first.some later.some;
  units = of_append there ms ns first.units later.units;
}

told_asked : (there : List ℕ) (line unit id : ℕ) (deed : moment.Deed) (ms : List Moment) → AreAsked there ms → AreAsked there (Told line unit id deed ∷ ms)
told_asked there line unit id deed ms later = record { some = later.some; units = later.units }

with_asked : (there : List ℕ) (line unit id : ℕ) (tolds : List moment.Deed) → AreAsked there (lines_with line unit id tolds)
with_asked there line unit id [] = record { some = tt; units = tt }
with_asked there line unit id (told ∷ rest) = told_asked there line unit id told (lines_with line unit id rest) (with_asked there line unit id rest)

act_asked : (there : List ℕ) (w : World) (act : Act) → AreAsked there (lines_of w act)
act_asked there w (Of line u id deed) = with_asked there line u id (deed_told (held_in w (slot_in_hand (unit_at w u))) deed)
act_asked there w other = record { some = tt; units = tt }

lines_asked : (there : List ℕ) (w : World) (acts : List Act) → AreAsked there (lines_of_all w acts)
lines_asked there w [] = record { some = tt; units = tt }
lines_asked there w (act ∷ acts) = asked_append there (lines_of w act) (lines_of_all (after w act) acts) (act_asked there w act) (lines_asked there (after w act) acts)

-- THE LINES that acts tell ask for nothing, and a call for what its input asks.
pub lines_ask_nothing : (there : List ℕ) (moments : List Moment) (w : World) (acts : List Act)
    → AreAsked there moments → AreAsked there (moments ++ lines_of_all w acts)
lines_ask_nothing there moments w acts asked = asked_append there moments (lines_of_all w acts) asked (lines_asked there w acts)

pub calls_ask : (there : List ℕ) (moments : List Moment) (line : ℕ) (input : Input) (w : World) (acts : List Act)
    → AreAsked there moments → AsksSome input → IsOf there input → AreAsked there (with_call moments line input w acts)
calls_ask there moments line input w acts asked some of =
    let lines : AreAsked there (lines_of_all w acts) = lines_asked there w acts in
    asked_append there moments (Played line input ∷ lines_of_all w acts) asked (record { some = (some, lines.some); units = (of, lines.units) })

pub drain_asked : (there : List ℕ) (moments : List Moment) (line : ℕ) → AreAsked there moments → AreAsked there (moments ++ Played line script.Drain ∷ [])
drain_asked there moments line asked = asked_append there moments (Played line script.Drain ∷ []) asked (record { some = (tt, tt); units = (tt, tt) })
