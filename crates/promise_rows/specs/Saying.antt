-- Wrong outcomes of texts that are kept and sent.
use Rattle.std.specs.Prelude.{◌≡◌, ◌≢◌, ℕ, IsTrue, List, [], ◌++◌, Result, Ok}
use Rattle.outside_traits.specs.Causes.{Rose}
use Rattle.outside_traits.specs.declared.traits.SinkFailed.{SinkFailed}
use Rattle.event_player.specs.Saying.{Side, Says}
use Rattle.script_runs.specs.Stops.{Took, TakesRest}

-- ANSWERS ARE SENT BEFORE THEIR LINES: the sink of the answers took some, and that of the lines did not take all that was kept.
abbrev pub AnswersBeforeLines : Type 0
AnswersBeforeLines = (out out' lines lines' : Side) (result : Result (Unit {0}) SinkFailed) (text : List ℕ) → Says out out' lines lines' result text
    → IsTrue out'.tells → IsTrue lines'.tells → out'.took ≢ out.took → ¬ (lines'.took ≢ lines.took ++ lines.kept)

-- A TEXT IS NOT SAID: all went well, and nothing was sent or kept beside what was.
abbrev pub TextNotSaid : Type 0
TextNotSaid = (out out' lines lines' : Side) (text : List ℕ) → Says {T = Unit {0}} {E = SinkFailed} out out' lines lines' (Ok tt) text
    → IsTrue out'.tells → text ≢ [] → ¬ (out'.took ++ out'.kept ≡ out.took ++ out.kept)

-- LINES ARE DROPPED as a text is said.
abbrev pub LinesDropped : Type 0
LinesDropped = (out out' lines lines' : Side) (text : List ℕ) → Says {T = Unit {0}} {E = SinkFailed} out out' lines lines' (Ok tt) text
    → IsTrue lines'.tells → ¬ (lines'.took ++ lines'.kept ≢ lines.took ++ lines.kept)

-- THE REST IS NOT SENT behind a failure of the packs, though the sink did not fail.
abbrev pub RestNotSent : Type 0
RestNotSent = (sink : Took) (kept : List ℕ) → TakesRest sink [] kept → ¬ (Rose sink.faults sink.faults_after) → IsTrue sink.tells → kept ≢ [] → ¬ (sink.after ≡ sink.before)
