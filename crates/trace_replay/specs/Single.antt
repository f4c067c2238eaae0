-- For one script over the same packs there is at most one legal trace.
use Rattle.std.specs.Prelude.{◌≡◌, List}
use Rattle.trace_replay.specs.Moments.{Moment, Played, played}
use Rattle.trace_replay.specs.Replay.{Replay, MayCome, Legal}

-- two moments are the same line of the script where both are one
abbrev pub AgreeOnInput : Moment → Moment → Type 0
AgreeOnInput (Played line input) (Played other input') = Played line input ≡ Played other input'
AgreeOnInput m n = Unit {0}

-- ONE STEP. From one state two moments that may come are the same, lines of the script apart.
abbrev pub OneStep : Type 0
OneStep = (s : Replay) (m n : Moment) → MayCome s m → MayCome s n → AgreeOnInput m n → m ≡ n

-- THE WHOLE. Two legal traces of one script over the same packs, tables and drives are the same, answers and bytes and all.
abbrev pub OneTrace : Type 0
OneTrace = (s : Replay) (ms ns : List Moment) → Legal s ms → Legal s ns → played ms ≡ played ns → ms ≡ ns
