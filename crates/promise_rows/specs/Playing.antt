-- Wrong outcomes of `play`.
use Rattle.std.specs.Prelude.{◌≡◌, ◌≢◌, ℕ, ◌<◌, ◌-◌, ◌^◌, Bool, true, IsTrue, List, [], ◌∷◌, ◌++◌, codes, Option, None, Some, Contains}
use Rattle.outside_traits.specs.Causes.{Rose}
use Rattle.pack_geometry.specs.declared.DriveKind.{DriveKind}
use Rattle.pack_geometry.specs.Geometry.{limit_of}
use Rattle.pack_geometry.specs.Pack.{Pack}
use Rattle.pack_geometry.specs.Homes.{contents_of}
use Rattle.pack_geometry.specs.TableSpelling.{Table}
use Rattle.hardware_table.specs.Noise.{LiveNoise}
use Rattle.trace_replay.specs.requests.Requests.{ReadOk}
use Rattle.script_reader.specs.Meaning.{meaning}
use Rattle.trace_replay.specs.Moments.{Moment, Played}
use Rattle.trace_replay.specs.Script.{Script, Noise, drives_of, ids_of}
use Rattle.trace_lines.specs.answers.AnswerText.{answer_text}
use Rattle.trace_lines.specs.declared.answers.tally.Tally.{Tally}
use Rattle.event_player.specs.Plays.{Tallied}
use Rattle.script_runs.specs.Stops.{StopsAtSink}
use Rattle.hpsim_run.specs.Headline.{Headline}

-- ALWAYS A FAULT: a fault is answered, and no count rose.
abbrev pub AlwaysAFault : Type 0
AlwaysAFault = (count : ℕ) → count < 2 ^ 64 - 1 → ¬ (Rose count count)

-- ANSWERS KEPT BACK: the script asks for an id, and where all tell, it is done and `out` took nothing.
abbrev pub AnswersKeptBack : Type 0
AnswersKeptBack = (left left_after : List ℕ) (old new : ℕ → Pack) (said : List ℕ) (trace_tells : Bool) (taken taken' : List ℕ) (id : ℕ)
    → (h : Headline true left left_after true old new true said said trace_tells taken taken') → ¬ (Contains (ids_of (meaning h.lines h.count).lines) id)

-- A BLOCK BEFORE ITS EVENT: the script asks for nothing, and a data block of a unit holds something else at last,
abbrev pub BlockBeforeItsEvent : Type 0
BlockBeforeItsEvent = (left left_after : List ℕ) (old new : ℕ → Pack) (out_tells : Bool) (said said' : List ℕ) (trace_tells : Bool) (taken taken' : List ℕ)
    → (h : Headline true left left_after true old new out_tells said said' trace_tells taken taken') → (told : IsTrue true) → ids_of (meaning h.lines h.count).lines ≡ []
    → (unit block : ℕ) (kind : DriveKind) → drives_of (meaning h.lines h.count) unit ≡ Some kind → block < limit_of kind
    → ¬ (contents_of (drives_of (meaning h.lines h.count)) (h.plays told).tables new unit block ≢ contents_of (drives_of (meaning h.lines h.count)) (h.plays told).tables old unit block)

-- or the pack of a unit that it does not declare is another one.
abbrev pub BlockOfNoUnit : Type 0
BlockOfNoUnit = (left left_after : List ℕ) (old new : ℕ → Pack) (out_tells : Bool) (said said' : List ℕ) (trace_tells : Bool) (taken taken' : List ℕ)
    → (h : Headline true left left_after true old new out_tells said said' trace_tells taken taken')
    → (unit : ℕ) → drives_of (meaning h.lines h.count) unit ≡ None → ¬ (new unit ≢ old unit)

-- A BLOCK BEHIND A STOP: a sink failed, and then the pack of a unit that the script does not declare is another one.
abbrev pub BlockBehindAStop : Type 0
BlockBehindAStop = (script : Script) (tables : ℕ → Option Table) (first left : ℕ → Pack) (out_tells : Bool) (said said' : List ℕ) (trace_tells : Bool) (taken taken' : List ℕ)
    → StopsAtSink script tables first left out_tells said said' trace_tells taken taken'
    → (unit : ℕ) → drives_of script unit ≡ None → ¬ (left unit ≢ first unit)

-- A TALLY WITHOUT NOISE LINES: a line of noise was played, and the tally counts no text.
abbrev pub NoiseLineUncounted : Type 0
NoiseLineUncounted = (script : Script) (old new : ℕ → Pack) (out_tells : Bool) (said said' : List ℕ) (trace_tells : Bool) (taken taken' : List ℕ) (tally : Tally)
    → (t : Tallied script old new out_tells said said' trace_tells taken taken' tally) → (line : ℕ) (noise : LiveNoise) (before after : List Moment)
    → t.plays.moments ≡ before ++ Played line (Noise noise) ∷ after → tally.text ≢ 0

-- A SHORT LAST BLOCK TOLD WHOLE: a read that gives two bytes is told with these two, and with no zeros behind them.
abbrev pub ShortLastBlockWhole : Type 0
ShortLastBlockWhole = answer_text (record { line = 3; id = 1; answer = ReadOk (17 ∷ 18 ∷ []) }) ≡ codes "ans 1 at 3 ok\nblk 0 hex 1112\n"
