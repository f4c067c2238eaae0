-- What playing does line by line: the acts of a call with the answers behind them, and how a run goes on.
use Rattle.std.specs.Prelude.{◌≡◌, ◌≢◌, ◌⊎◌, ℕ, ◌+◌, ◌-◌, ◌^◌, ◌<◌, ◌≤◌, Bool, true, false, IsTrue, List, [], ◌∷◌, ◌++◌, length, Option, Some, None}
use Rattle.std.specs.List.{flat_map}
use Rattle.pack_geometry.specs.Pack.{Pack}
use Rattle.pack_geometry.specs.TableSpelling.{Table}
use Rattle.script_lines.specs.declared.statement.Statement as Told
use Rattle.script_lines.specs.declared.statement.Statement.TheVariants as says
use Rattle.script_reader.specs.Formed.{IsWritten}
use Rattle.script_lines.specs.Known.{Said}
use Rattle.trace_replay.specs.requests.Requests.{Request, IsRequest}
use Rattle.trace_replay.specs.Moments.{Moment, played}
use Rattle.trace_replay.specs.Script.{Script, Input, Submit, Drain, Statement, Declares, Plays, Line, drives_of, inputs_before, with_id}
use Rattle.trace_replay.specs.Replay.{after_moments}
use Rattle.trace_replay.specs.Runs.{start_of}
use Rattle.driver_laws.specs.rules.Measure.{events_left}
use Rattle.trace_replay.specs.Text.{trace_text}
use Rattle.driver_machine.specs.World.{World, Held, unit_at, slot_at}
use Rattle.driver_machine.specs.Acts.{Act, Tried, after_all}
use Rattle.driver_machine.specs.Lines.{lines_of_all}
use Rattle.driver_machine.specs.Events.{refusal_of, submit_acts, event_acts, next_event}
use Rattle.driver_machine.specs.Guards.{IsSetUp, IsHeldFor}
use Rattle.driver_machine.specs.Sound.{Sound, AtWork}
use Rattle.driver_machine.specs.Runs.{Run, MaySubmit, MayCome}
use Rattle.driver_laws.specs.answers.Packs.{packs_after_all}
use Rattle.script_runs.specs.StopsPasses.{IsReadOf, IsDraining, IsKept, AskBelow, TablesBelow, IsWithinReach, AreAsLong}
use Rattle.script_runs.specs.Passes.{AreAsked}
use Rattle.driver_laws.specs.answers.Counts.{IsWithin, in_use}
use Rattle.driver_laws.specs.answers.Ids.{AreOf}
use Rattle.driver_laws.specs.answers.Waiting.{waiting, all_taken}
use Rattle.trace_lines.specs.answers.AnswerText.{answer_text, out_text}
use Rattle.trace_lines.specs.answers.Counting.{Counts, CountsAll}
use Rattle.hp_driver.specs.Subsystem.{State, IsThere, writes_by}
use Rattle.script_runs.specs.Ahead.{IsBetween, WritesAhead, TellsAhead}
use Rattle.script_runs.specs.Steps.{AreUnits}
use Rattle.event_player.specs.Playing.{HasRun, counted, one_request, one_noise, one_fault}
use Rattle.event_player.specs.Spots.{Spot, all_for}

-- THE ANSWERS THAT WAIT: their text
abbrev pub waiting_text : World → List ℕ
waiting_text w = flat_map answer_text (waiting w)

-- WHAT THE SINKS TOOK, of all that was said and told: fronts of it, behind what they took before. No answer goes out before the lines of its
-- moments: either the sink of the answers took no more, or the trace took all.
pub record Passes (out_from trace_from said taken : List ℕ) (old new : Spot) : Type 0 where
  pub again : IsTrue new.out.tells → IsTrue old.out.tells
  pub again_trace : IsTrue new.lines.tells → IsTrue old.lines.tells
  pub out : IsTrue new.out.tells → IsBetween out_from said new.out.took
  pub trace : IsTrue new.lines.tells → IsBetween trace_from taken new.lines.took
  pub lines_first : (IsTrue new.out.tells → new.out.took ≡ out_from) ⊎ (IsTrue new.lines.tells → new.lines.took ≡ taken)

-- Before an event that may write a block all that was said and told before it was sent.
pub record PassesAhead (writes : Bool) (said taken : List ℕ) (old new : Spot) : Type 0 where
  pub sent : writes ≡ true → Passes (all_for old.out) (all_for old.lines) said taken old new
  pub kept : writes ≡ false → Passes old.out.took old.lines.took said taken old new

-- HOW MUCH WAS SENT by the rule, of these moments,
pub record IsCut (script : Script) (tables : ℕ → Option Table) (first : ℕ → Pack) (moments : List Moment) (said taken : List ℕ) (now : Spot) : Type 0 where
  pub sent : List Moment
  pub late : List Moment
  pub cut : sent ++ late ≡ moments
  pub ahead : WritesAhead script tables first now.packs.held sent late
  pub texts : TellsAhead now.out.tells said now.out.took now.lines.tells taken now.lines.took sent late

-- whose texts were all said and told;
pub record IsAhead (script : Script) (tables : ℕ → Option Table) (first : ℕ → Pack) (moments : List Moment) (said taken : List ℕ) (now : Spot) : Type 0 where
  pub at : IsCut script tables first moments said taken now
  pub out : IsTrue now.out.tells → all_for now.out ≡ said ++ out_text moments
  pub trace : IsTrue now.lines.tells → all_for now.lines ≡ taken ++ trace_text moments

-- and moments that come behind keep it.
abbrev pub KeepsAhead : Script → (ℕ → Option Table) → (first : ℕ → Pack) → (moments more : List Moment) → Spot → Spot → Type 0
KeepsAhead script tables first moments more old new = (said taken : List ℕ) → IsAhead script tables first moments said taken old
    → IsAhead script tables first (moments ++ more) said taken new

-- ACTS come with their lines to a world that is sound and at work, and behind them the answers that wait are said, counted and taken.
pub record PlaysActs (acts : List Act) (old new : Spot) : Type 0 where
  pub sound : Sound old.driver.world
  pub work : AtWork old.driver.world
  pub run : Run old.driver.world acts
  pub world : new.driver.world ≡ all_taken (after_all old.driver.world acts)
  pub out : IsTrue new.out.tells → all_for new.out ≡ all_for old.out ++ waiting_text (after_all old.driver.world acts)
  pub trace : IsTrue new.lines.tells → all_for new.lines ≡ all_for old.lines ++ trace_text (lines_of_all old.driver.world acts)
  pub tally : Counts (waiting (after_all old.driver.world acts)) (waiting_text (after_all old.driver.world acts)) old.tally new.tally

-- those of an event that may come, of what the packs hold; what writes nothing leaves them,
pub record PlaysEvent (line : ℕ) (input : Input) (old new : Spot) : Type 0 where
  pub passes : PassesAhead (writes_by old.driver.world input) (all_for new.out) (all_for new.lines) old new
  pub leaves : writes_by old.driver.world input ≡ false → IsTrue new.packs.tells → new.packs.held ≡ old.packs.held
  pub tried : Tried
  pub may : MayCome old.driver.world input tried
  pub reads : IsTrue new.packs.tells → IsReadOf old.driver.world old.packs.held input tried
  pub packs : IsTrue new.packs.tells → new.packs.held ≡ packs_after_all old.driver.world old.packs.held (event_acts line input tried old.driver.world)
  pub plays : PlaysActs (event_acts line input tried old.driver.world) old new

-- and those of a submission
pub record PlaysSubmission (line : ℕ) (r : Request) (old new : Spot) : Type 0 where
  pub slot : ℕ
  pub held : Held
  pub may : MaySubmit old.driver.world r slot held
  pub is : refusal_of r old.driver.world ≡ None → IsHeldFor (unit_at old.driver.world held.unit).drive.kind r held
  pub packs : new.packs.held ≡ packs_after_all old.driver.world old.packs.held (submit_acts r line slot held old.driver.world)
  pub same : new.packs.held ≡ old.packs.held
  pub passes : Passes old.out.took old.lines.took (all_for new.out) (all_for new.lines) old new
  pub plays : PlaysActs (submit_acts r line slot held old.driver.world) old new

-- THE RUN GOES ON behind a run so far with a line of the script: its moments come with their texts, by the rule, and are counted.
pub record GoesOn (script : Script) (tables : ℕ → Option Table) (first : ℕ → Pack) (done : List Line) (moments : List Moment) (line : ℕ) (input : Input) (old new : Spot) : Type 0 where
  pub more : List Moment
  pub run : HasRun script tables first new.packs.held line (done ++ record { number = line; statement = Plays input } ∷ []) new.driver.world (moments ++ more)
  pub rule : KeepsAhead script tables first moments more old new
  pub tally : CountsAll more old.tally new.tally

-- It does so behind any run so far whose lines are earlier;
abbrev pub PlaysInput : ℕ → Input → Spot → Spot → Type 0
PlaysInput line input old new = (script : Script) (tables : ℕ → Option Table) (first : ℕ → Pack) (last : ℕ) (done : List Line) (moments : List Moment)
    → last < line → HasRun script tables first old.packs.held last done old.driver.world moments → GoesOn script tables first done moments line input old new

-- a line that declares a drive does nothing.
abbrev pub PlaysLine : ℕ → Statement → Spot → Spot → Type 0
PlaysLine line (Declares unit kind) old new = new ≡ old
PlaysLine line (Plays input) old new = PlaysInput line input old new

-- Behind a drain no event can come, where there is a run so far.
pub record Drains (script : Script) (tables : ℕ → Option Table) (first : ℕ → Pack) (done : List Line) (moments : List Moment) (line : ℕ) (old new : Spot) : Type 0 where
  pub goes : GoesOn script tables first done moments line Drain old new
  pub over : next_event new.driver.world ≡ None

abbrev pub PlaysDrain : ℕ → Spot → Spot → Type 0
PlaysDrain line old new = (script : Script) (tables : ℕ → Option Table) (first : ℕ → Pack) (last : ℕ) (done : List Line) (moments : List Moment)
    → last < line → HasRun script tables first old.packs.held last done old.driver.world moments → Drains script tables first done moments line old new

-- IN A DRAIN, behind one of its events: the moments follow, what is no sector stayed, so did what lies beyond all writes, and the line of
-- the drain is played.
pub record HasDrained (script : Script) (tables : ℕ → Option Table) (first held : ℕ → Pack) (line : ℕ) (done : List Line) (w : World) (moments : List Moment) : Type 0 where
  pub draining : IsDraining (start_of script tables first) line moments held w
  pub kept : IsKept (drives_of script) first held w
  pub inputs : played moments ≡ inputs_before [] done
  pub asked : AreAsked (start_of script tables first).there moments
  pub reach : (ends : ℕ → ℕ) → AskBelow ends (drives_of script) (played moments) → TablesBelow ends (drives_of script) tables → IsWithinReach ends first held w
  pub long : AreAsLong (start_of script tables first) moments first held

-- Where few enough events are left, the drain goes on to its end.
pub record EndsDraining (script : Script) (tables : ℕ → Option Table) (first : ℕ → Pack) (done : List Line) (moments : List Moment) (line : ℕ) (old new : Spot) : Type 0 where
  pub more : List Moment
  pub run : HasRun script tables first new.packs.held line done new.driver.world (moments ++ more)
  pub over : next_event new.driver.world ≡ None
  pub rule : KeepsAhead script tables first moments more old new
  pub tally : CountsAll more old.tally new.tally

abbrev pub GoesOnDraining : ℕ → Spot → Spot → Type 0
GoesOnDraining line old new = (script : Script) (tables : ℕ → Option Table) (first : ℕ → Pack) (done : List Line) (moments : List Moment)
    → events_left (after_moments (start_of script tables first) moments) < 2 ^ 64 - 1
    → HasDrained script tables first old.packs.held line done old.driver.world moments → EndsDraining script tables first done moments line old new

-- THE WHOLE of a script, from a start on: all text was sent.
pub record EndsWith (script : Script) (tables : ℕ → Option Table) (old new : Spot) : Type 0 where
  pub moments : List Moment
  pub run : HasRun script tables old.packs.held new.packs.held (script.count + 1) (script.lines ++ record { number = script.count + 1; statement = Plays Drain } ∷ []) new.driver.world moments
  pub over : next_event new.driver.world ≡ None
  pub out : IsTrue new.out.tells → new.out.took ≡ all_for old.out ++ out_text moments
  pub trace : IsTrue new.lines.tells → new.lines.took ≡ all_for old.lines ++ trace_text moments
  pub tally : CountsAll moments old.tally new.tally

abbrev pub PlaysScript : Script → (ℕ → Option Table) → Spot → Spot → Type 0
PlaysScript script tables old new = HasRun script tables old.packs.held old.packs.held 0 [] old.driver.world [] → EndsWith script tables old new

-- THERE IS ROOM behind lines that brought so many requests with these ids, so many noises, and so many lines that arm faults.
pub record Ready (script : Script) (requests noises faults : ℕ) (used : List ℕ) (w : World) : Type 0 where
  pub units : AreUnits script w
  pub within : IsWithin requests noises faults w
  pub ids : AreOf used w
  pub room : w.book.capacity ≡ counted one_noise script.lines
  pub slots : length w.slots ≤ 65536
  pub none_waits : w.answers ≡ []

-- a statement brings what it says
abbrev pub Brings : Statement → World → World → Type 0
Brings statement old new = (script : Script) (requests noises faults : ℕ) (ids : List ℕ) → Ready script requests noises faults ids old
    → Ready script (requests + one_request statement) (noises + one_noise statement) (faults + one_fault statement) (with_id statement ids) new

-- WHAT MAY BE PLAYED: a request to a unit that is set up, whose id no request in a slot has, and there is room for one more;
pub record MayAsk (s : State) (r : Request) : Type 0 where
  pub unit : IsSetUp s.world r.unit
  pub request : IsRequest r
  pub fresh : (q : ℕ) (g : Held) → slot_at s.world q ≡ Some g → g.id ≢ r.id
  pub room : in_use s.world.slots < s.outstanding

-- and an event of what is there.
abbrev pub MayPlay : State → Statement → Type 0
MayPlay s (Declares unit kind) = Unit {0}
MayPlay s (Plays (Submit r)) = MayAsk s r
MayPlay s (Plays Drain) = length s.world.slots ≤ 65536
MayPlay s (Plays input) = IsThere s.world input

-- a line that is no event of its own: a request, noise, a drain, or one that declares a drive
abbrev pub IsNoEvent : {D N : Type 0} → Told.Statement D N → Type 0
IsNoEvent (says.Unit unit kind) = Unit {0}
IsNoEvent (says.Read request) = Unit {0}
IsNoEvent (says.Write request content) = Unit {0}
IsNoEvent (says.Noise unit block span places) = Unit {0}
IsNoEvent says.Drain = Unit {0}
IsNoEvent statement = ⊥

-- what a write writes is there
abbrev pub HasData : Said → Type 0
HasData (says.Write request content) = IsWritten request.count content
HasData statement = Unit {0}
