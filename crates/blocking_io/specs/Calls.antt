-- ONE CALL OF THE DRIVER, and behind it the answers that wait are given and taken.
use Rattle.std.specs.Prelude.{◌≡◌, ◌⊎◌, ◌≤◌, ℕ, Bool, true, false, if◌then◌else◌, IsTrue, List, [], ◌++◌, None, Result, IfErr, OnOk, OnErr}
use Rattle.pack_geometry.specs.Pack.{Pack}
use Rattle.outside_traits.specs.Causes.{Rose}
use Rattle.outside_traits.specs.Puts.{TakesFront}
use Rattle.trace_replay.specs.requests.Requests as told
use Rattle.trace_replay.specs.Script.{Input}
use Rattle.trace_replay.specs.Text.{trace_text}
use Rattle.driver_machine.specs.World.{World, Held, unit_at}
use Rattle.driver_machine.specs.Acts.{Act, Tried, after_all}
use Rattle.driver_machine.specs.Lines.{lines_of_all}
use Rattle.driver_machine.specs.Events.{refusal_of, submit_acts, event_acts}
use Rattle.driver_machine.specs.Guards.{IsHeldFor}
use Rattle.driver_machine.specs.Runs.{Run, MaySubmit, MayCome}
use Rattle.driver_laws.specs.answers.Packs.{ReadAll, packs_after_all}
use Rattle.driver_laws.specs.answers.Outcome.{IsFront, IsNextBlock}
use Rattle.driver_laws.specs.declared.answers.outcome.Stop.{Stop}
use Rattle.driver_laws.specs.declared.answers.outcome.Stop.TheVariants.{Store, Sink}
use Rattle.driver_laws.specs.answers.Waiting.{waiting, all_taken}
use Rattle.driver_laws.specs.shown.Calls.{IsReadOf}
use Rattle.driver_laws.specs.shown.Noises.{AllFlip}
use Rattle.hp_driver.specs.Subsystem.{State, IsThere, is_move}
use Rattle.blocking_io.specs.declared.reached.Reached.{Reached}
use Rattle.blocking_io.specs.Given.{Given, gives_all}

-- WHAT IS WORKED ON: the driver's world, what the packs hold, the text that the trace took, whether these two tell, and what is given
pub record Stage : Type 0 where
  pub world : World
  pub packs_tell : Bool
  pub held : ℕ → Pack
  pub trace_tells : Bool
  pub taken : List ℕ
  pub given : Given

abbrev pub stage : {O Q : Type 0} → (holds : Q → Bool) → (held : Q → ℕ → Pack) → (tells : O → Bool) → (taken : O → List ℕ) → World → Q → O → Reached → List ℕ → Stage
stage holds held tells taken w packs trace reached bytes = record {
  world = w;
  packs_tell = holds packs;
  held = held packs;
  trace_tells = tells trace;
  taken = taken trace;
  given = record { reached = reached; bytes = bytes };
}

-- the same where lines are kept: taken is what the trace took, and behind it what is kept
abbrev pub telling : {O Q : Type 0} → (holds : Q → Bool) → (held : Q → ℕ → Pack) → (tells : O → Bool) → (taken : O → List ℕ) → State → Q → O → Reached → List ℕ → Stage
telling holds held tells taken s packs trace reached bytes = record {
  world = s.world;
  packs_tell = holds packs;
  held = held packs;
  trace_tells = tells trace;
  taken = taken trace ++ s.kept;
  given = record { reached = reached; bytes = bytes };
}

-- ACTS come with their lines, and behind them the answers that wait are given and taken.
pub record GivesActs (acts : List Act) (old new : Stage) : Type 0 where
  pub run : Run old.world acts
  pub world : new.world ≡ all_taken (after_all old.world acts)
  pub trace : IsTrue new.trace_tells → new.taken ≡ old.taken ++ trace_text (lines_of_all old.world acts)
  pub given : new.given ≡ gives_all (waiting (after_all old.world acts)) old.given

-- those of a submission,
pub record GivesSubmission (line : ℕ) (r : told.Request) (old new : Stage) : Type 0 where
  pub slot : ℕ
  pub held : Held
  pub may : MaySubmit old.world r slot held
  pub is : refusal_of r old.world ≡ None → IsHeldFor (unit_at old.world held.unit).drive.kind r held
  pub packs : new.held ≡ packs_after_all old.world old.held (submit_acts r line slot held old.world)
  pub acts : GivesActs (submit_acts r line slot held old.world) old new

-- and those of an event.
pub record GivesEvent (line : ℕ) (input : Input) (old new : Stage) : Type 0 where
  pub tried : Tried
  pub may : MayCome old.world input tried
  pub reads : IsTrue new.packs_tell → IsReadOf old.world old.held input tried
  pub packs : IsTrue new.packs_tell → new.held ≡ packs_after_all old.world old.held (event_acts line input tried old.world)
  pub acts : GivesActs (event_acts line input tried old.world) old new

-- THE TRACE FAILED: the first acts were done, and a front of all lines was taken, which begins with what had been sent;
pub record TellsFront (sent : List ℕ) (acts : List Act) (old new : Stage) : Type 0 where
  pub done : List Act
  pub left : List Act
  pub all : acts ≡ done ++ left
  pub run : Run old.world done
  pub reads : IsTrue new.packs_tell → ReadAll old.world old.held done
  pub packs : IsTrue new.packs_tell → new.held ≡ packs_after_all old.world old.held done
  pub least : IsTrue new.trace_tells → IsFront sent new.taken
  pub most : IsTrue new.trace_tells → IsFront new.taken (old.taken ++ trace_text (lines_of_all old.world done))

-- of a submission, which only the trace stops,
pub record SubmissionStops (stop : Stop) (line : ℕ) (r : told.Request) (old new : Stage) : Type 0 where
  pub slot : ℕ
  pub held : Held
  pub may : MaySubmit old.world r slot held
  pub is : refusal_of r old.world ≡ None → IsHeldFor (unit_at old.world held.unit).drive.kind r held
  pub by : stop ≡ Sink
  pub same : new.held ≡ old.held
  pub tells : TellsFront old.taken (submit_acts r line slot held old.world) old new

-- and of an event, of which only a move does.
pub record EventTellsFront (sent : List ℕ) (line : ℕ) (input : Input) (old new : Stage) : Type 0 where
  pub tried : Tried
  pub there : IsThere old.world input
  pub noise : AllFlip old.world.book.live
  pub still : is_move input ≡ false → new.held ≡ old.held
  pub tells : TellsFront sent (event_acts line input tried old.world) old new

-- A TEXT is said: the trace took it, or a front of it where it failed.
pub record SaysText {O : Type 0} (tells : O → Bool) (taken : O → List ℕ) (old new : O) (result : Result (Unit {0}) Stop) (text : List ℕ) : Type 0 where
  pub never_again : IsTrue (tells new) → IsTrue (tells old)
  pub bytes : OnOk result (IsTrue (tells new) → taken new ≡ taken old ++ text)
  pub front : OnErr result (IsTrue (tells new) → TakesFront (taken old) (taken new) text)
  pub by : IfErr result (λ stop. stop ≡ Sink)

-- THE PACKS FAILED, at a move: nothing was done or told, but the block that was to be written may be there; and all lines are sent.
pub record MoveFails (input : Input) (old new : Stage) : Type 0 where
  pub move : is_move input ≡ true
  pub packs : IsTrue new.packs_tell → (new.held ≡ old.held) ⊎ IsNextBlock old.world old.held new.held
  pub trace : IsTrue new.trace_tells → new.taken ≡ old.taken

abbrev pub EventStops : Stop → (sent : List ℕ) → ℕ → Input → Stage → Stage → Type 0
EventStops Sink sent line input old new = EventTellsFront sent line input old new
EventStops Store sent line input old new = MoveFails input old new

-- BEHIND A FAILURE OF THE PACKS what is kept is sent, unless the event was to write, before which all had been. Where the trace fails in that,
-- it is what failed.
pub record SendsRest {O : Type 0} (tells : O → Bool) (taken : O → List ℕ) (faults : O → ℕ) (old new : O) (writes : Bool) (kept : List ℕ) (stop : Stop) : Type 0 where
  pub never_again : IsTrue (tells new) → IsTrue (tells old)
  pub all : stop ≡ Store → IsTrue (tells new) → taken new ≡ taken old ++ (if writes then [] else kept)
  pub still : stop ≡ Sink → writes ≡ false
  pub front : stop ≡ Sink → IsTrue (tells new) → TakesFront (taken old) (taken new) kept
  pub later : faults old ≤ faults new
  pub rose : stop ≡ Sink → Rose (faults old) (faults new)
