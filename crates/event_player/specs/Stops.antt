-- What a call leaves where a sink or the packs failed, and a script with it.
use Rattle.std.specs.Prelude.{◌≡◌, ◌⊎◌, ℕ, ◌<◌, Bool, true, false, IsTrue, List, [], ◌∷◌, ◌++◌, Option, None}
use Rattle.pack_geometry.specs.Pack.{Pack}
use Rattle.pack_geometry.specs.PackTable.{AreTablesOf}
use Rattle.pack_geometry.specs.TableSpelling.{Table}
use Rattle.trace_replay.specs.requests.Requests.{Request}
use Rattle.trace_replay.specs.Moments.{Moment}
use Rattle.trace_replay.specs.Script.{Script, Input, Line, Numbered, Statement, Declares, Plays, drives_of, inputs_of, inputs_before}
use Rattle.trace_replay.specs.Replay.{after_moments}
use Rattle.trace_replay.specs.Runs.{start_of}
use Rattle.trace_replay.specs.Text.{trace_text}
use Rattle.driver_machine.specs.World.{Held, unit_at}
use Rattle.driver_machine.specs.Acts.{Act, Tried}
use Rattle.driver_machine.specs.Lines.{lines_of_all}
use Rattle.driver_machine.specs.Events.{refusal_of, submit_acts, event_acts}
use Rattle.driver_machine.specs.Guards.{IsHeldFor}
use Rattle.driver_machine.specs.Runs.{Run, MaySubmit}
use Rattle.driver_laws.specs.answers.Outcome.{IsFront, IsNextBlock}
use Rattle.driver_laws.specs.answers.Packs.{ReadAll, packs_after_all}
use Rattle.outside_traits.specs.declared.traits.PackCall.{PackCall}
use Rattle.script_runs.specs.StopsPasses.{AllFlip, IsTorn}
use Rattle.trace_lines.specs.answers.AnswerText.{out_text}
use Rattle.hp_driver.specs.Subsystem.{is_move, writes_by}
use Rattle.script_runs.specs.Stops.{Came, StaysBeyond, Took, StopsAtSink, StopsAtStore, IsUnplayed}
use Rattle.script_runs.specs.declared.fault.PlayFault.{PlayFault}
use Rattle.script_runs.specs.declared.fault.PlayFault.TheVariants as faults
use Rattle.event_player.specs.Playing.{HasRun}
use Rattle.event_player.specs.Spots.{Spot, all_for, holding}
use Rattle.event_player.specs.Steps.{Passes, PassesAhead, IsAhead, HasDrained}

-- A CALL THAT STOPPED AT A SINK: its first acts were done and told, or all of them, and a front of what these say was to be said.
pub record StopsActs (writes : Bool) (acts : List Act) (old new : Spot) : Type 0 where
  pub done : List Act
  pub left : List Act
  pub all : acts ≡ done ++ left
  pub run : Run old.driver.world done
  pub reads : IsTrue new.packs.tells → ReadAll old.driver.world old.packs.held done
  pub packs : IsTrue new.packs.tells → new.packs.held ≡ packs_after_all old.driver.world old.packs.held done
  pub text : List ℕ
  pub says : IsFront text (out_text (lines_of_all old.driver.world done))
  pub passes : PassesAhead writes (all_for old.out ++ text) (all_for old.lines ++ trace_text (lines_of_all old.driver.world done)) old new

-- an event, before which all text was sent if it may write;
pub record StopsEvent (line : ℕ) (input : Input) (old new : Spot) : Type 0 where
  pub tried : Tried
  pub noise : AllFlip old.driver.world.book.live
  pub leaves : writes_by old.driver.world input ≡ false → IsTrue new.packs.tells → new.packs.held ≡ old.packs.held
  pub stops : StopsActs (writes_by old.driver.world input) (event_acts line input tried old.driver.world) old new

-- or one that may write, before which text could not be sent;
pub record StopsBefore (input : Input) (old new : Spot) : Type 0 where
  pub writes : writes_by old.driver.world input ≡ true
  pub held : new.packs.held ≡ old.packs.held
  pub passes : Passes old.out.took old.lines.took (all_for old.out) (all_for old.lines) old new

-- and a submission.
pub record StopsSubmission (line : ℕ) (r : Request) (old new : Spot) : Type 0 where
  pub slot : ℕ
  pub held : Held
  pub may : MaySubmit old.driver.world r slot held
  pub is : refusal_of r old.driver.world ≡ None → IsHeldFor (unit_at old.driver.world held.unit).drive.kind r held
  pub same : new.packs.held ≡ old.packs.held
  pub stops : StopsActs false (submit_acts r line slot held old.driver.world) old new

-- THE PACKS FAILED at a move: nothing was done or told; one that may write perhaps wrote its block, and before it all text was sent.
pub record MoveFails (input : Input) (old new : Spot) : Type 0 where
  pub move : is_move input ≡ true
  pub packs : IsTrue new.packs.tells → (new.packs.held ≡ old.packs.held) ⊎ ((writes_by old.driver.world input ≡ true) × IsNextBlock old.driver.world old.packs.held new.packs.held)
  pub out : IsTrue new.out.tells → all_for new.out ≡ all_for old.out
  pub trace : IsTrue new.lines.tells → all_for new.lines ≡ all_for old.lines
  pub passes : PassesAhead (writes_by old.driver.world input) (all_for old.out) (all_for old.lines) old new

abbrev pub EventStops : ℕ → Input → PlayFault → Spot → Spot → Type 0
EventStops line input faults.Store old new = MoveFails input old new
EventStops line input faults.Sink old new = (is_move input ≡ false → new.packs.held ≡ old.packs.held) × (StopsBefore input old new ⊎ StopsEvent line input old new)
EventStops line input fault old new = ⊥

abbrev pub SubmissionStops : ℕ → Request → PlayFault → Spot → Spot → Type 0
SubmissionStops line r faults.Sink old new = StopsSubmission line r old new
SubmissionStops line r fault old new = ⊥

-- A RUN THAT STOPPED AT THE PACKS, before the rest of its text is sent
pub record StopsAtMove (script : Script) (tables : ℕ → Option Table) (first : ℕ → Pack) (said taken : List ℕ) (now : Spot) : Type 0 where
  pub done : List Moment
  pub came : Came script tables first done
  pub held : ℕ → Pack
  pub rule : IsAhead script tables first done said taken (holding now held)
  pub packs : (now.packs.held ≡ held) ⊎ ((rule.at.late ≡ []) × IsTorn (drives_of script) first held now.packs.held (after_moments (start_of script tables first) done))
  pub beyond : StaysBeyond script tables first now.packs.held

abbrev pub StopsAt : PlayFault → Script → (ℕ → Option Table) → (first : ℕ → Pack) → (said taken : List ℕ) → Spot → Type 0
StopsAt faults.Store script tables first said taken now = StopsAtMove script tables first said taken now
StopsAt faults.Sink script tables first said taken now = StopsAtSink script tables first now.packs.held now.out.tells said now.out.took now.lines.tells taken now.lines.took
StopsAt fault script tables first said taken now = ⊥

-- BEHIND ANY RUN SO FAR that kept the rule, of a script whose next line this is, the whole stops so;
pub record HasTold (script : Script) (tables : ℕ → Option Table) (first : ℕ → Pack) (line : ℕ) (done : List Line) (said taken : List ℕ) (now : Spot) : Type 0 where
  pub moments : List Moment
  pub run : HasRun script tables first now.packs.held line done now.driver.world moments
  pub rule : IsAhead script tables first moments said taken now

pub record IsNext (script : Script) (done : List Line) (line : ℕ) (input : Input) : Type 0 where
  pub later : List Numbered
  pub inputs : inputs_of script ≡ inputs_before [] done ++ record { line = line; input = input } ∷ later

abbrev pub StopsInput : ℕ → Input → PlayFault → Spot → Spot → Type 0
StopsInput line input fault old new = (script : Script) (tables : ℕ → Option Table) (first : ℕ → Pack) (last : ℕ) (done : List Line) (said taken : List ℕ)
    → last < line → IsNext script done line input → HasTold script tables first last done said taken old → StopsAt fault script tables first said taken new

-- a line that declares a drive does not;
abbrev pub StopsLine : ℕ → Statement → PlayFault → Spot → Spot → Type 0
StopsLine line (Declares unit kind) fault old new = ⊥
StopsLine line (Plays input) fault old new = StopsInput line input fault old new

-- and so in a drain, behind one of its events.
pub record HasDrainedTold (script : Script) (tables : ℕ → Option Table) (first : ℕ → Pack) (line : ℕ) (done : List Line) (later : List Numbered) (said taken : List ℕ) (now : Spot) : Type 0 where
  pub moments : List Moment
  pub drained : HasDrained script tables first now.packs.held line done now.driver.world moments
  pub inputs : inputs_of script ≡ inputs_before [] done ++ later
  pub rule : IsAhead script tables first moments said taken now

abbrev pub StopsDraining : ℕ → PlayFault → Spot → Spot → Type 0
StopsDraining line fault old new = (script : Script) (tables : ℕ → Option Table) (first : ℕ → Pack) (done : List Line) (later : List Numbered) (said taken : List ℕ)
    → HasDrainedTold script tables first line done later said taken old → StopsAt fault script tables first said taken new

-- THE WHOLE of a script, from a start on
abbrev pub StopsScript : Script → (ℕ → Option Table) → PlayFault → Spot → Spot → Type 0
StopsScript script tables fault old new = HasRun script tables old.packs.held old.packs.held 0 [] old.driver.world [] → StopsAt fault script tables old.packs.held (all_for old.out) (all_for old.lines) new

-- WHAT PLAYING LEAVES where it stopped: nothing was played, as the packs failed when a unit was attached; or it was played so far, with
-- the tables of these packs, and where the packs failed the rest of the text was sent.
abbrev pub Stopped : PlayFault → Script → (ℕ → Option Table) → (first left : ℕ → Pack) → (out trace : Took) → Type 0
Stopped faults.Store script tables first left out trace = StopsAtStore script tables first left out trace
Stopped faults.Sink script tables first left out trace = StopsAtSink script tables first left out.tells out.before out.after trace.tells trace.before trace.after
Stopped fault script tables first left out trace = ⊥

pub record StopsPlaying (fault : PlayFault) (script : Script) (first left : ℕ → Pack) (out trace : Took) : Type 0 where
  pub tables : ℕ → Option Table
  pub read : AreTablesOf (drives_of script) first tables
  pub stopped : Stopped fault script tables first left out trace

abbrev pub Leaves : PlayFault → Script → (first left : ℕ → Pack) → PackCall → (out trace : Took) → Type 0
Leaves faults.Store script first left call out trace = IsUnplayed script first left call out trace ⊎ StopsPlaying faults.Store script first left out trace
Leaves faults.Sink script first left call out trace = StopsPlaying faults.Sink script first left out trace
Leaves fault script first left call out trace = Unit {0}
