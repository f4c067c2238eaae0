-- What wrong bodies would see of a run, refused by the words of its lines, notes, drives and windows, of faults and of the program's ends.
use Rattle.std.specs.Prelude.{◌≡◌, ◌≢◌, ℕ, ◌+◌, ◌-◌, ◌^◌, ◌<◌, ◌≤◌, min, List, [], ◌∷◌, ◌++◌, Some, Err}
use Rattle.trace_lines.specs.declared.telling.Told.TheVariants.{Try, End}
use Rattle.drive_pictures.specs.declared.drives.Drive.{Drive}
use Rattle.drive_pictures.specs.Drives as drives
use Rattle.drive_pictures.specs.Events.{line_of}
use Rattle.run_picture.specs.declared.columns.Window.{Window}
use Rattle.run_view.specs.Saids.{Said}
use Rattle.run_view.specs.Runs.{up_to, run_of}
use Rattle.run_view.specs.Notes.{note_at}
use Rattle.script_reader.specs.Stored.{Stored}
use Rattle.trace_reader.specs.declared.fault.TraceKind.TheVariants.{Script}
use Rattle.trace_reader.specs.declared.line.TraceLine.{TraceLine}
use Rattle.trace_reader.specs.declared.line.TraceLine.TheVariants.{Deed}
use Rattle.trace_reader.specs.Grammar.{last_number}
use Rattle.trace_reader.specs.Lines.{line_number}
use Rattle.trace_reader.specs.Reading.{standing}
use Rattle.hpview_run.specs.declared.status.Status.TheVariants.{Usage, OutOfMemory}
use Rattle.hpview_run.specs.declared.words.Command.{Command}
use Rattle.hpview_run.specs.Drawing.{Draws}
use Rattle.hpview_run.specs.Statuses.{status_code}

-- the trace has ended, and what is played next is not seen
abbrev pub LastPlayNotSeen : Type 0
LastPlayNotSeen = (play : Said) (plays : List Said) → ¬ (plays ≡ run_of (play ∷ plays) [])

-- before the trace's lines of a number nothing is seen, though a line of that number is played
abbrev pub PlayedBehindItsLines : Type 0
PlayedBehindItsLines = (number : ℕ) (play : Said) (plays : List Said) → line_of play.moment ≡ number → ¬ ([] ≡ up_to number (play ∷ plays))

-- a line stands in the column of its event's number in the run, though the window begins later
abbrev pub LineInAColumnLate : Type 0
LineInAColumnLate = (window : Window) (event unit : ℕ) (said : Said) → said.names ≡ Some unit
    → window.per ≡ 1 → 0 < window.first → window.first ≤ event → event < window.last
    → ¬ (record { column = event; unit_number = unit; text = said.text } ∷ [] ≡ note_at window event said)

-- the tries that failed are those that this line of the trace counts, and those before it once more
abbrev pub TryCountedTwice : Type 0
TryCountedTwice = (block failures : ℕ) (drive : Drive) → failures < 2 ^ 32 - 1 → 0 < drive.trial.fails
    → ¬ (min (failures + drive.trial.fails) (2 ^ 32 - 1) ≡ (drives.said (Try block failures) drive).trial.fails)

-- an event is shown that stands before those that the command names
abbrev pub WindowOneEventEarly : Type 0
WindowOneEventEarly = (command : Command) (text trace picture : List ℕ) → (d : Draws command text trace picture) → 1 < command.from
    → d.view.window.first < d.view.window.last → ¬ (d.view.window.first ≡ command.from - 2)

-- there was no memory for the words, and the program ends as with words that are no command
abbrev pub NoMemoryTakenForUsage : Type 0
NoMemoryTakenForUsage = ¬ (status_code Usage ≡ status_code OutOfMemory)

-- of a line with two faults the second is told: its number falls, and it is none of the script's run
abbrev pub SecondFaultRefused : Type 0
SecondFaultRefused = (script : Stored) (before : List TraceLine) (line : TraceLine) → line_number line < last_number before → Err Script ≢ standing script before line

-- a run is drawn in whose trace two lines end one request
abbrev pub TwoEndsOfOneRequest : Type 0
TwoEndsOfOneRequest = (command : Command) (text trace picture : List ℕ) (front between behind : List TraceLine) (line later unit id : ℕ)
    → (d : Draws command text trace picture) → 0 < d.stored.count
    → ¬ (d.views.lines ≡ front ++ Deed line unit id End ∷ (between ++ Deed later unit id End ∷ behind))
