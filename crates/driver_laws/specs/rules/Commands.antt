-- How many commands a request takes.
use Rattle.std.specs.Prelude.{◌≡◌, ◌↔◌, ℕ, ◌+◌, ◌*◌, ◌≤◌, false, List, [], ◌∷◌, ◌++◌, Option, codes}
use Rattle.pack_geometry.specs.declared.DriveKind.{DriveKind}
use Rattle.pack_geometry.specs.TableSpelling.{Table}
use Rattle.trace_replay.specs.requests.Requests.{Answer}
use Rattle.trace_replay.specs.Moments.{Deed, Search, Seek, Recal, Offset, Centre, Clear, Pack, Transfer, End, Moment, Told}
use Rattle.trace_replay.specs.Packs.{Surface}
use Rattle.trace_replay.specs.Service.{in_hand}
use Rattle.trace_replay.specs.Replay.{new_replay, after_moments, Follows}
use Rattle.trace_replay.specs.History.{is_refusal, lines_of}
use Rattle.trace_replay.specs.Causes.{AskSome}
use Rattle.trace_replay.specs.Text.{first_word}

-- a line is a command
abbrev pub command_by : Deed → ℕ
command_by (Search cylinder sector) = 1
command_by (Seek cylinder) = 1
command_by Recal = 1
command_by (Offset code) = 1
command_by Centre = 1
command_by Clear = 1
command_by Pack = 1
command_by (Transfer write block count) = 1
command_by deed = 0

-- how many commands are among some lines
abbrev pub commands_in : List Deed → ℕ
commands_in [] = 0
commands_in (deed ∷ lines) = command_by deed + commands_in lines

-- these are the lines that a trace tells as `cmd`
abbrev pub AreToldAsCommands : Type 0
AreToldAsCommands = (deed : Deed) → (command_by deed ≡ 1) ↔ (first_word deed ≡ codes "cmd")

-- THE COMMANDS OF A REQUEST in hand are so far at most 300 for each of its blocks, in each trace that may come.
abbrev pub CommandsAreBounded : Type 0
CommandsAreBounded = (drives : ℕ → Option DriveKind) (tables : ℕ → Option Table) (surface : Surface) (ms : List Moment) (unit : ℕ)
    → AskSome ms → Follows (new_replay drives tables surface) ms
    → commands_in (lines_of unit ms) ≤ 300 * (in_hand ((after_moments (new_replay drives tables surface) ms).units unit).service).count

-- and so they are as its end comes: the request in hand is the one that ends, unless it is refused as it is submitted
abbrev pub EndsAreBounded : Type 0
EndsAreBounded = (drives : ℕ → Option DriveKind) (tables : ℕ → Option Table) (surface : Surface) (ms : List Moment) (line unit id : ℕ) (answer : Answer)
    → AskSome ms → Follows (new_replay drives tables surface) (ms ++ Told line unit id (End answer) ∷ []) → is_refusal answer ≡ false
    → (commands_in (lines_of unit ms) ≤ 300 * (in_hand ((after_moments (new_replay drives tables surface) ms).units unit).service).count)
    × ((in_hand ((after_moments (new_replay drives tables surface) ms).units unit).service).id ≡ id)
