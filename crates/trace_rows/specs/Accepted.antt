-- A row: a script over packs, and the moments of its run.
use Rattle.std.specs.Prelude.{ℕ, zero, suc, ◌+◌, ◌==◌, Bool, false, if◌then◌else◌, List, [], ◌∷◌, Option, None, replicate}
use Rattle.pack_geometry.specs.TableSpelling.{Table}
use Rattle.trace_replay.specs.Script.{Script, Line, Statement, Declares, Plays, Drain, drives_of}
use Rattle.drive_registers.specs.declared.OffsetCode.{OffsetCode}
use Rattle.hardware_table.specs.declared.Moved.TheVariants.{Clean, Hard}
use Rattle.trace_replay.specs.Moments.{Moment, Deed, Offset, Centre, Clear, Transfer, Arrive, Sector, Intr, Try, Attn, Played, Told, Idle}
use Rattle.trace_replay.specs.Replay.{Replay, new_replay, Legal}
use Rattle.trace_replay.specs.Runs.{ArePlayed}

-- the start of a script over packs with these tables, sectors and marks
abbrev pub over : (ℕ → Option Table) → (ℕ → ℕ → List ℕ) → (ℕ → ℕ → Bool) → Script → Replay
over tables sectors marks script = new_replay (drives_of script) tables (record { sector = sectors; is_marked = marks; live = [] })

-- over packs that hold nothing
abbrev pub over_zeros : Script → Replay
over_zeros = over (λ unit. None) (λ unit block. replicate 512 0) (λ unit block. false)

-- DEEDS at one unit for one request, which the trace tells one after another at one line of the script; or an event that found nothing
-- to do.
pub data Group : Type 0 where
  Says : (line unit id : ℕ) (deeds : List Deed) → Group
  Waits : (line : ℕ) → Group

-- so many clean sectors from a block on, before more
abbrev pub clean : (block count : ℕ) → List Deed → List Deed
clean block zero deeds = deeds
clean block (suc count) deeds = Sector block Clean ∷ clean (block + 1) count deeds

-- so many reads of one block that fail and are tried again, from a number on, before more
abbrev pub again : (block number count : ℕ) → List Deed → List Deed
again block number zero deeds = deeds
again block number (suc count) deeds =
    Transfer false block 1 ∷ Sector block Hard ∷ Intr ∷ Clear ∷ Try block number ∷ again block (number + 1) count deeds

-- and one at each of these offsets
abbrev pub offset_again : (block number : ℕ) → List OffsetCode → List Deed → List Deed
offset_again block number [] deeds = deeds
offset_again block number (code ∷ codes) deeds =
    Offset code ∷ Arrive ∷ Attn ∷ Transfer false block 1 ∷ Sector block Hard ∷ Intr ∷ Clear ∷ Centre ∷ Try block number
    ∷ offset_again block (number + 1) codes deeds

-- A ROW: a script, the state in which its packs let it start, and what the trace of its run tells.
pub record Row : Type 0 where
  pub script : Script
  pub start : Script → Replay
  pub told : List Group

abbrev pub row : List Line → (count : ℕ) → (Script → Replay) → List Group → Row
row lines count start told = record { script = record { lines = lines; count = count }; start = start; told = told }

abbrev pub start_of : Row → Replay
start_of row = row.start row.script

abbrev pub line_of : Group → ℕ
line_of (Says line unit id deeds) = line
line_of (Waits line) = line

-- the moments of a group, and those behind them
abbrev pub told_by : Group → List Moment → List Moment
told_by (Says line unit id []) rest = rest
told_by (Says line unit id (deed ∷ deeds)) rest = Told line unit id deed ∷ told_by (Says line unit id deeds) rest
told_by (Waits line) rest = Idle line ∷ rest

-- THE MOMENTS OF A ROW: the script's lines are played in order, and each group stands behind its line; at last the rest is drained.
abbrev pub told_at : ℕ → List Group → List Moment → List Moment
told_at line [] rest = rest
told_at line (group ∷ groups) rest = if line_of group == line then told_by group (told_at line groups rest) else rest

abbrev pub behind : ℕ → List Group → List Group
behind line [] = []
behind line (group ∷ groups) = if line_of group == line then behind line groups else group ∷ groups

abbrev pub stated : Statement → ℕ → List Group → List Moment → List Moment
stated (Declares unit kind) line groups rest = rest
stated (Plays input) line groups rest = Played line input ∷ told_at line groups rest

abbrev pub played_with : List Line → (last : ℕ) → List Group → List Moment
played_with [] last groups = Played last Drain ∷ told_at last groups []
played_with (line ∷ lines) last groups =
    stated line.statement line.number groups (played_with lines last (behind line.number groups))

abbrev pub moments_of : Row → List Moment
moments_of row = played_with row.script.lines (row.script.count + 1) row.told

-- the moments play the script, and are legal from the start
pub record IsAccepted (row : Row) : Type 0 where
  pub inputs : ArePlayed row.script (moments_of row)
  pub legal : Legal (start_of row) (moments_of row)

-- what holds of each row of a list
abbrev pub EachIs : (Row → Type 0) → List Row → Type 0
EachIs Is [] = Unit {0}
EachIs Is (row ∷ rows) = Is row × EachIs Is rows
