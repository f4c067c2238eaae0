-- A script: what is asked for and said, line by line. A reader turns the bytes of a script into these lines; the grammar says which
-- bytes spell which lines.
use Rattle.std.specs.Prelude.{◌≡◌, ℕ, ◌<◌, ◌≤◌, ◌+◌, ◌==◌, if◌then◌else◌, Bool, false, List, [], ◌∷◌, Option, Some, None, All}
use Rattle.std.specs.List.{list_any}
use Rattle.pack_geometry.specs.declared.DriveKind.{DriveKind}
use Rattle.pack_geometry.specs.Geometry.{block_count, sectors_of}
use Rattle.fire_code.specs.Noise.{IsNoise}
use Rattle.hardware_table.specs.declared.FaultKind.{FaultKind}
use Rattle.hardware_table.specs.declared.NoiseSpan.{NoiseSpan}
use Rattle.hardware_table.specs.declared.NoiseSpan.TheVariants.{Times, Until}
use Rattle.hardware_table.specs.Noise.{LiveNoise}
use Rattle.trace_replay.specs.requests.Requests.{Request, IsRequest}

-- What a line asks for or says.
pub data Input : Type 0 where
  Submit : (request : Request) → Input
  ArriveAt : (unit : ℕ) → Input
  MoveAt : (adapter : ℕ) → Input
  AttendTo : (adapter : ℕ) → Input
  Drain : Input
  Turn : (unit sector : ℕ) → Input
  Noise : (noise : LiveNoise) → Input
  Arm : (unit : ℕ) (kind : FaultKind) (times : ℕ) → Input
  SetOnline : (unit : ℕ) (on : Bool) → Input
  SetLocked : (unit : ℕ) (on : Bool) → Input

-- A line declares a drive, or is played.
pub data Statement : Type 0 where
  Declares : (unit : ℕ) (kind : DriveKind) → Statement
  Plays : (input : Input) → Statement

-- a line that says something, with its number
pub record Line : Type 0 where
  pub number : ℕ
  pub statement : Statement

-- The lines of a script that say something, in order, and how many lines it has: the others are empty or are comments.
pub record Script : Type 0 where
  pub lines : List Line
  pub count : ℕ

-- an input, with the number of its line
pub record Numbered : Type 0 where
  pub line : ℕ
  pub input : Input

-- THE INPUTS of a script in order; and behind them a last drain, whose number is one behind the last line.
abbrev pub with_input : ℕ → Statement → List Numbered → List Numbered
with_input number (Declares unit kind) inputs = inputs
with_input number (Plays input) inputs = record { line = number; input = input } ∷ inputs

abbrev pub inputs_before : List Numbered → List Line → List Numbered
inputs_before last [] = last
inputs_before last (line ∷ lines) = with_input line.number line.statement (inputs_before last lines)

abbrev pub inputs_of : Script → List Numbered
inputs_of script = inputs_before (record { line = script.count + 1; input = Drain } ∷ []) script.lines

-- THE DRIVES that it declares
abbrev pub declared_by : Statement → ℕ → Option DriveKind → Option DriveKind
declared_by (Declares u kind) unit others = if unit == u then Some kind else others
declared_by (Plays input) unit others = others

abbrev pub drives_in : List Line → ℕ → Option DriveKind
drives_in [] unit = None
drives_in (line ∷ lines) unit = declared_by line.statement unit (drives_in lines unit)

abbrev pub drives_of : Script → ℕ → Option DriveKind
drives_of script = drives_in script.lines

-- WHAT A SCRIPT IS. The numbers of its lines ascend, from 1 to as many as it has.
abbrev pub AreNumbered : ℕ → ℕ → List Line → Type 0
AreNumbered before count [] = before ≤ count
AreNumbered before count (line ∷ lines) = (before < line.number) × AreNumbered line.number count lines

-- No line declares a drive behind one that is played, and none declares a unit again.
abbrev pub declares : ℕ → Statement → Bool
declares unit (Declares u kind) = u == unit
declares unit (Plays input) = false

abbrev pub IsPlayed : Statement → Type 0
IsPlayed (Declares unit kind) = ⊥
IsPlayed (Plays input) = Unit {0}

abbrev pub ArePlays : List Line → Type 0
ArePlays [] = Unit {0}
ArePlays (line ∷ lines) = IsPlayed line.statement × ArePlays lines

abbrev pub IsFirst : Statement → List Line → Type 0
IsFirst (Declares unit kind) lines = (unit < 32) × (list_any (λ (line : Line). declares unit line.statement) lines ≡ false)
IsFirst (Plays input) lines = ArePlays lines

abbrev pub AreUnitsFirst : List Line → Type 0
AreUnitsFirst [] = Unit {0}
AreUnitsFirst (line ∷ lines) = IsFirst line.statement lines × AreUnitsFirst lines

-- the ids of its requests
abbrev pub with_id : Statement → List ℕ → List ℕ
with_id (Plays (Submit r)) ids = r.id ∷ ids
with_id statement ids = ids

abbrev pub ids_of : List Line → List ℕ
ids_of [] = []
ids_of (line ∷ lines) = with_id line.statement (ids_of lines)

-- none stands twice
abbrev pub AreApart : List ℕ → Type 0
AreApart [] = Unit {0}
AreApart (id ∷ ids) = (list_any (λ other. other == id) ids ≡ false) × AreApart ids

-- what is said of a unit that is there, by its kind
abbrev pub IsThere : Option DriveKind → (DriveKind → Type 0) → Type 0
IsThere None P = ⊥
IsThere (Some kind) P = P kind

-- how long noise may live: 1 to 1000 reads, or until one with an offset
abbrev pub IsSpan : NoiseSpan → Type 0
IsSpan (Times n) = (1 ≤ n) × (n ≤ 1000)
IsSpan (Until code) = Unit {0}

-- an input speaks of units that are there, and of what they have
abbrev pub IsInput : (ℕ → Option DriveKind) → Input → Type 0
IsInput drives (Submit r) = IsThere (drives r.unit) (λ kind. IsRequest r)
IsInput drives (ArriveAt unit) = IsThere (drives unit) (λ kind. Unit {0})
IsInput drives (MoveAt adapter) = adapter < 4
IsInput drives (AttendTo adapter) = adapter < 4
IsInput drives Drain = Unit {0}
IsInput drives (Turn unit sector) = IsThere (drives unit) (λ kind. sector < sectors_of kind)
IsInput drives (Noise noise) = IsThere (drives noise.unit) (λ kind. (noise.block < block_count kind) × IsNoise noise.places × IsSpan noise.span)
IsInput drives (Arm unit fault times) = IsThere (drives unit) (λ kind. (1 ≤ times) × (times ≤ 1000))
IsInput drives (SetOnline unit on) = IsThere (drives unit) (λ kind. Unit {0})
IsInput drives (SetLocked unit on) = IsThere (drives unit) (λ kind. Unit {0})

abbrev pub IsStatement : (ℕ → Option DriveKind) → Statement → Type 0
IsStatement drives (Declares unit kind) = Unit {0}
IsStatement drives (Plays input) = IsInput drives input

-- lines numbered upwards, drives first, no id twice, and each input of units that are there
pub record IsScript (script : Script) : Type 0 where
  pub numbers : AreNumbered 0 script.count script.lines
  pub units : AreUnitsFirst script.lines
  pub ids : AreApart (ids_of script.lines)
  pub inputs : All (λ (line : Line). IsStatement (drives_of script) line.statement) script.lines
