-- How many requests are in slots, how much noise was armed and how many faults were armed; and how much each act and each input
-- adds.
use Rattle.std.specs.Prelude.{◌≡◌, ℕ, ◌+◌, ◌*◌, ◌≤◌, List, [], ◌∷◌, Option, Some, None}
use Rattle.hardware_table.specs.declared.FaultKind.{FaultKind}
use Rattle.hardware_table.specs.Events.{times_armed}
use Rattle.trace_replay.specs.Script as script
use Rattle.trace_replay.specs.Script.{Input}
use Rattle.driver_machine.specs.World.{World, UnitView, Held, unit_at}
use Rattle.driver_machine.specs.Acts.{Act, Submit, Change}

-- how many slots have a request
abbrev pub in_use : List (Option Held) → ℕ
in_use [] = 0
in_use (None ∷ slots) = in_use slots
in_use (Some h ∷ slots) = in_use slots + 1

-- AT MOST so many requests stand in slots, so many noises were armed, and so many lines armed faults, each at most 1,000 times.
pub record IsWithin (most_requests most_noises most_faults : ℕ) (w : World) : Type 0 where
  pub requests : in_use w.slots ≤ most_requests
  pub noises : w.book.armed ≤ most_noises
  pub faults : (u : ℕ) (kind : FaultKind) → times_armed kind (unit_at w u).drive.armed ≤ 1000 * most_faults

-- WHAT AN INPUT of a script brings: a noise one noise,
abbrev pub noises_of : Input → ℕ
noises_of (script.Noise noise) = 1
noises_of input = 0

-- and a line that arms a fault one line of faults.
abbrev pub faults_of : Input → ℕ
faults_of (script.Arm u kind times) = 1
faults_of input = 0

-- WHAT AN ACT brings: a request that joins,
abbrev pub brings_request : Act → ℕ
brings_request (Submit line p h) = 1
brings_request act = 0

-- the noise of a condition,
abbrev pub brings_noise : Act → ℕ
brings_noise (Change input) = noises_of input
brings_noise act = 0

-- and its faults.
abbrev pub brings_faults : Act → ℕ
brings_faults (Change input) = faults_of input
brings_faults act = 0

-- what all acts of a list bring
abbrev pub bring_requests : List Act → ℕ
bring_requests [] = 0
bring_requests (act ∷ acts) = brings_request act + bring_requests acts

abbrev pub bring_noises : List Act → ℕ
bring_noises [] = 0
bring_noises (act ∷ acts) = brings_noise act + bring_noises acts

abbrev pub bring_faults : List Act → ℕ
bring_faults [] = 0
bring_faults (act ∷ acts) = brings_faults act + bring_faults acts

-- WHAT IS SET UP of a unit stays: whether it is there, the table of its pack, and the kind of its drive.
pub record IsSetAs (old new : UnitView) : Type 0 where
  pub declared : new.declared ≡ old.declared
  pub table : new.table ≡ old.table
  pub kind : new.drive.kind ≡ old.drive.kind
