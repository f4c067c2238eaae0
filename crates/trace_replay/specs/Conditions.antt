-- The condition of a drive is what the script said last of that drive. No command, event or sector changes it.
use Rattle.std.specs.Prelude.{◌≡◌, ℕ, ◌==◌, if◌then◌else◌, Bool, true, false, List, [], ◌∷◌, Option}
use Rattle.pack_geometry.specs.declared.DriveKind.{DriveKind}
use Rattle.pack_geometry.specs.TableSpelling.{Table}
use Rattle.trace_replay.specs.Script.{Input, SetOnline, SetLocked}
use Rattle.trace_replay.specs.Moments.{Moment, Played}
use Rattle.trace_replay.specs.Packs.{Surface}
use Rattle.trace_replay.specs.Replay.{new_replay, after_moments}

-- whether a unit is online, and whether it is locked, after an input
abbrev pub online_said : ℕ → Input → Bool → Bool
online_said unit (SetOnline u on) before = if unit == u then on else before
online_said unit input before = before

abbrev pub locked_said : ℕ → Input → Bool → Bool
locked_said unit (SetLocked u on) before = if unit == u then on else before
locked_said unit input before = before

-- after moments, from what it was before them
abbrev pub online_behind : ℕ → Bool → List Moment → Bool
online_behind unit before [] = before
online_behind unit before (Played line input ∷ ms) = online_behind unit (online_said unit input before) ms
online_behind unit before (m ∷ ms) = online_behind unit before ms

abbrev pub locked_behind : ℕ → Bool → List Moment → Bool
locked_behind unit before [] = before
locked_behind unit before (Played line input ∷ ms) = locked_behind unit (locked_said unit input before) ms
locked_behind unit before (m ∷ ms) = locked_behind unit before ms

-- AS SAID. At the start each unit is online and unlocked.
abbrev pub IsAsSaid : Type 0
IsAsSaid = (drives : ℕ → Option DriveKind) (tables : ℕ → Option Table) (surface : Surface) (ms : List Moment) (unit : ℕ)
    → (((after_moments (new_replay drives tables surface) ms).units unit).drive.online ≡ online_behind unit true ms)
    × (((after_moments (new_replay drives tables surface) ms).units unit).drive.locked ≡ locked_behind unit false ms)
