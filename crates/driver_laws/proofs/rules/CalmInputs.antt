use Rattle.std.specs.Prelude.{◌≡◌, ◌&&◌, Bool, true, false, List, [], ◌∷◌}
use Rattle.trace_replay.specs.requests.Requests.{Answer, OutsidePartition, EndOfPartition, NoFrames}
use Rattle.trace_replay.specs.Script.{Input, Noise, Arm, SetOnline, SetLocked}
use Rattle.trace_replay.specs.Moments.{Moment, Played}
use Rattle.driver_laws.specs.rules.Calm.{is_calm_answer}

-- Inputs and moments that leave a replay calm, and the ends that come then.

-- an input that changes no condition
abbrev pub is_calm_input : Input → Bool
is_calm_input (Noise noise) = false
is_calm_input (Arm unit kind times) = false
is_calm_input (SetOnline unit on) = false
is_calm_input (SetLocked unit on) = false
is_calm_input input = true

abbrev pub is_calm_moment : Moment → Bool
is_calm_moment (Played line input) = is_calm_input input
is_calm_moment moment = true

abbrev pub are_calm : List Moment → Bool
are_calm [] = true
are_calm (m ∷ ms) = is_calm_moment m && are_calm ms

-- EACH END that comes is calm, or the refusal of a request as it is submitted.
abbrev pub is_refused_at_once : Answer → Bool
is_refused_at_once OutsidePartition = true
is_refused_at_once EndOfPartition = true
is_refused_at_once NoFrames = true
is_refused_at_once answer = false

abbrev pub IsCalmEnd : Answer → Type 0
IsCalmEnd answer = (is_refused_at_once answer ≡ false) → is_calm_answer answer ≡ true
