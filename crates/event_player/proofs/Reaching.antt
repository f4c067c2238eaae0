-- How far the writes of a run reach, call by call.
use Rattle.std.proofs.Common.{◌≡◌, ◌⊎◌, inl, inr, ℕ, ◌*◌, ◌<◌, List, [], ◌∷◌, ◌++◌, drop, length, Option, refl, ap, subst, ◌∙◌}
use Rattle.pack_geometry.specs.declared.DriveKind.{DriveKind}
use Rattle.pack_geometry.specs.Pack.{Pack}
use Rattle.trace_replay.specs.Moments.{Moment, played}
use Rattle.trace_replay.specs.Script.{Input, Numbered}
use Rattle.driver_machine.specs.World.{World}
use Rattle.driver_machine.specs.Acts.{Act, Taken, after}
use Rattle.driver_machine.specs.Lines.{lines_of_all}
use Rattle.driver_machine.specs.Sound.{Sound}
use Rattle.driver_laws.proofs.invariant.Sound.{sound_after}
use Rattle.driver_laws.specs.answers.Outcome.{IsNextBlock}
use Rattle.script_runs.specs.StopsPasses.{with_call, AsksBelow, AskBelow, IsWithinReach, StayFrom}
use Rattle.script_runs.proofs.StopsPasses.{calls_are_played, lines_play_nothing, next_blocks_stay, answers_keep_reach}
use Rattle.driver_laws.specs.answers.Waiting.{all_taken}
use Rattle.driver_laws.proofs.answers.Taking.{taken_by}

-- WHAT IS ASKED by first inputs, and by later ones
pub ask_parts : (ends : ℕ → ℕ) (drives : ℕ → Option DriveKind) (first later : List Numbered) → AskBelow ends drives (first ++ later)
    → AskBelow ends drives first × AskBelow ends drives later
ask_parts ends drives [] later asks = (tt, asks)
ask_parts ends drives (next ∷ first) later asks =
    let rest : AskBelow ends drives first × AskBelow ends drives later = ask_parts ends drives first later asks.1 in
    ((asks.0, rest.0), rest.1)

-- by a call and before it
pub call_asks : (ends : ℕ → ℕ) (drives : ℕ → Option DriveKind) (moments : List Moment) (line : ℕ) (input : Input) (w : World) (acts : List Act)
    → AskBelow ends drives (played (with_call moments line input w acts)) → AskBelow ends drives (played moments) × AsksBelow ends drives input
call_asks ends drives moments line input w acts asks =
    let parts : AskBelow ends drives (played moments) × AskBelow ends drives (record { line = line; input = input } ∷ []) =
    ask_parts ends drives (played moments) (record { line = line; input = input } ∷ []) (subst (AskBelow ends drives) (calls_are_played moments line input w acts) asks) in
    (parts.0, parts.1.0)

-- and before lines that play nothing
pub lines_ask : (ends : ℕ → ℕ) (drives : ℕ → Option DriveKind) (moments : List Moment) (w : World) (acts : List Act)
    → AskBelow ends drives (played (moments ++ lines_of_all w acts)) → AskBelow ends drives (played moments)
lines_ask ends drives moments w acts asks = subst (AskBelow ends drives) (lines_play_nothing moments w acts) asks

-- THE ANSWERS are taken.
record Within (ends : ℕ → ℕ) (old held : ℕ → Pack) (w : World) : Type 0 where
  sound : Sound w
  within : IsWithinReach ends old held w

within_step : (ends : ℕ → ℕ) (old held : ℕ → Pack) (w : World) → 0 < length w.answers → Within ends old held w → Within ends old held (after w Taken)
within_step ends old held w some is = record {
  sound = sound_after w Taken is.sound some;
  within = answers_keep_reach ends old held w is.sound some is.within;
}

pub within_taken : (ends : ℕ → ℕ) (old held : ℕ → Pack) (w : World) → Sound w → IsWithinReach ends old held w → IsWithinReach ends old held (all_taken w)
within_taken ends old held w sound within =
    (taken_by (Within ends old held) (within_step ends old held) w.answers w refl (record { sound = sound; within = within })).within

-- THE PACKS FAILED
pub left_stays : (ends : ℕ → ℕ) (old held left : ℕ → Pack) (w : World) → Sound w → IsWithinReach ends old held w → (left ≡ held) ⊎ IsNextBlock w held left
    → StayFrom ends old left
left_stays ends old held left w sound within (inl same) unit = ap (λ (f : ℕ → Pack). drop (512 * ends unit) (f unit).image) same ∙ within.packs unit
left_stays ends old held left w sound within (inr next) unit = next_blocks_stay ends held left w sound within.reaches next unit ∙ within.packs unit
