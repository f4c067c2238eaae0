-- What is played in a run, and what is answered.
use Rattle.std.proofs.Common.{◌≡◌, ℕ, List, [], ◌∷◌, ◌++◌, refl, ap, ◌∙◌}
use Rattle.trace_replay.specs.Script.{Numbered, Input}
use Rattle.trace_replay.specs.Moments as moment
use Rattle.trace_replay.specs.Moments.{Moment, Played, played}
use Rattle.driver_machine.specs.World.{World, held_in, slot_in_hand, unit_at}
use Rattle.driver_machine.specs.Acts.{Act, Of, after}
use Rattle.driver_machine.specs.Lines.{deed_told, lines_with, lines_of, lines_of_all}
use Rattle.driver_laws.specs.shown.Runs.{with_call}
use Rattle.driver_laws.proofs.rules.Fronts.{played_append}

lines_with_none : (line unit id : ℕ) (tolds : List moment.Deed) (ms : List Moment) → played (lines_with line unit id tolds ++ ms) ≡ played ms
lines_with_none line unit id [] ms = refl
lines_with_none line unit id (told ∷ rest) ms = lines_with_none line unit id rest ms

act_none : (w : World) (act : Act) (ms : List Moment) → played (lines_of w act ++ ms) ≡ played ms
act_none w (Of line u id deed) ms = lines_with_none line u id (deed_told (held_in w (slot_in_hand (unit_at w u))) deed) ms
act_none w other ms = refl

lines_none : (w : World) (acts : List Act) → played (lines_of_all w acts) ≡ []
lines_none w [] = refl
lines_none w (act ∷ acts) = act_none w act (lines_of_all (after w act) acts) ∙ lines_none (after w act) acts

nothing_more : (l : List Numbered) → l ++ [] ≡ l
nothing_more [] = refl
nothing_more (x ∷ xs) = ap (λ (l : List Numbered). x ∷ l) (nothing_more xs)

pub lines_play_nothing : (moments : List Moment) (w : World) (acts : List Act) → played (moments ++ lines_of_all w acts) ≡ played moments
lines_play_nothing moments w acts =
    played_append moments (lines_of_all w acts) ∙ ap (λ (l : List Numbered). played moments ++ l) (lines_none w acts) ∙ nothing_more (played moments)

-- THE INPUTS of a run are those of its calls, in their order; the lines that acts tell play none.
pub calls_are_played : (moments : List Moment) (line : ℕ) (input : Input) (w : World) (acts : List Act)
    → played (with_call moments line input w acts) ≡ played moments ++ record { line = line; input = input } ∷ []
calls_are_played moments line input w acts =
    played_append moments (Played line input ∷ lines_of_all w acts)
    ∙ ap (λ (l : List Numbered). played moments ++ record { line = line; input = input } ∷ l) (lines_none w acts)
