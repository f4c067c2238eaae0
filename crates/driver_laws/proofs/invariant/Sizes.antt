-- No act adds a unit, an adapter or a slot, or takes one away.
use Rattle.std.proofs.Common.{◌≡◌, ℕ, List, [], ◌∷◌, length, length-set, Option, Some, None, refl, ◌∙◌}
use Rattle.std.specs.Prelude.{slice_set}
use Rattle.std.specs.Option.{option_map_or}
use Rattle.trace_replay.specs.Script as script
use Rattle.trace_replay.specs.Script.{Input}
use Rattle.driver_machine.specs.declared.Made.{Made}
use Rattle.driver_machine.specs.World.{World, Held}
use Rattle.driver_machine.specs.Acts.{Act, Refuse, Submit, Of, Change, Nothing, Taken, after, after_all, changed, freed}
use Rattle.driver_laws.proofs.invariant.Parts.{IsAsLarge}

-- the same world, and one of which one element of each list was put
same_sizes : (w : World) → IsAsLarge w w
same_sizes w = record { units = refl; adapters = refl; slots = refl }

changed_sizes : (input : Input) (w : World) → IsAsLarge w (changed input w)
changed_sizes (script.Turn u sector) w = record { units = length-set w.units u _; adapters = refl; slots = refl }
changed_sizes (script.Noise noise) w = record { units = refl; adapters = refl; slots = refl }
changed_sizes (script.Arm u kind times) w = record { units = length-set w.units u _; adapters = refl; slots = refl }
changed_sizes (script.SetOnline u on) w = record { units = length-set w.units u _; adapters = refl; slots = refl }
changed_sizes (script.SetLocked u on) w = record { units = length-set w.units u _; adapters = refl; slots = refl }
changed_sizes input w = same_sizes w

freed_at : (o : Option ℕ) (slots : List (Option Held)) → length (option_map_or (λ (p : ℕ). slice_set slots p None) o slots) ≡ length slots
freed_at None slots = refl
freed_at (Some p) slots = length-set slots p None

freed_size : (answers : List Made) (slots : List (Option Held)) → length (freed answers slots) ≡ length slots
freed_size [] slots = refl
freed_size (made ∷ rest) slots = freed_at made.slot slots

pub sizes_after : (w : World) (act : Act) → IsAsLarge w (after w act)
sizes_after w (Refuse line r kind) = record { units = refl; adapters = refl; slots = refl }
sizes_after w (Submit line p h) = record { units = length-set w.units h.unit _; adapters = refl; slots = length-set w.slots p _ }
sizes_after w (Of line u id d) = record { units = length-set w.units u _; adapters = length-set w.adapters _ _; slots = length-set w.slots _ _ }
sizes_after w (Change input) = changed_sizes input w
sizes_after w (Nothing line) = same_sizes w
sizes_after w Taken = record { units = refl; adapters = refl; slots = freed_size w.answers w.slots }

pub sizes_all : (w : World) (acts : List Act) → IsAsLarge w (after_all w acts)
sizes_all w [] = same_sizes w
sizes_all w (act ∷ acts) =
    let one = sizes_after w act in
    let more = sizes_all (after w act) acts in
    record { units = more.units ∙ one.units; adapters = more.adapters ∙ one.adapters; slots = more.slots ∙ one.slots }
