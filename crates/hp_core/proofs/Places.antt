-- An adapter at its place, and what the driver has at its start.
use Rattle.std.proofs.Common.{◌≡◌, ℕ, ◌+◌, ◌<◌, ◌≤◌, List, [], length, replicate, Option, None, refl, sym, ap, ◌∙◌, subst, arith}
use Rattle.std.specs.Prelude.{slice_index_or, slice_set}
use Rattle.std.proofs.lemmas.List.{length-replicate, get_or_default}
use Rattle.hardware_table.specs.Noise.{Book, empty_book}
use Rattle.driver_machine.specs.World.{World, UnitView, AdapterView, Held, Setup, no_unit, new_adapter_view, unit_at, adapter_at, set_up, new_world}
use Rattle.request_slots.specs.Queues.{AnswerQueue}
use Rattle.hp_core.specs.State.{State, HasRoom, refused_in}
use Rattle.hp_core.proofs.Units.{units_after}

-- an adapter that is looked at, by its index, is that of the world
pub adapter_here : (a i : ℕ) (w : World) (items : List AdapterView) (v : AdapterView) → i ≡ a → items ≡ w.adapters → a < length w.adapters
    → v ≡ slice_index_or items i v → v ≡ adapter_at w a
adapter_here a i w items v at is lt own =
    own ∙ get_or_default items i _ _ (omega (arith, lt, at, ap length is))
    ∙ ap (λ (n : ℕ). slice_index_or items n new_adapter_view) at ∙ ap (λ (vs : List AdapterView). slice_index_or vs a new_adapter_view) is

pub adapter_state : (inside now : State) (i a : ℕ) (own old : AdapterView) → inside ≡ now → i ≡ a → a < length now.world.adapters → old ≡ slice_index_or inside.world.adapters i old → own ≡ old
    → own.state ≡ (adapter_at now.world a).state
adapter_state inside now i a own old same at lt here is =
    ap (λ (v : AdapterView). v.state) (is ∙ adapter_here a i now.world inside.world.adapters old at (ap (λ (s : State). s.world.adapters) same) lt here)

-- a unit and an adapter that were changed at their places, and they alone
pub unit_channel : (inside now : State) (n u : ℕ) (before d after : UnitView) (f : UnitView → UnitView) (i a : ℕ) (old v : AdapterView) (g : AdapterView → AdapterView) → inside ≡ now
    → n ≡ u → u < length now.world.units → before ≡ slice_index_or inside.world.units n d → after ≡ f before
    → i ≡ a → a < length now.world.adapters → old ≡ slice_index_or inside.world.adapters i old → v ≡ g old
    → record inside { world = record inside.world { units = slice_set inside.world.units n after; adapters = slice_set inside.world.adapters i v } }
    ≡ record now { world = record now.world { units = slice_set now.world.units u (f (unit_at now.world u)); adapters = slice_set now.world.adapters a (g (adapter_at now.world a)) } }
unit_channel inside now n u before d after f i a old v g same place there here changed at lt own made =
    let channel : v ≡ g (adapter_at now.world a) =
    made ∙ ap g (adapter_here a i now.world inside.world.adapters old at (ap (λ (s : State). s.world.adapters) same) lt own) in
    ap (λ (us : List UnitView). record inside { world = record inside.world { units = us; adapters = slice_set inside.world.adapters i v } }) (units_after inside now n u before d same place there here after f changed)
    ∙ ap (λ (m : ℕ). record inside { world = record inside.world { units = slice_set now.world.units u (f (unit_at now.world u)); adapters = slice_set inside.world.adapters m v } }) at
    ∙ ap (λ (w : AdapterView). record inside { world = record inside.world { units = slice_set now.world.units u (f (unit_at now.world u)); adapters = slice_set inside.world.adapters a w } }) channel
    ∙ ap (λ (s : State). record s { world = record s.world { units = slice_set now.world.units u (f (unit_at now.world u)); adapters = slice_set s.world.adapters a (g (adapter_at now.world a)) } }) same

-- at the start there is room for the answers
pub room_at_start : (slots : List (Option Held)) (answers : AnswerQueue) (n : ℕ) → n ≤ 16384 → slots ≡ replicate n None
    → answers ≡ record { made = []; most = n + 1 } → HasRoom slots answers.made answers.most
room_at_start slots answers n few free none =
    let size : length slots ≡ n = ap length free ∙ length-replicate n None in
    let most : answers.most ≡ n + 1 = ap (λ (a : AnswerQueue). a.most) none in
    record {
      few = omega (arith, size, few);
      refused = subst (λ (a : AnswerQueue). refused_in a.made ≤ 1) (sym none) (omega arith);
      spare = omega (arith, size, most);
    }

-- and the world is a new one
pub starts : (setups : List Setup) (n noises : ℕ) (units : List UnitView) (adapters : List AdapterView) (slots : List (Option Held)) (book : Book) (answers : AnswerQueue) (kept : List ℕ)
    → units ≡ set_up setups (replicate 32 no_unit) → adapters ≡ replicate 4 new_adapter_view → slots ≡ replicate n None → book ≡ empty_book noises
    → answers ≡ record { made = []; most = n + 1 } → kept ≡ []
    → ◌≡◌ {A = State} (record { world = record { units = units; adapters = adapters; slots = slots; frames = 0; book = book; answers = answers.made }; kept = kept })
    (record { world = new_world setups n noises; kept = [] })
starts setups n noises units adapters slots book answers kept is_units is_adapters is_slots is_book is_answers is_kept =
    rw (is_units, is_adapters, is_slots, is_book, is_answers, is_kept) refl
