-- What a deed leaves, where it leaves a part of its scene as it was.
use Rattle.std.proofs.Common.{◌≡◌, ℕ, List, refl, sym, ap, ◌∙◌, Option, Some, None}
use Rattle.std.specs.Prelude.{slice_set, unwrap_or}
use Rattle.std.proofs.lemmas.List.{set-get_or}
use Rattle.hardware_table.specs.Noise.{Book}
use Rattle.driver_machine.specs.World.{World, UnitView, AdapterView, Held, no_held, unit_at, adapter_at, slot_at, held_in, slot_in_hand, adapter_of, new_adapter_view}
use Rattle.driver_machine.specs.Acts.{scene_of, with_scene}
use Rattle.driver_machine.specs.Guards.{InHand}
use Rattle.hp_core.specs.State.{State}

-- the adapter of a unit, and a request in its slot, put where they are
pub same_adapter : (w : World) (a : ℕ) → slice_set w.adapters a (adapter_at w a) ≡ w.adapters
same_adapter w a = set-get_or w.adapters a new_adapter_view

pub same_slot : (w : World) (p : ℕ) (h : Held) → slot_at w p ≡ Some h → slice_set w.slots p (Some (held_in w p)) ≡ w.slots
same_slot w p h is =
    let here : Some (held_in w p) ≡ slot_at w p = ap (λ (o : Option Held). Some (unwrap_or o no_held)) is ∙ sym is in
    ap (λ (o : Option Held). slice_set w.slots p o) here ∙ set-get_or w.slots p None

-- the unit alone changes
pub unit_alone : (w : World) (u p : ℕ) (h : Held) (v : UnitView) → p ≡ slot_in_hand (unit_at w u) → slot_at w p ≡ Some h
    → record w { units = slice_set w.units u v } ≡ with_scene w u p (record (scene_of w u) { unit = v })
unit_alone w u p h v at is =
    let slots : w.slots ≡ slice_set w.slots p (Some (held_in w (slot_in_hand (unit_at w u)))) =
    sym (same_slot w p h is) ∙ ap (λ (q : ℕ). slice_set w.slots p (Some (held_in w q))) at in
    ap (λ (xs : List AdapterView). record w { units = slice_set w.units u v; adapters = xs }) (sym (same_adapter w (adapter_of u)))
    ∙ ap (λ (xs : List (Option Held)). record w { units = slice_set w.units u v; adapters = slice_set w.adapters (adapter_of u) (adapter_at w (adapter_of u)); slots = xs }) slots

-- the unit and its adapter
pub unit_adapter : (w : World) (u p : ℕ) (h : Held) (v : UnitView) (a : AdapterView) → p ≡ slot_in_hand (unit_at w u) → slot_at w p ≡ Some h
    → record w { units = slice_set w.units u v; adapters = slice_set w.adapters (adapter_of u) a } ≡ with_scene w u p (record (scene_of w u) { unit = v; adapter = a })
unit_adapter w u p h v a at is =
    let slots : w.slots ≡ slice_set w.slots p (Some (held_in w (slot_in_hand (unit_at w u)))) =
    sym (same_slot w p h is) ∙ ap (λ (q : ℕ). slice_set w.slots p (Some (held_in w q))) at in
    ap (λ (xs : List (Option Held)). record w { units = slice_set w.units u v; adapters = slice_set w.adapters (adapter_of u) a; slots = xs }) slots

-- the unit and the request
pub unit_held : (w : World) (u p : ℕ) (v : UnitView) (h : Held)
    → record w { units = slice_set w.units u v; slots = slice_set w.slots p (Some h) } ≡ with_scene w u p (record (scene_of w u) { unit = v; held = h })
unit_held w u p v h =
    ap (λ (xs : List AdapterView). record w { units = slice_set w.units u v; adapters = xs; slots = slice_set w.slots p (Some h) }) (sym (same_adapter w (adapter_of u)))

-- THE SAME for the state of a method
pub by_unit : (old mid : State) (u id : ℕ) (v : UnitView) → InHand old.world u id
    → mid ≡ record old { world = record old.world { units = slice_set old.world.units u v } }
    → mid ≡ record old { world = with_scene old.world u (slot_in_hand (unit_at old.world u)) (record (scene_of old.world u) { unit = v }) }
by_unit old mid u id v i is =
    is ∙ ap (λ (w : World). record old { world = w }) (unit_alone old.world u (slot_in_hand (unit_at old.world u)) i.held v refl i.slot)

pub by_adapter : (old mid : State) (u id : ℕ) (v : UnitView) (a : AdapterView) → InHand old.world u id
    → mid ≡ record old { world = record old.world { units = slice_set old.world.units u v; adapters = slice_set old.world.adapters (adapter_of u) a } }
    → mid ≡ record old { world = with_scene old.world u (slot_in_hand (unit_at old.world u)) (record (scene_of old.world u) { unit = v; adapter = a }) }
by_adapter old mid u id v a i is =
    is ∙ ap (λ (w : World). record old { world = w }) (unit_adapter old.world u (slot_in_hand (unit_at old.world u)) i.held v a refl i.slot)

pub by_held : (old mid : State) (u p : ℕ) (v : UnitView) (h : Held)
    → mid ≡ record old { world = record old.world { units = slice_set old.world.units u v; slots = slice_set old.world.slots p (Some h) } }
    → mid ≡ record old { world = with_scene old.world u p (record (scene_of old.world u) { unit = v; held = h }) }
by_held old mid u p v h is = is ∙ ap (λ (w : World). record old { world = w }) (unit_held old.world u p v h)

-- WHERE ONE PART of what is inside CHANGES it alone changes
pub book_inside : (inside now : State) (after : Book) (f : Book → Book) → inside ≡ now → after ≡ f inside.world.book
    → record inside { world = record inside.world { book = after } } ≡ record now { world = record now.world { book = f now.world.book } }
book_inside inside now after f same changed =
    ap (λ (b : Book). record inside { world = record inside.world { book = b } }) changed
    ∙ ap (λ (s : State). record s { world = record s.world { book = f s.world.book } }) same
