-- What is due at a unit is done until nothing is due: the fuel of an event suffices.
use Rattle.std.proofs.Common.{◌≡◌, inl, inr, ◌⊎◌, ℕ, zero, suc, ◌+◌, ◌*◌, ◌<◌, ◌≤◌, Bool, true, false, List, [], ◌∷◌, length, Option, Some, None, refl, sym, ap, subst, arith, get_or-set_same, length-set}
use Rattle.std.specs.Prelude.{slice_index_or, if◌then◌else◌, ◌==◌}
use Rattle.drive_registers.specs.Codes.{offset_field}
use Rattle.driver_machine.specs.Passes.{Waiter}
use Rattle.driver_machine.specs.declared.Task.{Task}
use Rattle.driver_machine.specs.declared.Task.TheVariants.{Judge}
use Rattle.driver_machine.specs.declared.Phase.{Phase}
use Rattle.driver_machine.specs.declared.Phase.TheVariants.{Waiting, Due}
use Rattle.driver_machine.specs.World.{World, UnitView, Held, unit_at, no_unit, held_in, slot_in_hand}
use Rattle.driver_machine.specs.Acts.{Deed, Act, Of, Scene, effect, scene_of, with_scene, after, after_all}
use Rattle.driver_machine.specs.Due.{next_of, next_by}
use Rattle.driver_machine.specs.Events.{go_on, until, in_hand_by, due_by, next_acts, due_acts}
use Rattle.driver_machine.proofs.Measure.{deeds_left, phase_left, task_left, judging_left, is_resting}
use Rattle.driver_machine.proofs.DueFacts.{false_true}
use Rattle.driver_machine.proofs.Falls.{Falls, falls, judging}

-- THE FRAME. A deed is done at one unit; the unit is then as the deed leaves it.
pub own_unit : (w : World) (u p : ℕ) (s : Scene) → u < length w.units → unit_at (with_scene w u p s) u ≡ s.unit
own_unit w u p s lt = get_or-set_same w.units u s.unit no_unit lt

-- what is due: nothing, or one deed
pub record IsNext (w : World) (line u : ℕ) (found : List Act) : Type 0 where
  pub id : ℕ
  pub named : id ≡ (held_in w (slot_in_hand (unit_at w u))).id
  pub deed : Deed
  pub some : 0 < length (unit_at w u).queue
  pub next : next_of (unit_at w u) (held_in w (slot_in_hand (unit_at w u))) ≡ Some deed
  pub is : found ≡ Of line u id deed ∷ []

in_hand_cases : (w : World) (line u : ℕ) (d : Deed) (queue : List Waiter) → (unit_at w u).queue ≡ queue
    → next_of (unit_at w u) (held_in w (slot_in_hand (unit_at w u))) ≡ Some d
    → (in_hand_by queue line u d w ≡ []) ⊎ IsNext w line u (in_hand_by queue line u d w)
in_hand_cases w line u d [] is next = inl refl
in_hand_cases w line u d (x ∷ rest) is next = inr (record {
  id = (held_in w x.number).id;
  named = ap (λ (l : List Waiter). (held_in w (slice_index_or l 0 (record { number = 0; cylinder = 0 })).number).id) (sym is);
  deed = d;
  some = subst (λ (l : List Waiter). 0 < length l) (sym is) (grind arith);
  next = next;
  is = refl;
})

pub next_cases : (w : World) (line u : ℕ) (found : Option Deed) → next_of (unit_at w u) (held_in w (slot_in_hand (unit_at w u))) ≡ found
    → (due_by found line u w ≡ []) ⊎ IsNext w line u (due_by found line u w)
next_cases w line u None is = inl refl
next_cases w line u (Some d) is = in_hand_cases w line u d (unit_at w u).queue refl is

-- a unit that rests has nothing due
resting_by : (phase : Phase) (v : UnitView) (h : Held) → is_resting phase ≡ true → next_by phase v h ≡ None
resting_by Waiting v h rests = absurd (false_true rests)
resting_by (Due task) v h rests = absurd (false_true rests)
resting_by other v h rests = refl

pub resting : (w : World) (line u : ℕ) → is_resting (unit_at w u).phase ≡ true → next_acts line u w ≡ []
resting w line u rests =
    ap (λ (found : Option Deed). due_by found line u w)
    (resting_by (unit_at w u).phase (unit_at w u) (held_in w (slot_in_hand (unit_at w u))) rests)

-- where nothing is due, nothing is done
pub until_none : (n : ℕ) (w : World) (line u : ℕ) → next_acts line u w ≡ [] → until n (next_acts line u) w ≡ []
until_none zero w line u none = refl
until_none (suc n) w line u none = ap (λ (acts : List Act). go_on acts (until n (next_acts line u)) w) none

-- the acts so far, and the world behind them
Over : (w : World) (line u : ℕ) → List Act → Type 0
Over w line u acts = next_acts line u (after_all w acts) ≡ []

-- one deed, and the acts behind it
behind : (n : ℕ) (w : World) (line u id : ℕ) (d : Deed) → u < length w.units → deeds_left (unit_at w u) < suc n
    → ((x : World) → u < length x.units → deeds_left (unit_at x u) < n → Over x line u (until n (next_acts line u) x))
    → 0 < length (unit_at w u).queue → next_of (unit_at w u) (held_in w (slot_in_hand (unit_at w u))) ≡ Some d
    → Over (after w (Of line u id d)) line u (until n (next_acts line u) (after w (Of line u id d)))
unfolding Over
behind n w line u id d lt enough later some next =
    let there : u < length (after w (Of line u id d)).units = subst (λ (k : ℕ). u < k) (sym (length-set w.units u _)) lt in
    let is : unit_at (after w (Of line u id d)) u ≡ (effect line u (slot_in_hand (unit_at w u)) d (scene_of w u)).unit =
    own_unit w u (slot_in_hand (unit_at w u)) (effect line u (slot_in_hand (unit_at w u)) d (scene_of w u)) lt in
    let fall : Falls (unit_at w u) (unit_at (after w (Of line u id d)) u) =
    subst (Falls (unit_at w u)) (sym is) (falls line u (slot_in_hand (unit_at w u)) d (scene_of w u) some next) in
    elim fall [
      | inl rests ↦
          let none : next_acts line u (after w (Of line u id d)) ≡ [] = resting (after w (Of line u id d)) line u rests in
          subst (Over (after w (Of line u id d)) line u) (sym (until_none n (after w (Of line u id d)) line u none)) none
      | inr fewer ↦ later (after w (Of line u id d)) there (omega (arith, fewer, enough))
    ]

until_over : (n : ℕ) (w : World) (line u : ℕ) → u < length w.units → deeds_left (unit_at w u) < n
    → Over w line u (until n (next_acts line u) w)
unfolding Over
until_over zero w line u lt enough = absurd (grind (arith, enough))
until_over (suc n) w line u lt enough =
    elim (next_cases w line u (next_of (unit_at w u) (held_in w (slot_in_hand (unit_at w u)))) refl) [
      | inl none ↦
          subst (λ (acts : List Act). Over w line u (go_on acts (until n (next_acts line u)) w)) (sym none) none
      | inr is ↦
          subst (λ (acts : List Act). Over w line u (go_on acts (until n (next_acts line u)) w)) (sym is.is)
          (behind n w line u is.id is.deed lt enough (λ x. until_over n x line u) is.some is.next)
    ]

-- the fuel
task_most : (task : Task) → task_left task ≤ 5
task_most (Judge moved last) = let four : judging_left last ≤ 4 = judging last in omega (arith, four)
task_most other = omega arith

phase_most : (phase : Phase) → phase_left phase ≤ 5
phase_most (Due task) = task_most task
phase_most other = omega arith

bit_most : (b : Bool) → (if b then 0 else 1) ≤ 1
bit_most true = omega arith
bit_most false = omega arith

-- WHAT IS DUE IS DONE: behind these acts nothing is due at the unit.
pub due_over : (w : World) (line u : ℕ) → u < length w.units → next_acts line u (after_all w (due_acts line u w)) ≡ []
unfolding Over
due_over w line u lt =
    let phase : phase_left (unit_at w u).phase ≤ 5 = phase_most (unit_at w u).phase in
    let volume : (if (unit_at w u).drive.valid then 0 else 1) ≤ 1 = bit_most (unit_at w u).drive.valid in
    let offset : (if offset_field (unit_at w u).drive.offset == 0 then 0 else 1) ≤ 1 =
    bit_most (offset_field (unit_at w u).drive.offset == 0) in
    until_over (8 + 3 * length (unit_at w u).queue) w line u lt (omega (arith, phase, volume, offset))
