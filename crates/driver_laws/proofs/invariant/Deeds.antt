-- A deed at one unit is done where it may, and leaves what holds inside an event.
use Rattle.std.proofs.Common.{◌≡◌, ◌≢◌, ◌⊎◌, inl, inr, ℕ, ◌+◌, ◌<◌, ◌≤◌, Bool, true, false, [], length, Option, Some, None, sym, ap, subst, arith, ◌∙◌, rules}
use Rattle.std.specs.Prelude.{slice_index_or, slice_set, sum_by, unwrap_or}
use Rattle.std.proofs.lemmas.List.Sums.{sum_by-set}
use Rattle.std.proofs.lemmas.List.{get_or_past}
use Rattle.driver_machine.specs.declared.Task.TheVariants.{Command}
use Rattle.driver_machine.specs.declared.Phase.{Phase}
use Rattle.driver_machine.specs.declared.Phase.TheVariants.{Queued, Due}
use Rattle.driver_machine.specs.World.{World, UnitView, Held, adapter_of, unit_at, adapter_at, slot_at, held_in, slot_in_hand, no_unit, no_held}
use Rattle.driver_machine.specs.Acts as deed
use Rattle.driver_machine.specs.Acts.{Act, Of, Deed, Scene, effect, scene_of, with_scene, after}
use Rattle.driver_machine.specs.Due.{next_of, next_by}
use Rattle.driver_machine.specs.Free.{needs_free, IsFree}
use Rattle.driver_machine.specs.Guards.{InHand, May, Allowed}
use Rattle.driver_machine.specs.Sound.{Sound, IsOutstanding, WorkOf}
use Rattle.driver_machine.proofs.DueFacts.{due_facts, none_some, false_true}
use Rattle.driver_machine.proofs.Until.{own_unit}
use Rattle.driver_laws.specs.invariant.InvariantKept.{EachActKeeps}
use Rattle.driver_laws.proofs.invariant.Frame.{slot_there}
use Rattle.driver_machine.proofs.Dues.{IsDue}

-- HOW MANY REQUESTS ARE OUTSTANDING.
abbrev pub one_by : Bool → ℕ
one_by true = 0
one_by false = 1

abbrev pub one_in : Option Held → ℕ
one_in None = 0
one_in (Some h) = one_by h.ended

abbrev pub outstanding : World → ℕ
outstanding w = sum_by one_in w.slots

-- all other units than one are at work, and all other adapters than its own
pub record OthersWork (w : World) (u : ℕ) : Type 0 where
  pub units : (x : ℕ) → x < 32 → x ≢ u → WorkOf (unit_at w x).phase (unit_at w x).queue
  pub adapters : (a : ℕ) → a < 4 → a ≢ adapter_of u → (adapter_at w a).state.busy ≡ false → (adapter_at w a).queue ≡ []

-- INSIDE AN EVENT, at a unit: of the others nothing is known but where E holds; and at most n requests are outstanding.
pub record Doing (E : Type 0) (u n : ℕ) (w : World) : Type 0 where
  pub sound : Sound w
  pub free : IsFree (unit_at w u) (adapter_at w (adapter_of u))
  pub others : E → OthersWork w u
  pub few : outstanding w ≤ n

-- the act that is this deed for the request in hand
abbrev pub deed_at : (line u : ℕ) → Deed → World → Act
deed_at line u d w = Of line u (held_in w (slot_in_hand (unit_at w u))).id d

abbrev pub scene_after : (line u : ℕ) → Deed → World → Scene
scene_after line u d w = effect line u (slot_in_hand (unit_at w u)) d (scene_of w u)

-- a unit with requests is one of the 32
pub is_unit : (w : World) (u : ℕ) → Sound w → 0 < length (unit_at w u).queue → u < 32
is_unit w u sound some = elim (less_or u) [
  | inl less ↦ less
  | inr more ↦ absurd (none_left more)
]
  where
    less_or : (u : ℕ) → (u < 32) ⊎ (32 ≤ u)
    less_or u = grind arith

    none_left : 32 ≤ u → ⊥
    none_left more =
        let past : unit_at w u ≡ no_unit = get_or_past w.units u no_unit (subst (λ (k : ℕ). k ≤ u) (sym sound.units) more) in
        let none : length (unit_at w u).queue ≡ 0 = ap (λ (v : UnitView). length v.queue) past in
        grind (arith, some, none)

-- THE REQUEST IN HAND is outstanding.
pub head_of : (w : World) (u : ℕ) → Sound w → u < 32 → 0 < length (unit_at w u).queue
    → IsOutstanding w u (slice_index_or (unit_at w u).queue 0 (record { number = 0; cylinder = 0 }))
head_of w u sound lt some = first_of (search rules, grind arith)

pub in_hand_is : (w : World) (u : ℕ) → Sound w → u < 32 → 0 < length (unit_at w u).queue
    → InHand w u (held_in w (slot_in_hand (unit_at w u))).id
in_hand_is w u sound lt some =
    let head : IsOutstanding w u (slice_index_or (unit_at w u).queue 0 (record { number = 0; cylinder = 0 })) = head_of w u sound lt some in
    record {
      unit = lt;
      some = some;
      held = head.held;
      slot = head.slot;
      named = sym (ap (λ (o : Option Held). (unwrap_or o no_held).id) head.slot);
    }

-- WHAT IS DUE MAY COME where the adapter is free for a command at once.
queued_none : (phase : Phase) (v : UnitView) (h : Held) (d : Deed) → phase ≡ Queued → next_by phase v h ≡ Some d → ⊥
queued_none phase v h d is next = none_some (sym (ap (λ (p : Phase). next_by p v h) is) ∙ next)

move_free : (s : Scene) (d : Deed) → next_of s.unit s.held ≡ Some d → IsFree s.unit s.adapter
    → (s.unit.phase ≡ Due Command) ⊎ (s.unit.phase ≡ Queued) → s.adapter.state.busy ≡ false
move_free s d next free (inl at) = free (ap needs_free at)
move_free s d next free (inr at) = absurd (queued_none s.unit.phase s.unit s.held d at next)

may_by : (u : ℕ) (d : Deed) (s : Scene) → next_of s.unit s.held ≡ Some d → IsDue s.unit s.held d → IsFree s.unit s.adapter → May u d s
may_by u deed.Arrive s next due free = absurd due
may_by u (deed.Sector block tried) s next due free = absurd due
may_by u (deed.Intr moved last) s next due free = absurd due
may_by u (deed.Attn taken) s next due free = absurd due
may_by u (deed.Move write segment) s next due free = (inl next, move_free s (deed.Move write segment) next free due.0)
may_by u other s next due free = inl next

pub may_come : (u : ℕ) (d : Deed) (s : Scene) → next_of s.unit s.held ≡ Some d → IsFree s.unit s.adapter → May u d s
may_come u d s next free = may_by u d s next (due_facts s.unit s.held d next) free

-- and the adapter stays free for the next one
free_by : (line u p : ℕ) (d : Deed) (s : Scene) → IsDue s.unit s.held d → IsFree s.unit s.adapter
    → IsFree (effect line u p d s).unit (effect line u p d s).adapter
free_by line u p deed.Pack s due free = free
free_by line u p (deed.Dclr moved last) s due free = λ needs. free (ap needs_free due)
free_by line u p deed.Rtc s due free = free
free_by line u p (deed.Repair moved at pattern) s due free = λ needs. free (ap needs_free due.phase)
free_by line u p (deed.Forward moved index) s due free = λ needs. free (ap needs_free due.0.phase)
free_by line u p (deed.Continue moved) s due free = λ needs. free (ap needs_free due.0.phase)
free_by line u p (deed.Try moved block number next) s due free = λ needs. free (ap needs_free due.2.phase)
free_by line u p deed.Arrive s due free = absurd due
free_by line u p (deed.Sector block tried) s due free = absurd due
free_by line u p (deed.Intr moved last) s due free = absurd due
free_by line u p (deed.Attn taken) s due free = absurd due
free_by line u p other s due free = λ needs. absurd (false_true needs)

-- THE OTHERS are at work as before.
pub others_kept : (w : World) (u p : ℕ) (s : Scene) → OthersWork w u → OthersWork (with_scene w u p s) u
others_kept w u p s work = first_of (search rules, grind arith)

pub own_adapter : (w : World) (u p : ℕ) (s : Scene) → length w.adapters ≡ 4 → u < 32 → adapter_at (with_scene w u p s) (adapter_of u) ≡ s.adapter
own_adapter w u p s four lt = first_of (search rules, grind arith)

-- NO DEED adds to what is outstanding, and an end takes one away.
abbrev pub ended_by : Deed → ℕ
ended_by (deed.End kind) = 1
ended_by other = 0

one_most : (b : Bool) → one_by b + 0 ≤ 1
one_most true = omega arith
one_most false = omega arith

one_less : (line u p : ℕ) (d : Deed) (s : Scene) → one_in (Some (effect line u p d s).held) + ended_by d ≤ 1
one_less line u p (deed.End kind) s = omega arith
one_less line u p other s = one_most (effect line u p other s).held.ended

pub fewer : (w : World) (line u : ℕ) (d : Deed) → Sound w → u < 32 → 0 < length (unit_at w u).queue
    → outstanding (after w (deed_at line u d w)) + ended_by d ≤ outstanding w
fewer w line u d sound lt some =
    let head : IsOutstanding w u (slice_index_or (unit_at w u).queue 0 (record { number = 0; cylinder = 0 })) = head_of w u sound lt some in
    let one : one_in (slot_at w (slot_in_hand (unit_at w u))) ≡ 1 = ap one_in head.slot ∙ ap one_by head.going_on in
    let sums : sum_by one_in (slice_set w.slots (slot_in_hand (unit_at w u)) (Some (scene_after line u d w).held))
    + one_in (slot_at w (slot_in_hand (unit_at w u))) ≡ sum_by one_in w.slots + one_in (Some (scene_after line u d w).held) =
    sum_by-set one_in w.slots (slot_in_hand (unit_at w u)) (Some (scene_after line u d w).held) None
    (slot_there w.slots (slot_in_hand (unit_at w u)) head.held head.slot) in
    numbers _ _ _ _ _ one sums (one_less line u (slot_in_hand (unit_at w u)) d (scene_of w u))
  where
    numbers : (new old was is ended : ℕ) → was ≡ 1 → new + was ≡ old + is → is + ended ≤ 1 → new + ended ≤ old
    numbers new old was is ended one sums few = omega (arith, one, sums, few)

-- A DEED IS DONE.
pub record Done (E : Type 0) (line u n : ℕ) (d : Deed) (w : World) : Type 0 where
  pub allowed : Allowed w (deed_at line u d w)
  pub unit : unit_at (after w (deed_at line u d w)) u ≡ (scene_after line u d w).unit
  pub adapter : adapter_at (after w (deed_at line u d w)) (adapter_of u) ≡ (scene_after line u d w).adapter
  pub doing : Doing E u n (after w (deed_at line u d w))

pub deed_done : EachActKeeps → (E : Type 0) (line u n : ℕ) (d : Deed) (w : World) → Sound w → u < 32 → 0 < length (unit_at w u).queue
    → May u d (scene_of w u) → IsFree (scene_after line u d w).unit (scene_after line u d w).adapter → (E → OthersWork w u)
    → outstanding w ≤ n + ended_by d → Done E line u n d w
deed_done stays E line u n d w sound lt some may free others few =
    let allowed : Allowed w (deed_at line u d w) = (in_hand_is w u sound lt some, may) in
    let unit_is : unit_at (after w (deed_at line u d w)) u ≡ (scene_after line u d w).unit =
    own_unit w u (slot_in_hand (unit_at w u)) (scene_after line u d w) (subst (λ (k : ℕ). u < k) (sym sound.units) lt) in
    let adapter_is : adapter_at (after w (deed_at line u d w)) (adapter_of u) ≡ (scene_after line u d w).adapter =
    own_adapter w u (slot_in_hand (unit_at w u)) (scene_after line u d w) sound.adapters lt in
    let falls : outstanding (after w (deed_at line u d w)) + ended_by d ≤ outstanding w = fewer w line u d sound lt some in
    record {
      allowed = allowed;
      unit = unit_is;
      adapter = adapter_is;
      doing = record {
        sound = stays w (deed_at line u d w) sound allowed;
        free = subst (λ (v : UnitView). IsFree v (adapter_at (after w (deed_at line u d w)) (adapter_of u))) (sym unit_is)
            (subst (IsFree (scene_after line u d w).unit) (sym adapter_is) free);
        others = λ e. others_kept w u (slot_in_hand (unit_at w u)) (scene_after line u d w) (others e);
        few = numbers _ _ _ _ falls few;
      };
    }
  where
    numbers : (new old ended n : ℕ) → new + ended ≤ old → old ≤ n + ended → new ≤ n
    numbers new old ended n falls few = omega (arith, falls, few)

-- one that is due
pub due_done : EachActKeeps → (E : Type 0) (line u n : ℕ) (d : Deed) (w : World) → u < 32 → 0 < length (unit_at w u).queue
    → next_of (unit_at w u) (held_in w (slot_in_hand (unit_at w u))) ≡ Some d → Doing E u n w → Done E line u n d w
due_done stays E line u n d w lt some next doing =
    deed_done stays E line u n d w doing.sound lt some (may_come u d (scene_of w u) next doing.free)
    (free_by line u (slot_in_hand (unit_at w u)) d (scene_of w u) (due_facts (unit_at w u) (held_in w (slot_in_hand (unit_at w u))) d next) doing.free)
    doing.others (numbers _ _ _ doing.few)
  where
    numbers : (old n ended : ℕ) → old ≤ n → old ≤ n + ended
    numbers old n ended few = omega (arith, few)
