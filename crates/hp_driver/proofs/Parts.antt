-- The acts of each event, where it finds something to do; and that they may come.
use Rattle.std.proofs.Common.{◌≡◌, ℕ, ◌<◌, Bool, true, false, List, [], ◌∷◌, length, refl, sym, ap, ◌∙◌, subst, arith}
use Rattle.std.specs.Prelude.{Result, Ok, Err}
use Rattle.driver_machine.specs.declared.Task.{Task}
use Rattle.driver_machine.specs.declared.Task.TheVariants.{Clear}
use Rattle.driver_machine.specs.declared.Phase.{Phase}
use Rattle.driver_machine.specs.declared.Phase.TheVariants.{Waiting, Positioning, Due}
use Rattle.driver_machine.specs.World.{World, UnitView, AdapterView, Held, adapter_of, unit_on, unit_of, unit_at, adapter_at, held_in, slot_in_hand}
use Rattle.driver_machine.specs.Acts as deed
use Rattle.driver_machine.specs.Acts.{Act, Of, Nothing, Deed}
use Rattle.driver_machine.specs.Events.{when_by, in_hand, due_acts, begun, choose_by, choose_acts, or_nothing, arrive_acts, attend_acts, attended, can_arrive, can_attend, data_interrupt, attention, steps_taken}
use Rattle.driver_machine.specs.Due.{command_of}
use Rattle.driver_machine.specs.Guards.{Allowed}
use Rattle.driver_machine.specs.Sound.{Sound, IsPhase, IsTask, is_waiting}
use Rattle.driver_machine.proofs.DueFacts.{false_true}
use Rattle.driver_laws.proofs.invariant.Sound.{sound_after}
use Rattle.hp_core.specs.Passes.{Stop}
use Rattle.hp_core.specs.State.{State}
use Rattle.hp_core.specs.Done.{DoesAct}
use Rattle.hp_core.proofs.Serving.{hand_acts, hand_is, served_less, served_some, served_its, served_for}
use Rattle.hp_driver.specs.Done.{DoesActs}
use Rattle.hp_driver.proofs.Joined.{of_act, then_part, stopped_part}

-- and what is due behind it
module _ {O : Type 0} (tells : O → Bool) (taken : O → List ℕ) (faults : O → ℕ) (line u id : ℕ) (d : Deed) where
  pub deed_then : (trace mid_trace trace' : O) (old mid new : State) (result : Result (Unit {0}) Stop) → 0 < length (unit_at old.world u).queue
      → id ≡ (held_in old.world (slot_in_hand (unit_at old.world u))).id → DoesAct tells taken faults trace mid_trace old mid (Ok tt) (Of line u id d)
      → DoesActs tells taken faults mid_trace trace' mid new result (due_acts line u mid.world) → DoesActs tells taken faults trace trace' old new result (begun line u d old.world)
  deed_then trace mid_trace trace' old mid new result some named first later =
      then_part tells taken faults trace mid_trace trace' old mid new tt result (in_hand line u d old.world) (due_acts line u)
      (subst (λ (acts : List Act). DoesActs tells taken faults trace mid_trace old mid (Ok tt) acts) (hand_acts old.world line u id d some named)
      (of_act tells taken faults trace mid_trace old mid (Ok tt) (Of line u id d) first)) later

  pub deed_stopped : (trace trace' : O) (old new : State) (stop : Stop) → 0 < length (unit_at old.world u).queue
      → id ≡ (held_in old.world (slot_in_hand (unit_at old.world u))).id → DoesAct tells taken faults trace trace' old new (Err stop) (Of line u id d)
      → DoesActs {A = Unit {0}} tells taken faults trace trace' old new (Err stop) (begun line u d old.world)
  deed_stopped trace trace' old new stop some named first =
      stopped_part tells taken faults trace trace' old new stop (in_hand line u d old.world) (due_acts line u)
      (subst (λ (acts : List Act). DoesActs {A = Unit {0}} tells taken faults trace trace' old new (Err stop) acts) (hand_acts old.world line u id d some named)
      (of_act tells taken faults trace trace' old new (Err stop) (Of line u id d) first))

pub sound_then : {O : Type 0} (tells : O → Bool) (taken : O → List ℕ) (faults : O → ℕ) (trace trace' : O) (old new : State) (result : Result (Unit {0}) Stop) (act : Act)
    → Sound old.world → Allowed old.world act → DoesAct tells taken faults trace trace' old new result act → Sound new.world
sound_then tells taken faults trace trace' old new result act sound may does = subst Sound (sym does.world) (sound_after old.world act sound may)

-- ARRIVE
pub arrives : (w : World) (line u id : ℕ) → can_arrive (unit_at w u) ≡ true → 0 < length (unit_at w u).queue
    → id ≡ (held_in w (slot_in_hand (unit_at w u))).id → Of line u id deed.Arrive ∷ [] ≡ arrive_acts line u w
arrives w line u id can some named =
    hand_acts w line u id deed.Arrive some named ∙ sym (ap (λ (b : Bool). or_nothing b line (in_hand line u deed.Arrive) w) can)

pub no_arrival : (w : World) (line u : ℕ) → can_arrive (unit_at w u) ≡ false → Nothing line ∷ [] ≡ arrive_acts line u w
no_arrival w line u can = sym (ap (λ (b : Bool). or_nothing b line (in_hand line u deed.Arrive) w) can)

-- THE TRANSFER under way at an adapter
pub is_busy : (w : World) (a : ℕ) → Sound w → a < 4 → (adapter_at w a).state.completion ≡ true → (adapter_at w a).state.busy ≡ true
is_busy w a sound less up = by (adapter_at w a).state.busy (sound.each_adapter a less).rest
  where
    by : (busy : Bool) → (busy ≡ false → (adapter_at w a).state.completion ≡ false) → busy ≡ true
    by true rest = refl
    by false rest = absurd (false_true (sym (rest refl) ∙ up))

module _ (w : World) (a u : ℕ) (sound : Sound w) (busy : (adapter_at w a).state.busy ≡ true) (is : u ≡ unit_of w a) where
  pub interrupt_may : (line id : ℕ) → (adapter_at w a).state.completion ≡ true → id ≡ (held_in w (slot_in_hand (unit_at w u))).id
      → Allowed w (Of line u id (deed.Intr (adapter_at w (adapter_of u)).state.moved (adapter_at w (adapter_of u)).state.verdict))
  interrupt_may line id up named = (hand_is w u id sound (served_less w a u sound busy is) (served_some w a u sound busy is) named, (served_for w a u sound busy is true up, refl, refl))

  -- ATTEND: the data interrupt
  pub interrupts : (line : ℕ) → (adapter_at w a).state.completion ≡ true
      → begun line u (deed.Intr (adapter_at w (adapter_of u)).state.moved (adapter_at w (adapter_of u)).state.verdict) w ≡ data_interrupt line a w
  interrupts line up =
      ap (λ (b : ℕ). begun line u (deed.Intr (adapter_at w b).state.moved (adapter_at w b).state.verdict) w) (served_its w a u sound busy is)
      ∙ ap (λ (x : ℕ). begun line x (deed.Intr (adapter_at w a).state.moved (adapter_at w a).state.verdict) w) is
      ∙ sym (ap (λ (b : Bool). when_by b (begun line (unit_of w a) (deed.Intr (adapter_at w a).state.moved (adapter_at w a).state.verdict)) w) up)

-- AN ATTENTION is up only where a positioning has ended.
task_down : (task : Task) (v : UnitView) (h : Held) → IsTask v h task → v.drive.attention ≡ false
task_down (Clear moved last) v h is = is.1.attention
task_down other v h is = is.1.attention

raised_phase : (u : ℕ) (phase : Phase) (v : UnitView) (a : AdapterView) (h : Held) → IsPhase u v a h phase → v.drive.attention ≡ true
    → phase ≡ Positioning (steps_taken phase)
raised_phase u Waiting v a h is up = absurd (false_true (sym is.0.attention ∙ up))
raised_phase u (Due task) v a h is up = absurd (false_true (sym (task_down task v h is) ∙ up))
raised_phase u (Positioning taken) v a h is up = refl
raised_phase u other v a h is up = absurd (false_true (sym is.1.attention ∙ up))

module _ (w : World) (u : ℕ) (sound : Sound w) (less : u < 32) (up : (unit_at w u).drive.attention ≡ true) where
  raised : (unit_at w u).phase ≡ Positioning (steps_taken (unit_at w u).phase)
  raised =
      raised_phase u (unit_at w u).phase (unit_at w u) (adapter_at w (adapter_of u)) (held_in w (slot_in_hand (unit_at w u))) (sound.each_unit u less).phase up

  pub raised_some : 0 < length (unit_at w u).queue
  raised_some = (sound.each_unit u less).head (ap is_waiting raised)

  pub attention_may : (line id : ℕ) → id ≡ (held_in w (slot_in_hand (unit_at w u))).id → Allowed w (Of line u id (deed.Attn (steps_taken (unit_at w u).phase)))
  attention_may line id named = (hand_is w u id sound less raised_some named, (raised, up))

pub attends : (w : World) (line a k : ℕ) → (unit_at w (unit_on a k)).drive.attention ≡ true
    → begun line (unit_on a k) (deed.Attn (steps_taken (unit_at w (unit_on a k)).phase)) w ≡ attention line a k w
attends w line a k up =
    sym (ap (λ (b : Bool). when_by b (begun line (unit_on a k) (deed.Attn (steps_taken (unit_at w (unit_on a k)).phase))) w) up)

pub unit_less : (a k : ℕ) → a < 4 → k < 8 → unit_on a k < 32
unit_less a k four eight = omega (arith, four, eight)

-- an interrupt that is pending, and none
pub pending : (w : World) (line a : ℕ) → can_attend (adapter_at w a) ≡ true → attended line a w ≡ attend_acts line a w
pending w line a can = sym (ap (λ (b : Bool). or_nothing b line (attended line a) w) can)

pub none_pending : (w : World) (line a : ℕ) → can_attend (adapter_at w a) ≡ false → Nothing line ∷ [] ≡ attend_acts line a w
none_pending w line a can = sym (ap (λ (b : Bool). or_nothing b line (attended line a) w) can)

pub chooses : (w : World) (line a u : ℕ) (rest : List ℕ) → (adapter_at w a).state.busy ≡ false → (adapter_at w a).queue ≡ u ∷ rest
    → begun line u (command_of (unit_at w u) (held_in w (slot_in_hand (unit_at w u)))) w ≡ choose_acts line a w
chooses w line a u rest busy first =
    sym (ap (λ (b : Bool). choose_by b (adapter_at w a).queue line w) busy ∙ ap (λ (l : List ℕ). choose_by false l line w) first)
