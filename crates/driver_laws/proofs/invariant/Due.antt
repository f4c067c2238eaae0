-- What is due at a unit runs until nothing is due, and the unit is at work then.
use Rattle.std.proofs.Common.{◌≡◌, ◌≢◌, ◌⊎◌, inl, inr, ℕ, zero, suc, ◌+◌, ◌<◌, ◌≤◌, false, List, [], ◌∷◌, length, refl, sym, ap, subst, arith, ◌∙◌, rules}
use Rattle.std.specs.Prelude.{◌*◌}
use Rattle.disksort.specs.declared.Waiter.{Waiter}
use Rattle.driver_machine.specs.declared.Phase.{Phase}
use Rattle.driver_machine.specs.World.{World, adapter_of, unit_at, adapter_at, held_in, slot_in_hand}
use Rattle.driver_machine.specs.Acts.{Act, Of, Deed, after, after_all}
use Rattle.driver_machine.specs.Due.{next_of, next_by}
use Rattle.driver_machine.specs.Events.{followed, go_on, until, in_hand, in_hand_by, due_by, next_acts, due_acts, begun}
use Rattle.driver_machine.specs.Sound.{Sound, WorkOf}
use Rattle.driver_machine.proofs.Until.{IsNext, next_cases, due_over}
use Rattle.driver_laws.specs.invariant.InvariantKept.{EachActKeeps}
use Rattle.driver_laws.proofs.invariant.Leads.{Leads, nothing, one_more, so_too}
use Rattle.driver_laws.proofs.invariant.Deeds.{OthersWork, Doing, Done, deed_at, outstanding, due_done}

-- a deed for the request in hand is one act
pub in_hand_one : (line u : ℕ) (d : Deed) (w : World) → 0 < length (unit_at w u).queue → in_hand line u d w ≡ deed_at line u d w ∷ []
in_hand_one line u d w some = first_of (search rules, grind arith)

-- EACH DEED THAT IS DUE, one behind another
due_turn : EachActKeeps → (E : Type 0) (line u n fuel : ℕ) (w : World) → u < 32 → Doing E u n w
    → ((x : World) → Doing E u n x → Leads (Doing E u n) x (until fuel (next_acts line u) x))
    → ((next_acts line u w ≡ []) ⊎ IsNext w line u (next_acts line u w))
    → Leads (Doing E u n) w (go_on (next_acts line u w) (until fuel (next_acts line u)) w)
due_turn stays E line u n fuel w lt doing later (inl none) =
    subst (λ (acts : List Act). Leads (Doing E u n) w (go_on acts (until fuel (next_acts line u)) w)) (sym none)
    (nothing (Doing E u n) w doing)
due_turn stays E line u n fuel w lt doing later (inr is) =
    let done : Done E line u n is.deed w = due_done stays E line u n is.deed w lt is.some is.next doing in
    let one : next_acts line u w ≡ deed_at line u is.deed w ∷ [] = is.is ∙ ap (λ (id : ℕ). Of line u id is.deed ∷ []) is.named in
    subst (λ (acts : List Act). Leads (Doing E u n) w (go_on acts (until fuel (next_acts line u)) w)) (sym one)
    (one_more (Doing E u n) w (deed_at line u is.deed w) (until fuel (next_acts line u) (after w (deed_at line u is.deed w))) done.allowed
    (later (after w (deed_at line u is.deed w)) done.doing))

due_turns : EachActKeeps → (E : Type 0) (line u n fuel : ℕ) (w : World) → u < 32 → Doing E u n w
    → Leads (Doing E u n) w (until fuel (next_acts line u) w)
due_turns stays E line u n zero w lt doing = nothing (Doing E u n) w doing
due_turns stays E line u n (suc fuel) w lt doing =
    due_turn stays E line u n fuel w lt doing (λ x. λ at. due_turns stays E line u n fuel x lt at)
    (next_cases w line u (next_of (unit_at w u) (held_in w (slot_in_hand (unit_at w u)))) refl)

-- ALL UNITS ARE AT WORK where E holds, and all adapters but one.
pub record UnitsWork (w : World) (a : ℕ) : Type 0 where
  pub units : (u : ℕ) → u < 32 → WorkOf (unit_at w u).phase (unit_at w u).queue
  pub adapters : (b : ℕ) → b < 4 → b ≢ a → (adapter_at w b).state.busy ≡ false → (adapter_at w b).queue ≡ []

pub record Rests (E : Type 0) (a n : ℕ) (w : World) : Type 0 where
  pub sound : Sound w
  pub work : E → UnitsWork w a
  pub few : outstanding w ≤ n

-- a unit at which nothing is due is at work
pub none_due : (queue : List Waiter) (line u : ℕ) (d : Deed) (w : World) → in_hand_by queue line u d w ≡ [] → queue ≡ []
none_due [] line u d w none = refl
none_due (x ∷ rest) line u d w none = absurd (grind (arith, none))

work_by : (phase : Phase) (w : World) (line u : ℕ) → (unit_at w u).phase ≡ phase → Sound w → u < 32
    → due_by (next_by phase (unit_at w u) (held_in w (slot_in_hand (unit_at w u)))) line u w ≡ [] → WorkOf phase (unit_at w u).queue
work_by phase w line u h0 h1 h2 h3 = first_of (search rules, grind arith)

pub rests : (E : Type 0) (line u n : ℕ) (w : World) → u < 32 → Doing E u n w → next_acts line u w ≡ [] → Rests E (adapter_of u) n w
rests E line u n w lt doing none = record {
  sound = doing.sound;
  work = λ e. record { units = λ x less. by (doing.others e) x less (same_or x u); adapters = (doing.others e).adapters };
  few = doing.few;
}
  where
    same_or : (x y : ℕ) → (x ≡ y) ⊎ (x ≢ y)
    same_or x y = grind arith

    by : OthersWork w u → (x : ℕ) → x < 32 → (x ≡ u) ⊎ (x ≢ u) → WorkOf (unit_at w x).phase (unit_at w x).queue
    by others x less (inl same) =
        subst (λ (k : ℕ). WorkOf (unit_at w k).phase (unit_at w k).queue) (sym same)
        (work_by (unit_at w u).phase w line u refl doing.sound lt none)
    by others x less (inr other) = others.units x less other

-- WHAT IS DUE AT A UNIT
pub due_leads : EachActKeeps → (E : Type 0) (line u n : ℕ) (w : World) → u < 32 → Doing E u n w
    → Leads (Rests E (adapter_of u) n) w (due_acts line u w)
due_leads stays E line u n w lt doing =
    so_too (Doing E u n) (Rests E (adapter_of u) n) w (due_acts line u w)
    (due_turns stays E line u n (8 + 3 * length (unit_at w u).queue) w lt doing)
    (λ at. rests E line u n (after_all w (due_acts line u w)) lt at
    (due_over w line u (subst (λ (k : ℕ). u < k) (sym doing.sound.units) lt)))

-- a deed, and what is due behind it
pub begun_one : (line u : ℕ) (d : Deed) (w : World) → 0 < length (unit_at w u).queue
    → begun line u d w ≡ deed_at line u d w ∷ due_acts line u (after w (deed_at line u d w))
begun_one line u d w some = ap (λ (acts : List Act). followed acts (due_acts line u) w) (in_hand_one line u d w some)

pub begun_leads : EachActKeeps → (E : Type 0) (line u n : ℕ) (d : Deed) (w : World) → u < 32 → 0 < length (unit_at w u).queue
    → Done E line u n d w → Leads (Rests E (adapter_of u) n) w (begun line u d w)
begun_leads stays E line u n d w lt some done =
    subst (Leads (Rests E (adapter_of u) n) w) (sym (begun_one line u d w some))
    (one_more (Rests E (adapter_of u) n) w (deed_at line u d w) (due_acts line u (after w (deed_at line u d w))) done.allowed
    (due_leads stays E line u n (after w (deed_at line u d w)) lt done.doing))
