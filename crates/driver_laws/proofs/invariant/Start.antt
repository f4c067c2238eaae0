-- Adapter start: its fuel is never short, and behind it the adapter is busy or no unit waits for it.
use Rattle.std.proofs.Common.{◌≡◌, ◌⊎◌, inl, inr, ℕ, zero, suc, ◌+◌, ◌-◌, ◌<◌, ◌≤◌, Bool, true, false, List, [], ◌∷◌, length, drop, Option, Some, None, refl, sym, ap, subst, arith, ◌∙◌, get_or-set_same, rules}
use Rattle.std.specs.Prelude.{◌&&◌, slice_index_or, unwrap_or, sum_by, ◌*◌}
use Rattle.std.proofs.lemmas.List.{get_or_past}
use Rattle.std.proofs.lemmas.List.Sums.{sum_by-le}
use Rattle.drive_registers.specs.declared.Function.TheVariants as function
use Rattle.hardware_table.specs.Functions.{performed}
use Rattle.transfer_engine.specs.State.{segment_of}
use Rattle.driver_machine.specs.declared.Phase.TheVariants.{Queued, Transferring}
use Rattle.driver_machine.specs.World.{World, UnitView, AdapterView, Held, adapter_of, unit_at, adapter_at, slot_at, held_in, slot_in_hand, transfer_of, new_adapter_view, no_held}
use Rattle.driver_machine.specs.Acts as deed
use Rattle.driver_machine.specs.Acts.{Act, Deed, Scene, effect, scene_of, with_drive, after}
use Rattle.driver_machine.specs.Due.{sensed, command_of}
use Rattle.driver_machine.specs.Events.{Part, followed, go_on, until, begun, choose_by, choose_acts, adapter_start}
use Rattle.driver_machine.specs.Guards.{May, IsChosen}
use Rattle.driver_machine.proofs.Measure.{is_resting}
use Rattle.driver_machine.specs.Sound.{Sound, Among, is_waiting}
use Rattle.driver_machine.proofs.DueFacts.{false_true}
use Rattle.driver_machine.proofs.Until.{resting, until_none}
use Rattle.driver_laws.specs.invariant.InvariantKept.{EachActKeeps}
use Rattle.driver_laws.proofs.invariant.Leads.{Leads, nothing, one_more, then_part, so_too}
use Rattle.driver_machine.specs.Free.{needs_free, IsFree}
use Rattle.driver_laws.proofs.invariant.Deeds.{one_in, Doing, Done, deed_at, outstanding, ended_by, fewer, deed_done, head_of}
use Rattle.driver_laws.proofs.invariant.Frame.{slot_there}
use Rattle.driver_laws.proofs.invariant.Due.{UnitsWork, Rests, rests, begun_one, begun_leads}

-- THE DEEDS that an adapter takes a unit with: the command, PACK in front of it, or an end
abbrev pub IsTurn : UnitView → Held → Deed → Type 0
IsTurn v h (deed.Move write segment) = Unit {0}
IsTurn v h deed.Pack = (v.drive.online ≡ true) × (h.write && v.drive.locked ≡ false)
IsTurn v h (deed.End kind) = Unit {0}
IsTurn v h other = ⊥

command_turn : (v : UnitView) (h : Held) → IsTurn v h (command_of v h)
command_turn v h = first_of (search rules, grind arith)

may_turn : (u : ℕ) (d : Deed) (s : Scene) → IsTurn s.unit s.held d → IsChosen u d s → May u d s
may_turn u (deed.Move write segment) s turn chosen = (inr chosen, chosen.free)
may_turn u deed.Pack s turn chosen = inr chosen
may_turn u (deed.End kind) s turn chosen = inr chosen
may_turn u other s turn chosen = absurd turn

free_turn : (line u p : ℕ) (d : Deed) (s : Scene) → IsTurn s.unit s.held d → s.unit.phase ≡ Queued
    → IsFree (effect line u p d s).unit (effect line u p d s).adapter
free_turn line u p (deed.Move write segment) s turn queued = λ needs. absurd (false_true needs)
free_turn line u p deed.Pack s turn queued = λ needs. absurd (false_true (sym (ap needs_free queued) ∙ needs))
free_turn line u p (deed.End kind) s turn queued = λ needs. absurd (false_true needs)
free_turn line u p other s turn queued = absurd turn

-- THE FIRST UNIT of an adapter that is free
pub record IsFirst (E : Type 0) (u : ℕ) (rest : List ℕ) (w : World) : Type 0 where
  pub sound : Sound w
  pub unit : u < 32
  pub phase : (unit_at w u).phase ≡ Queued
  pub queue : (adapter_at w (adapter_of u)).queue ≡ u ∷ rest
  pub busy : (adapter_at w (adapter_of u)).state.busy ≡ false
  pub work : E → UnitsWork w (adapter_of u)

abbrev pub turn_of : World → ℕ → Deed
turn_of w u = command_of (unit_at w u) (held_in w (slot_in_hand (unit_at w u)))

some_asked : (w : World) (u : ℕ) → Sound w → u < 32 → (unit_at w u).phase ≡ Queued → 0 < length (unit_at w u).queue
some_asked w u sound lt queued = (sound.each_unit u lt).head (ap is_waiting queued)

turn_done : EachActKeeps → (E : Type 0) (line u n : ℕ) (rest : List ℕ) (d : Deed) (w : World) → IsFirst E u rest w → turn_of w u ≡ d
    → outstanding w ≤ n + ended_by d → Done E line u n d w
turn_done stays E line u n rest d w first is few =
    let turn : IsTurn (unit_at w u) (held_in w (slot_in_hand (unit_at w u))) d =
    subst (IsTurn (unit_at w u) (held_in w (slot_in_hand (unit_at w u)))) is (command_turn (unit_at w u) (held_in w (slot_in_hand (unit_at w u)))) in
    deed_done stays E line u n d w first.sound first.unit (some_asked w u first.sound first.unit first.phase)
    (may_turn u d (scene_of w u) turn
    (record {
      phase = first.phase;
      first = first.queue ∙ ap (λ (l : List ℕ). u ∷ l) (sym (ap (λ (l : List ℕ). drop 1 l) first.queue));
      free = first.busy;
      due = sym is;
    }))
    (free_turn line u (slot_in_hand (unit_at w u)) d (scene_of w u) turn first.phase)
    (λ e. record { units = λ x less other. (first.work e).units x less; adapters = (first.work e).adapters })
    few

choose_is : (E : Type 0) (line u : ℕ) (rest : List ℕ) (d : Deed) (w : World) → IsFirst E u rest w → turn_of w u ≡ d
    → choose_acts line (adapter_of u) w ≡ begun line u d w
choose_is E line u rest d w first is = first_of (search rules, grind arith)

-- WHERE THE ADAPTER HAS NOTHING TO CHOOSE its start is over.
pub record IsOver (E : Type 0) (line a n : ℕ) (w : World) : Type 0 where
  pub rests : Rests E a n w
  pub none : choose_acts line a w ≡ []

pub until_stop : (fuel : ℕ) (part : Part) (w : World) → part w ≡ [] → until fuel part w ≡ []
until_stop zero part w none = refl
until_stop (suc fuel) part w none = ap (λ (acts : List Act). go_on acts (until fuel part) w) none

stop : (E : Type 0) (line a n fuel : ℕ) (w : World) → IsOver E line a n w → Leads (IsOver E line a n) w (until fuel (choose_acts line a) w)
stop E line a n fuel w over =
    subst (Leads (IsOver E line a n) w) (sym (until_stop fuel (choose_acts line a) w over.none)) (nothing (IsOver E line a n) w over)

busy_none : (line a : ℕ) (w : World) → (adapter_at w a).state.busy ≡ true → choose_acts line a w ≡ []
busy_none line a w busy = ap (λ (b : Bool). choose_by b (adapter_at w a).queue line w) busy

-- a deed behind which nothing is due at the unit
quiet_turn : (line u : ℕ) (d : Deed) (w : World) → 0 < length (unit_at w u).queue
    → is_resting (unit_at (after w (deed_at line u d w)) u).phase ≡ true → begun line u d w ≡ deed_at line u d w ∷ []
quiet_turn line u d w some quiet =
    begun_one line u d w some
    ∙ ap (λ (acts : List Act). deed_at line u d w ∷ acts)
    (until_none (8 + 3 * length (unit_at (after w (deed_at line u d w)) u).queue) (after w (deed_at line u d w)) line u
    (resting (after w (deed_at line u d w)) line u quiet))

-- THE COMMAND is the last turn
last_turn : EachActKeeps → (E : Type 0) (line u n fuel : ℕ) (rest : List ℕ) (write : Bool) (segment : _) (w : World) → IsFirst E u rest w
    → turn_of w u ≡ deed.Move write segment → outstanding w ≤ n
    → Leads (IsOver E line (adapter_of u) n) w (until (suc fuel) (choose_acts line (adapter_of u)) w)
last_turn stays E line u n fuel rest write segment w first is few =
    let some : 0 < length (unit_at w u).queue = some_asked w u first.sound first.unit first.phase in
    let done : Done E line u n (deed.Move write segment) w =
    turn_done stays E line u n rest (deed.Move write segment) w first is (numbers (outstanding w) n few) in
    let acts_are : choose_acts line (adapter_of u) w ≡ deed_at line u (deed.Move write segment) w ∷ [] =
    choose_is E line u rest (deed.Move write segment) w first is
    ∙ quiet_turn line u (deed.Move write segment) w some (ap (λ (v : UnitView). is_resting v.phase) done.unit) in
    let busy : (adapter_at (after w (deed_at line u (deed.Move write segment) w)) (adapter_of u)).state.busy ≡ true =
    ap (λ (a : AdapterView). a.state.busy) done.adapter in
    subst (λ (acts : List Act). Leads (IsOver E line (adapter_of u) n) w (go_on acts (until fuel (choose_acts line (adapter_of u))) w)) (sym acts_are)
    (one_more (IsOver E line (adapter_of u) n) w (deed_at line u (deed.Move write segment) w) _ done.allowed
    (stop E line (adapter_of u) n fuel (after w (deed_at line u (deed.Move write segment) w))
    (record {
      rests = behind (after w (deed_at line u (deed.Move write segment) w)) done.doing
          (ap (λ (v : UnitView). v.phase) done.unit);
      none = busy_none line (adapter_of u) (after w (deed_at line u (deed.Move write segment) w)) busy;
    })))
  where
    numbers : (old n : ℕ) → old ≤ n → old ≤ n + 0
    numbers old n few = omega (arith, few)

    behind : (x : World) → Doing E u n x → (unit_at x u).phase ≡ Transferring → Rests E (adapter_of u) n x
    behind x doing phase = rests E line u n x first.unit doing (resting x line u (ap is_resting phase))

-- PACK comes in front of it
sensed_goes : (writes : Bool) (v : UnitView) (command : Deed) → v.drive.online ≡ true → writes && v.drive.locked ≡ false
    → v.drive.valid ≡ true → sensed writes v command ≡ command
sensed_goes writes v command on free valid = first_of (search rules, grind arith)

pack_turn : EachActKeeps → (E : Type 0) (line u n fuel : ℕ) (rest : List ℕ) (w : World) → IsFirst E u rest w
    → turn_of w u ≡ deed.Pack → IsTurn (unit_at w u) (held_in w (slot_in_hand (unit_at w u))) deed.Pack → outstanding w ≤ n
    → Leads (IsOver E line (adapter_of u) n) w (until (suc (suc fuel)) (choose_acts line (adapter_of u)) w)
pack_turn stays E line u n fuel rest w first is turn few =
    let some : 0 < length (unit_at w u).queue = some_asked w u first.sound first.unit first.phase in
    let done : Done E line u n deed.Pack w = turn_done stays E line u n rest deed.Pack w first is (numbers (outstanding w) n few) in
    let phase : (unit_at (after w (deed_at line u deed.Pack w)) u).phase ≡ Queued =
    ap (λ (v : UnitView). v.phase) done.unit ∙ first.phase in
    let acts_are : choose_acts line (adapter_of u) w ≡ deed_at line u deed.Pack w ∷ [] =
    choose_is E line u rest deed.Pack w first is ∙ quiet_turn line u deed.Pack w some (ap is_resting phase) in
    subst (λ (acts : List Act). Leads (IsOver E line (adapter_of u) n) w (go_on acts (until (suc fuel) (choose_acts line (adapter_of u))) w))
    (sym acts_are)
    (one_more (IsOver E line (adapter_of u) n) w (deed_at line u deed.Pack w) _ done.allowed
    (last_turn stays E line u n fuel rest (held_in w (slot_in_hand (unit_at w u))).write (segment_of (transfer_of (unit_at w u)))
    (after w (deed_at line u deed.Pack w))
    (record {
      sound = done.doing.sound;
      unit = first.unit;
      phase = phase;
      queue = ap (λ (a : AdapterView). a.queue) done.adapter ∙ first.queue;
      busy = ap (λ (a : AdapterView). a.state.busy) done.adapter ∙ first.busy;
      work = λ e. (rests E line u n (after w (deed_at line u deed.Pack w)) first.unit done.doing
          (resting (after w (deed_at line u deed.Pack w)) line u (ap is_resting phase))).work e;
    })
    (next_is some done.unit) done.doing.few))
  where
    numbers : (old n : ℕ) → old ≤ n → old ≤ n + 0
    numbers old n few = omega (arith, few)

    next_is : 0 < length (unit_at w u).queue
        → unit_at (after w (deed_at line u deed.Pack w)) u ≡ with_drive (performed function.Pack) (unit_at w u)
        → turn_of (after w (deed_at line u deed.Pack w)) u
        ≡ deed.Move (held_in w (slot_in_hand (unit_at w u))).write (segment_of (transfer_of (unit_at w u)))
    next_is some unit_is =
        let slot_is : slot_at (after w (deed_at line u deed.Pack w)) (slot_in_hand (unit_at w u)) ≡ Some (held_in w (slot_in_hand (unit_at w u))) =
        get_or-set_same w.slots (slot_in_hand (unit_at w u)) (Some (held_in w (slot_in_hand (unit_at w u)))) None
        (slot_there w.slots (slot_in_hand (unit_at w u)) (head_of w u first.sound first.unit some).held
        (head_of w u first.sound first.unit some).slot) in
        ap (λ (v : UnitView). command_of v (held_in (after w (deed_at line u deed.Pack w)) (slot_in_hand v))) unit_is
        ∙ ap (λ (o : Option Held). command_of (with_drive (performed function.Pack) (unit_at w u)) (unwrap_or o no_held)) slot_is
        ∙ sensed_goes (held_in w (slot_in_hand (unit_at w u))).write (with_drive (performed function.Pack) (unit_at w u))
        (deed.Move (held_in w (slot_in_hand (unit_at w u))).write (segment_of (transfer_of (unit_at w u)))) turn.0 turn.1 refl

-- AN END takes one request away
go_on_some : (acts : List Act) (act : Act) (rest : List Act) (again : Part) (w : World) → acts ≡ act ∷ rest → go_on acts again w ≡ followed acts again w
go_on_some acts act rest again w is = subst (λ (l : List Act). go_on l again w ≡ followed l again w) (sym is) refl

end_turn : EachActKeeps → (E : Type 0) (line u n m fuel : ℕ) (rest : List ℕ) (kind : _) (w : World) → IsFirst E u rest w
    → turn_of w u ≡ deed.End kind → outstanding w ≤ m + 1
    → ((x : World) → Rests E (adapter_of u) m x → Leads (IsOver E line (adapter_of u) n) x (until fuel (choose_acts line (adapter_of u)) x))
    → Leads (IsOver E line (adapter_of u) n) w (until (suc fuel) (choose_acts line (adapter_of u)) w)
end_turn stays E line u n m fuel rest kind w first is few later =
    let some : 0 < length (unit_at w u).queue = some_asked w u first.sound first.unit first.phase in
    let done : Done E line u m (deed.End kind) w = turn_done stays E line u m rest (deed.End kind) w first is few in
    subst (λ (acts : List Act). Leads (IsOver E line (adapter_of u) n) w (go_on acts (until fuel (choose_acts line (adapter_of u))) w))
    (sym (choose_is E line u rest (deed.End kind) w first is))
    (subst (Leads (IsOver E line (adapter_of u) n) w)
    (sym (go_on_some (begun line u (deed.End kind) w) _ _ (until fuel (choose_acts line (adapter_of u))) w (begun_one line u (deed.End kind) w some)))
    (then_part (Rests E (adapter_of u) m) (IsOver E line (adapter_of u) n) w (begun line u (deed.End kind) w)
    (until fuel (choose_acts line (adapter_of u))) (begun_leads stays E line u m (deed.End kind) w first.unit some done) later))

-- ALL TURNS
turn_by : EachActKeeps → (E : Type 0) (line u n fuel : ℕ) (rest : List ℕ) (d : Deed) (w : World) → IsFirst E u rest w → turn_of w u ≡ d
    → IsTurn (unit_at w u) (held_in w (slot_in_hand (unit_at w u))) d → outstanding w ≤ n → outstanding w + 2 ≤ suc fuel
    → ((x : World) → Rests E (adapter_of u) n x → outstanding x + 2 ≤ fuel
    → Leads (IsOver E line (adapter_of u) n) x (until fuel (choose_acts line (adapter_of u)) x))
    → Leads (IsOver E line (adapter_of u) n) w (until (suc fuel) (choose_acts line (adapter_of u)) w)
turn_by stays E line u n fuel rest (deed.Move write segment) w first is turn few enough later =
    last_turn stays E line u n fuel rest write segment w first is few
turn_by stays E line u n zero rest deed.Pack w first is turn few enough later = absurd (grind (arith, enough))
turn_by stays E line u n (suc fuel) rest deed.Pack w first is turn few enough later =
    pack_turn stays E line u n fuel rest w first is turn few
turn_by stays E line u n fuel rest (deed.End kind) w first is turn few enough later =
    let falls : outstanding (after w (deed_at line u (deed.End kind) w)) + 1 ≤ outstanding w =
    fewer w line u (deed.End kind) first.sound first.unit (some_asked w u first.sound first.unit first.phase) in
    end_turn stays E line u n (outstanding w - 1) fuel rest kind w first is (less (outstanding w))
    (λ x. λ at. later x (record { sound = at.sound; work = at.work; few = most (outstanding x) (outstanding w) n at.few few })
    (left (outstanding x) (outstanding (after w (deed_at line u (deed.End kind) w))) (outstanding w) fuel at.few falls enough))
  where
    less : (k : ℕ) → k ≤ k - 1 + 1
    less k = omega arith

    most : (x k n : ℕ) → x ≤ k - 1 → k ≤ n → x ≤ n
    most x k n at few = omega (arith, at, few)

    left : (x y k fuel : ℕ) → x ≤ k - 1 → y + 1 ≤ k → k + 2 ≤ suc fuel → x + 2 ≤ fuel
    left x y k fuel at falls enough = omega (arith, at, falls, enough)
turn_by stays E line u n fuel rest other w first is turn few enough later = absurd turn

turn : EachActKeeps → (E : Type 0) (line a n fuel : ℕ) (busy : Bool) (queue : List ℕ) (w : World) → a < 4
    → (adapter_at w a).state.busy ≡ busy → (adapter_at w a).queue ≡ queue → Rests E a n w → outstanding w + 2 ≤ suc fuel
    → ((x : World) → Rests E a n x → outstanding x + 2 ≤ fuel → Leads (IsOver E line a n) x (until fuel (choose_acts line a) x))
    → Leads (IsOver E line a n) w (until (suc fuel) (choose_acts line a) w)
turn stays E line a n fuel true queue w lt busy is at enough later =
    stop E line a n (suc fuel) w (record { rests = at; none = busy_none line a w busy })
turn stays E line a n fuel false [] w lt busy is at enough later =
    stop E line a n (suc fuel) w (record {
      rests = at;
      none = ap (λ (b : Bool). choose_by b (adapter_at w a).queue line w) busy ∙ ap (λ (l : List ℕ). choose_by false l line w) is;
    })
turn stays E line a n fuel false (u ∷ rest) w lt busy is at enough later =
    let waits : (u < 32) × (adapter_of u ≡ a) × ((unit_at w u).phase ≡ Queued) =
    (at.sound.each_adapter a lt).waits u (subst (Among u) (sym is) (inl refl)) in
    of_its waits.0 waits.1 waits.2
  where
    of_its : u < 32 → adapter_of u ≡ a → (unit_at w u).phase ≡ Queued → Leads (IsOver E line a n) w (until (suc fuel) (choose_acts line a) w)
    of_its less own queued =
        subst (λ (b : ℕ). Leads (IsOver E line b n) w (until (suc fuel) (choose_acts line b) w)) own
        (turn_by stays E line u n fuel rest (turn_of w u) w
        (record {
          sound = at.sound;
          unit = less;
          phase = queued;
          queue = ap (λ (b : ℕ). (adapter_at w b).queue) own ∙ is;
          busy = ap (λ (b : ℕ). (adapter_at w b).state.busy) own ∙ busy;
          work = λ e. subst (UnitsWork w) (sym own) (at.work e);
        })
        refl (command_turn (unit_at w u) (held_in w (slot_in_hand (unit_at w u)))) at.few enough
        (subst (λ (b : ℕ). (x : World) → Rests E b n x → outstanding x + 2 ≤ fuel → Leads (IsOver E line b n) x (until fuel (choose_acts line b) x))
        (sym own) later))

turns : EachActKeeps → (E : Type 0) (line a n fuel : ℕ) (w : World) → a < 4 → Rests E a n w → outstanding w + 2 ≤ fuel
    → Leads (IsOver E line a n) w (until fuel (choose_acts line a) w)
turns stays E line a n zero w lt at enough = absurd (grind (arith, enough))
turns stays E line a n (suc fuel) w lt at enough =
    turn stays E line a n fuel (adapter_at w a).state.busy (adapter_at w a).queue w lt refl refl at enough
    (λ x. λ now. λ more. turns stays E line a n fuel x lt now more)

-- behind it no unit waits for an adapter that is free
none_waits : (line a : ℕ) (queue : List ℕ) (w : World) → Sound w → a < 4 → (adapter_at w a).state.busy ≡ false → (adapter_at w a).queue ≡ queue
    → choose_acts line a w ≡ [] → queue ≡ []
none_waits line a queue w h0 h1 h2 h3 h4 = first_of (search rules, grind arith)

pub no_more : (line a : ℕ) (w : World) → Sound w → a < 4 → choose_acts line a w ≡ [] → (adapter_at w a).state.busy ≡ false → (adapter_at w a).queue ≡ []
no_more line a w sound lt none busy = none_waits line a (adapter_at w a).queue w sound lt busy refl none

-- ADAPTER START
one_most : (o : Option Held) → one_in o ≤ 1
one_most o = first_of (search rules, grind arith)

most_out : (slots : List (Option Held)) → sum_by one_in slots ≤ length slots
most_out slots =
    let few : sum_by one_in slots ≤ length slots * 1 = sum_by-le one_in 1 slots (λ k. λ d. λ less. one_most (slice_index_or slots k d)) in
    numbers (sum_by one_in slots) (length slots) few
  where
    numbers : (sum slots : ℕ) → sum ≤ slots * 1 → sum ≤ slots
    numbers sum slots few = omega (arith, few)

pub start_leads : EachActKeeps → (E : Type 0) (line a n : ℕ) (w : World) → a < 4 → Rests E a n w
    → Leads (IsOver E line a n) w (adapter_start line a w)
start_leads stays E line a n w lt at =
    turns stays E line a n (2 + length w.slots) w lt at (numbers (outstanding w) (length w.slots) (most_out w.slots))
  where
    numbers : (out slots : ℕ) → out ≤ slots → out + 2 ≤ 2 + slots
    numbers out slots most = omega (arith, most)

-- whichever adapter: one that is none of the four has no unit that waits
start_where : EachActKeeps → (line a : ℕ) (w : World) → Sound w → (a < 4) ⊎ (4 ≤ a)
    → Leads (λ (x : World). choose_acts line a x ≡ []) w (adapter_start line a w)
start_where stays line a w sound (inl four) =
    so_too (IsOver ⊥ line a (outstanding w)) (λ (x : World). choose_acts line a x ≡ []) w (adapter_start line a w)
    (start_leads stays ⊥ line a (outstanding w) w four (record { sound = sound; work = λ e. absurd e; few = least (outstanding w) }))
    (λ over. over.none)
  where
    least : (n : ℕ) → n ≤ n
    least n = omega arith
start_where stays line a w sound (inr more) =
    let past : adapter_at w a ≡ new_adapter_view =
    get_or_past w.adapters a new_adapter_view (subst (λ (k : ℕ). k ≤ a) (sym sound.adapters) more) in
    let none : choose_acts line a w ≡ [] = ap (λ (v : AdapterView). choose_by v.state.busy v.queue line w) past in
    subst (Leads (λ (x : World). choose_acts line a x ≡ []) w)
    (sym (until_stop (2 + length w.slots) (choose_acts line a) w none)) (nothing (λ (x : World). choose_acts line a x ≡ []) w none)

pub start_is : EachActKeeps → (line a : ℕ) (w : World) → Sound w → Leads (λ (x : World). choose_acts line a x ≡ []) w (adapter_start line a w)
start_is stays line a w sound = start_where stays line a w sound (less_or a)
  where
    less_or : (a : ℕ) → (a < 4) ⊎ (4 ≤ a)
    less_or a = grind arith
