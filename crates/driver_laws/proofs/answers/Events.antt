-- The acts of an event ask for nothing and change no condition, but for the one act of an input that does.
use Rattle.std.proofs.Common.{◌≡◌, ℕ, zero, suc, ◌+◌, Bool, true, false, List, [], ◌∷◌, ◌++◌, length, Option, Some, None, refl, arith, rules}
use Rattle.disksort.specs.declared.Waiter.{Waiter}
use Rattle.trace_replay.specs.requests.Requests.{Request}
use Rattle.trace_replay.specs.Script as script
use Rattle.trace_replay.specs.Script.{Input}
use Rattle.trace_replay.specs.declared.requests.answers.AnswerKind.{AnswerKind}
use Rattle.driver_machine.specs.World.{World, Held, unit_at, adapter_at, held_in, slot_in_hand, unit_on, unit_of, adapter_of}
use Rattle.driver_machine.specs.Acts as deed
use Rattle.driver_machine.specs.Acts.{Act, Refuse, Submit, Change, Deed, Tried, after, after_all}
use Rattle.driver_machine.specs.Due.{next_of, command_of}
use Rattle.driver_machine.specs.Events.{Part, followed, and_then, when_by, each, go_on, until, in_hand_by, in_hand, due_by, next_acts, due_acts, begun, choose_by, choose_acts, adapter_start, submit_by, refusal_of, can_arrive, can_attend, or_nothing, arrive_acts, move_acts, data_interrupt, steps_taken, attention, drives, attended, attend_acts}
use Rattle.driver_machine.specs.Runs.{Run}
use Rattle.driver_laws.specs.answers.Counts.{IsWithin, noises_of, faults_of, bring_requests, bring_noises, bring_faults}
use Rattle.driver_laws.specs.answers.Laws.{EventsAdd, SubmissionsAdd}
use Rattle.driver_laws.proofs.answers.Acts.{within_more, acts_add, runs_add}

-- ACTS THAT BRING NOTHING
record BringNothing (acts : List Act) : Type 0 where
  requests : bring_requests acts ≡ 0
  noises : bring_noises acts ≡ 0
  faults : bring_faults acts ≡ 0

abbrev BringsNothing : Act → Type 0
BringsNothing (Submit line p h) = ⊥
BringsNothing (Change input) = ⊥
BringsNothing act = Unit {0}

none : BringNothing []
none = record { requests = refl; noises = refl; faults = refl }

one_more : (act : Act) (acts : List Act) → BringsNothing act → BringNothing acts → BringNothing (act ∷ acts)
one_more act acts h0 h1 = first_of (search rules, grind arith)

-- each act of a list brings nothing
abbrev AreBare : List Act → Type 0
AreBare [] = Unit {0}
AreBare (act ∷ acts) = BringsNothing act × AreBare acts

bare : (acts : List Act) → AreBare acts → BringNothing acts
bare [] are = none
bare (act ∷ acts) are = one_more act acts are.0 (bare acts are.1)

-- PARTS OF EVENTS whose acts bring nothing, in every world
abbrev IsBare : Part → Type 0
IsBare part = (w : World) → AreBare (part w)

append_bare : (xs ys : List Act) → AreBare xs → AreBare ys → AreBare (xs ++ ys)
append_bare [] ys first later = later
append_bare (x ∷ xs) ys first later = (first.0, append_bare xs ys first.1 later)

followed_bare : (acts : List Act) (next : Part) (w : World) → AreBare acts → IsBare next → AreBare (followed acts next w)
followed_bare acts next w first later = append_bare acts (next (after_all w acts)) first (later (after_all w acts))

when_bare : (b : Bool) (part : Part) (w : World) → IsBare part → AreBare (when_by b part w)
when_bare true part w is = is w
when_bare false part w is = tt

or_nothing_bare : (b : Bool) (line : ℕ) (part : Part) (w : World) → IsBare part → AreBare (or_nothing b line part w)
or_nothing_bare true line part w is = is w
or_nothing_bare false line part w is = (tt, tt)

each_bare : (part : ℕ → Part) (us : List ℕ) (w : World) → ((u : ℕ) → IsBare (part u)) → AreBare (each part us w)
each_bare part [] w are = tt
each_bare part (u ∷ us) w are = followed_bare (part u w) (each part us) w (are u w) (λ x. each_bare part us x are)

go_on_bare : (acts : List Act) (again : Part) (w : World) → AreBare acts → IsBare again → AreBare (go_on acts again w)
go_on_bare [] again w first later = tt
go_on_bare (act ∷ acts) again w first later = followed_bare (act ∷ acts) again w first later

until_bare : (n : ℕ) (part : Part) (w : World) → IsBare part → AreBare (until n part w)
until_bare zero part w is = tt
until_bare (suc n) part w is = go_on_bare (part w) (until n part) w (is w) (λ x. until_bare n part x is)

-- AT A UNIT
in_hand_by_bare : (queue : List Waiter) (line u : ℕ) (d : Deed) (w : World) → AreBare (in_hand_by queue line u d w)
in_hand_by_bare [] line u d w = tt
in_hand_by_bare (x ∷ rest) line u d w = (tt, tt)

in_hand_bare : (line u : ℕ) (d : Deed) (w : World) → AreBare (in_hand line u d w)
in_hand_bare line u d w = in_hand_by_bare (unit_at w u).queue line u d w

due_by_bare : (o : Option Deed) (line u : ℕ) (w : World) → AreBare (due_by o line u w)
due_by_bare None line u w = tt
due_by_bare (Some d) line u w = in_hand_bare line u d w

next_bare : (line u : ℕ) (w : World) → AreBare (next_acts line u w)
next_bare line u w = due_by_bare (next_of (unit_at w u) (held_in w (slot_in_hand (unit_at w u)))) line u w

due_bare : (line u : ℕ) (w : World) → AreBare (due_acts line u w)
due_bare line u w = until_bare _ (next_acts line u) w (next_bare line u)

begun_bare : (line u : ℕ) (d : Deed) (w : World) → AreBare (begun line u d w)
begun_bare line u d w = followed_bare (in_hand line u d w) (due_acts line u) w (in_hand_bare line u d w) (due_bare line u)

-- AT AN ADAPTER
choose_by_bare : (b : Bool) (queue : List ℕ) (line : ℕ) (w : World) → AreBare (choose_by b queue line w)
choose_by_bare true queue line w = tt
choose_by_bare false [] line w = tt
choose_by_bare false (u ∷ rest) line w = begun_bare line u (command_of (unit_at w u) (held_in w (slot_in_hand (unit_at w u)))) w

start_bare : (line a : ℕ) (w : World) → AreBare (adapter_start line a w)
start_bare line a w =
    until_bare (2 + length w.slots) (choose_acts line a) w (λ x. choose_by_bare (adapter_at x a).state.busy (adapter_at x a).queue line x)

interrupt_bare : (line a : ℕ) (w : World) → AreBare (data_interrupt line a w)
interrupt_bare line a w =
    when_bare (adapter_at w a).state.completion (begun line (unit_of w a) (deed.Intr (adapter_at w a).state.moved (adapter_at w a).state.verdict)) w
    (begun_bare line (unit_of w a) (deed.Intr (adapter_at w a).state.moved (adapter_at w a).state.verdict))

attention_bare : (line a drive : ℕ) (w : World) → AreBare (attention line a drive w)
attention_bare line a drive w =
    when_bare (unit_at w (unit_on a drive)).drive.attention
    (begun line (unit_on a drive) (deed.Attn (steps_taken (unit_at w (unit_on a drive)).phase))) w
    (begun_bare line (unit_on a drive) (deed.Attn (steps_taken (unit_at w (unit_on a drive)).phase)))

attended_bare : (line a : ℕ) (w : World) → AreBare (attended line a w)
attended_bare line a w =
    followed_bare (data_interrupt line a w) (and_then (each (attention line a) drives) (adapter_start line a)) w (interrupt_bare line a w)
    (λ x. followed_bare (each (attention line a) drives x) (adapter_start line a) x (each_bare (attention line a) drives x (attention_bare line a))
    (start_bare line a))

-- THE EVENTS
arrive_bare : (line u : ℕ) (w : World) → AreBare (arrive_acts line u w)
arrive_bare line u w = or_nothing_bare (can_arrive (unit_at w u)) line (in_hand line u deed.Arrive) w (in_hand_bare line u deed.Arrive)

move_bare : (line a : ℕ) (tried : Tried) (w : World) → AreBare (move_acts line a tried w)
move_bare line a tried w = first_of (search rules, grind arith)

attend_bare : (line a : ℕ) (w : World) → AreBare (attend_acts line a w)
attend_bare line a w = or_nothing_bare (can_attend (adapter_at w a)) line (attended line a) w (attended_bare line a)

-- acts that bring nothing leave the counts
none_added : (r n f : ℕ) (w : World) (acts : List Act) → AreBare acts → Run w acts → IsWithin r n f w → IsWithin r n f (after_all w acts)
none_added r n f w acts are run within =
    let nothing : BringNothing acts = bare acts are in
    within_more (r + bring_requests acts) (n + bring_noises acts) (f + bring_faults acts) r n f (after_all w acts)
    (omega (arith, nothing.requests)) (omega (arith, nothing.noises)) (omega (arith, nothing.faults)) (runs_add r n f w acts run within)

event_none : (r n f : ℕ) (w : World) (acts : List Act) → AreBare acts → Run w acts → IsWithin r n f w
    → IsWithin r (n + 0) (f + 0) (after_all w acts)
event_none r n f w acts are run within =
    within_more r n f r (n + 0) (f + 0) (after_all w acts) (omega arith) (omega arith) (omega arith) (none_added r n f w acts are run within)

-- a condition adds what it brings
condition : (r n f : ℕ) (w : World) (input : Input) → Run w (Change input ∷ []) → IsWithin r n f w
    → IsWithin r (n + noises_of input) (f + faults_of input) (after w (Change input))
condition r n f w input run within =
    within_more (r + 0) (n + noises_of input) (f + faults_of input) r (n + noises_of input) (f + faults_of input) (after w (Change input))
    (omega arith) (omega arith) (omega arith) (acts_add r n f w (Change input) run.0 within)

pub events_add : EventsAdd
events_add r n f w line (script.ArriveAt u) tried run within =
    event_none r n f w (arrive_acts line u w) (arrive_bare line u w) run within
events_add r n f w line (script.MoveAt a) tried run within =
    event_none r n f w (move_acts line a tried w) (move_bare line a tried w) run within
events_add r n f w line (script.AttendTo a) tried run within =
    event_none r n f w (attend_acts line a w) (attend_bare line a w) run within
events_add r n f w line (script.Submit request) tried run within = absurd run.0
events_add r n f w line script.Drain tried run within = absurd run.0
events_add r n f w line other tried run within = condition r n f w other run within

-- A SUBMISSION is refused, or one request joins.
submit_adds : (refused : Option AnswerKind) (q : Request) (line p : ℕ) (h : Held) (r n f : ℕ) (w : World) → Run w (submit_by refused q line p h w)
    → IsWithin r n f w → IsWithin (r + 1) n f (after_all w (submit_by refused q line p h w))
submit_adds (Some kind) q line p h r n f w run within =
    within_more r n f (r + 1) n f _ (omega arith) (omega arith) (omega arith)
    (none_added r n f w (submit_by (Some kind) q line p h w)
    (followed_bare (Refuse line q kind ∷ []) (adapter_start line (adapter_of q.unit)) w (tt, tt) (start_bare line (adapter_of q.unit))) run within)
submit_adds None q line p h r n f w run within =
    let now : World = after w (Submit line p h) in
    within_more (r + 1) (n + 0) (f + 0) (r + 1) n f _ (omega arith) (omega arith) (omega arith)
    (none_added (r + 1) (n + 0) (f + 0) now (and_then (due_acts line h.unit) (adapter_start line (adapter_of h.unit)) now)
    (followed_bare (due_acts line h.unit now) (adapter_start line (adapter_of h.unit)) now (due_bare line h.unit now) (start_bare line (adapter_of h.unit)))
    run.1 (acts_add r n f w (Submit line p h) run.0 within))

pub submissions_add : SubmissionsAdd
submissions_add r n f w line p q h run within = submit_adds (refusal_of q w) q line p h r n f w run within
