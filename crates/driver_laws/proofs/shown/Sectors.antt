-- Only the move of an adapter tells of a sector.
use Rattle.std.proofs.Common.{◌≡◌, ℕ, zero, suc, Bool, true, false, List, [], ◌∷◌, ◌++◌, Option, None, Some, subst, rules}
use Rattle.trace_replay.specs.requests.Requests.{Request}
use Rattle.trace_replay.specs.Moments.{Moment}
use Rattle.trace_replay.specs.Script as says
use Rattle.trace_replay.specs.Script.{Input}
use Rattle.trace_replay.specs.declared.requests.answers.AnswerKind.{AnswerKind}
use Rattle.driver_machine.specs.World.{World, UnitView, Held, adapter_of, unit_at, adapter_at, held_in, slot_in_hand, unit_on, unit_of}
use Rattle.driver_machine.specs.Acts as deed
use Rattle.driver_machine.specs.Acts.{Act, Refuse, Submit, Of, Deed, Tried, after, after_all}
use Rattle.driver_machine.specs.Due.{command_of, sensed}
use Rattle.driver_machine.specs.Events.{Part, followed, and_then, when_by, each, go_on, until, in_hand, next_acts, due_acts, begun, choose_by, choose_acts, adapter_start, submit_by, submit_acts, refusal_of, can_arrive, can_attend, or_nothing, data_interrupt, steps_taken, attention, drives, attended, event_acts}
use Rattle.driver_machine.specs.Lines.{lines_of, lines_of_all}
use Rattle.driver_laws.proofs.shown.Speaking.{IsUntried}
use Rattle.driver_laws.specs.rules.Beginnings.{AreNoSectors}

-- ACTS that try no sector
abbrev TriesNone : Act → Type 0
TriesNone (Of line u id d) = IsUntried d
TriesNone act = Unit {0}

abbrev TryNone : List Act → Type 0
TryNone [] = Unit {0}
TryNone (act ∷ acts) = TriesNone act × TryNone acts

-- of a part of an event, in any world
abbrev Untried : Part → Type 0
Untried part = (w : World) → TryNone (part w)

none_append : (xs ys : List Act) → TryNone xs → TryNone ys → TryNone (xs ++ ys)
none_append [] ys first later = later
none_append (x ∷ xs) ys first later = (first.0, none_append xs ys first.1 later)

none_front : (xs ys : List Act) → TryNone (xs ++ ys) → TryNone xs
none_front [] ys none = tt
none_front (x ∷ xs) ys none = (none.0, none_front xs ys none.1)

none_followed : (acts : List Act) (part : Part) (w : World) → TryNone acts → Untried part → TryNone (followed acts part w)
none_followed acts part w first later = none_append acts (part (after_all w acts)) first (later (after_all w acts))

none_when : (b : Bool) (part : Part) → Untried part → Untried (when_by b part)
none_when true part none w = none w
none_when false part none w = tt

none_each : (part : ℕ → Part) (us : List ℕ) → ((u : ℕ) → Untried (part u)) → Untried (each part us)
none_each part [] none w = tt
none_each part (u ∷ us) none w = none_followed (part u w) (each part us) w (none u w) (none_each part us none)

none_going_on : (acts : List Act) (again : Part) (w : World) → TryNone acts → Untried again → TryNone (go_on acts again w)
none_going_on [] again w first later = tt
none_going_on (act ∷ acts) again w first later = none_followed (act ∷ acts) again w first later

none_until : (n : ℕ) (part : Part) → Untried part → Untried (until n part)
none_until zero part none w = tt
none_until (suc n) part none w = none_going_on (part w) (until n part) w (none w) (none_until n part none)

none_or_nothing : (b : Bool) (line : ℕ) (part : Part) → Untried part → Untried (or_nothing b line part)
none_or_nothing true line part none w = none w
none_or_nothing false line part none w = (tt, tt)

-- AT A UNIT
none_in_hand : (line u : ℕ) (d : Deed) → IsUntried d → Untried (in_hand line u d)
none_in_hand line u d untried w = search rules

none_next : (line u : ℕ) → Untried (next_acts line u)
none_next line u w = search rules

none_due : (line u : ℕ) → Untried (due_acts line u)
none_due line u w = none_until _ (next_acts line u) (none_next line u) w

none_begun : (line u : ℕ) (d : Deed) → IsUntried d → Untried (begun line u d)
none_begun line u d untried w = none_followed (in_hand line u d w) (due_acts line u) w (none_in_hand line u d untried w) (none_due line u)

-- ADAPTER START
sensed_untried : (writes : Bool) (v : UnitView) (d : Deed) → IsUntried d → IsUntried (sensed writes v d)
sensed_untried writes v d untried = search rules

command_untried : (v : UnitView) (h : Held) → IsUntried (command_of v h)
command_untried v h = sensed_untried h.write v (deed.Move h.write _) tt

none_chosen : (line a : ℕ) → Untried (choose_acts line a)
none_chosen line a w = by (adapter_at w a).state.busy (adapter_at w a).queue
  where
    by : (busy : Bool) (queue : List ℕ) → TryNone (choose_by busy queue line w)
    by true queue = tt
    by false [] = tt
    by false (u ∷ rest) =
        none_begun line u (command_of (unit_at w u) (held_in w (slot_in_hand (unit_at w u)))) (command_untried (unit_at w u) (held_in w (slot_in_hand (unit_at w u)))) w

none_started : (line a : ℕ) → Untried (adapter_start line a)
none_started line a w = none_until _ (choose_acts line a) (none_chosen line a) w

-- A SUBMISSION
submitted_none : (r : Request) (line p : ℕ) (h : Held) (w : World) → TryNone (submit_acts r line p h w)
submitted_none r line p h w = by (refusal_of r w)
  where
    by : (refused : Option AnswerKind) → TryNone (submit_by refused r line p h w)
    by (Some kind) = none_followed (Refuse line r kind ∷ []) (adapter_start line (adapter_of r.unit)) w (tt, tt) (none_started line (adapter_of r.unit))
    by None =
        none_followed (Submit line p h ∷ []) (and_then (due_acts line h.unit) (adapter_start line (adapter_of h.unit))) w (tt, tt)
        (λ x. none_followed (due_acts line h.unit x) (adapter_start line (adapter_of h.unit)) x (none_due line h.unit x) (none_started line (adapter_of h.unit)))

-- AN EVENT
none_interrupted : (line a : ℕ) → Untried (data_interrupt line a)
none_interrupted line a w =
    none_when (adapter_at w a).state.completion (begun line (unit_of w a) (deed.Intr (adapter_at w a).state.moved (adapter_at w a).state.verdict))
    (none_begun line (unit_of w a) (deed.Intr (adapter_at w a).state.moved (adapter_at w a).state.verdict) tt) w

none_attention : (line a drive : ℕ) → Untried (attention line a drive)
none_attention line a drive w =
    none_when (unit_at w (unit_on a drive)).drive.attention (begun line (unit_on a drive) (deed.Attn (steps_taken (unit_at w (unit_on a drive)).phase)))
    (none_begun line (unit_on a drive) (deed.Attn (steps_taken (unit_at w (unit_on a drive)).phase)) tt) w

none_attended : (line a : ℕ) → Untried (attended line a)
none_attended line a w =
    none_followed (data_interrupt line a w) (and_then (each (attention line a) drives) (adapter_start line a)) w (none_interrupted line a w)
    (λ x. none_followed (each (attention line a) drives x) (adapter_start line a) x (none_each (attention line a) drives (none_attention line a) x)
    (none_started line a))

-- that is no move
abbrev pub IsNoMove : Input → Type 0
IsNoMove (says.MoveAt a) = ⊥
IsNoMove input = Unit {0}

event_none : (line : ℕ) (input : Input) (tried : Tried) (w : World) → IsNoMove input → TryNone (event_acts line input tried w)
event_none line (says.MoveAt a) tried w is = absurd is
event_none line (says.ArriveAt u) tried w is = none_or_nothing (can_arrive (unit_at w u)) line (in_hand line u deed.Arrive) (none_in_hand line u deed.Arrive tt) w
event_none line (says.AttendTo a) tried w is = none_or_nothing (can_attend (adapter_at w a)) line (attended line a) (none_attended line a) w
event_none line input tried w is = (tt, tt)

-- THEIR LINES tell of none.
no_sectors_append : (ms ns : List Moment) → AreNoSectors ms → AreNoSectors ns → AreNoSectors (ms ++ ns)
no_sectors_append [] ns first later = later
no_sectors_append (m ∷ ms) ns first later = (first.0, no_sectors_append ms ns first.1 later)

lines_none : (w : World) (act : Act) → TriesNone act → AreNoSectors (lines_of w act)
lines_none w act none = search rules

all_lines_none : (w : World) (acts : List Act) → TryNone acts → AreNoSectors (lines_of_all w acts)
all_lines_none w [] none = tt
all_lines_none w (act ∷ acts) none = no_sectors_append (lines_of w act) (lines_of_all (after w act) acts) (lines_none w act none.0) (all_lines_none (after w act) acts none.1)

-- a front of the acts of an event that is no move, and of a submission
pub event_quiet : (line : ℕ) (input : Input) (tried : Tried) (w : World) (done left : List Act) → IsNoMove input → event_acts line input tried w ≡ done ++ left
    → AreNoSectors (lines_of_all w done)
event_quiet line input tried w done left is all = all_lines_none w done (none_front done left (subst TryNone all (event_none line input tried w is)))

pub submission_quiet : (r : Request) (line p : ℕ) (h : Held) (w : World) (done left : List Act) → submit_acts r line p h w ≡ done ++ left → AreNoSectors (lines_of_all w done)
submission_quiet r line p h w done left all = all_lines_none w done (none_front done left (subst TryNone all (submitted_none r line p h w)))
