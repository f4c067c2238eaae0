-- What holds of each act of an event or of a submission, whatever the world.
use Rattle.std.proofs.Common.{ℕ, zero, suc, Bool, true, false, List, [], ◌∷◌, ◌++◌, Option, None, Some, rules}
use Rattle.trace_replay.specs.requests.Requests.{Request}
use Rattle.trace_replay.specs.Script.{Input}
use Rattle.trace_replay.specs.declared.requests.answers.AnswerKind.{AnswerKind}
use Rattle.driver_machine.specs.World.{World, Held, adapter_of, unit_at, adapter_at, held_in, slot_in_hand, unit_on, unit_of}
use Rattle.driver_machine.specs.Acts as deed
use Rattle.driver_machine.specs.Acts.{Act, Refuse, Submit, Of, Change, Nothing, Deed, Tried, after_all}
use Rattle.driver_machine.specs.Events.{Part, followed, and_then, when_by, each, go_on, until, in_hand, due_by, next_acts, due_acts, begun, choose_acts, adapter_start, submit_by, submit_acts, refusal_of, or_nothing, data_interrupt, steps_taken, attention, drives, attended, event_acts}
use Rattle.driver_machine.specs.Due.{next_of}

-- P holds of each act
abbrev pub AreAll : (Act → Type 0) → List Act → Type 0
AreAll P [] = Unit {0}
AreAll P (act ∷ acts) = P act × AreAll P acts

all-append : (P : Act → Type 0) (xs ys : List Act) → AreAll P xs → AreAll P ys → AreAll P (xs ++ ys)
all-append P [] ys first later = later
all-append P (x ∷ xs) ys first later = (first.0, all-append P xs ys first.1 later)

-- of a part, in any world
abbrev Always : (Act → Type 0) → Part → Type 0
Always P part = (w : World) → AreAll P (part w)

all_followed : (P : Act → Type 0) (acts : List Act) (part : Part) (w : World) → AreAll P acts → Always P part → AreAll P (followed acts part w)
all_followed P acts part w first later = all-append P acts (part (after_all w acts)) first (later (after_all w acts))

all_when : (P : Act → Type 0) (b : Bool) (part : Part) → Always P part → Always P (when_by b part)
all_when P true part all w = all w
all_when P false part all w = tt

all_each : (P : Act → Type 0) (part : ℕ → Part) (us : List ℕ) → ((u : ℕ) → Always P (part u)) → Always P (each part us)
all_each P part [] all w = tt
all_each P part (u ∷ us) all w = all_followed P (part u w) (each part us) w (all u w) (all_each P part us all)

all_going_on : (P : Act → Type 0) (acts : List Act) (again : Part) (w : World) → AreAll P acts → Always P again → AreAll P (go_on acts again w)
all_going_on P [] again w first later = tt
all_going_on P (act ∷ acts) again w first later = all_followed P (act ∷ acts) again w first later

all_until : (P : Act → Type 0) (n : ℕ) (part : Part) → Always P part → Always P (until n part)
all_until P zero part all w = tt
all_until P (suc n) part all w = all_going_on P (part w) (until n part) w (all w) (all_until P n part all)

-- what holds of the acts of each kind that an event is made of, beside a condition that changes
pub record Holds (P : Act → Type 0) : Type 0 where
  pub of : (line u id : ℕ) (deed : Deed) → P (Of line u id deed)
  pub nothing : (line : ℕ) → P (Nothing line)

module _ (P : Act → Type 0) (holds : Holds P) where
  -- AT A UNIT
  all_in_hand : (line u : ℕ) (d : Deed) → Always P (in_hand line u d)
  all_in_hand line u d w = search rules

  all_next : (line u : ℕ) → Always P (next_acts line u)
  all_next line u w = by (next_of (unit_at w u) (held_in w (slot_in_hand (unit_at w u))))
    where
      by : (next : Option Deed) → AreAll P (due_by next line u w)
      by None = tt
      by (Some d) = all_in_hand line u d w

  all_due : (line u : ℕ) → Always P (due_acts line u)
  all_due line u w = all_until P _ (next_acts line u) (all_next line u) w

  all_begun : (line u : ℕ) (d : Deed) → Always P (begun line u d)
  all_begun line u d w = all_followed P (in_hand line u d w) (due_acts line u) w (all_in_hand line u d w) (all_due line u)

  -- ADAPTER START
  all_chosen : (line a : ℕ) → Always P (choose_acts line a)
  all_chosen line a w = search (rules, all_begun)

  all_started : (line a : ℕ) → Always P (adapter_start line a)
  all_started line a w = all_until P _ (choose_acts line a) (all_chosen line a) w

  -- A SUBMISSION
  pub all_submitted : (r : Request) (line p : ℕ) (h : Held) (w : World) → ((kind : AnswerKind) → P (Refuse line r kind)) → P (Submit line p h)
      → AreAll P (submit_acts r line p h w)
  all_submitted r line p h w refuse submit = by (refusal_of r w)
    where
      by : (refused : Option AnswerKind) → AreAll P (submit_by refused r line p h w)
      by (Some kind) = all_followed P (Refuse line r kind ∷ []) (adapter_start line (adapter_of r.unit)) w (refuse kind, tt) (all_started line (adapter_of r.unit))
      by None =
          all_followed P (Submit line p h ∷ []) (and_then (due_acts line h.unit) (adapter_start line (adapter_of h.unit))) w (submit, tt)
          (λ x. all_followed P (due_acts line h.unit x) (adapter_start line (adapter_of h.unit)) x (all_due line h.unit x) (all_started line (adapter_of h.unit)))

  -- AN EVENT
  all_or_nothing : (b : Bool) (line : ℕ) (part : Part) → Always P part → Always P (or_nothing b line part)
  all_or_nothing true line part all w = all w
  all_or_nothing false line part all w = (holds.nothing line, tt)

  all_interrupted : (line a : ℕ) → Always P (data_interrupt line a)
  all_interrupted line a w =
      all_when P (adapter_at w a).state.completion (begun line (unit_of w a) (deed.Intr (adapter_at w a).state.moved (adapter_at w a).state.verdict))
      (all_begun line (unit_of w a) (deed.Intr (adapter_at w a).state.moved (adapter_at w a).state.verdict)) w

  all_attention : (line a drive : ℕ) → Always P (attention line a drive)
  all_attention line a drive w =
      all_when P (unit_at w (unit_on a drive)).drive.attention (begun line (unit_on a drive) (deed.Attn (steps_taken (unit_at w (unit_on a drive)).phase)))
      (all_begun line (unit_on a drive) (deed.Attn (steps_taken (unit_at w (unit_on a drive)).phase))) w

  all_attended : (line a : ℕ) → Always P (attended line a)
  all_attended line a w =
      all_followed P (data_interrupt line a w) (and_then (each (attention line a) drives) (adapter_start line a)) w (all_interrupted line a w)
      (λ x. all_followed P (each (attention line a) drives x) (adapter_start line a) x (all_each P (attention line a) drives (all_attention line a) x)
      (all_started line a))

  pub all_of_event : (line : ℕ) (input : Input) (tried : Tried) (w : World) → P (Change input) → AreAll P (event_acts line input tried w)
  all_of_event line input tried w change = search (rules, all_or_nothing, all_in_hand, all_attended)
