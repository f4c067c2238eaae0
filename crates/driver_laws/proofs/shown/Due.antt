-- A deed that is due at a unit: it is silent, or its line is the one that is due for the unit.
use Rattle.std.proofs.Common.{◌≡◌, ◌⊎◌, ℕ, ◌<◌, true, false, List, [], ◌∷◌, length, Some, refl, ap, arith, ◌∙◌, rules}
use Rattle.std.specs.Prelude.{drop}
use Rattle.hardware_table.specs.declared.Moved.{Moved}
use Rattle.hardware_table.specs.Adapter.{AdapterState}
use Rattle.trace_replay.specs.declared.seek_engine.Position.{Position}
use Rattle.trace_replay.specs.Moments as moment
use Rattle.trace_replay.specs.Events.{DueLine, wish_of, Act, act_after}
use Rattle.trace_replay.specs.Service.{head_of}
use Rattle.trace_replay.specs.Conversation as told
use Rattle.trace_replay.specs.Conversation.{Stage, Hand, goes_on, outcome}
use Rattle.trace_replay.specs.Replay.{UnitSeen, hand_of}
use Rattle.driver_machine.specs.declared.RetryStep.{RetryStep}
use Rattle.driver_machine.specs.declared.Task.{Task}
use Rattle.driver_machine.specs.declared.Task.TheVariants.{Judge, Steps}
use Rattle.driver_machine.specs.declared.Phase.{Phase}
use Rattle.driver_machine.specs.declared.Phase.TheVariants.{Waiting, Due}
use Rattle.driver_machine.specs.World.{UnitView, Held, slot_in_hand, transfer_of}
use Rattle.driver_machine.specs.Acts as deed
use Rattle.driver_machine.specs.Acts.{Deed}
use Rattle.driver_machine.specs.Due.{next_of, next_by, deed_for, start_by, position_of, steps_of, step_of}
use Rattle.driver_machine.specs.Lines.{deed_told}
use Rattle.driver_machine.proofs.Measure.{is_resting}
use Rattle.driver_machine.proofs.DueFacts.{none_some}
use Rattle.driver_laws.specs.shown.Stages.{stage_by, task_stage, lines_left, segment_seen, steps_seen}
use Rattle.driver_laws.specs.shown.Shows.{IsUnitSeen}
use Rattle.driver_laws.proofs.shown.Core.{Core, IsHead, core_of, head_is}
use Rattle.driver_laws.proofs.shown.Pack.{some_same}
use Rattle.driver_laws.proofs.shown.Showing.{is_coming}
use Rattle.driver_machine.proofs.Dues.{IsDue}

-- A DEED TELLS one line or none.
pub told_cases : (h : Held) (d : Deed) → (deed_told h d ≡ []) ⊎ ((line : moment.Deed) × (deed_told h d ≡ line ∷ []))
told_cases h d = search rules

-- one that no event begins
abbrev pub IsOwn : Deed → Type 0
IsOwn deed.Arrive = ⊥
IsOwn (deed.Sector block tried) = ⊥
IsOwn (deed.Intr moved last) = ⊥
IsOwn (deed.Attn taken) = ⊥
IsOwn other = Unit {0}

pub due_own : (v : UnitView) (h : Held) (d : Deed) → IsDue v h d → IsOwn d
due_own v h d due = search rules

-- its line is due for its unit, and leaves the event what it was to do
pub record IsOwnLine (unit : ℕ) (line : moment.Deed) : Type 0 where
  pub wish : wish_of unit line ≡ DueLine unit
  pub act : (act : Act) → act_after line act ≡ act

pub one_same : {x y : moment.Deed} → x ∷ [] ≡ y ∷ [] → x ≡ y
one_same e = grind (arith, e)

pub some_line : {x : moment.Deed} → [] ≡ x ∷ [] → ⊥
some_line e = grind (arith, e)

pub own_line : (unit : ℕ) (h : Held) (d : Deed) (line : moment.Deed) → IsOwn d → deed_told h d ≡ line ∷ [] → IsOwnLine unit line
own_line unit h d line own is = search rules

-- WHERE A LINE IS DUE a unit goes on.
saying_goes : (lines : List moment.Deed) (next : Stage) → goes_on next ≡ true → goes_on (told.saying lines next) ≡ true
saying_goes [] next goes = goes
saying_goes (line ∷ lines) next goes = refl

outcome_goes : (last : Moved) (h : Hand) (segment : told.Segment) → goes_on (outcome last h segment) ≡ true
outcome_goes last h segment = search rules

steps_go : (steps : List RetryStep) (segment : told.Segment) (taken : ℕ) (v : UnitView) (h : Held) (line : moment.Deed)
    → deed_told h (step_of steps taken v) ≡ line ∷ [] → goes_on (told.Steps (steps_seen steps) segment) ≡ true
steps_go [] segment taken v h line is = absurd (some_line is)
steps_go (step ∷ left) segment taken v h line is = refl

task_goes : (task : Task) (v : UnitView) (h : Held) (hand : Hand) (line : moment.Deed) → deed_told h (deed_for task v h) ≡ line ∷ []
    → goes_on (task_stage task v hand) ≡ true
task_goes (Judge moved last) v h hand line is = saying_goes (lines_left last v.drive hand (segment_seen (transfer_of v))) _ (outcome_goes last hand (segment_seen (transfer_of v)))
task_goes (Steps taken) v h hand line is = steps_go (drop taken (steps_of (transfer_of v))) (segment_seen (transfer_of v)) taken v h line is
task_goes other v h hand line is = refl

start_goes : (at : Position) (h : Held) (v : UnitView) (a : AdapterState) (seen : UnitSeen) (line : moment.Deed) → position_of v h ≡ at
    → deed_told h (start_by at v h) ≡ line ∷ [] → Core h v a seen → IsHead h v.drive.kind seen → v.phase ≡ Waiting → goes_on seen.stage ≡ true
start_goes at h v a seen line h0 is core head phase = search rules

due_goes_by : (phase : Phase) (h : Held) (v : UnitView) (a : AdapterState) (seen : UnitSeen) (d : Deed) (line : moment.Deed) → v.phase ≡ phase
    → next_by phase v h ≡ Some d → deed_told h d ≡ line ∷ [] → Core h v a seen → IsHead h v.drive.kind seen → goes_on seen.stage ≡ true
due_goes_by Waiting h v a seen d line at next is core head =
    start_goes (position_of v h) h v a seen line refl (ap (deed_told h) (some_same next) ∙ is) core head at
due_goes_by (Due task) h v a seen d line at next is core head =
    ap goes_on (core.stage ∙ ap (λ (p : Phase). stage_by p v a (hand_of seen) (head_of seen.service)) at)
    ∙ task_goes task v h (hand_of seen) line (ap (deed_told h) (some_same next) ∙ is)
due_goes_by other h v a seen d line at next is core head = absurd (none_some next)

pub due_goes : (held : ℕ → Held) (v : UnitView) (a : AdapterState) (seen : UnitSeen) (d : Deed) (line : moment.Deed)
    → IsUnitSeen held v a seen → 0 < length v.queue → next_of v (held (slot_in_hand v)) ≡ Some d
    → deed_told (held (slot_in_hand v)) d ≡ line ∷ [] → goes_on seen.stage ≡ true
due_goes held v a seen d line is some next tells =
    due_goes_by v.phase (held (slot_in_hand v)) v a seen d line refl next tells (core_of held v a seen is) (head_is held v a seen is some)

-- WHERE NOTHING IS DUE it does not, and is not coming.
pub record IsQuiet (phase : Phase) (stage : Stage) : Type 0 where
  pub goes : goes_on stage ≡ false
  pub coming : is_coming phase stage ≡ false

pub rest_quiet : (phase : Phase) (held : ℕ → Held) (v : UnitView) (a : AdapterState) (seen : UnitSeen) → IsUnitSeen held v a seen
    → v.phase ≡ phase → (is_resting phase ≡ true) ⊎ ((phase ≡ Waiting) × (v.queue ≡ [])) → IsQuiet phase seen.stage
rest_quiet phase held v a seen is at rests = search rules
