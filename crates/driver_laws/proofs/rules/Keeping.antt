-- What every state keeps that a legal beginning reaches is kept by each moment.
use Rattle.std.proofs.Common.{◌≡◌, ◌≢◌, ◌⊎◌, inl, inr, ℕ, ◌&&◌, nat_lt, Bool, true, false, List, Option, None, Some, refl, sym, ap, ◌∙◌, subst, rules}
use Rattle.std.specs.Prelude.{if◌then◌else◌, find}
use Rattle.std.proofs.lemmas.Bool.Decides.{eqb_tells}
use Rattle.pack_geometry.specs.Pack as model
use Rattle.hardware_table.specs.Adapter.{AdapterState}
use Rattle.hardware_table.specs.Drive.{is_positioning}
use Rattle.trace_replay.specs.requests.Requests.{Rejection, rejection_answer}
use Rattle.trace_replay.specs.Moments.{Deed, Search, End, Told}
use Rattle.trace_replay.specs.Adapters.{AdapterSeen, can_move}
use Rattle.trace_replay.specs.Conversation.{goes_on}
use Rattle.trace_replay.specs.Events.{Act, Refusing, Event, Wish, NoLine, DueLine, Arrival, SectorLine, Interrupt, Attention, Refusal, IdleLine, wish_of, wanted, act_after, act_of_arrival, act_of_move, act_of_attend, can_attend, adapters_there, is_no_line}
use Rattle.trace_replay.specs.Replay.{Replay, UnitSeen, with_state, next_wish, LineMay, ToldMay, unit_after, replay_told, drained, act_drained}
use Rattle.trace_replay.specs.History.{lines_after}
use Rattle.trace_replay.proofs.Unchanged.{either, with_other}
use Rattle.driver_laws.specs.rules.Stands.{Setup}
use Rattle.driver_laws.proofs.rules.MachineUnits.{IsFirst}
use Rattle.trace_replay.proofs.Histories.{WasMarked}
use Rattle.trace_replay.proofs.Unusable.{marked_only, was_told}

-- what holds of one state and of all others holds of all after one of them changed
pub with_each : {T : Type 0} (P : ℕ → T → Type 0) (states : ℕ → T) (k : ℕ) (state : T) → P k state → ((x : ℕ) → x ≢ k → P x (states x)) → (x : ℕ) → P x (with_state states k state x)
with_each P states k state mine others x = search rules

-- ---- wishes
unit_in : Wish → ℕ
unit_in (DueLine unit) = unit
unit_in (Arrival unit) = unit
unit_in (SectorLine unit) = unit
unit_in (Interrupt unit) = unit
unit_in (Attention unit) = unit
unit_in (Refusal unit id why) = unit
unit_in other = 0

sort_in : Wish → ℕ
sort_in NoLine = 1
sort_in (Refusal unit id why) = 2
sort_in IdleLine = 3
sort_in wish = 0

wish_unit : (unit : ℕ) (deed : Deed) → (unit_in (wish_of unit deed) ≡ unit) × (sort_in (wish_of unit deed) ≡ 0)
unfolding unit_in sort_in
wish_unit unit (Search c y) = (refl, refl)
wish_unit unit other = (refl, refl)

-- where the speaker goes on, its line comes next
goes_by : (adapters : ℕ → AdapterSeen) (e : Event) (goes : Bool) (unit : ℕ) (deed : Deed) → wanted adapters e goes ≡ wish_of unit deed → (goes ≡ false) ⊎ (e.speaker ≡ unit)
unfolding unit_in sort_in
goes_by adapters e true unit deed is = inr (ap unit_in is ∙ (wish_unit unit deed).0)
goes_by adapters e false unit deed is = inl refl

-- a refusal is no line of a unit
abbrev pub IsCalm : Act → Type 0
IsCalm (Refusing unit id why) = ⊥
IsCalm act = Unit {0}

pub calm_first : (act : Act) (goes : Bool) → IsCalm act → IsFirst act goes
calm_first (Refusing u i why) goes is = absurd is
calm_first other goes is = tt

pub calm_line : (adapters : ℕ → AdapterSeen) (line : ℕ) (drains between : Bool) (speaker : ℕ) (act : Act) (goes : Bool) (unit : ℕ) (deed : Deed) → IsFirst act goes
    → wanted adapters (record { line = line; drains = drains; between = between; act = act; speaker = speaker }) goes ≡ wish_of unit deed → IsCalm act
calm_line adapters line drains between speaker act goes unit deed first is = search rules

pub calm_after : (deed : Deed) (act : Act) → IsCalm act → IsCalm (act_after deed act)
calm_after deed act is = search rules

-- nor is an event of a drain
calm_attend : (adapters : ℕ → AdapterState) (found : Option ℕ) → IsCalm (act_of_attend adapters found)
calm_attend adapters None = tt
calm_attend adapters (Some a) = tt

calm_move : (adapters : ℕ → AdapterState) (found : Option ℕ) → IsCalm (act_of_move adapters found)
calm_move adapters None = calm_attend adapters (find (λ adapter. can_attend (adapters adapter)) adapters_there)
calm_move adapters (Some a) = tt

calm_arrival : (adapters : ℕ → AdapterState) (found : Option ℕ) → IsCalm (act_of_arrival adapters found)
calm_arrival adapters None = calm_move adapters (find (λ adapter. can_move (adapters adapter)) adapters_there)
calm_arrival adapters (Some u) = tt

pub calm_drain : (s : Replay) → IsCalm (act_drained s)
calm_drain s = calm_arrival (λ adapter. (s.adapters adapter).state) (find (λ unit. is_positioning (s.units unit).drive.work) s.there)

pub calm_either : (b : Bool) (x y : Act) → IsCalm x → IsCalm y → IsCalm (if b then x else y)
calm_either true x y a b = a
calm_either false x y a b = b

-- where no line is to come none does
pub no_line_told : (s : Replay) (line unit id : ℕ) (deed : Deed) → next_wish s ≡ NoLine → ToldMay (next_wish s) s line unit id deed → ⊥
no_line_told s line unit id deed is may = search rules

pub no_line_idle : (s : Replay) → next_wish s ≡ NoLine → next_wish s ≡ IdleLine → ⊥
no_line_idle s is idle = cc

-- ---- a verdict mark is of a marked sector
abbrev AreTrue : Setup → (ℕ → List Deed) → Type 0
AreTrue setup lines = (unit block : ℕ) → WasMarked block (lines unit) → model.is_marked (setup.packs unit) block ≡ true

line_true : (setup : Setup) (s : Replay) (line unit id : ℕ) (deed : Deed) (lines : ℕ → List Deed) → ((unit block : ℕ) → s.surface.is_marked unit block ≡ model.is_marked (setup.packs unit) block)
    → LineMay s line unit id deed → AreTrue setup lines → AreTrue setup (λ x. lines_after x (Told line unit id deed) (lines x))
line_true setup s line unit id deed lines marks may all x b = search (rules, eqb_tells, was_told, marked_only)

refusal_true : (setup : Setup) (line unit id : ℕ) (why : Rejection) (lines : ℕ → List Deed) → AreTrue setup lines → AreTrue setup (λ x. lines_after x (Told line unit id (End (rejection_answer why))) (lines x))
refusal_true setup line unit id why lines all x b = search rules

pub told_true : (setup : Setup) (wish : Wish) (s : Replay) (line unit id : ℕ) (deed : Deed) (lines : ℕ → List Deed) → ((unit block : ℕ) → s.surface.is_marked unit block ≡ model.is_marked (setup.packs unit) block)
    → ToldMay wish s line unit id deed → AreTrue setup lines → AreTrue setup (λ x. lines_after x (Told line unit id deed) (lines x))
told_true setup (Refusal u i why) s line unit id deed lines marks may all =
    subst (λ z. AreTrue setup (λ x. lines_after x (Told line unit id z) (lines x))) (sym may.answered) (refusal_true setup line unit id why lines all)
told_true setup other s line unit id deed lines marks may all = line_true setup s line unit id deed lines marks may all

-- ---- who goes on
pub record Events (s : Replay) : Type 0 where
  pub quiet : (unit : ℕ) → unit ≢ s.event.speaker → goes_on (s.units unit).stage ≡ false
  pub refusing : IsFirst s.event.act (goes_on (s.units s.event.speaker).stage)

pub line_events : (s : Replay) (line unit id : ℕ) (deed : Deed) → Events s → LineMay s line unit id deed → Events (drained (replay_told s unit deed (unit_after s unit deed)))
line_events s line unit id deed events may =
    either Events (next.event.drains && (is_no_line (next_wish next) && nat_lt 0 next.outstanding)) next (record next { event = record next.event { between = true; act = act_drained next } })
    (record { quiet = quiet; refusing = calm_first (act_after deed s.event.act) (goes_on (next.units unit).stage) (calm_after deed s.event.act calm) })
    (record { quiet = quiet; refusing = calm_first (act_drained next) (goes_on (next.units unit).stage) (calm_drain next) })
  where
    next : Replay
    next = replay_told s unit deed (unit_after s unit deed)

    calm : IsCalm s.event.act
    calm = calm_line s.adapters s.event.line s.event.drains s.event.between s.event.speaker s.event.act (goes_on (s.units s.event.speaker).stage) unit deed events.refusing may.wished

    before : (x : ℕ) → x ≢ unit → goes_on (s.units x).stage ≡ false
    before x apart = elim (eqb_tells x s.event.speaker) [
      | inl same ↦ at same.1 (goes_by s.adapters s.event (goes_on (s.units s.event.speaker).stage) unit deed may.wished)
      | inr other ↦ events.quiet x other.1
    ]
      where
        at : x ≡ s.event.speaker → (goes_on (s.units s.event.speaker).stage ≡ false) ⊎ (s.event.speaker ≡ unit) → goes_on (s.units x).stage ≡ false
        at here (inl quiet) = ap (λ z. goes_on (s.units z).stage) here ∙ quiet
        at here (inr speaks) = absurd (apart (here ∙ speaks))

    quiet : (x : ℕ) → x ≢ unit → goes_on (with_state s.units unit (unit_after s unit deed) x).stage ≡ false
    quiet x apart = ap (λ z. goes_on (UnitSeen.stage z)) (with_other s.units unit (unit_after s unit deed) x apart) ∙ before x apart
