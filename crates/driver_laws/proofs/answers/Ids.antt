-- Each request that stands in a slot has an id that was asked for.
use Rattle.std.proofs.Common.{◌≡◌, inl, inr, ℕ, zero, suc, ◌<◌, ◌≤◌, List, [], ◌∷◌, length, length-set, replicate, get_or-set_same, get_or-set_other, Option, Some, None, refl, sym, ap, ◌∙◌, subst, arith, rules}
use Rattle.std.specs.Prelude.{Contains, slice_index_or, slice_set, unwrap_or}
use Rattle.std.specs.Option.{option_map_or}
use Rattle.std.proofs.lemmas.Bool.{cases_eq, cases_lt}
use Rattle.std.proofs.lemmas.List.{get_or_past}
use Rattle.std.proofs.lemmas.Option.{none-some}
use Rattle.trace_replay.specs.Script as script
use Rattle.trace_replay.specs.Script.{Input}
use Rattle.driver_machine.specs.declared.Made.{Made}
use Rattle.driver_machine.specs.World.{World, Held, no_held, held_in, unit_at, slot_in_hand}
use Rattle.driver_machine.specs.Acts.{Act, Submit, Of, Change, Taken, Deed, Scene, scene_of, effect, freed, after, after_all}
use Rattle.driver_machine.specs.Events.{submit_acts, event_acts}
use Rattle.driver_machine.specs.Guards.{InHand, Allowed, MayChange}
use Rattle.driver_machine.proofs.Frame.{effect_same}
use Rattle.driver_machine.specs.Runs.{Run, Works}
use Rattle.driver_laws.proofs.invariant.Calls.{submit_works, event_works}
use Rattle.driver_laws.proofs.invariant.SlotsLists.{Contains-first, Contains-later}
use Rattle.driver_laws.proofs.invariant.Frame.{slot_there}
use Rattle.driver_laws.proofs.invariant.Sound.{sound_after}
use Rattle.driver_laws.specs.answers.Ids.{AreOf, ids_with, StartsOfNone, ActsAdd, RunsAdd, EventsAddNone, SubmissionsAdd, TakingAddsNone, NoOthers, OthersAreFresh}
use Rattle.driver_laws.proofs.answers.Parts.{AreAll, Holds, all_submitted, all_of_event}

-- A SLOT that was set has what was put there; and one that was freed, nothing.
set_has : (slots : List (Option Held)) (p q : ℕ) (new g : Held) → p < length slots → slice_index_or (slice_set slots p (Some new)) q None ≡ Some g
    → (ids : List ℕ) → Contains ids new.id → ((f : Held) → slice_index_or slots q None ≡ Some f → Contains ids f.id) → Contains ids g.id
set_has slots p q new g less e ids here there = first_of (search rules, grind arith)

none_there : (slots : List (Option Held)) (p : ℕ) → slice_index_or (slice_set slots p None) p None ≡ None
none_there slots p = elim (cases_lt p (length slots)) [
  | inl less ↦ get_or-set_same slots p None None less
  | inr past ↦ get_or_past (slice_set slots p None) p None (subst (λ (n : ℕ). n ≤ p) (sym (length-set slots p None)) past)
]

set_none : (slots : List (Option Held)) (p q : ℕ) (g : Held) → slice_index_or (slice_set slots p None) q None ≡ Some g
    → slice_index_or slots q None ≡ Some g
set_none slots p q g e = elim (cases_eq q p) [
  | inl same ↦
      absurd (none-some g (sym (none_there slots p)
      ∙ subst (λ (r : ℕ). slice_index_or (slice_set slots p None) r None ≡ Some g) same e))
  | inr other ↦ sym (get_or-set_other slots p q None None other) ∙ e
]

pub freed_was : (answers : List Made) (slots : List (Option Held)) (q : ℕ) (g : Held) → slice_index_or (freed answers slots) q None ≡ Some g
    → slice_index_or slots q None ≡ Some g
freed_was [] slots q g e = e
freed_was (made ∷ rest) slots q g e = by made.slot e
  where
    by : (slot : Option ℕ) → slice_index_or (option_map_or (λ (p : ℕ). slice_set slots p None) slot slots) q None ≡ Some g
        → slice_index_or slots q None ≡ Some g
    by None e = e
    by (Some p) e = set_none slots p q g e

-- THE START
pub replicate_at : {A : Type 0} (n i : ℕ) (x : A) → slice_index_or (replicate n x) i x ≡ x
replicate_at zero i x = refl
replicate_at (suc n) zero x = refl
replicate_at (suc n) (suc i) x = replicate_at n i x

pub starts_of_none : StartsOfNone
starts_of_none setups outstanding noises p h e = absurd (none-some h (sym (replicate_at outstanding p None) ∙ e))

-- EACH ACT
weaker : (ids : List ℕ) (x : ℕ) (w : World) → AreOf ids w → AreOf (x ∷ ids) w
weaker ids x w are p h e = Contains-later h.id x ids (are p h e)

deed_of : (ids : List ℕ) (w : World) (line u id : ℕ) (d : Deed) → InHand w u id → AreOf ids w → AreOf ids (after w (Of line u id d))
deed_of ids w line u id d i are q g e =
    let p : ℕ = slot_in_hand (unit_at w u) in
    let new : Scene = effect line u p d (scene_of w u) in
    let was : held_in w p ≡ i.held = ap (λ (o : Option Held). unwrap_or o no_held) i.slot in
    let named : new.held.id ≡ i.held.id = (effect_same line u p d (scene_of w u)).id ∙ ap (λ (h : Held). h.id) was in
    set_has w.slots p q new.held g (slot_there w.slots p i.held i.slot) e ids
    (subst (λ (n : ℕ). Contains ids n) (sym named) (are p i.held i.slot)) (λ f there. are q f there)

join_of : (ids : List ℕ) (w : World) (line p : ℕ) (h : Held) → p < length w.slots → Contains ids h.id → AreOf ids w → AreOf ids (after w (Submit line p h))
join_of ids w line p h less has are q g e = set_has w.slots p q h g less e ids has (λ f there. are q f there)

changed_of : (ids : List ℕ) (w : World) (input : Input) → MayChange w input → AreOf ids w → AreOf ids (after w (Change input))
changed_of ids w (script.Turn u sector) may are = are
changed_of ids w (script.Noise noise) may are = are
changed_of ids w (script.Arm u kind times) may are = are
changed_of ids w (script.SetOnline u on) may are = are
changed_of ids w (script.SetLocked u on) may are = are
changed_of ids w input may are = absurd may

pub taking_adds_none : TakingAddsNone
taking_adds_none ids w are p h e = are p h (freed_was w.answers w.slots p h e)

pub acts_add : ActsAdd
acts_add ids w (Submit line p h) may are = join_of (h.id ∷ ids) w line p h may.free (Contains-first h.id ids) (weaker ids h.id w are)
acts_add ids w (Of line u id d) may are = deed_of ids w line u id d may.0 are
acts_add ids w (Change input) may are = changed_of ids w input may are
acts_add ids w Taken may are = taking_adds_none ids w are
acts_add ids w other may are = are

pub runs_add : RunsAdd
runs_add ids w [] run are = are
runs_add ids w (act ∷ acts) run are = runs_add (ids_with act ids) (after w act) acts run.1 (acts_add ids w act run.0 are)

-- ACTS that let none join but requests with ids among these
abbrev IsWithin : List ℕ → Act → Type 0
IsWithin ids (Submit line p h) = Contains ids h.id
IsWithin ids act = Unit {0}

act_within : (ids : List ℕ) (w : World) (act : Act) → Allowed w act → IsWithin ids act → AreOf ids w → AreOf ids (after w act)
act_within ids w (Submit line p h) may within are = join_of ids w line p h may.free within are
act_within ids w (Of line u id d) may within are = deed_of ids w line u id d may.0 are
act_within ids w (Change input) may within are = changed_of ids w input may are
act_within ids w Taken may within are = taking_adds_none ids w are
act_within ids w other may within are = are

run_within : (ids : List ℕ) (w : World) (acts : List Act) → Run w acts → AreAll (IsWithin ids) acts → AreOf ids w → AreOf ids (after_all w acts)
run_within ids w [] run within are = are
run_within ids w (act ∷ acts) run within are =
    run_within ids (after w act) acts run.1 within.1 (act_within ids w act run.0 within.0 are)

deeds_within : (ids : List ℕ) → Holds (IsWithin ids)
deeds_within ids = record { of = λ line u id d. tt; nothing = λ line. tt }

pub events_add_none : EventsAddNone
events_add_none ids w line input tried s work may are =
    let works : Works w (event_acts line input tried w) = event_works sound_after line input tried w s work may in
    run_within ids w (event_acts line input tried w) works.run (all_of_event (IsWithin ids) (deeds_within ids) line input tried w tt) are

pub submissions_add : SubmissionsAdd
submissions_add ids w line p r h s work may same are =
    let works : Works w (submit_acts r line p h w) = submit_works sound_after r line p h w s work may in
    let among : Contains (r.id ∷ ids) h.id = subst (λ (n : ℕ). Contains (r.id ∷ ids) n) (sym same) (Contains-first r.id ids) in
    run_within (r.id ∷ ids) w (submit_acts r line p h w) works.run
    (all_submitted (IsWithin (r.id ∷ ids)) (deeds_within (r.id ∷ ids)) r line p h w (λ kind. tt) among) (weaker ids r.id w are)

pub no_others : NoOthers
no_others ids w id are none p h e = λ same. none (subst (λ (n : ℕ). Contains ids n) same (are p h e))

pub others_are_fresh : OthersAreFresh
others_are_fresh ids w id are none taken = record { taken = taken; other = λ q g there on. no_others ids w id are none q g there }
