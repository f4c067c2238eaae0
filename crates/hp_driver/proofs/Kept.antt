-- What holds of the subsystem between any two calls.
use Rattle.std.proofs.Common.{◌≡◌, ℕ, ◌<◌, ◌≤◌, Bool, true, false, List, [], ◌∷◌, length, drop, Option, Some, None, refl, sym, ap, ◌∙◌, subst, arith}
use Rattle.std.specs.Prelude.{min, ◌↔◌, IfSome, IsSome, is_some, Contains, unwrap_or}
use Rattle.std.specs.Option.{option_map}
use Rattle.std.proofs.lemmas.Bool.{false≢true}
use Rattle.std.proofs.lemmas.List.{length-replicate}
use Rattle.std.proofs.lemmas.Option.{none-some}
use Rattle.trace_replay.specs.Script as script
use Rattle.trace_replay.specs.Script.{Input}
use Rattle.main_memory.specs.Bytes.{IsFill}
use Rattle.trace_replay.specs.declared.requests.answers.AnswerKind.TheVariants.{ReadOk}
use Rattle.driver_machine.specs.declared.Made.{Made}
use Rattle.driver_machine.specs.World.{World, Held, Setup, no_held, new_world, slot_at, held_in, block_in}
use Rattle.driver_machine.specs.Acts.{Taken, after}
use Rattle.driver_machine.specs.Events.{next_event}
use Rattle.driver_machine.specs.Refusals.{refuses}
use Rattle.driver_machine.specs.Sound.{Sound, AtWork, IsMade, IsGiven}
use Rattle.driver_laws.specs.invariant.Setups.{AreSetups}
use Rattle.driver_laws.proofs.invariant.SlotsLists.{Contains-first}
use Rattle.driver_laws.proofs.invariant.Starts.{sound_new, rests_new}
use Rattle.driver_machine.specs.Runs.{CanCome, NoneOutstanding}
use Rattle.driver_laws.proofs.invariant.Calls.{taken_works}
use Rattle.driver_laws.proofs.invariant.Next.{next_none, next_can}
use Rattle.hp_driver.proofs.Passes.{sound_after}
use Rattle.driver_laws.proofs.shown.QuietPasses.{none_at_start}
use Rattle.hp_driver.specs.Passes.State as core
use Rattle.hp_driver.specs.Passes.{DoesSilently}
use Rattle.hp_driver.specs.declared.drain.Event.{Event}
use Rattle.hp_driver.specs.Inputs.{input_of}
use Rattle.driver_laws.specs.shown.QuietPasses.{DrainsFallFrom}
use Rattle.hp_driver.specs.Subsystem.{State, IsKept, IsThere, LeavesFewer, IsOldest, Reads}
use Rattle.hp_driver.proofs.Behind.{Ran, ran_sound, ran_noise, ran_slots}
use Rattle.hp_driver.proofs.Calls.{silent_kept}

-- AT THE START,
pub kept_new : (setups : List Setup) (outstanding noises : ℕ) → AreSetups setups → outstanding ≤ 65536
    → IsKept (record { world = new_world setups (min outstanding 16384) noises; outstanding = outstanding; failed = false; kept = [] })
kept_new setups outstanding noises are few = record {
  sound = sound_new setups (min outstanding 16384) noises are;
  work = λ e. rests_new setups (min outstanding 16384) noises are;
  noise = none_at_start setups (min outstanding 16384) noises;
  slots = length-replicate (min outstanding 16384) None;
  few = few;
}

-- and behind the taking of an answer.
pub kept_taken : (old new : core.State) (outstanding : ℕ) (failed : Bool) → 0 < length old.world.answers → IsKept (record { world = old.world; outstanding = outstanding; failed = failed; kept = old.kept })
    → DoesSilently old new Taken → IsKept (record { world = new.world; outstanding = outstanding; failed = failed; kept = new.kept })
kept_taken old new outstanding failed some is does =
    let ran : Ran old.world new.world = record { acts = Taken ∷ []; run = (some, tt); world = does.world } in
    record {
      sound = ran_sound old.world new.world ran is.sound;
      work = λ e. subst AtWork (sym does.world) (taken_works sound_after old.world is.sound (is.work e) some).work;
      noise = ran_noise old.world new.world ran is.noise;
      slots = ran_slots old.world new.world ran ∙ is.slots;
      few = is.few;
    }

pub taken_state : (old new : core.State) (outstanding : ℕ) (failed : Bool) → DoesSilently old new Taken
    → ◌≡◌ {A = State} (record { world = new.world; outstanding = outstanding; failed = failed; kept = new.kept })
    (record { world = after old.world Taken; outstanding = outstanding; failed = failed; kept = old.kept })
taken_state old new outstanding failed does =
    ap (λ (w : World). record { world = w; outstanding = outstanding; failed = failed; kept = new.kept }) does.world
    ∙ ap (λ (k : List ℕ). record { world = after old.world Taken; outstanding = outstanding; failed = failed; kept = k }) (silent_kept old new Taken refl does)

pub some_wait : (made : Made) (answers : List Made) → answers ≡ made ∷ drop 1 answers → 0 < length answers
some_wait made [] is = absurd (cc)
some_wait made (x ∷ answers) is = omega arith

-- THE NEXT EVENT is none just where no request is outstanding, and speaks of what is there.
pub next_over : (w : World) (o : Option Event) → Sound w → AtWork w → option_map input_of o ≡ next_event w → (o ≡ None) ↔ NoneOutstanding w
next_over w None sound work is = ((λ e. (next_none w sound work).0 (sym is)), (λ n. refl))
next_over w (Some event) sound work is =
    ((λ e. absurd (none-some event (sym e))), (λ n. absurd (none-some (input_of event) (sym ((next_none w sound work).1 n) ∙ sym is))))

can_there : (w : World) (input : Input) → CanCome w input → IsThere w input
can_there w (script.ArriveAt u) can = can.0
can_there w (script.MoveAt a) can = can.0
can_there w (script.AttendTo a) can = can.0
can_there w other can = absurd can

pub next_there : (w : World) (o : Option Event) → Sound w → option_map input_of o ≡ next_event w → IfSome o (λ event. IsThere w (input_of event))
next_there w None sound is = tt
next_there w (Some event) sound is = can_there w (input_of event) (next_can w (input_of event) sound (sym is))

-- A READ that was answered has a slot.
first_same : {x y : Made} {xs ys answers : List Made} → answers ≡ x ∷ xs → answers ≡ y ∷ ys → x ≡ y
first_same e f = cc

pub read_slot : (w : World) (k : ℕ) (made : Made) → Sound w → Reads w k → w.answers ≡ made ∷ drop 1 w.answers → made.slot ≡ None → ⊥
read_slot w k made sound reads first none =
    let same : reads.made ≡ made = first_same reads.oldest.first first in
    false≢true (subst (λ kind. refuses kind ≡ true) (ap (λ (m : Made). m.answer.kind) (sym same) ∙ reads.ok)
    (sound.refused made (subst (λ (l : List Made). Contains l made) (sym first) (Contains-first made (drop 1 w.answers))) none))

-- THE BLOCKS OF A READ are there, and no adapter has them.
pub record IsAnswered (w : World) (p k : ℕ) : Type 0 where
  pub there : IsSome (slot_at w p)
  pub cpu : (held_in w p).on_bus ≡ false
  pub inside : k < (held_in w p).loan.count

module _ (w : World) (p k : ℕ) (sound : Sound w) where
  answered_by : (made : Made) (count last : ℕ) → IsMade w made p → made.answer.kind ≡ ReadOk count last → k < count → IsAnswered w p k
  answered_by made count last is kind less = record {
    there = ap (λ (o : Option Held). is_some o) is.slot;
    cpu = ap (λ (o : Option Held). (unwrap_or o no_held).on_bus) is.slot ∙ by_bus is.held.on_bus refl;
    inside = subst (λ (o : Option Held). k < (unwrap_or o no_held).loan.count) (sym is.slot)
        (subst (λ (n : ℕ). k < n) (subst (λ kind. IsGiven is.held kind) kind is.given).1 less);
  }
    where
      by_bus : (b : Bool) → is.held.on_bus ≡ b → is.held.on_bus ≡ false
      by_bus true on = absurd (false≢true (sym (((sound.each_slot p is.held is.slot).bus on).2) ∙ is.over))
      by_bus false off = off

  pub answered : (made : Made) → w.answers ≡ made ∷ drop 1 w.answers → made.slot ≡ Some p → Reads w k → IsAnswered w p k
  answered made first slot reads =
      let same : reads.made ≡ made = first_same reads.oldest.first first in
      answered_by made reads.count reads.last (sound.answers made p (subst (λ (l : List Made). Contains l made) (sym first) (Contains-first made (drop 1 w.answers))) slot)
      (ap (λ (m : Made). m.answer.kind) (sym same) ∙ reads.ok) reads.inside

-- so each event that comes next leaves fewer lines
pub next_falls : (w : World) (result : Option Event) → DrainsFallFrom → option_map input_of result ≡ next_event w → IfSome result (λ event. LeavesFewer w (input_of event))
next_falls w None law is = tt
next_falls w (Some event) law is = λ start line tried moments held can asked draining may reads.
    law start line (input_of event) tried moments held w can asked draining (sym is) may reads

-- WHAT A BLOCK IS ALL THROUGH is so of each made answer that is the oldest.
slot_same : {p q : ℕ} (made found : Made) → made ≡ found → made.slot ≡ Some p → found.slot ≡ Some q → q ≡ p
slot_same made found e f g = cc

pub fill_given : (w : World) (k slot : ℕ) (found : Made) → w.answers ≡ found ∷ drop 1 w.answers → found.slot ≡ Some slot → (result : Option ℕ)
    → IfSome result (λ byte. IsFill byte (block_in (held_in w slot) k))
    → IfSome result (λ byte. (made : Made) → (p : ℕ) → IsOldest w made → made.slot ≡ Some p → IsFill byte (block_in (held_in w p) k))
fill_given w k slot found first is None given = tt
fill_given w k slot found first is (Some byte) given = λ made p oldest here.
    subst (λ (q : ℕ). IsFill byte (block_in (held_in w q) k)) (slot_same made found (first_same oldest.first first) here is) given
