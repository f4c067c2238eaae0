-- What a caller carries from call to call.
use Rattle.std.proofs.Common.{◌≡◌, ◌≢◌, inl, inr, ℕ, zero, suc, ◌+◌, ◌<◌, ◌≤◌, Bool, true, false, List, [], ◌∷◌, length, Option, Some, None, refl, sym, ap, subst, arith, ◌∙◌}
use Rattle.std.specs.Prelude.{Contains}
use Rattle.std.proofs.lemmas.Option.{none-some}
use Rattle.pack_geometry.specs.declared.DriveKind.TheVariants.{Rm03}
use Rattle.pack_geometry.specs.Pack.{Pack, empty_pack}
use Rattle.pack_geometry.specs.TableSpelling.{Table}
use Rattle.trace_replay.specs.requests.Requests.{Request}
use Rattle.trace_replay.specs.Script.{Input}
use Rattle.trace_replay.specs.declared.requests.answers.AnswerKind.{AnswerKind}
use Rattle.driver_machine.specs.World.{World, Held, Setup, new_world, slot_at}
use Rattle.driver_machine.specs.Acts.{Act, Taken, after, after_all}
use Rattle.driver_machine.specs.Events.{submit_by, submit_acts, event_acts, refusal_of}
use Rattle.driver_machine.specs.Guards.{IsSetUp}
use Rattle.driver_machine.specs.Sound.{Sound, AtWork}
use Rattle.driver_laws.proofs.invariant.SlotsLists.{Contains-cases}
use Rattle.driver_laws.specs.answers.Counts.{in_use}
use Rattle.driver_laws.specs.answers.Ids.{AreOf}
use Rattle.driver_laws.proofs.answers.Ids as ids
use Rattle.driver_laws.proofs.answers.Acts.{takings_add}
use Rattle.driver_laws.proofs.answers.Events as events
use Rattle.driver_laws.proofs.answers.Units.{setups_stay}
use Rattle.driver_laws.proofs.answers.Starts.{starts_with_none}
use Rattle.driver_laws.specs.answers.Waiting.{all_taken}
use Rattle.driver_laws.proofs.answers.Taking.{taken_by, none_waits}
use Rattle.hp_driver.specs.Subsystem.{State, Submits, Comes}
use Rattle.callers.specs.Asking.{Fits, MayCall, GoesOn}

still_up : (w : World) (acts : List Act) (u : ℕ) → IsSetUp w u → IsSetUp (after_all w acts) u
still_up w acts u unit = record { unit = unit.unit; declared = (setups_stay w acts u).declared ∙ unit.declared }

-- AN ANSWER THAT IS TAKEN changes nothing of it.
fits_after : (asked : ℕ) (w : World) → 0 < length w.answers → Fits asked w → Fits asked (after w Taken)
fits_after asked w some fits = record {
  units = λ u low. still_up w (Taken ∷ []) u (fits.units u low);
  ids = fits.ids;
  of = ids.taking_adds_none fits.ids w fits.of;
  below = fits.below;
  noises = fits.noises;
  faults = fits.faults;
  within = takings_add asked fits.noises fits.faults w fits.within;
}

fits_taken : (asked : ℕ) (w : World) → Fits asked w → Fits asked (all_taken w)
fits_taken asked w fits = taken_by (Fits asked) (fits_after asked) w.answers w refl fits

-- A SUBMISSION adds its id.
more_ids : (id : ℕ) (xs : List ℕ) (x : ℕ) → ((y : ℕ) → Contains xs y → y < id) → Contains (id ∷ xs) x → x < id + 1
more_ids id xs x below has = elim (Contains-cases x id xs has) [
  | inl same ↦ equal x id same
  | inr later ↦ less x id (below x later)
]
  where
    equal : (a b : ℕ) → b ≡ a → a < b + 1
    equal a b e = omega (arith, e)

    less : (a b : ℕ) → a < b → a < b + 1
    less a b lt = omega (arith, lt)

pub submitted_fits : {O : Type 0} (tells : O → Bool) (taken : O → List ℕ) (trace trace' : O) (line : ℕ) (r : Request) (old new : World) (kept kept' : List ℕ)
    → Sound old → AtWork old → Submits tells taken trace trace' line r old new kept kept' None → Fits r.id old → Fits (r.id + 1) new
submitted_fits tells taken trace trace' line r old new kept kept' sound work does fits =
    let acts : List Act = submit_acts r line does.slot does.held old in
    let outcome = (does.outcome true (λ u. empty_pack)).does in
    subst (Fits (r.id + 1)) (sym outcome.world)
    (record {
      units = λ u low. still_up old acts u (fits.units u low);
      ids = r.id ∷ fits.ids;
      of = behind (refusal_of r old) refl;
      below = λ x has. more_ids r.id fits.ids x fits.below has;
      noises = fits.noises;
      faults = fits.faults;
      within = events.submissions_add r.id fits.noises fits.faults old line does.slot r does.held outcome.run fits.within;
    })
  where
    behind : (refused : Option AnswerKind) → refusal_of r old ≡ refused → AreOf (r.id ∷ fits.ids) (after_all old (submit_acts r line does.slot does.held old))
    behind None is = ids.submissions_add fits.ids old line does.slot r does.held sound work does.may (does.is is).id fits.of
    behind (Some kind) is =
        let other : Held = record does.held { id = r.id } in
        let same : submit_acts r line does.slot other old ≡ submit_acts r line does.slot does.held old =
        ap (λ (o : Option AnswerKind). submit_by o r line does.slot other old) is ∙ sym (ap (λ (o : Option AnswerKind). submit_by o r line does.slot does.held old) is) in
        subst (λ (acts : List Act). AreOf (r.id ∷ fits.ids) (after_all old acts)) same
        (ids.submissions_add fits.ids old line does.slot r other sound work
        (record { unit = does.may.unit; fresh = does.may.fresh; new = λ none. absurd (none-some kind (sym none ∙ is)) }) refl fits.of)

pub may_call : (mid new : State) → new ≡ record mid { world = all_taken mid.world } → mid.failed ≡ false → MayCall new
may_call mid new is going = subst MayCall (sym is) (record { going = going; none_waits = none_waits mid.world })

pub taken_fits : (asked : ℕ) (mid new : State) → new ≡ record mid { world = all_taken mid.world } → Fits asked mid.world → Fits asked new.world
taken_fits asked mid new is fits = subst (λ (s : State). Fits asked s.world) (sym is) (fits_taken asked mid.world fits)

-- AN EVENT adds none.
pub happened_fits : {O Q : Type 0} (holds : Q → Bool) (held : Q → ℕ → Pack) (tells : O → Bool) (taken : O → List ℕ) (packs packs' : Q) (trace trace' : O) (line : ℕ) (input : Input) (old new : World)
    (kept kept' : List ℕ) → Sound old → AtWork old → Comes holds held tells taken packs packs' trace trace' line input old new kept kept' None → (asked : ℕ) → Fits asked old → Fits asked new
happened_fits holds held tells taken packs packs' trace trace' line input old new kept kept' sound work comes asked fits =
    let acts : List Act = event_acts line input comes.tried old in
    let outcome = comes.outcome.does in
    subst (Fits asked) (sym outcome.world)
    (record {
      units = λ u low. still_up old acts u (fits.units u low);
      ids = fits.ids;
      of = ids.events_add_none fits.ids old line input comes.tried sound work (comes.may refl) fits.of;
      below = fits.below;
      noises = _;
      faults = _;
      within = events.events_add asked fits.noises fits.faults old line input comes.tried outcome.run fits.within;
    })

-- Nothing, and one call behind the other, leave what both leave.
pub goes_on : (s : State) → MayCall s → GoesOn s s
goes_on s call = record { call = call; fits = λ asked fits. fits; outstanding = refl }

pub goes_both : (old mid new : State) → GoesOn old mid → GoesOn mid new → GoesOn old new
goes_both old mid new one two = record {
  call = two.call;
  fits = λ asked fits. two.fits asked (one.fits asked fits);
  outstanding = two.outstanding ∙ one.outstanding;
}

-- A REQUEST with the next id may be asked.
pub next_fresh : (id : ℕ) (w : World) → Fits id w → (p : ℕ) (h : Held) → slot_at w p ≡ Some h → h.ended ≡ false → h.id ≢ id
next_fresh id w fits p h at going = ids.no_others fits.ids w id fits.of (λ has. apart id (fits.below id has)) p h at
  where
    apart : (n : ℕ) → n < n → ⊥
    apart n lt = omega (arith, lt)

pub next_room : (id most : ℕ) (w : World) → Fits id w → id < most → in_use w.slots < most
next_room id most w fits room = below (in_use w.slots) id most fits.within.requests room
  where
    below : (a b c : ℕ) → a ≤ b → b < c → a < c
    below a b c le lt = omega (arith, le, lt)

-- A NEW DRIVER of units 0 and 1
pub two_up : (one other : Option Table) (outstanding u : ℕ) → u < 2
    → IsSetUp (new_world (record { unit = 0; kind = Rm03; table = one } ∷ record { unit = 1; kind = Rm03; table = other } ∷ []) outstanding 0) u
two_up one other outstanding zero low = record { unit = omega arith; declared = refl }
two_up one other outstanding (suc zero) low = record { unit = omega arith; declared = refl }
two_up one other outstanding (suc (suc u)) low = absurd (omega (arith, low))

pub new_fits : (setups : List Setup) (outstanding : ℕ) → ((u : ℕ) → u < 2 → IsSetUp (new_world setups outstanding 0) u) → Fits 0 (new_world setups outstanding 0)
new_fits setups outstanding units = record {
  units = units;
  ids = [];
  of = ids.starts_of_none setups outstanding 0;
  below = λ id has. absurd (omega (arith, has.1));
  noises = 0;
  faults = 0;
  within = starts_with_none setups outstanding 0;
}
