-- What the calls keep of the driver's bytes.
use Rattle.std.proofs.Common.{◌≡◌, ℕ, Bool, true, List, [], ◌∷◌, ◌++◌, drop, Option, Some, None, refl, sym, ap, ◌∙◌, subst}
use Rattle.std.proofs.lemmas.List.{append-nil}
use Rattle.pack_geometry.specs.Pack.{Pack}
use Rattle.hardware_table.specs.Noise.{LiveNoise}
use Rattle.trace_replay.specs.requests.Requests as told
use Rattle.trace_replay.specs.declared.requests.answers.AnswerKind.TheVariants.{ReadOk}
use Rattle.trace_replay.specs.Script.{Input}
use Rattle.driver_laws.specs.rules.Machine.{Blocks}
use Rattle.driver_laws.specs.rules.Stands.{armed_by, is_sure_among}
use Rattle.driver_machine.specs.declared.Made.{Made}
use Rattle.driver_machine.specs.World.{World, unit_at, held_in}
use Rattle.driver_machine.specs.Acts.{Act, after_all}
use Rattle.driver_machine.specs.Events.{submit_acts, event_acts}
use Rattle.driver_machine.specs.Sound.{Sound}
use Rattle.driver_laws.specs.declared.answers.outcome.Stop.{Stop}
use Rattle.driver_laws.specs.declared.answers.outcome.Stop.TheVariants.{Store, Sink}
use Rattle.driver_laws.specs.shown.QuietPasses.{Does, StopsAtTrace, packs_after_all}
use Rattle.driver_laws.specs.shown.Bytes.{IsSureFor, IsSaid, StepsFrom, AreSteps, Bears}
use Rattle.driver_laws.proofs.shown.Rests.{rest_bears}
use Rattle.driver_laws.proofs.shown.QuietCalls.{submissions_bear, events_bear, takings_bear}
use Rattle.hp_driver.specs.Subsystem.{seen, Submits, Comes}
use Rattle.hp_driver.specs.Bytes.{KeepsMaps, KeepsMapsIn, GivesOfMaps, HoldsMaps}

-- acts that are done, all of them or the first ones
whole : (acts : List Act) → acts ≡ acts ++ []
whole acts = sym (append-nil acts)

moved_to : (armed : List LiveNoise) (w now : World) (held left : ℕ → Pack) (maps : ℕ → Blocks) → now ≡ w → left ≡ held → Bears armed w held maps → Bears armed now left maps
moved_to armed w now held left maps world packs b =
    subst (λ x. Bears armed x left maps) (sym world) (subst (λ k. Bears armed w k maps) (sym packs) b)

-- A SUBMISSION
module _ {O : Type 0} (tells : O → Bool) (taken : O → List ℕ) (trace trace' : O) (line : ℕ) (r : told.Request) (old new : World) (kept kept' : List ℕ) (sound : Sound old) where
  pub submit_keeps : (stop : Option Stop) → (stop ≡ Some Store → ⊥) → Submits tells taken trace trace' line r old new kept kept' stop → KeepsMaps old new
  submit_keeps None apart is armed held maps b =
      let does : Does (record { packs = true; trace = tells trace' }) (submit_acts r line is.slot is.held old) (seen old held (taken trace) kept) (seen new held (taken trace') kept') = is.outcome true held in
      moved_to armed (after_all old (submit_acts r line is.slot is.held old)) new (packs_after_all old held (submit_acts r line is.slot is.held old)) held maps does.does.world (does.does.packs refl)
      (submissions_bear armed old line is.slot r is.held (submit_acts r line is.slot is.held old) [] held maps sound (whole (submit_acts r line is.slot is.held old)) does.does.run (does.does.reads refl) b)
  submit_keeps (Some Sink) apart is armed held maps b =
      let stops : StopsAtTrace (record { packs = true; trace = tells trace' }) (submit_acts r line is.slot is.held old) (seen old held (taken trace) kept) (seen new held (taken trace') kept') = is.outcome true held in
      moved_to armed (after_all old stops.done) new (packs_after_all old held stops.done) held maps stops.does.world (stops.does.packs refl)
      (submissions_bear armed old line is.slot r is.held stops.done stops.left held maps sound stops.all stops.does.run (stops.does.reads refl) b)
  submit_keeps (Some Store) apart is armed held maps b = absurd (apart refl)

-- AN EVENT
module _ {O Q : Type 0} (holds : Q → Bool) (held : Q → ℕ → Pack) (tells : O → Bool) (taken : O → List ℕ) (packs packs' : Q) (trace trace' : O) (line : ℕ) (input : Input)
    (old new : World) (kept kept' : List ℕ) (sound : Sound old) where
  pub event_keeps : (stop : Option Stop) → Comes holds held tells taken packs packs' trace trace' line input old new kept kept' stop
      → KeepsMapsIn (holds packs') (held packs) (held packs') input old new stop
  event_keeps None is t apart armed maps b =
      let does : Does (record { packs = holds packs'; trace = tells trace' }) (event_acts line input is.tried old) (seen old (held packs) (taken trace) kept) (seen new (held packs') (taken trace') kept') = is.outcome in
      moved_to (armed_by armed input) (after_all old (event_acts line input is.tried old)) new (packs_after_all old (held packs) (event_acts line input is.tried old)) (held packs') maps does.does.world (does.does.packs t)
      (events_bear armed old line input is.tried (event_acts line input is.tried old) [] (held packs) maps sound (whole (event_acts line input is.tried old)) does.does.run (does.does.reads t) b)
  event_keeps (Some Sink) is t apart armed maps b =
      let stops : StopsAtTrace (record { packs = holds packs'; trace = tells trace' }) (event_acts line input is.tried old) (seen old (held packs) (taken trace) kept) (seen new (held packs') (taken trace') kept') = is.outcome in
      moved_to (armed_by armed input) (after_all old stops.done) new (packs_after_all old (held packs) stops.done) (held packs') maps stops.does.world (stops.does.packs t)
      (events_bear armed old line input is.tried stops.done stops.left (held packs) maps sound stops.all stops.does.run (stops.does.reads t) b)
  event_keeps (Some Store) is t apart armed maps b = absurd (apart refl)

-- THE OLDEST ANSWER
first_same : {x y : Made} {xs ys answers : List Made} → answers ≡ x ∷ xs → answers ≡ y ∷ ys → x ≡ y
first_same e f = cc

gives_of_maps : (w : World) → GivesOfMaps w
gives_of_maps w k armed held maps made p reads b oldest slot sures =
    let same : reads.made ≡ made = first_same reads.oldest.first oldest.first in
    let kind : made.answer.kind ≡ ReadOk reads.count reads.last = ap (λ (m : Made). m.answer.kind) (sym same) ∙ reads.ok in
    let steps : AreSteps armed w held (made ∷ drop 1 w.answers) maps b.now = subst (λ (l : List Made). AreSteps armed w held l maps b.now) oldest.first b.answers in
    let step : StepsFrom armed w held maps (Some p) made.answer.kind = subst (λ (o : Option ℕ). StepsFrom armed w held maps o made.answer.kind) slot steps.0 in
    let said : IsSaid (IsSureFor (is_sure_among armed (held_in w p).unit) (unit_at w (held_in w p).unit).drive.kind (unit_at w (held_in w p).unit).table (held (held_in w p).unit) (held_in w p))
    (maps (held_in w p).unit) (held_in w p) (ReadOk reads.count reads.last) =
    subst (λ a. IsSaid (IsSureFor (is_sure_among armed (held_in w p).unit) (unit_at w (held_in w p).unit).drive.kind (unit_at w (held_in w p).unit).table (held (held_in w p).unit) (held_in w p))
    (maps (held_in w p).unit) (held_in w p) a) kind step.said in
    said sures k reads.inside

pub holds_maps : (w : World) → Sound w → HoldsMaps w
holds_maps w sound = record {
  rest = λ work held rests. rest_bears w held sound work rests;
  gives = gives_of_maps w;
  taken = λ armed held maps some b. takings_bear armed w held maps sound some b;
}
