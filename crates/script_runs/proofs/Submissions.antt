-- A request that a line of the script submits: a slot and frames are there for it, and the run goes on.
use Rattle.std.proofs.Common.{◌≡◌, inl, ℕ, ◌+◌, ◌<◌, ◌≤◌, ◌==◌, Bool, true, false, List, [], ◌∷◌, ◌++◌, length, Option, Some, None, refl, sym, ap, subst, arith, ◌∙◌}
use Rattle.std.specs.Prelude.{Contains, is_some}
use Rattle.std.specs.List.{list_any}
use Rattle.std.proofs.lemmas.Option.{none-some}
use Rattle.pack_geometry.specs.declared.DriveKind.{DriveKind}
use Rattle.pack_geometry.specs.Pack.{Pack}
use Rattle.pack_geometry.specs.TableSpelling.{Table}
use Rattle.trace_replay.specs.requests.Requests.{Request, IsRequest}
use Rattle.trace_replay.specs.Script as says
use Rattle.trace_replay.specs.Script.{Script, Numbered, drives_of}
use Rattle.trace_replay.specs.Packs.{surface_of}
use Rattle.trace_replay.specs.Replay.{Replay, all_units, after_moments}
use Rattle.trace_replay.specs.Runs.{start_of}
use Rattle.driver_laws.specs.rules.Drains.{IsOf}
use Rattle.driver_laws.proofs.rules.Runs.{all_from, from_any, filter_any}
use Rattle.trace_replay.specs.declared.requests.answers.AnswerKind.{AnswerKind}
use Rattle.driver_machine.specs.World.{World, Held, unit_at}
use Rattle.driver_machine.specs.Acts.{Act, after_all}
use Rattle.driver_machine.specs.Events.{refusal_of, submit_by, submit_acts}
use Rattle.driver_machine.specs.Guards.{IsSetUp}
use Rattle.driver_machine.specs.Sound.{Sound, AtWork}
use Rattle.driver_laws.specs.shown.RunsRuns.{IsKept}
use Rattle.driver_machine.specs.Runs.{Works}
use Rattle.driver_laws.proofs.invariant.Calls.{submit_works}
use Rattle.driver_laws.proofs.invariant.Sound.{sound_after}
use Rattle.driver_laws.specs.answers.Packs.{packs_after_all}
use Rattle.driver_laws.specs.shown.Calls.{Stands}
use Rattle.driver_laws.specs.shown.Runs.{with_call}
use Rattle.driver_laws.proofs.shown.Calls.{submissions_go}
use Rattle.driver_laws.proofs.shown.Inputted.{calls_are_played}
use Rattle.driver_laws.proofs.shown.RunsLaws.{submissions_keep}
use Rattle.driver_laws.proofs.shown.Asked.{calls_ask}
use Rattle.driver_laws.specs.answers.Counts.{in_use}
use Rattle.driver_laws.proofs.answers.Events.{submissions_add}
use Rattle.driver_laws.specs.answers.Ids.{AreOf}
use Rattle.driver_laws.proofs.answers.Ids as ids
use Rattle.driver_laws.specs.answers.Waiting.{all_taken}
use Rattle.script_runs.specs.Steps.{Behind, HasPlace}
use Rattle.script_runs.proofs.Taking.{runs_wait, so_far_taken, kept_taken}
use Rattle.script_runs.proofs.Fitting.{within_more, Found, found}
use Rattle.script_runs.proofs.Rooms.{room_behind}
use Rattle.script_runs.proofs.Places.{places_exist}

-- THE UNIT of a request that is set up is one of those that are there.
some_by : (drive : Option DriveKind) (declared : Bool) → (drive ≡ None → declared ≡ false) → declared ≡ true → is_some drive ≡ true
some_by None declared others on = absurd (cc (others refl, on))
some_by (Some kind) declared others on = refl

pub of_unit : (script : Script) (tables : ℕ → Option Table) (old held : ℕ → Pack) (w : World) (r : Request) → IsSetUp w r.unit → IsKept (drives_of script) old held w
    → IsOf (start_of script tables old).there (says.Submit r)
of_unit script tables old held w r unit kept =
    filter_any (λ u. is_some (drives_of script u)) r.unit all_units
    (some_by (drives_of script r.unit) (unit_at w r.unit).declared (kept.units.others r.unit) unit.declared)
    (subst (λ (us : List ℕ). list_any (λ x. x == r.unit) us ≡ true) (sym all_from) (from_any 32 0 r.unit (omega arith) (omega (arith, unit.unit))))

-- THE IDS behind it
ids_behind : (used : List ℕ) (w : World) (next : ℕ) (r : Request) (place : HasPlace w r) → Sound w → AtWork w → AreOf used w
    → AreOf (r.id ∷ used) (after_all w (submit_acts r next place.slot place.held w))
ids_behind used w next r place sound work are = behind (refusal_of r w) refl
  where
    behind : (refused : Option AnswerKind) → refusal_of r w ≡ refused → AreOf (r.id ∷ used) (after_all w (submit_acts r next place.slot place.held w))
    behind None is = ids.submissions_add used w next place.slot r place.held sound work place.may (place.is is).id are
    behind (Some kind) is =
        let other : Held = record place.held { id = r.id } in
        let same : submit_acts r next place.slot other w ≡ submit_acts r next place.slot place.held w =
        ap (λ (o : Option AnswerKind). submit_by o r next place.slot other w) is ∙ sym (ap (λ (o : Option AnswerKind). submit_by o r next place.slot place.held w) is) in
        subst (λ (acts : List Act). AreOf (r.id ∷ used) (after_all w acts)) same
        (ids.submissions_add used w next place.slot r other sound work
        (record { unit = place.may.unit; fresh = place.may.fresh; new = λ none. absurd (none-some kind (sym none ∙ is)) }) refl are)

room_left : (used done slots total : ℕ) → used ≤ done → slots ≡ total → done < total → used < slots
room_left used done slots total le is less = omega (arith, le, is, less)

pub submission_behind : (script : Script) (tables : ℕ → Option Table) (old : ℕ → Pack) (total done : ℕ) (used : List ℕ) (line next : ℕ) (r : Request) (inputs : List Numbered)
    → line < next → done < total → says.IsThere (drives_of script r.unit) (λ kind. IsRequest r) → (Contains used r.id → ⊥)
    → Behind script tables old total done used line inputs
    → Behind script tables old total (done + 1) (r.id ∷ used) next (inputs ++ record { line = next; input = says.Submit r } ∷ [])
submission_behind script tables old total done used line next r inputs less room there other b =
    let start : Replay = start_of script tables old in
    let w : World = b.world in
    let stands : Stands b.held w (after_moments start b.moments) = b.far.so_far.left.stands in
    let drive : Found (drives_of script r.unit) (λ kind. IsRequest r) = found (drives_of script r.unit) (λ kind. IsRequest r) there in
    let unit : IsSetUp w r.unit = (b.room.units r.unit drive.kind drive.is).0 in
    let place : HasPlace w r =
    places_exist w r stands.sound unit drive.holds (ids.others_are_fresh used w r.id b.room.ids other b.room.none_waits)
    (room_left (in_use w.slots) done (length w.slots) total b.room.within.requests b.room.slots room) in
    let acts : List Act = submit_acts r next place.slot place.held w in
    let works : Works w acts = submit_works sound_after r next place.slot place.held w stands.sound stands.work place.may in
    record {
      held = packs_after_all w b.held acts;
      world = all_taken (after_all w acts);
      moments = with_call b.moments next (says.Submit r) w acts;
      far = record {
        so_far = so_far_taken start next (with_call b.moments next (says.Submit r) w acts) (packs_after_all w b.held acts) (after_all w acts)
            (runs_wait w acts stands.sound works.run (inl b.room.none_waits))
            (submissions_go (drives_of script) tables (surface_of old) line next place.slot r place.held b.moments b.held w b.far.so_far less place.may place.is b.far.asked.some);
        kept = kept_taken (drives_of script) old (packs_after_all w b.held acts) (after_all w acts) works.sound
            (submissions_keep (drives_of script) old b.held w next place.slot r place.held stands.sound stands.work place.may b.far.kept);
        plays = calls_are_played b.moments next (says.Submit r) w acts
            ∙ ap (λ (xs : List Numbered). xs ++ record { line = next; input = says.Submit r } ∷ []) b.far.plays;
        asked = calls_ask start.there b.moments next (says.Submit r) w acts b.far.asked drive.holds.some (of_unit script tables old b.held w r unit b.far.kept);
      };
      room = room_behind script total done (done + 1) used (r.id ∷ used) w acts b.room
          (within_more (done + 1) (done + 1) done (done + 1) done (done + 1) (after_all w acts) (omega arith) (omega arith) (omega arith)
          (submissions_add done done done w next place.slot r place.held works.run b.room.within))
          (ids_behind used w next r place stands.sound stands.work b.room.ids);
    }
