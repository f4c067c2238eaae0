-- A submission: what may be asked, and what a refusal and a join come to.
use Rattle.std.proofs.Common.{◌≡◌, ℕ, ◌+◌, ◌-◌, ◌*◌, Bool, true, false, List, [], ◌∷◌, length, Option, Some, None, refl, sym, ap, ◌∙◌, subst}
use Rattle.std.specs.Prelude.{min, Result, is_some, if◌then◌else◌}
use Rattle.std.proofs.lemmas.Option.{none-some, same_Some}
use Rattle.pack_geometry.specs.declared.DriveKind.{DriveKind}
use Rattle.trace_replay.specs.requests.Requests as told
use Rattle.trace_replay.specs.requests.Requests.{first_block}
use Rattle.trace_replay.specs.declared.requests.answers.AnswerKind.{AnswerKind}
use Rattle.driver_machine.specs.World.{World, Held, no_held, unit_at, pieces, adapter_of}
use Rattle.driver_machine.specs.Acts.{Act, Refuse}
use Rattle.driver_machine.specs.Events.{refusal_of, submit_by, submit_acts, joined_acts, followed, adapter_start}
use Rattle.driver_machine.specs.Guards.{IsSetUp, IsFresh, IsNew, IsHeldFor}
use Rattle.driver_machine.specs.Runs.{MaySubmit}
use Rattle.driver_laws.proofs.invariant.Calls.{submit_works}
use Rattle.hp_driver.proofs.Passes.{sound_after}
use Rattle.driver_laws.specs.declared.answers.outcome.Stop.{Stop}
use Rattle.driver_laws.specs.shown.QuietPasses.{stop_in}
use Rattle.hp_driver.specs.Asked.{Asked}
use Rattle.hp_driver.specs.Requests as slots
use Rattle.hp_driver.specs.Passes.{State}
use Rattle.hp_driver.specs.Done.{DoesActs}
use Rattle.hp_driver.specs.Submissions.{MayRefuse}
use Rattle.trace_replay.specs.declared.requests.request.Request.{Request}
use Rattle.hp_core.proofs.Tries.{no_store}
use Rattle.hp_driver.specs.Subsystem as subsystem
use Rattle.hp_driver.specs.Subsystem.{asked, Submits, IsAsked}
use Rattle.hp_driver.specs.Calls.{Stands, Asks, MayAsk, asked_at}
use Rattle.hp_driver.proofs.Calls.{left_by, ran_does, works_does}
use Rattle.hp_driver.proofs.Bytes.{submit_keeps}

-- WHAT MAY BE ASKED
size_by : (write : Bool) (size : ℕ) (bytes : List ℕ)
    → ((content : List ℕ) → (if write then Some bytes else None) ≡ Some content → length content ≡ size) → (write ≡ false → bytes ≡ [])
    → length bytes ≡ (if write then size else 0)
size_by true size bytes exact none = exact bytes refl
size_by false size bytes exact none = ap (λ (l : List ℕ). length l) (none refl)

pub may_ask : (s : subsystem.State) (r : Request) (bytes : List ℕ) → length s.world.slots ≡ min s.outstanding 16384 → s.world.answers ≡ []
    → IsAsked s r bytes → MayAsk s.world r bytes
may_ask s r bytes size none is = record {
  unit = is.unit;
  request = is.request;
  fresh = record { taken = none; other = is.fresh };
  size = size_by r.write (512 * (r.count - 1) + r.last) bytes is.request.exact is.none;
  most = s.outstanding;
  slots = size;
  room = is.room;
}

-- a request as it stands in its slot is one for what was asked
pub held_for : (kind : DriveKind) (r : Request) (bytes : List ℕ) (first : ℕ) (h : Held) → first ≡ first_block kind (asked r [])
    → slots.IsHeldFor (asked_at r first) bytes h → IsHeldFor kind (asked r bytes) h
held_for kind r bytes first h begins is = record {
  id = ap (λ (a : Asked). a.id) is.same;
  unit = ap (λ (a : Asked). a.unit) is.same;
  first = ap (λ (a : Asked). a.first) is.same ∙ begins;
  count = ap (λ (a : Asked). a.count) is.same;
  last = ap (λ (a : Asked). a.last) is.same;
  offset = ap (λ (a : Asked). a.offset) is.same;
  write = ap (λ (a : Asked). a.write) is.same ∙ is_some_by r.write;
  content = λ content e. content_by r.write refl content e;
}
  where
    is_some_by : (write : Bool) → write ≡ is_some (if write then Some bytes else None)
    is_some_by true = refl
    is_some_by false = refl

    content_by : (write : Bool) → r.write ≡ write → (content : List ℕ) → (if write then Some bytes else None) ≡ Some content → h.blocks ≡ pieces r.count content
    content_by true e content same = is.content e ∙ ap (λ (l : List ℕ). pieces r.count l) (same_Some bytes content same)
    content_by false e content same = absurd (none-some content same)

pub held_there : (w : World) (r : Request) (bytes : List ℕ) (first : ℕ) (h : Held) → first ≡ first_block (unit_at w r.unit).drive.kind (asked r [])
    → slots.IsHeldFor (asked_at r first) bytes h → IsHeldFor (unit_at w h.unit).drive.kind (asked r bytes) h
held_there w r bytes first h begins is =
    subst (λ (u : ℕ). IsHeldFor (unit_at w u).drive.kind (asked r bytes) h) (sym (ap (λ (a : Asked). a.unit) is.same))
    (held_for (unit_at w r.unit).drive.kind r bytes first h begins is)

module _ {O : Type 0} (tells : O → Bool) (taken : O → List ℕ) (faults : O → ℕ) (trace trace' : O) (old new : State) (result : Result (Unit {0}) Stop) (line : ℕ) (r : told.Request)
    (stands : Stands old) (unit : IsSetUp old.world r.unit) (fresh : IsFresh old.world r.id) where
  asks_by : (p : ℕ) (h : Held) (acts : List Act) → MaySubmit old.world r p h → (refusal_of r old.world ≡ None → IsHeldFor (unit_at old.world h.unit).drive.kind r h)
      → submit_acts r line p h old.world ≡ acts → DoesActs tells taken faults trace trace' old new result acts
      → Asks tells taken faults trace trace' old new result line r
  asks_by p h acts may held same does_acts =
      let is : DoesActs tells taken faults trace trace' old new result (submit_acts r line p h old.world) =
      subst (λ (l : List Act). DoesActs tells taken faults trace trace' old new result l) (sym same) does_acts in
      let does : Submits tells taken trace trace' line r old.world new.world old.kept new.kept (stop_in result) = record { slot = p; held = h; may = may; is = held; outcome = is.outcome } in
      record {
        does = does;
        bytes = submit_keeps tells taken trace trace' line r old.world new.world old.kept new.kept stands.sound (stop_in result) (no_store result is.stop) does;
        leaves = left_by old new result stands (ran_does tells taken faults trace trace' old new result (submit_acts r line p h old.world) is)
            (works_does tells taken faults trace trace' old new result (submit_acts r line p h old.world)
            (submit_works sound_after r line p h old.world stands.sound stands.work may).work is);
        stop = is.stop;
        never_again = is.never_again;
        cause = is.cause;
      }

  -- REFUSED
  pub asks_refused : (kind : AnswerKind) → refusal_of r old.world ≡ Some kind
      → DoesActs tells taken faults trace trace' old new result (followed (Refuse line r kind ∷ []) (adapter_start line (adapter_of r.unit)) old.world)
      → Asks tells taken faults trace trace' old new result line r
  asks_refused kind refused does_acts =
      asks_by 0 no_held (followed (Refuse line r kind ∷ []) (adapter_start line (adapter_of r.unit)) old.world)
      (record { unit = unit; fresh = fresh; new = λ e. absurd (none-some kind (sym e ∙ refused)) })
      (λ e. absurd (none-some kind (sym e ∙ refused)))
      (ap (λ (o : Option AnswerKind). submit_by o r line 0 no_held old.world) refused) does_acts

  -- JOINED
  pub asks_joined : (p : ℕ) (h : Held) → refusal_of r old.world ≡ None → IsNew old.world p h → IsHeldFor (unit_at old.world h.unit).drive.kind r h
      → DoesActs tells taken faults trace trace' old new result (joined_acts line p h old.world)
      → Asks tells taken faults trace trace' old new result line r
  asks_joined p h joins new_is held does_acts =
      asks_by p h (joined_acts line p h old.world) (record { unit = unit; fresh = fresh; new = λ e. new_is }) (λ e. held)
      (ap (λ (o : Option AnswerKind). submit_by o r line p h old.world) joins) does_acts

-- what a refusal may be given to
pub may_refuse : (w : World) (line : ℕ) (r : told.Request) (kind : AnswerKind) → IsSetUp w r.unit → IsFresh w r.id → refusal_of r w ≡ Some kind → MayRefuse w line r.unit r.id kind
may_refuse w line r kind unit fresh refused = record { request = r; unit = refl; named = refl; may = (unit, fresh, refused) }
