-- One deed, under whichever name it is due.
use Rattle.std.proofs.Common.{◌≡◌, ◌⊎◌, inl, inr, ℕ, ◌+◌, ◌/◌, Bool, true, false, refl, sym, ap, ◌∙◌, arith, eq-eqb}
use Rattle.std.specs.Prelude.{not, if◌then◌else◌, ◌==◌, ◌≢◌}
use Rattle.std.proofs.lemmas.Bool.{ne_eqb}
use Rattle.pack_geometry.specs.declared.Place.{Place}
use Rattle.hardware_table.specs.declared.FaultKind.{FaultKind}
use Rattle.hardware_table.specs.declared.Moved.{Moved}
use Rattle.hardware_table.specs.declared.Moved.TheVariants as verdict
use Rattle.hp_interrupts.specs.declared.Sensed.TheVariants as sense
use Rattle.trace_replay.specs.declared.seek_engine.Position.{Position}
use Rattle.trace_replay.specs.declared.seek_engine.Position.TheVariants.{Ready, Seek}
use Rattle.trace_replay.specs.Seek.{position_for}
use Rattle.transfer_engine.specs.State.{segment_of, failures_after}
use Rattle.transfer_engine.specs.Calls.{step_for}
use Rattle.hp_core.specs.Asked.{Asked}
use Rattle.hp_core.specs.Requests.{asked_of}
use Rattle.trace_replay.specs.declared.requests.answers.AnswerKind.TheVariants.{Error}
use Rattle.trace_replay.specs.declared.requests.answers.Cause.{Cause}
use Rattle.driver_machine.specs.World.{UnitView, Held, transfer_of}
use Rattle.driver_machine.specs.Acts.{Deed, Move, Continue, Try, End}
use Rattle.driver_machine.specs.Due.{failed, sensed, command_of, target_of, start_by, start_of, ready_for, finished, done_with, judged, task_for, try_of}

-- BY THE DRIVE STATUS: the end of the request, or the command, or PACK in front of it
pub offline_by : (online locked : Bool) → sense.Offline ≡ (if not online then sense.Offline else if locked then sense.Locked else sense.Go) → (a b c : Deed)
    → (if not online then a else if locked then b else c) ≡ a
offline_by false locked is a b c = refl
offline_by true true is a b c = absurd (cc)
offline_by true false is a b c = absurd (cc)

pub locked_by : (online locked : Bool) → sense.Locked ≡ (if not online then sense.Offline else if locked then sense.Locked else sense.Go) → (a b c : Deed)
    → (if not online then a else if locked then b else c) ≡ b
locked_by false locked is a b c = absurd (cc)
locked_by true true is a b c = refl
locked_by true false is a b c = absurd (cc)

pub go_by : (online locked : Bool) → sense.Go ≡ (if not online then sense.Offline else if locked then sense.Locked else sense.Go) → (a b c : Deed)
    → (if not online then a else if locked then b else c) ≡ c
go_by false locked is a b c = absurd (cc)
go_by true true is a b c = absurd (cc)
go_by true false is a b c = refl

pub pack_by : (valid needs : Bool) → needs ≡ not valid → needs ≡ true → (a b : Deed) → (if valid then a else b) ≡ b
pack_by true needs is up a b = absurd (cc)
pack_by false needs is up a b = refl

pub valid_by : (valid needs : Bool) → needs ≡ not valid → needs ≡ false → (a b : Deed) → (if valid then a else b) ≡ a
valid_by true needs is down a b = refl
valid_by false needs is down a b = absurd (cc)

-- an error in front of any sector
pub none_moved : (why : Cause) (v : UnitView) (done : ℕ) → done ≡ (transfer_of v).done → failed why 0 v ≡ End (Error why done)
none_moved why v done is = ap (λ n. End (Error why n)) (plain (transfer_of v).done ∙ sym is)
  where
    plain : (n : ℕ) → n + 0 ≡ n
    plain n = omega arith

-- behind so many that moved
pub some_moved : (why : Cause) (moved : ℕ) (v : UnitView) (done : ℕ) → done ≡ (transfer_of v).done + moved → failed why moved v ≡ End (Error why done)
some_moved why moved v done is = ap (λ n. End (Error why n)) (sym is)

-- A START by the position that was found
pub start_as : (v : UnitView) (h : Held) (target : Place) (p : Position) → target ≡ target_of v h
    → p ≡ position_for v.drive.kind v.drive.cc (v.drive.la / 64) target true → start_of v h ≡ start_by p v h
start_as v h target p at is =
    ap (λ (q : Position). start_by q v h) (sym (is ∙ ap (λ (t : Place). position_for v.drive.kind v.drive.cc (v.drive.la / 64) t true) at))

-- the unit is ready at once
pub ready_as : (v : UnitView) (h : Held) (target : Place) (p : Position) → target ≡ target_of v h
    → p ≡ position_for v.drive.kind v.drive.cc (v.drive.la / 64) target true
    → (p ≡ Ready) ⊎ ((cylinder : ℕ) × (p ≡ Seek cylinder)) → start_of v h ≡ ready_for v h
ready_as v h target p at is (inl ready) = start_as v h target p at is ∙ ap (λ (q : Position). start_by q v h) ready
ready_as v h target p at is (inr seek) = start_as v h target p at is ∙ ap (λ (q : Position). start_by q v h) seek.1

-- THE TRANSFER COMMAND of what is asked
pub command_as : (v : UnitView) (h : Held) (asked : Asked) (e : Deed) → asked ≡ asked_of h
    → sensed asked.write v (Move asked.write (segment_of (transfer_of v))) ≡ e → command_of v h ≡ e
command_as v h asked e is same =
    ap (λ (a : Asked). sensed a.write v (Move a.write (segment_of (transfer_of v)))) (sym is) ∙ same

-- A TRY FAILED at this block, where that many have now.
pub try_as : (last : Moved) (moved : ℕ) (v : UnitView) (h : Held) (block failures : ℕ) → ((kind : FaultKind) × (last ≡ verdict.Faulted kind)) ⊎ (last ≡ verdict.Hard)
    → block ≡ (segment_of (transfer_of v)).block + moved → failures ≡ failures_after moved (transfer_of v).failures
    → Try moved block failures (task_for (step_for moved (transfer_of v)) (done_with moved v)) ≡ judged moved last v h
try_as last moved v h block failures is at number =
    ap (λ n. Try moved n failures (task_for (step_for moved (transfer_of v)) (done_with moved v))) at
    ∙ ap (λ n. Try moved ((segment_of (transfer_of v)).block + moved) n (task_for (step_for moved (transfer_of v)) (done_with moved v))) number
    ∙ sym (judged_so is)
  where
    judged_so : ((kind : FaultKind) × (last ≡ verdict.Faulted kind)) ⊎ (last ≡ verdict.Hard) → judged moved last v h ≡ try_of moved (transfer_of v)
    judged_so (inl faulted) = ap (λ (m : Moved). judged moved m v h) faulted.1
    judged_so (inr hard) = ap (λ (m : Moved). judged moved m v h) hard

-- A SEGMENT THAT MOVED CLEAN: all blocks are done, or not
module _ (moved done : ℕ) (v : UnitView) (h : Held) (asked : Asked) (is : asked ≡ asked_of h) (are : done ≡ done_with moved v) where
  pub finish_all : done ≡ asked.count → (if done_with moved v == h.loan.count then End (finished h) else Continue moved) ≡ End (finished h)
  finish_all same =
      ap (λ (b : Bool). if b then End (finished h) else Continue moved)
      (eq-eqb (done_with moved v) h.loan.count (sym are ∙ same ∙ ap (λ (a : Asked). a.count) is))

  pub finish_some : done ≢ asked.count → (if done_with moved v == h.loan.count then End (finished h) else Continue moved) ≡ Continue moved
  finish_some other =
      ap (λ (b : Bool). if b then End (finished h) else Continue moved)
      (ne_eqb (done_with moved v) h.loan.count (λ same. other (are ∙ same ∙ sym (ap (λ (a : Asked). a.count) is))))
