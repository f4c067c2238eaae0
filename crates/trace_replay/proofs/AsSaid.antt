-- What is said of a drive's condition alone changes it.
use Rattle.std.proofs.Common.{◌≡◌, inl, inr, ℕ, ◌==◌, Bool, true, false, List, [], ◌∷◌, refl, sym, ap, ◌∙◌}
use Rattle.std.specs.Prelude.{if◌then◌else◌, unwrap_or}
use Rattle.std.proofs.lemmas.Bool.Decides.{eqb_tells}
use Rattle.pack_geometry.specs.declared.DriveKind.{DriveKind}
use Rattle.pack_geometry.specs.declared.DriveKind.TheVariants.{Rp06, Rm03, Rm05}
use Rattle.drive_registers.specs.declared.Function.{Function}
use Rattle.drive_registers.specs.declared.Function.TheVariants as function
use Rattle.hardware_table.specs.declared.FaultKind.TheVariants as fault
use Rattle.drive_registers.specs.Codes.{function_code, offset_code}
use Rattle.hardware_table.specs.declared.Moved.{Moved}
use Rattle.hardware_table.specs.declared.Moved.TheVariants as verdict
use Rattle.hardware_table.specs.declared.Work.{Work}
use Rattle.hardware_table.specs.declared.Work.TheVariants as work
use Rattle.hardware_table.specs.Drive.{DriveState, with_register, new_drive}
use Rattle.hardware_table.specs.Adapter.{AdapterState, drive_stepped, stepped, next_block}
use Rattle.hardware_table.specs.Events.{arrived_from, transfer_ended, turned, fault_armed, online_set, locked_set}
use Rattle.hardware_table.specs.Functions.{performed, refusals, effect, refused}
use Rattle.hardware_table.specs.Moves.{after_move}
use Rattle.trace_replay.specs.requests.Requests.{Request}
use Rattle.trace_replay.specs.Script.{Input, Submit, ArriveAt, MoveAt, AttendTo, Drain, Turn, Noise, Arm, SetOnline, SetLocked}
use Rattle.trace_replay.specs.Moments.{Deed, Search, Seek, Recal, Offset, Centre, Clear, Pack, Transfer, Arrive, Sector, Moment, Played, Told, Idle}
use Rattle.hardware_table.specs.declared.Register.TheVariants as register
use Rattle.pack_geometry.specs.Geometry.{place_at}
use Rattle.trace_replay.specs.Drives.{drive_after, drive_played, addressed, search_place, offset_written}
use Rattle.pack_geometry.specs.declared.Place.{Place}
use Rattle.trace_replay.specs.Service.{in_hand, target_of}
use Rattle.trace_replay.specs.Events.{Wish, Refusal, Event}
use Rattle.trace_replay.specs.Replay.{Replay, new_replay, next_wish, at_unit, after_moment, after_moments, unit_after, told_after, replay_told, Submission, Refused, Joined, submission, submitted, replay_played}
use Rattle.trace_replay.proofs.Unchanged.{drained_keeps}
use Rattle.trace_replay.specs.Conditions.{online_said, locked_said, online_behind, locked_behind, IsAsSaid}

-- ---- online
online_of_either : (b : Bool) (x y : DriveState) (c : Bool) → x.online ≡ c → y.online ≡ c → (if b then x else y).online ≡ c
online_of_either true x y c a b = a
online_of_either false x y c a b = b

effect_online : (f : Function) (d : DriveState) → (effect f d).online ≡ d.online
effect_online function.Nop d = refl
effect_online other d = refl

performed_online : (f : Function) (d : DriveState) → (performed f d).online ≡ d.online
performed_online f d =
    online_of_either (refusals f d == 0) (effect f (record d { cs1 = (function_code f) })) (refused (refusals f d) (record d { cs1 = (function_code f) })) d.online
    (effect_online f (record d { cs1 = function_code f })) refl

arrived_online : (w : Work) (d : DriveState) → (arrived_from w d).online ≡ d.online
arrived_online work.Ready d = refl
arrived_online other d = refl

marked_online : (kind : DriveKind) (v : Moved) (block : ℕ) (d : DriveState) → d.kind ≡ kind → (after_move v block d).online ≡ d.online
marked_online kind verdict.Clean block d is = refl
marked_online kind (verdict.Burst at q) block d is = refl
marked_online kind verdict.Hard block d is = refl
marked_online kind (verdict.Faulted fault.Seek) block d is = refl
marked_online kind (verdict.Faulted fault.Opi) block d is = refl
marked_online kind (verdict.Faulted fault.Dte) block d is = refl
marked_online kind (verdict.Faulted fault.Hcrc) block d is = refl
marked_online kind (verdict.Faulted fault.Late) block d is = refl
marked_online Rp06 verdict.Marked block d is = rw is refl
marked_online Rm03 verdict.Marked block d is = rw is refl
marked_online Rm05 verdict.Marked block d is = rw is refl
marked_online kind verdict.Offline block d is = refl

stepped_online : (v : Moved) (a : AdapterState) (d : DriveState) → (drive_stepped v a d).online ≡ d.online
stepped_online v a d =
    online_of_either (stepped v a).completion (transfer_ended (after_move v (next_block a) d)) (after_move v (next_block a) d) d.online
    (marked_online d.kind v (next_block a) d refl) (marked_online d.kind v (next_block a) d refl)

transfer_online : (write : Bool) (d : DriveState) → (performed (if write then function.Write else function.Read) d).online ≡ d.online
transfer_online true d = performed_online function.Write d
transfer_online false d = performed_online function.Read d

after_online : (d : DriveState) (a : AdapterState) (target : Place) (deed : Deed) → (drive_after d a target deed).online ≡ d.online
after_online d a target (Search c y) = performed_online function.Search (addressed (search_place c y target) d)
after_online d a target (Seek c) = performed_online function.Seek (with_register register.Dc c d)
after_online d a target Recal = performed_online function.Recal d
after_online d a target (Offset o) = performed_online function.Offset (offset_written (offset_code o) d)
after_online d a target Centre = performed_online function.Centre d
after_online d a target Clear = performed_online function.Clear d
after_online d a target Pack = performed_online function.Pack d
after_online d a target (Transfer w b k) = transfer_online w (addressed (place_at d.kind b) d)
after_online d a target Arrive = arrived_online d.work d
after_online d a target (Sector b v) = stepped_online v a d
after_online d a target other = refl

-- ---- locked
locked_of_either : (b : Bool) (x y : DriveState) (c : Bool) → x.locked ≡ c → y.locked ≡ c → (if b then x else y).locked ≡ c
locked_of_either true x y c a b = a
locked_of_either false x y c a b = b

effect_locked : (f : Function) (d : DriveState) → (effect f d).locked ≡ d.locked
effect_locked function.Nop d = refl
effect_locked other d = refl

performed_locked : (f : Function) (d : DriveState) → (performed f d).locked ≡ d.locked
performed_locked f d =
    locked_of_either (refusals f d == 0) (effect f (record d { cs1 = (function_code f) })) (refused (refusals f d) (record d { cs1 = (function_code f) })) d.locked
    (effect_locked f (record d { cs1 = function_code f })) refl

arrived_locked : (w : Work) (d : DriveState) → (arrived_from w d).locked ≡ d.locked
arrived_locked work.Ready d = refl
arrived_locked other d = refl

marked_locked : (kind : DriveKind) (v : Moved) (block : ℕ) (d : DriveState) → d.kind ≡ kind → (after_move v block d).locked ≡ d.locked
marked_locked kind verdict.Clean block d is = refl
marked_locked kind (verdict.Burst at q) block d is = refl
marked_locked kind verdict.Hard block d is = refl
marked_locked kind (verdict.Faulted fault.Seek) block d is = refl
marked_locked kind (verdict.Faulted fault.Opi) block d is = refl
marked_locked kind (verdict.Faulted fault.Dte) block d is = refl
marked_locked kind (verdict.Faulted fault.Hcrc) block d is = refl
marked_locked kind (verdict.Faulted fault.Late) block d is = refl
marked_locked Rp06 verdict.Marked block d is = rw is refl
marked_locked Rm03 verdict.Marked block d is = rw is refl
marked_locked Rm05 verdict.Marked block d is = rw is refl
marked_locked kind verdict.Offline block d is = refl

stepped_locked : (v : Moved) (a : AdapterState) (d : DriveState) → (drive_stepped v a d).locked ≡ d.locked
stepped_locked v a d =
    locked_of_either (stepped v a).completion (transfer_ended (after_move v (next_block a) d)) (after_move v (next_block a) d) d.locked
    (marked_locked d.kind v (next_block a) d refl) (marked_locked d.kind v (next_block a) d refl)

transfer_locked : (write : Bool) (d : DriveState) → (performed (if write then function.Write else function.Read) d).locked ≡ d.locked
transfer_locked true d = performed_locked function.Write d
transfer_locked false d = performed_locked function.Read d

after_locked : (d : DriveState) (a : AdapterState) (target : Place) (deed : Deed) → (drive_after d a target deed).locked ≡ d.locked
after_locked d a target (Search c y) = performed_locked function.Search (addressed (search_place c y target) d)
after_locked d a target (Seek c) = performed_locked function.Seek (with_register register.Dc c d)
after_locked d a target Recal = performed_locked function.Recal d
after_locked d a target (Offset o) = performed_locked function.Offset (offset_written (offset_code o) d)
after_locked d a target Centre = performed_locked function.Centre d
after_locked d a target Clear = performed_locked function.Clear d
after_locked d a target Pack = performed_locked function.Pack d
after_locked d a target (Transfer w b k) = transfer_locked w (addressed (place_at d.kind b) d)
after_locked d a target Arrive = arrived_locked d.work d
after_locked d a target (Sector b v) = stepped_locked v a d
after_locked d a target other = refl

-- ---- a line of the script
online_played : (unit : ℕ) (d : DriveState) (input : Input) → (drive_played unit d input).online ≡ online_said unit input d.online
online_played unit d (Submit r) = refl
online_played unit d (ArriveAt u) = refl
online_played unit d (MoveAt a) = refl
online_played unit d (AttendTo a) = refl
online_played unit d Drain = refl
online_played unit d (Turn u sector) = online_of_either (unit == u) (turned sector d) d d.online refl refl
online_played unit d (Noise noise) = refl
online_played unit d (Arm u k n) = online_of_either (unit == u) (fault_armed k n d) d d.online refl refl
online_played unit d (SetOnline u on) = at (unit == u)
  where
    set : (on : Bool) → (online_set on d).online ≡ on
    set true = refl
    set false = refl

    at : (b : Bool) → (if b then online_set on d else d).online ≡ (if b then on else d.online)
    at true = set on
    at false = refl
online_played unit d (SetLocked u on) = online_of_either (unit == u) (locked_set on d) d d.online refl refl

locked_played : (unit : ℕ) (d : DriveState) (input : Input) → (drive_played unit d input).locked ≡ locked_said unit input d.locked
locked_played unit d (Submit r) = refl
locked_played unit d (ArriveAt u) = refl
locked_played unit d (MoveAt a) = refl
locked_played unit d (AttendTo a) = refl
locked_played unit d Drain = refl
locked_played unit d (Turn u sector) = locked_of_either (unit == u) (turned sector d) d d.locked refl refl
locked_played unit d (Noise noise) = refl
locked_played unit d (Arm u k n) = locked_of_either (unit == u) (fault_armed k n d) d d.locked refl refl
locked_played unit d (SetOnline u on) = at (unit == u)
  where
    set : (on : Bool) → (online_set on d).locked ≡ d.locked
    set true = refl
    set false = refl

    at : (b : Bool) → (if b then online_set on d else d).locked ≡ d.locked
    at true = set on
    at false = refl
locked_played unit d (SetLocked u on) = at (unit == u)
  where
    at : (b : Bool) → (if b then locked_set on d else d).locked ≡ (if b then on else d.locked)
    at true = refl
    at false = refl

-- ---- a run
record Said (s : Replay) (online locked : ℕ → Bool) : Type 0 where
  on : (x : ℕ) → (s.units x).drive.online ≡ online x
  lock : (x : ℕ) → (s.units x).drive.locked ≡ locked x

said_again : {s : Replay} {online locked : ℕ → Bool} {event : Event} → Said s online locked → Said (record s { event = event }) online locked
said_again h = record { on = h.on; lock = h.lock }

line_said : (s : Replay) (unit : ℕ) (deed : Deed) (online locked : ℕ → Bool) → Said s online locked → Said (replay_told s unit deed (unit_after s unit deed)) online locked
line_said s unit deed online locked h = record {
  on = λ x. elim (eqb_tells x unit) [
    | inl same ↦ rw same.0 (after_online (s.units unit).drive (at_unit s unit).state (target_of (s.units unit).drive.kind (in_hand (s.units unit).service)) deed ∙ h.on unit ∙ ap online (sym same.1))
    | inr other ↦ rw other.0 (h.on x)
  ];
  lock = λ x. elim (eqb_tells x unit) [
    | inl same ↦ rw same.0 (after_locked (s.units unit).drive (at_unit s unit).state (target_of (s.units unit).drive.kind (in_hand (s.units unit).service)) deed ∙ h.lock unit ∙ ap locked (sym same.1))
    | inr other ↦ rw other.0 (h.lock x)
  ];
}

told_said : (wish : Wish) (s : Replay) (unit : ℕ) (deed : Deed) (online locked : ℕ → Bool) → Said s online locked → Said (told_after wish s unit deed) online locked
told_said (Refusal u i why) s unit deed online locked h = record { on = h.on; lock = h.lock }
told_said other s unit deed online locked h =
    drained_keeps (λ t. Said t online locked) (replay_told s unit deed (unit_after s unit deed)) (λ event. said_again (line_said s unit deed online locked h))

joined_said : (s : Replay) (r : Request) (met : Submission) (online locked : ℕ → Bool) → Said s online locked → Said (submitted s r met) online locked
joined_said s r (Refused why) online locked h = h
joined_said s r Joined online locked h = record {
  on = λ x. elim (eqb_tells x r.unit) [
    | inl same ↦ rw same.0 (h.on r.unit ∙ ap online (sym same.1))
    | inr other ↦ rw other.0 (h.on x)
  ];
  lock = λ x. elim (eqb_tells x r.unit) [
    | inl same ↦ rw same.0 (h.lock r.unit ∙ ap locked (sym same.1))
    | inr other ↦ rw other.0 (h.lock x)
  ];
}

input_said : (s : Replay) (input : Input) (online locked : ℕ → Bool) → Said s online locked
    → Said (replay_played s input) (λ x. online_said x input (online x)) (λ x. locked_said x input (locked x))
input_said s (Submit r) online locked h = joined_said s r (submission s r) online locked h
input_said s (ArriveAt u) online locked h = h
input_said s (MoveAt a) online locked h = h
input_said s (AttendTo a) online locked h = h
input_said s Drain online locked h = h
input_said s other online locked h = record {
  on = λ x. online_played x (s.units x).drive other ∙ ap (λ z. online_said x other z) (h.on x);
  lock = λ x. locked_played x (s.units x).drive other ∙ ap (λ z. locked_said x other z) (h.lock x);
}

moments_said : (s : Replay) (ms : List Moment) (online locked : ℕ → Bool) → Said s online locked
    → Said (after_moments s ms) (λ x. online_behind x (online x) ms) (λ x. locked_behind x (locked x) ms)
moments_said s [] online locked h = h
moments_said s (Played line input ∷ ms) online locked h =
    moments_said (after_moment s (Played line input)) ms (λ x. online_said x input (online x)) (λ x. locked_said x input (locked x)) (said_again (input_said s input online locked h))
moments_said s (Told line unit id deed ∷ ms) online locked h =
    moments_said (after_moment s (Told line unit id deed)) ms online locked (told_said (next_wish s) s unit deed online locked h)
moments_said s (Idle line ∷ ms) online locked h = moments_said (after_moment s (Idle line)) ms online locked (said_again h)

pub is_as_said : IsAsSaid
is_as_said drives tables surface ms unit = (said.on unit, said.lock unit)
  where
    said : Said (after_moments (new_replay drives tables surface) ms) (λ x. online_behind x true ms) (λ x. locked_behind x false ms)
    said = moments_said (new_replay drives tables surface) ms (λ x. true) (λ x. false) (record {
      on = λ x. performed_online function.Pack (performed function.Preset (new_drive (unwrap_or (drives x) Rp06) x)) ∙ performed_online function.Preset (new_drive (unwrap_or (drives x) Rp06) x);
      lock = λ x. performed_locked function.Pack (performed function.Preset (new_drive (unwrap_or (drives x) Rp06) x)) ∙ performed_locked function.Preset (new_drive (unwrap_or (drives x) Rp06) x);
    })
