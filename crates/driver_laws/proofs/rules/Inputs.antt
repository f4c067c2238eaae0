-- A LINE OF THE SCRIPT: its request is submitted to the machine, or the machine is as it was.
use Rattle.std.proofs.Common.{◌≡◌, ℕ, suc, ◌<◌, ◌≤◌, ◌+◌, nat_le, false, List, [], ◌∷◌, ◌++◌, length, Option, None, Some, refl, sym, ap, ◌∙◌, subst, arith, All, rules}
use Rattle.pack_geometry.specs.declared.DriveKind.{DriveKind}
use Rattle.pack_geometry.specs.Geometry.{limit_of, block_count}
use Rattle.fire_code.specs.Noise.{IsNoise}
use Rattle.hardware_table.specs.Noise.{LiveNoise}
use Rattle.trace_replay.proofs.requests.ServiceOrderRuns.{newcomer, after_join-waiting}
use Rattle.trace_replay.specs.requests.Requests.{Request, IsRequest, first_block}
use Rattle.trace_replay.specs.Script.{Input, Submit, IsThere, IsSpan}
use Rattle.trace_replay.specs.Moments.{Played}
use Rattle.trace_replay.specs.Adapters.{adapter_of}
use Rattle.trace_replay.specs.Drives.{drive_played}
use Rattle.trace_replay.specs.Packs.{surface_played}
use Rattle.trace_replay.specs.Service.{cylinder_of, in_hand, frames_needed}
use Rattle.trace_replay.specs.Conversation.{goes_on}
use Rattle.trace_replay.specs.Events.{Serving, Wish, NoLine, IdleLine}
use Rattle.trace_replay.specs.Replay.{Replay, UnitSeen, next_wish, InputMay, after_moment, Submission, Refused, Joined, submission, submitted, unit_joined, joined_by, event_of, conditions_after, act_submitted}
use Rattle.trace_replay.proofs.Kept.{played_kind}
use Rattle.driver_laws.specs.rules.Machine.{Machine, request_of, frames_of, kind_of, meets, after_input, answers_of_input, submitted as machine_submitted, answers_at_once}
use Rattle.driver_laws.specs.rules.Stands.{Setup, home_in, is_sure_among, UnitStands, QueueStands, IsLive, StageStands, StandsFor, owed, owed_by, armed_by}
use Rattle.driver_laws.proofs.rules.Outstanding.{queue_joined, queue_stays, joins_found}
use Rattle.driver_laws.proofs.rules.Homes.{there_is}
use Rattle.driver_laws.proofs.rules.Joins.{joined_inside, there_with, joined_stands, played_work, fewer_stands}
use Rattle.driver_laws.proofs.rules.MachineUnits.{Keeps, plain}
use Rattle.driver_laws.proofs.rules.Keeping.{with_each, IsCalm}
use Rattle.driver_laws.proofs.rules.Lines.{other_event, state_owes}
use Rattle.driver_laws.proofs.rules.MomentSteps.{MomentStep}

-- ---- a request that joins
joined_stands_for : (setup : Setup) (armed : List LiveNoise) (s : Replay) (m : Machine) (r : Request) → Keeps setup s → StandsFor setup armed s m
    → IsThere (setup.drives r.unit) (λ kind. IsRequest r) → request_of r.id m.outstanding ≡ None → first_block (kind_of setup.drives r.unit) r + r.count ≤ limit_of (kind_of setup.drives r.unit)
    → StandsFor setup armed (joined_by s r (unit_joined (s.units r.unit) r)) (record m { outstanding = r ∷ m.outstanding })
joined_stands_for setup armed s m r k h there new inside = record {
  units = with_each (λ x (u : UnitSeen). UnitStands (is_sure_among armed x) (home_in setup x) u (s.surface.sector x) (m.blocks x)) s.units r.unit (unit_joined (s.units r.unit) r)
      (joined_stands (is_sure_among armed r.unit) (home_in setup r.unit) (s.units r.unit) (s.surface.sector r.unit) (m.blocks r.unit) r (k.lines r.unit) (k.fits r.unit) (h.units r.unit)) (λ x apart. h.units x);
  queues = with_each (λ x (u : UnitSeen). QueueStands setup.drives x (r ∷ m.outstanding) u.service.waiting) s.units r.unit (unit_joined (s.units r.unit) r)
      (subst (λ ws. QueueStands setup.drives r.unit (r ∷ m.outstanding) ws) (sym (after_join-waiting (cylinder_of (s.units r.unit).drive.kind) r (s.units r.unit).service (k.fits r.unit).order))
      (queue_joined setup.drives r.unit m.outstanding (newcomer (cylinder_of (s.units r.unit).drive.kind) r (s.units r.unit).service.joined (s.units r.unit).service.waiting) (s.units r.unit).service.waiting new
      (record {
        unit_is = refl;
        listed = joins_found r m.outstanding;
        good = (there_is (setup.drives r.unit) (λ kind. IsRequest r) there).1;
        inside = there_with (setup.drives r.unit) (λ kind. IsRequest r) (λ kind. first_block kind r + r.count ≤ limit_of kind) there inside;
      }) (h.queues r.unit)))
      (λ x apart. queue_stays setup.drives x m.outstanding r (s.units x).service.waiting new (h.queues x));
  frames = more s.frames (frames_of m.outstanding) (frames_needed r) h.frames;
  counted = next s.outstanding (length m.outstanding) h.counted;
  noise = h.noise;
  sizes = h.sizes;
  others = h.others;
}
  where
    more : (a b c : ℕ) → a ≡ b → a + c ≡ c + b
    more a b c e = omega (arith, e)

    next : (a b : ℕ) → a ≡ b → a + 1 ≡ suc b
    next a b e = omega (arith, e)

-- what it meets is the same by the machine
met_same : (setup : Setup) (armed : List LiveNoise) (s : Replay) (m : Machine) (r : Request) → Keeps setup s → StandsFor setup armed s m → submission s r ≡ meets setup.drives m r
met_same setup armed s m r k h = search rules

-- ---- the script changes conditions
pub conditions_stand : (setup : Setup) (armed : List LiveNoise) (s : Replay) (m : Machine) (input : Input) → StandsFor setup armed s m → (surface_played s.surface input).sector ≡ s.surface.sector
    → All (IsLive (armed_by armed input)) (surface_played s.surface input).live → ((unit sector : ℕ) → is_sure_among (armed_by armed input) unit sector → is_sure_among armed unit sector)
    → StandsFor setup (armed_by armed input) (conditions_after s input) m
conditions_stand setup armed s m input h same live implied = record {
  units = λ x. subst (λ (f : ℕ → ℕ → List ℕ). UnitStands (is_sure_among (armed_by armed input) x) (home_in setup x) (record (s.units x) { drive = drive_played x (s.units x).drive input }) (f x) (m.blocks x)) (sym same)
      (fewer_stands (is_sure_among armed x) (is_sure_among (armed_by armed input) x) (home_in setup x) (record (s.units x) { drive = drive_played x (s.units x).drive input }) (s.surface.sector x) (m.blocks x) (implied x)
      (plain (is_sure_among armed x) (home_in setup x) (s.surface.sector x) (m.blocks x) (s.units x) (drive_played x (s.units x).drive input) (s.units x).stage (s.units x).progress (played_kind x (s.units x).drive input)
      (h.units x).hand (subst (λ w. StageStands (is_sure_among armed x) (home_in setup x) (first_block (s.units x).drive.kind (in_hand (s.units x).service)) (in_hand (s.units x).service) (s.units x).progress (m.blocks x) w (s.units x).stage)
      (sym (played_work x (s.units x).drive input)) (h.units x).stage)));
  queues = h.queues;
  frames = h.frames;
  counted = h.counted;
  noise = live;
  sizes = λ u x. subst (λ (f : ℕ → ℕ → List ℕ). length (f u x) ≡ 512) (sym same) (h.sizes u x);
  others = λ u x homeless. ap (λ (f : ℕ → ℕ → List ℕ). f u x) same ∙ h.others u x homeless;
}

pub given_noise : (drive : Option DriveKind) (n : LiveNoise) → IsThere drive (λ kind. (n.block < block_count kind) × IsNoise n.places × IsSpan n.span) → IsNoise n.places
given_noise None n is = absurd is
given_noise (Some kind) n is = is.1

-- ---- the step
pub over_owes : (wish : Wish) (line : ℕ) → wish ≡ NoLine → owed_by wish line ≡ []
over_owes wish line is = ap (λ z. owed_by z line) is

pub idle_owes : (wish : Wish) (line : ℕ) → wish ≡ IdleLine → owed_by wish line ≡ []
idle_owes wish line is = ap (λ z. owed_by z line) is

-- a line of the script that submits nothing
pub silent_step : (setup : Setup) (armed : List LiveNoise) (s : Replay) (m : Machine) (line : ℕ) (input : Input) → InputMay s line → answers_of_input setup.drives m line input ≡ [] → after_input setup.drives m input ≡ m
    → IsCalm (after_moment s (Played line input)).event.act → StandsFor setup (armed_by armed input) (after_moment s (Played line input)) m → MomentStep setup armed s m (Played line input)
silent_step setup armed s m line input may none same calm stands = record {
  later = [];
  new = m;
  order = state_owes (after_moment s (Played line input)) calm
      ∙ sym (ap (λ z. z ++ (answers_of_input setup.drives m line input ++ [])) (over_owes (next_wish s) s.event.line may.over) ∙ ap (λ z. z ++ []) none);
  steps = sym same;
  stands = stands;
}

-- a request
submitted_owes : (s : Replay) (line : ℕ) (r : Request) (met : Submission) → goes_on (s.units r.unit).stage ≡ false
    → owed (record (submitted s r met) { event = record { line = line; drains = false; between = false; act = act_submitted r met; speaker = r.unit } }) ≡ answers_at_once line r met
submitted_owes s line r (Refused why) quiet = rw quiet refl
submitted_owes s line r Joined quiet = state_owes (record (submitted s r Joined) { event = record { line = line; drains = false; between = false; act = Serving (adapter_of r.unit) false []; speaker = r.unit } }) tt

submitted_stands : (setup : Setup) (armed : List LiveNoise) (s : Replay) (m : Machine) (r : Request) (met : Submission) → Keeps setup s → StandsFor setup armed s m
    → IsThere (setup.drives r.unit) (λ kind. IsRequest r) → request_of r.id m.outstanding ≡ None → meets setup.drives m r ≡ met → StandsFor setup armed (submitted s r met) (machine_submitted m r met)
submitted_stands setup armed s m r (Refused why) k h there new met = h
submitted_stands setup armed s m r Joined k h there new met =
    joined_stands_for setup armed s m r k h there new (joined_inside (kind_of setup.drives r.unit) r (nat_le (frames_of m.outstanding + frames_needed r) 16384) met)

pub append_nil : {A : Type 0} (xs : List A) → xs ++ [] ≡ xs
append_nil [] = refl
append_nil (x ∷ xs) = ap (λ z. x ∷ z) (append_nil xs)

pub submit_step : (setup : Setup) (armed : List LiveNoise) (s : Replay) (m : Machine) (line : ℕ) (r : Request) → Keeps setup s → StandsFor setup armed s m → InputMay s line
    → goes_on (s.units r.unit).stage ≡ false → IsThere (setup.drives r.unit) (λ kind. IsRequest r) → request_of r.id m.outstanding ≡ None → MomentStep setup armed s m (Played line (Submit r))
submit_step setup armed s m line r k h may quiet there new = record {
  later = [];
  new = machine_submitted m r (meets setup.drives m r);
  order = submitted_owes s line r (submission s r) quiet ∙ ap (answers_at_once line r) (met_same setup armed s m r k h) ∙ sym (append_nil (answers_at_once line r (meets setup.drives m r)))
      ∙ sym (ap (λ z. z ++ (answers_at_once line r (meets setup.drives m r) ++ [])) (over_owes (next_wish s) s.event.line may.over));
  steps = refl;
  stands = other_event setup armed (submitted s r (submission s r)) (machine_submitted m r (meets setup.drives m r)) (event_of s line (Submit r))
      (subst (λ z. StandsFor setup armed (submitted s r z) (machine_submitted m r (meets setup.drives m r))) (sym (met_same setup armed s m r k h))
      (submitted_stands setup armed s m r (meets setup.drives m r) k h there new refl));
}
