-- The faults that are armed at a drive, and the noise that is live: none comes but by a line of the script.
use Rattle.std.proofs.Common.{◌≡◌, ℕ, Bool, true, false, List, [], ◌∷◌, Option, None, Some, option_map, refl, subst, nat_lt, All, rules}
use Rattle.std.specs.Prelude.{if◌then◌else◌, find}
use Rattle.std.proofs.lemmas.Option.{same_Some, none-some}
use Rattle.std.proofs.lemmas.List.Elements.{All-head, All-tail}
use Rattle.pack_geometry.specs.declared.Place.{Place}
use Rattle.pack_geometry.specs.Geometry.{place_at}
use Rattle.fire_code.specs.Remainder.{remainder}
use Rattle.fire_code.specs.Burst.{IsUncorrectable}
use Rattle.drive_registers.specs.declared.Function.{Function}
use Rattle.drive_registers.specs.declared.Function.TheVariants as function
use Rattle.drive_registers.specs.Codes.{offset_code}
use Rattle.hardware_table.specs.declared.Armed.{Armed}
use Rattle.hardware_table.specs.declared.FaultKind.{FaultKind}
use Rattle.hardware_table.specs.declared.Moved.{Moved}
use Rattle.hardware_table.specs.declared.Moved.TheVariants as verdict
use Rattle.hardware_table.specs.declared.Register.TheVariants as register
use Rattle.hardware_table.specs.declared.Work.{Work}
use Rattle.hardware_table.specs.declared.Work.TheVariants as work
use Rattle.hardware_table.specs.Drive.{DriveState, with_register}
use Rattle.hardware_table.specs.Adapter.{AdapterState, stepped, next_block}
use Rattle.hardware_table.specs.Events.{arrived_from, transfer_ended, times_armed}
use Rattle.hardware_table.specs.Functions.{performed}
use Rattle.hardware_table.specs.Moves.{after_move, first_armed, stop_of, IsVerdictBy}
use Rattle.hardware_table.specs.Noise.{LiveNoise, is_at, oldest, flips, is_ended_by}
use Rattle.trace_replay.specs.Moments.{Deed, Search, Seek, Recal, Offset, Centre, Clear, Pack, Transfer, Arrive, Sector}
use Rattle.trace_replay.specs.Drives.{drive_after, addressed, search_place, offset_written, transfer_function}

-- ---- no line of the trace arms a fault
abbrev pub IsLess : Armed → Armed → Type 0
IsLess new old = (kind : FaultKind) → nat_lt 0 (times_armed kind new) ≡ true → nat_lt 0 (times_armed kind old) ≡ true

same_armed : (new old : DriveState) → new.armed ≡ old.armed → IsLess new.armed old.armed
same_armed new old is kind e = subst (λ z. nat_lt 0 (times_armed kind z) ≡ true) is e

pub performed_armed : (f : Function) (d : DriveState) → (performed f d).armed ≡ d.armed
performed_armed f d = search rules

pub arrived_armed : (w : Work) (d : DriveState) → (arrived_from w d).armed ≡ d.armed
arrived_armed work.Ready d = refl
arrived_armed other d = refl

moved_less : (v : Moved) (block : ℕ) (d : DriveState) → IsLess (after_move v block d).armed d.armed
moved_less v block d = search rules

less_of_either : (b : Bool) (x : DriveState) (old : Armed) → IsLess x.armed old → IsLess (if b then transfer_ended x else x).armed old
less_of_either true x old is = is
less_of_either false x old is = is

pub transfer_armed : (write : Bool) (d : DriveState) → (performed (transfer_function write) d).armed ≡ d.armed
transfer_armed true d = performed_armed function.Write d
transfer_armed false d = performed_armed function.Read d

pub line_arms_none : (d : DriveState) (a : AdapterState) (target : Place) (deed : Deed) → IsLess (drive_after d a target deed).armed d.armed
line_arms_none d a target (Search c y) = same_armed (drive_after d a target (Search c y)) d (performed_armed function.Search (addressed (search_place c y target) d))
line_arms_none d a target (Seek c) = same_armed (drive_after d a target (Seek c)) d (performed_armed function.Seek (with_register register.Dc c d))
line_arms_none d a target Recal = same_armed (drive_after d a target Recal) d (performed_armed function.Recal d)
line_arms_none d a target (Offset o) = same_armed (drive_after d a target (Offset o)) d (performed_armed function.Offset (offset_written (offset_code o) d))
line_arms_none d a target Centre = same_armed (drive_after d a target Centre) d (performed_armed function.Centre d)
line_arms_none d a target Clear = same_armed (drive_after d a target Clear) d (performed_armed function.Clear d)
line_arms_none d a target Pack = same_armed (drive_after d a target Pack) d (performed_armed function.Pack d)
line_arms_none d a target (Transfer w b k) = same_armed (drive_after d a target (Transfer w b k)) d (transfer_armed w (addressed (place_at d.kind b) d))
line_arms_none d a target Arrive = same_armed (drive_after d a target Arrive) d (arrived_armed d.work d)
line_arms_none d a target (Sector b v) = less_of_either (stepped v a).completion (after_move v (next_block a) d) d.armed (moved_less v (next_block a) d)
line_arms_none d a target other = λ kind e. e

-- ---- what a verdict tells
-- how a drive stops: it is offline, or a fault is armed
stop_tag : (b : Bool) (f : Option FaultKind) → (if b then option_map verdict.Faulted f else Some verdict.Offline) ≡ Some verdict.Offline → b ≡ false
stop_tag b f is = search rules

offline_by : (stop : Option Moved) (marked write : Bool) (places : Option (List ℕ)) → IsVerdictBy stop marked write places verdict.Offline → stop ≡ Some verdict.Offline
offline_by stop marked write places is = search rules

pub offline_verdict : (d : DriveState) (marked write : Bool) (places : Option (List ℕ)) → IsVerdictBy (stop_of d) marked write places verdict.Offline → d.online ≡ false
offline_verdict d marked write places is = stop_tag d.online (first_armed d.armed) (offline_by (stop_of d) marked write places is)

-- some fault is armed where the first one is found
pub find_first : {T : Type 0} (p : T → Bool) (P : T → Type 0) (xs : List T) (x : T) → All P xs → find p xs ≡ Some x → P x × (p x ≡ true)
find_first p P [] x all is = absurd (none-some x is)
find_first p P (y ∷ ys) x all is = at (p y) refl (find_first p P ys x (All-tail P y ys all)) is
  where
    at : (b : Bool) → p y ≡ b → (find p ys ≡ Some x → P x × (p x ≡ true)) → (if b then Some y else find p ys) ≡ Some x → P x × (p x ≡ true)
    at true e rest found = (subst P (same_Some y x found) (All-head P y ys all), subst (λ z. p z ≡ true) (same_Some y x found) e)
    at false e rest found = rest found

pub faulted_verdict : (d : DriveState) (k : FaultKind) (marked write : Bool) (places : Option (List ℕ)) → IsVerdictBy (stop_of d) marked write places (verdict.Faulted k)
    → (j : FaultKind) × (nat_lt 0 (times_armed j d.armed) ≡ true)
faulted_verdict d k marked write places is = search rules

-- a hard verdict is that of noise which shows
pub hard_stop : (b : Bool) (f : Option FaultKind) → (if b then option_map verdict.Faulted f else Some verdict.Offline) ≡ Some verdict.Hard → ⊥
hard_stop b f is = search rules

hard_by : (stop : Option Moved) (marked write : Bool) (places : Option (List ℕ)) → (stop ≡ Some verdict.Hard → ⊥) → IsVerdictBy stop marked write places verdict.Hard
    → (shown : List ℕ) × (places ≡ Some shown) × IsUncorrectable (remainder shown)
hard_by stop marked write places never is = search rules

pub hard_verdict : (d : DriveState) (marked write : Bool) (places : Option (List ℕ)) → IsVerdictBy (stop_of d) marked write places verdict.Hard
    → (shown : List ℕ) × (places ≡ Some shown) × IsUncorrectable (remainder shown)
hard_verdict d marked write places is = hard_by (stop_of d) marked write places (hard_stop d.online (first_armed d.armed)) is

-- ---- the noise that strikes is live
pub flips_of : (b : Bool) (places shown : List ℕ) → (if b then None else Some places) ≡ Some shown → places ≡ shown
flips_of true places shown is = absurd (none-some shown is)
flips_of false places shown is = same_Some places shown is

striking : (P : LiveNoise → Type 0) (unit block word : ℕ) (live : List LiveNoise) (found : Option LiveNoise) (shown : List ℕ) → oldest unit block live ≡ found → All P live
    → flips word found ≡ Some shown → (noise : LiveNoise) × P noise × (is_at unit block noise ≡ true) × (noise.places ≡ shown)
striking P unit block word live None shown is all flipped = absurd (none-some shown flipped)
striking P unit block word live (Some noise) shown is all flipped = (noise, here.0, here.1, flips_of (is_ended_by word noise.span) noise.places shown flipped)
  where
    here : P noise × (is_at unit block noise ≡ true)
    here = find_first (is_at unit block) P live noise all is

pub struck_by : (P : LiveNoise → Type 0) (unit block word : ℕ) (live : List LiveNoise) (shown : List ℕ) → All P live
    → flips word (oldest unit block live) ≡ Some shown → (noise : LiveNoise) × P noise × (is_at unit block noise ≡ true) × (noise.places ≡ shown)
struck_by P unit block word live shown all flipped = striking P unit block word live (oldest unit block live) shown refl all flipped
