-- The faults that are armed at a drive: no deed arms one, and a line of the script arms one for at most 1,000 times.
use Rattle.std.proofs.Common.{◌≡◌, ℕ, ◌+◌, ◌≤◌, Bool, true, false, refl, arith, rules}
use Rattle.std.specs.Prelude.{if◌then◌else◌}
use Rattle.pack_geometry.specs.Geometry.{place_at}
use Rattle.drive_registers.specs.declared.Function.{Function}
use Rattle.drive_registers.specs.declared.Function.TheVariants as function
use Rattle.hardware_table.specs.declared.Armed.{Armed}
use Rattle.hardware_table.specs.declared.FaultKind.{FaultKind}
use Rattle.hardware_table.specs.declared.FaultKind.TheVariants as fault
use Rattle.hardware_table.specs.declared.Moved.{Moved}
use Rattle.hardware_table.specs.declared.Work.{Work}
use Rattle.hardware_table.specs.declared.Work.TheVariants as work
use Rattle.hardware_table.specs.Drive.{DriveState}
use Rattle.hardware_table.specs.Functions.{performed}
use Rattle.hardware_table.specs.Events.{arrived_from, transfer_ended, online_set, fault_armed, times_armed, with_times}
use Rattle.hardware_table.specs.Moves.{after_move, was_read}
use Rattle.hardware_table.specs.Noise.{Book, book_struck}
use Rattle.hardware_table.specs.Adapter.{AdapterState, drive_stepped, stepped, next_block}
use Rattle.trace_replay.specs.Drives.{addressed, search_place, transfer_function}
use Rattle.driver_machine.specs.declared.RetryStep.{RetryStep}
use Rattle.driver_machine.specs.Acts as deed
use Rattle.driver_machine.specs.Acts.{Deed, Scene, stepping}

-- each fault is to strike at most so many times more
pub record IsArmedBy (more : ℕ) (old new : Armed) : Type 0 where
  pub times : (kind : FaultKind) → times_armed kind new ≤ times_armed kind old + more

pub no_more : (old new : Armed) → new ≡ old → IsArmedBy 0 old new
no_more old new is = first_of (search rules, grind arith)

-- one fault is put to at most so many times more, and no other
put_few : (kind other : FaultKind) (n more : ℕ) (a : Armed) → n ≤ times_armed kind a + more
    → times_armed other (with_times kind n a) ≤ times_armed other a + more
put_few fault.Seek fault.Seek n more a few = few
put_few fault.Seek other n more a few = omega arith
put_few fault.Opi fault.Opi n more a few = few
put_few fault.Opi other n more a few = omega arith
put_few fault.Dte fault.Dte n more a few = few
put_few fault.Dte other n more a few = omega arith
put_few fault.Hcrc fault.Hcrc n more a few = few
put_few fault.Hcrc other n more a few = omega arith
put_few fault.Late fault.Late n more a few = few
put_few fault.Late other n more a few = omega arith

put_armed : (kind : FaultKind) (n more : ℕ) (a : Armed) → n ≤ times_armed kind a + more → IsArmedBy more a (with_times kind n a)
put_armed kind n more a few = record { times = λ other. put_few kind other n more a few }

pub armed_more : (kind : FaultKind) (times more : ℕ) (d : DriveState) → times ≤ more → IsArmedBy more d.armed (fault_armed kind times d).armed
armed_more kind times more d few = put_armed kind (times_armed kind d.armed + times) more d.armed (omega (arith, few))

-- WHAT A DRIVE DOES
either : {A : Type 0} (P : A → Type 0) (b : Bool) (x y : A) → P x → P y → P (if b then x else y)
either P true x y holds fails = holds
either P false x y holds fails = fails

performed_armed : (f : Function) (d : DriveState) → (performed f d).armed ≡ d.armed
performed_armed f d = first_of (search rules, grind arith)

arrived_armed : (w : Work) (d : DriveState) → (arrived_from w d).armed ≡ d.armed
arrived_armed work.Ready d = refl
arrived_armed other d = refl

moved_armed : (v : Moved) (block : ℕ) (d : DriveState) → IsArmedBy 0 d.armed (after_move v block d).armed
moved_armed v block d = first_of (search rules, grind arith)

stepped_armed : (v : Moved) (a : AdapterState) (d : DriveState) → IsArmedBy 0 d.armed (drive_stepped v a d).armed
stepped_armed v a d =
    either (λ (e : DriveState). IsArmedBy 0 d.armed e.armed) (stepped v a).completion (transfer_ended (after_move v (next_block a) d))
    (after_move v (next_block a) d) (moved_armed v (next_block a) d) (moved_armed v (next_block a) d)

stepping_armed : (s : RetryStep) (d : DriveState) → (stepping s d).armed ≡ d.armed
stepping_armed s d = first_of (search rules, grind arith)

pub online_armed : (on : Bool) (d : DriveState) → (online_set on d).armed ≡ d.armed
online_armed true d = refl
online_armed false d = refl

-- WHAT A DEED DOES
pub record ArmsNone (old new : Scene) : Type 0 where
  pub faults : IsArmedBy 0 old.unit.drive.armed new.unit.drive.armed
  pub noises : new.book.armed ≡ old.book.armed
  pub capacity : new.book.capacity ≡ old.book.capacity

drive_only : (s new : Scene) → new.unit.drive.armed ≡ s.unit.drive.armed → new.book ≡ s.book → ArmsNone s new
drive_only s new armed book = first_of (search rules, grind arith)

pub deed_arms_none : (line u p : ℕ) (d : Deed) (s : Scene) → ArmsNone s (deed.effect line u p d s)
deed_arms_none line u p deed.Arrive s = drive_only s _ (arrived_armed s.unit.drive.work s.unit.drive) refl
deed_arms_none line u p (deed.Sector block t) s = record {
  faults = stepped_armed t.verdict s.adapter.state s.unit.drive;
  noises = either (λ (b : Book). b.armed ≡ s.book.armed) (was_read s.unit.drive t.verdict) (book_struck u block s.unit.drive.offset s.book) s.book
      refl refl;
  capacity = either (λ (b : Book). b.capacity ≡ s.book.capacity) (was_read s.unit.drive t.verdict) (book_struck u block s.unit.drive.offset s.book)
      s.book refl refl;
}
deed_arms_none line u p (deed.Search target sector) s =
    drive_only s _ (performed_armed function.Search (addressed (search_place target.cylinder sector target) s.unit.drive)) refl
deed_arms_none line u p (deed.Do next taken) s = drive_only s _ (stepping_armed next s.unit.drive) refl
deed_arms_none line u p (deed.Move write segment) s =
    drive_only s _ (performed_armed (transfer_function write) (addressed (place_at s.unit.drive.kind segment.block) s.unit.drive)) refl
deed_arms_none line u p deed.Pack s = drive_only s _ (performed_armed function.Pack s.unit.drive) refl
deed_arms_none line u p (deed.Dclr moved last) s = drive_only s _ (performed_armed function.Clear s.unit.drive) refl
deed_arms_none line u p deed.Rtc s = drive_only s _ (performed_armed function.Centre s.unit.drive) refl
deed_arms_none line u p other s = drive_only s _ refl refl
