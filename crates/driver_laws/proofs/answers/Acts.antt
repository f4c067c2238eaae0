-- Each act adds to the counts what it brings.
use Rattle.std.proofs.Common.{◌≡◌, ℕ, ◌+◌, ◌*◌, ◌≤◌, [], ◌∷◌, refl, arith, ◌∙◌, rules}
use Rattle.std.specs.Prelude.{slice_set}
use Rattle.hardware_table.specs.Events.{turned, fault_armed, online_set, locked_set}
use Rattle.trace_replay.specs.Script as script
use Rattle.trace_replay.specs.Script.{Input}
use Rattle.driver_machine.specs.World.{World, UnitView, no_unit, unit_at, slot_in_hand}
use Rattle.driver_machine.specs.Acts.{Act, Refuse, Submit, Of, Change, Nothing, Taken, effect, scene_of, with_drive, joined, changed, after}
use Rattle.driver_machine.specs.Guards.{MayChange, Allowed}
use Rattle.driver_laws.specs.answers.Counts.{IsWithin, in_use, noises_of, faults_of, brings_request, brings_noise, brings_faults, bring_requests, bring_noises, bring_faults}
use Rattle.driver_laws.specs.answers.Laws.{MoreIsWithin, ActsAdd, RunsAdd, TakingsAdd, CapacityStays}
use Rattle.driver_laws.proofs.answers.Lists.{set_related}
use Rattle.driver_laws.proofs.answers.Slots.{one_more, same_many, freed_few}
use Rattle.driver_laws.proofs.answers.Drives.{IsArmedBy, no_more, armed_more, online_armed, deed_arms_none}

-- a world that has at most so many more of each
record Adds (more_requests more_noises more_faults : ℕ) (w now : World) : Type 0 where
  requests : in_use now.slots ≤ in_use w.slots + more_requests
  noises : now.book.armed ≤ w.book.armed + more_noises
  faults : (u : ℕ) → IsArmedBy (1000 * more_faults) (unit_at w u).drive.armed (unit_at now u).drive.armed

-- ONE UNIT is put, at whose drive each fault is armed at most so many times more
AreArmedBy : ℕ → UnitView → UnitView → Type 0
AreArmedBy more old new = IsArmedBy more old.drive.armed new.drive.armed

at_most : (more : ℕ) (v : UnitView) → AreArmedBy more v v
unfolding AreArmedBy
at_most more v = record { times = λ kind. omega arith }

put_unit : (w : World) (u x more : ℕ) (v : UnitView) → IsArmedBy more (unit_at w u).drive.armed v.drive.armed
    → IsArmedBy more (unit_at w x).drive.armed (unit_at (record w { units = slice_set w.units u v }) x).drive.armed
unfolding AreArmedBy
put_unit w u x more v is = set_related (AreArmedBy more) (at_most more) w.units u x v no_unit is

same_unit : (v : UnitView) → IsArmedBy 0 v.drive.armed v.drive.armed
same_unit v = no_more v.drive.armed v.drive.armed refl

none_added : (w : World) → Adds 0 0 0 w w
none_added w = record { requests = omega arith; noises = omega arith; faults = λ u. same_unit (unit_at w u) }

drive_put : (w : World) (u faults : ℕ) (v : UnitView) → IsArmedBy (1000 * faults) (unit_at w u).drive.armed v.drive.armed
    → Adds 0 0 faults w (record w { units = slice_set w.units u v })
drive_put w u faults v is = record { requests = omega arith; noises = omega arith; faults = λ x. put_unit w u x (1000 * faults) v is }

change_adds : (input : Input) (w : World) → MayChange w input → Adds 0 (noises_of input) (faults_of input) w (changed input w)
change_adds (script.Turn u sector) w may = drive_put w u 0 (with_drive (turned sector) (unit_at w u)) (no_more _ _ refl)
change_adds (script.Noise noise) w may =
    record { requests = omega arith; noises = omega arith; faults = λ u. same_unit (unit_at w u) }
change_adds (script.Arm u kind times) w may =
    drive_put w u 1 (with_drive (fault_armed kind times) (unit_at w u)) (armed_more kind times 1000 (unit_at w u).drive may.2)
change_adds (script.SetOnline u on) w may =
    drive_put w u 0 (with_drive (online_set on) (unit_at w u)) (no_more _ _ (online_armed on (unit_at w u).drive))
change_adds (script.SetLocked u on) w may = drive_put w u 0 (with_drive (locked_set on) (unit_at w u)) (no_more _ _ refl)
change_adds input w may = absurd may

act_adds : (w : World) (act : Act) → Allowed w act → Adds (brings_request act) (brings_noise act) (brings_faults act) w (after w act)
act_adds w (Refuse line r kind) allowed =
    record { requests = omega arith; noises = omega arith; faults = λ u. same_unit (unit_at w u) }
act_adds w (Submit line p h) allowed = record {
  requests = one_more w.slots p h;
  noises = omega arith;
  faults = λ x. put_unit w h.unit x 0 (joined p h (unit_at w h.unit)) (same_unit (unit_at w h.unit));
}
act_adds w (Of line u id d) allowed =
    let p : ℕ = slot_in_hand (unit_at w u) in
    let arms = deed_arms_none line u p d (scene_of w u) in
    record {
      requests = few _ _ (same_many w.slots p allowed.0.held (effect line u p d (scene_of w u)).held allowed.0.slot);
      noises = same _ _ arms.noises;
      faults = λ x. put_unit w u x 0 (effect line u p d (scene_of w u)).unit arms.faults;
    }
  where
    few : (n m : ℕ) → n ≤ m → n ≤ m + 0
    few n m less = omega (arith, less)

    same : (n m : ℕ) → n ≡ m → n ≤ m + 0
    same n m e = omega (arith, e)
act_adds w (Change input) allowed = change_adds input w allowed
act_adds w (Nothing line) allowed = none_added w
act_adds w Taken allowed = record {
  requests = by _ _ (freed_few w.answers w.slots);
  noises = omega arith;
  faults = λ u. same_unit (unit_at w u);
}
  where
    by : (n m : ℕ) → n ≤ m → n ≤ m + 0
    by n m less = omega (arith, less)

-- THE COUNTS
pub within_more : MoreIsWithin
within_more r n f requests noises faults w more_requests more_noises more_faults within = record {
  requests = omega (arith, more_requests, within.requests);
  noises = omega (arith, more_noises, within.noises);
  faults = λ u kind. by _ (within.faults u kind);
}
  where
    by : (times : ℕ) → times ≤ 1000 * f → times ≤ 1000 * faults
    by times few = omega (arith, more_faults, few)

added : (r n f requests noises faults : ℕ) (w now : World) → IsWithin r n f w → Adds requests noises faults w now
    → IsWithin (r + requests) (n + noises) (f + faults) now
added r n f requests noises faults w now within adds = first_of (search rules, grind arith)

pub acts_add : ActsAdd
acts_add requests noises faults w act allowed within =
    added requests noises faults (brings_request act) (brings_noise act) (brings_faults act) w (after w act) within (act_adds w act allowed)

-- the counts of a run, whose first act brings so many, and the others so many
sums : (r n f a b c x y z : ℕ) (w : World) → IsWithin (r + a + x) (n + b + y) (f + c + z) w → IsWithin (r + (a + x)) (n + (b + y)) (f + (c + z)) w
sums r n f a b c x y z w within =
    within_more (r + a + x) (n + b + y) (f + c + z) (r + (a + x)) (n + (b + y)) (f + (c + z)) w (omega arith) (omega arith) (omega arith) within

pub runs_add : RunsAdd
runs_add r n f w [] run within = within_more r n f (r + 0) (n + 0) (f + 0) w (omega arith) (omega arith) (omega arith) within
runs_add r n f w (act ∷ acts) run within =
    sums r n f (brings_request act) (brings_noise act) (brings_faults act) (bring_requests acts) (bring_noises acts) (bring_faults acts) _
    (runs_add (r + brings_request act) (n + brings_noise act) (f + brings_faults act) (after w act) acts run.1
    (acts_add r n f w act run.0 within))

-- AN ANSWER IS TAKEN
pub takings_add : TakingsAdd
takings_add requests noises faults w within = record {
  requests = omega (arith, within.requests, freed_few w.answers w.slots);
  noises = within.noises;
  faults = within.faults;
}

-- HOW MUCH NOISE MAY BE ARMED
act_capacity : (w : World) (act : Act) → (after w act).book.capacity ≡ w.book.capacity
act_capacity w act = first_of (search rules, grind arith)

pub capacity_stays : CapacityStays
capacity_stays w [] = refl
capacity_stays w (act ∷ acts) = capacity_stays (after w act) acts ∙ act_capacity w act
