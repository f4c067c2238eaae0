-- A unit that is changed at its place.
use Rattle.std.proofs.Common.{◌≡◌, ℕ, ◌<◌, ◌==◌, Bool, true, false, List, length, refl, sym, ap, ◌∙◌, subst}
use Rattle.std.specs.Prelude.{if◌then◌else◌, slice_index_or, slice_set}
use Rattle.hardware_table.specs.declared.Work.{Work}
use Rattle.hardware_table.specs.declared.Work.TheVariants as work
use Rattle.hardware_table.specs.Drive.{DriveState, is_ready, is_positioning}
use Rattle.hardware_table.specs.Functions.{refusals}
use Rattle.hardware_table.specs.Events.{online_set}
use Rattle.drive_registers.specs.declared.Function.TheVariants.{Read, Write}
use Rattle.pack_geometry.specs.Geometry.{place_at}
use Rattle.trace_replay.specs.Drives.{addressed}
use Rattle.driver_machine.specs.World.{UnitView, unit_at}
use Rattle.driver_machine.specs.Acts.{transferring}
use Rattle.driver_machine.specs.Events.{can_arrive}
use Rattle.hp_units.specs.Row.{IsRow}
use Rattle.hp_units.proofs.Rows.{alone, old_unit, still_kept}
use Rattle.hp_core.specs.State.{State}

module _ (inside now : State) (i u : ℕ) (old d : UnitView) (same : inside ≡ now) (at : i ≡ u) (there : u < length now.world.units)
    (own : old ≡ slice_index_or inside.world.units i d) where
  units_same : inside.world.units ≡ now.world.units
  units_same = ap (λ (s : State). s.world.units) same

  -- as it was there, and what holds of it
  pub unit_here : old ≡ unit_at now.world u
  unit_here = old_unit i u inside.world.units now.world.units old d at units_same there own

  pub of_unit : (P : UnitView → Type 0) → P (unit_at now.world u) → P old
  of_unit P holds = subst P (sym unit_here) holds

  -- it alone is changed
  pub units_after : (v : UnitView) (f : UnitView → UnitView) → v ≡ f old → slice_set inside.world.units i v ≡ slice_set now.world.units u (f (unit_at now.world u))
  units_after v f made = alone i u inside.world.units now.world.units old d v f at units_same there own made

  pub unit_inside : (v : UnitView) (f : UnitView → UnitView) → v ≡ f old
      → record inside { world = record inside.world { units = slice_set inside.world.units i v } }
      ≡ record now { world = record now.world { units = slice_set now.world.units u (f (unit_at now.world u)) } }
  unit_inside v f made =
      ap (λ (us : List UnitView). record inside { world = record inside.world { units = us } }) (units_after v f made)
      ∙ ap (λ (s : State). record s { world = record s.world { units = slice_set now.world.units u (f (unit_at now.world u)) } }) same

  -- and where it positions as before the row is right still
  pub row_still : (row : ℕ) (v : UnitView) → IsRow row inside.world.units → can_arrive v ≡ can_arrive old → IsRow row (slice_set inside.world.units i v)
  row_still row v is still = still_kept row i u inside.world.units now.world.units old d v at units_same there is own still

-- THE POSITIONING that is under way stays, online or not; and behind a transfer command none is
pub online_still : (on : Bool) (d : DriveState) → is_positioning (online_set on d).work ≡ is_positioning d.work
online_still true d = refl
online_still false d = refl

ready_still : (w : Work) → is_ready w ≡ true → is_positioning w ≡ false
ready_still work.Ready ready = refl
ready_still (work.Transfer write) ready = refl
ready_still (work.Positioning cylinder sector) ready = absurd (cc)

either_still : (done : Bool) (d e : DriveState) → is_positioning d.work ≡ false → is_positioning e.work ≡ false → is_positioning (if done then d else e).work ≡ false
either_still true d e p q = p
either_still false d e p q = q

pub transfer_still : (write : Bool) (block : ℕ) (d : DriveState) → is_ready d.work ≡ true → is_positioning (transferring write block d).work ≡ is_positioning d.work
transfer_still true block d ready =
    let none = ready_still d.work ready in
    either_still (refusals Write (addressed (place_at d.kind block) d) == 0) _ _ refl none ∙ sym none
transfer_still false block d ready =
    let none = ready_still d.work ready in
    either_still (refusals Read (addressed (place_at d.kind block) d) == 0) _ _ refl none ∙ sym none
