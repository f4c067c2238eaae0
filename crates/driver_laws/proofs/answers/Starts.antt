-- At the start no slot has a request, and nothing is armed.
use Rattle.std.proofs.Common.{◌≡◌, ℕ, zero, suc, ◌*◌, ◌≤◌, List, [], ◌∷◌, set, get_or, replicate, None, refl, arith, rules}
use Rattle.hardware_table.specs.declared.Armed.{Armed}
use Rattle.hardware_table.specs.declared.FaultKind.{FaultKind}
use Rattle.hardware_table.specs.Drive.{none_armed}
use Rattle.hardware_table.specs.Events.{times_armed}
use Rattle.driver_machine.specs.World.{UnitView, Setup, no_unit, new_unit, set_up}
use Rattle.driver_laws.specs.answers.Counts.{in_use}
use Rattle.driver_laws.specs.answers.Laws.{StartsWithNone, StartsWithRoom}
use Rattle.driver_laws.proofs.answers.Lists.{set_related}

none_in_use : (n : ℕ) → in_use (replicate n None) ≡ 0
none_in_use zero = refl
none_in_use (suc n) = none_in_use n

abbrev IsUnarmed : UnitView → Type 0
IsUnarmed v = v.drive.armed ≡ none_armed

replicate_at : (n u : ℕ) → IsUnarmed (get_or (replicate n no_unit) u no_unit)
replicate_at zero u = refl
replicate_at (suc n) zero = refl
replicate_at (suc n) (suc u) = replicate_at n u

set_up_unarmed : (setups : List Setup) (units : List UnitView) → ((u : ℕ) → IsUnarmed (get_or units u no_unit)) → (u : ℕ)
    → IsUnarmed (get_or (set_up setups units) u no_unit)
set_up_unarmed [] units are u = are u
set_up_unarmed (s ∷ setups) units are u =
    set_up_unarmed setups (set units s.unit (new_unit s))
    (λ x. set_related (λ (old new : UnitView). IsUnarmed old → IsUnarmed new) (λ v is. is) units s.unit x (new_unit s) no_unit (λ is. refl) (are x)) u

no_times : (kind : FaultKind) (a : Armed) → a ≡ none_armed → times_armed kind a ≤ 1000 * 0
no_times kind a is = first_of (search rules, grind arith)

pub starts_with_none : StartsWithNone
starts_with_none setups outstanding noises = record {
  requests = least _ (none_in_use outstanding);
  noises = omega arith;
  faults = λ u kind. no_times kind _ (set_up_unarmed setups (replicate 32 no_unit) (replicate_at 32) u);
}
  where
    least : (n : ℕ) → n ≡ 0 → n ≤ 0
    least n e = omega (arith, e)

pub starts_with_room : StartsWithRoom
starts_with_room setups outstanding noises = refl
