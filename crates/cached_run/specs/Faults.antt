-- Where playing stopped.
use Rattle.std.specs.Prelude.{ℕ, Result, IsErrOf}
use Rattle.script_runs.specs.Faults.{Rise}
use Rattle.script_runs.specs.declared.fault.PlayFault.{PlayFault}
use Rattle.script_runs.specs.declared.fault.PlayFault.TheVariants as fault

-- in playing nothing else stops it
pub record IsCaused {T : Type 0} (packs packs' out out' trace trace' : ℕ) (result : Result T PlayFault) : Type 0 where
  pub rise : Rise packs packs' out out' trace trace' result
  pub memory : IsErrOf result fault.Memory → ⊥
  pub too_long : (unit length_is : ℕ) → IsErrOf result (fault.TooLong unit length_is) → ⊥
