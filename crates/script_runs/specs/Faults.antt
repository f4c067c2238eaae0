-- Where a script was not played, or not to its end.
use Rattle.std.specs.Prelude.{◌≡◌, ◌⊎◌, ℕ, ◌≤◌, Bool, IsTrue, Result, Ok, Err, IsErrOf}
use Rattle.pack_geometry.specs.Pack.{Pack}
use Rattle.trace_replay.specs.Script.{Script}
use Rattle.driver_laws.specs.declared.answers.outcome.Stop.{Stop}
use Rattle.driver_laws.specs.declared.answers.outcome.Stop.TheVariants as stop
use Rattle.script_runs.specs.declared.fault.PlayFault.{PlayFault}
use Rattle.script_runs.specs.declared.fault.PlayFault.TheVariants as fault
use Rattle.outside_traits.specs.Causes.{Rose}
use Rattle.script_runs.specs.Lengths.{NamesTooLong}

-- nothing was played: there was no memory, or an image is too long
abbrev pub IsBefore : {T : Type 0} → Result T PlayFault → Type 0
IsBefore (Ok value) = ⊥
IsBefore (Err fault.Memory) = Unit {0}
IsBefore (Err (fault.TooLong unit length_is)) = Unit {0}
IsBefore (Err fault.Store) = ⊥
IsBefore (Err fault.Sink) = ⊥

-- it was played, to its end or until a sink failed
abbrev pub IsPlaying : {T : Type 0} → Result T PlayFault → Type 0
IsPlaying (Ok value) = Unit {0}
IsPlaying (Err fault.Memory) = ⊥
IsPlaying (Err (fault.TooLong unit length_is)) = ⊥
IsPlaying (Err fault.Store) = ⊥
IsPlaying (Err fault.Sink) = Unit {0}

-- an image that is called too long is, and it is the first one
abbrev pub IsLongFor : Script → Bool → (ℕ → Pack) → PlayFault → Type 0
IsLongFor script tells packs fault.Memory = Unit {0}
IsLongFor script tells packs (fault.TooLong unit length_is) = NamesTooLong script tells packs unit length_is
IsLongFor script tells packs fault.Store = Unit {0}
IsLongFor script tells packs fault.Sink = Unit {0}

-- where nothing was played all is as it was
pub record AreUntouched {O T : Type 0} (tells : Bool) (old new : ℕ → Pack) (out out' : O) (trace trace' : T) : Type 0 where
  pub same : IsTrue tells → new ≡ old
  pub silent : out' ≡ out
  pub untraced : trace' ≡ trace

-- an object that tells now told before
pub record HaveTold (packs packs' out out' trace trace' : Bool) : Type 0 where
  pub never_again : IsTrue packs' → IsTrue packs
  pub never_again_out : IsTrue out' → IsTrue out
  pub never_again_trace : IsTrue trace' → IsTrue trace

-- the packs or a sink failed only where its count of faults rose; no count falls
pub record Rise {T : Type 0} (packs packs' out out' trace trace' : ℕ) (result : Result T PlayFault) : Type 0 where
  pub later : packs ≤ packs'
  pub later_out : out ≤ out'
  pub later_trace : trace ≤ trace'
  pub store : IsErrOf result fault.Store → Rose packs packs'
  pub sink : IsErrOf result fault.Sink → Rose out out' ⊎ Rose trace trace'

-- what stopped a call of the driver stops the play
abbrev pub from_stop : Stop → PlayFault
from_stop stop.Store = fault.Store
from_stop stop.Sink = fault.Sink
