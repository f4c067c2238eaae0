-- What each step of formatting keeps, and how it may stop.
use Rattle.std.specs.Prelude.{◌≡◌, ℕ, ◌<◌, ◌≤◌, Bool, IsTrue, Result, OnErr, OnOk, IfErr}
use Rattle.pack_geometry.specs.Pack.{Pack}
use Rattle.outside_traits.specs.Causes.{Rose}
use Rattle.pack_format.specs.testing.Stations.{IsAtRest}
use Rattle.pack_format.specs.declared.testing.station.Station.{Station}
use Rattle.pack_format.specs.declared.job.Job.{Job}
use Rattle.pack_format.specs.declared.fault.FormatFault.{FormatFault}
use Rattle.pack_format.specs.declared.fault.FormatFault.TheVariants.{Store}

-- what packs tell at a moment
pub record Seen : Type 0 where
  pub told : Bool
  pub held : ℕ → Pack
  pub faults : ℕ

abbrev pub seen : {S : Type 0} → (tells : S → Bool) → (held : S → ℕ → Pack) → (faults : S → ℕ) → S → Seen
seen tells held faults packs = record { told = tells packs; held = held packs; faults = faults packs }

-- packs that do not tell never tell again, and their count of faults never falls
pub record Goes (old new : Seen) : Type 0 where
  pub never_again : IsTrue new.told → IsTrue old.told
  pub later : old.faults ≤ new.faults

-- a call over packs that fails only where their count of faults rose
pub record Tries {T E : Type 0} (old new : Seen) (result : Result T E) : Type 0 where
  pub goes : Goes old new
  pub failed : OnErr result (Rose old.faults new.faults)

-- a station at which a job can be done
pub record IsReady (job : Job) (station : Station) : Type 0 where
  pub unit : job.unit < 32
  pub rest : IsAtRest job.kind station

-- A STEP: it went well, and this holds; or it stopped for such a reason, which is a failure of the packs only where their count of faults rose
pub record Step {T : Type 0} (Well : Type 0) (Why : FormatFault → Type 0) (old new : Seen) (result : Result T FormatFault) : Type 0 where
  pub goes : Goes old new
  pub well : OnOk result Well
  pub why : IfErr result Why
  pub store : IfErr result (λ fault. fault ≡ Store → Rose old.faults new.faults)

-- a reading stops only where the packs fail
abbrev pub IsStore : FormatFault → Type 0
IsStore fault = fault ≡ Store
