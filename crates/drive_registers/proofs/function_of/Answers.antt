use Rattle.std.proofs.Common.{◌≡◌, ◌≢◌, ℕ, true, false, sym}
use Rattle.drive_registers.specs.Codes.{function_code}
use Rattle.drive_registers.specs.declared.Function.{Function}
use Rattle.drive_registers.specs.declared.Function.TheVariants.{Nop, Seek, Recal, Clear, Offset, Centre, Preset, Pack, Search, Write, WriteHeader, Read}
use Rattle.drive_registers.proofs.function_of.Goals as goal

-- a function has the code, so that none is no answer
found : (f : Function) (field : ℕ) → field ≡ function_code f → (true ≡ false → (g : Function) → function_code g ≡ field → ⊥) × (((g : Function) → function_code g ≢ field) → true ≡ false)
found f field has = (λ no. cc, λ none. absurd (none f (sym has)))

pub returns-in-0-clause-none : goal.returns-in-0-clause-none
returns-in-0-clause-none c = found Nop _ c.in-0.is

pub returns-in-4-clause-none : goal.returns-in-4-clause-none
returns-in-4-clause-none c = found Seek _ c.in-4.is

pub returns-in-6-clause-none : goal.returns-in-6-clause-none
returns-in-6-clause-none c = found Recal _ c.in-6.is

pub returns-in-8-clause-none : goal.returns-in-8-clause-none
returns-in-8-clause-none c = found Clear _ c.in-8.is

pub returns-in-12-clause-none : goal.returns-in-12-clause-none
returns-in-12-clause-none c = found Offset _ c.in-12.is

pub returns-in-14-clause-none : goal.returns-in-14-clause-none
returns-in-14-clause-none c = found Centre _ c.in-14.is

pub returns-in-16-clause-none : goal.returns-in-16-clause-none
returns-in-16-clause-none c = found Preset _ c.in-16.is

pub returns-in-18-clause-none : goal.returns-in-18-clause-none
returns-in-18-clause-none c = found Pack _ c.in-18.is

pub returns-in-24-clause-none : goal.returns-in-24-clause-none
returns-in-24-clause-none c = found Search _ c.in-24.is

pub returns-in-48-clause-none : goal.returns-in-48-clause-none
returns-in-48-clause-none c = found Write _ c.in-48.is

pub returns-in-50-clause-none : goal.returns-in-50-clause-none
returns-in-50-clause-none c = found WriteHeader _ c.in-50.is

pub returns-in-56-clause-none : goal.returns-in-56-clause-none
returns-in-56-clause-none c = found Read _ c.in-56.is
