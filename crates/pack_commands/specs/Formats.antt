-- What a run of `format` has done.
use Rattle.std.specs.Prelude.{◌≡◌, ◌≢◌, ◌⊎◌, ℕ, ◌≤◌, Bool, IsTrue, List, [], ◌∷◌, ◌++◌, codes, decimal}
use Rattle.pack_geometry.specs.declared.DriveKind.{DriveKind}
use Rattle.pack_geometry.specs.Pack.{Pack}
use Rattle.outside_traits.specs.Causes.{Rose}
use Rattle.outside_traits.specs.Puts.{TakesFront}
use Rattle.pack_format.specs.Faults.{IsFault, IsWhy}
use Rattle.pack_format.specs.Formatted.{IsFormatted, IsPartly, IsTooLong, found}
use Rattle.pack_format.specs.declared.fault.FormatFault.{FormatFault}
use Rattle.pack_format.specs.declared.fault.FormatFault.TheVariants as fault
use Rattle.command_parts.specs.declared.status.Status.{Status}
use Rattle.command_parts.specs.declared.status.Status.TheVariants.{Done, SinkFailed, PacksFailed, TooLong, OutOfMemory, FormatRefused}
use Rattle.command_parts.specs.Statuses.{status_code}
use Rattle.command_parts.specs.Lines.{Told, too_long_text}

-- the statuses of `format`
abbrev pub IsFormatCode : ℕ → Type 0
IsFormatCode code = (code ≡ status_code Done) ⊎ (code ≡ status_code SinkFailed) ⊎ (code ≡ status_code PacksFailed) ⊎ (code ≡ status_code TooLong)
    ⊎ (code ≡ status_code OutOfMemory) ⊎ (code ≡ status_code FormatRefused)

-- the status of a fault, and what is printed of it
abbrev pub format_status : FormatFault → Status
format_status (fault.TooLong size) = TooLong
format_status fault.Store = PacksFailed
format_status fault.Memory = OutOfMemory
format_status refusal = FormatRefused

-- nothing is printed where the packs failed or there was no memory
unfoldable pub format_text : ℕ → FormatFault → List ℕ
format_text unit (fault.TooMany number) = codes "refused too many " ++ decimal number ++ 10 ∷ []
format_text unit (fault.Spare index) = codes "refused spare " ++ decimal index ++ 10 ∷ []
format_text unit fault.NoCopy = codes "refused no copy" ++ 10 ∷ []
format_text unit (fault.Differs block at wrote read) = codes "refused differs " ++ decimal block ++ 10 ∷ []
format_text unit (fault.TooLong size) = too_long_text unit size
format_text unit why = []

-- `formatted bad K`
abbrev pub formatted_text : ℕ → List ℕ
formatted_text count = codes "formatted bad " ++ decimal count ++ 10 ∷ []

-- the text was printed, or the sink failed
abbrev pub IsToldEnd : Status → Type 0
IsToldEnd status = (status ≡ Done) ⊎ (status ≡ SinkFailed)

-- the pack is formatted, and how many blocks are bad was printed; or a front of that, where the sink failed
pub record RunsFormatted (kind : DriveKind) (unit serial code : ℕ) (tells : Bool) (old new : ℕ → Pack) (out_tells : Bool) (taken after : List ℕ) (faults faults_after : ℕ) : Type 0 where
  pub count : ℕ
  pub few : count ≤ 126
  pub done : IsTrue tells → IsFormatted kind serial (old unit) (new unit) × (count ≡ found kind (old unit))
  pub told : code ≡ 0 → IsTrue out_tells → after ≡ taken ++ formatted_text count
  pub front : code ≡ 5 → Rose faults faults_after × (IsTrue out_tells → TakesFront taken after (formatted_text count))

-- nothing was changed, for this reason, and that is printed
pub record RunsUnformatted (kind : DriveKind) (unit serial code : ℕ) (tells : Bool) (pack : Pack) (out_tells : Bool) (taken after : List ℕ) (faults faults_after : ℕ) : Type 0 where
  pub why : FormatFault
  pub status : code ≡ status_code (format_status why)
  pub fault : IsFault kind serial why
  pub is : IsTrue tells → IsWhy kind pack why
  pub told : IsTrue out_tells → Told taken after (format_text unit why) faults faults_after

-- `format`
pub record RunsFormat (kind : DriveKind) (unit serial code : ℕ) (tells : Bool) (old new : ℕ → Pack) (out_tells : Bool) (taken after : List ℕ) (faults faults_after : ℕ) : Type 0 where
  pub statuses : IsFormatCode code
  pub formatted : (code ≡ 0) ⊎ (code ≡ 5) → RunsFormatted kind unit serial code tells old new out_tells taken after faults faults_after
  pub stopped : code ≡ 6 → IsTrue tells → (new ≡ old) ⊎ IsPartly kind serial (old unit) (new unit)
  pub silent : (code ≡ 6) ⊎ (code ≡ 9) → IsTrue out_tells → after ≡ taken
  pub refused : (code ≡ 7) ⊎ (code ≡ 11) → RunsUnformatted kind unit serial code tells (old unit) out_tells taken after faults faults_after
  pub unchanged : (code ≡ 7) ⊎ (code ≡ 9) ⊎ (code ≡ 11) → IsTrue tells → new ≡ old
  pub fits : code ≡ 9 → IsTrue tells → ¬ (IsTooLong kind (old unit))
  pub elsewhere : (other : ℕ) → other ≢ unit → IsTrue tells → new other ≡ old other
