-- A verdict exists for any places: that of the code, on their remainder.
use Rattle.std.proofs.Common.{ℕ, Bool, true, false, List, refl, Option, Some, None}
use Rattle.fire_code.specs.Remainder.{remainder}
use Rattle.fire_code.specs.Verdict.{Judges, verdict_of}
use Rattle.fire_code.specs.declared.Verdict.{Verdict}
use Rattle.fire_code.specs.declared.Verdict.TheVariants as code
use Rattle.fire_code.proofs.Verdicts.{verdict_judges}
use Rattle.hardware_table.specs.declared.Moved.{Moved}
use Rattle.hardware_table.specs.declared.Moved.TheVariants.{Clean, Burst, Hard, Marked}
use Rattle.hardware_table.specs.Drive.{is_writing, DriveState}
use Rattle.hardware_table.specs.Moves.{stop_of, IsReadVerdict, IsVerdictBy, IsVerdict}

read_by : (places : List ℕ) (v : Verdict) → Judges v (remainder places) → (verdict : Moved) × IsReadVerdict (Some places) verdict
read_by places code.Clean judges = (Clean, judges)
read_by places (code.Burst at pattern) judges = (Burst at pattern, judges)
read_by places code.Uncorrectable judges = (Hard, judges)

read_verdict : (places : Option (List ℕ)) → (verdict : Moved) × IsReadVerdict places verdict
read_verdict None = (Clean, refl)
read_verdict (Some places) = read_by places (verdict_of (remainder places)) (verdict_judges (remainder places))

verdict_by : (stop : Option Moved) (marked write : Bool) (places : Option (List ℕ)) → (verdict : Moved) × IsVerdictBy stop marked write places verdict
verdict_by (Some stop) marked write places = (stop, refl)
verdict_by None true write places = (Marked, refl)
verdict_by None false true places = (Clean, refl)
verdict_by None false false places = read_verdict places

pub verdicts_exist : (d : DriveState) (marked : Bool) (places : Option (List ℕ)) → (verdict : Moved) × IsVerdict d marked places verdict
verdicts_exist d marked places = verdict_by (stop_of d) marked (is_writing d.work) places
