-- What the exits of formatting say.
use Rattle.std.proofs.Common.{◌≡◌, ◌<◌, ◌≤◌, ◌*◌, ℕ, Bool, Option, length, sym, ap, ◌∙◌, subst, arith}
use Rattle.std.proofs.lemmas.List.{length-map}
use Rattle.pack_geometry.specs.declared.DriveKind.{DriveKind}
use Rattle.pack_geometry.specs.Geometry.{limit_of, place_at}
use Rattle.pack_geometry.specs.Pack.{Pack}
use Rattle.pack_geometry.specs.TableSpelling.{Table}
use Rattle.pack_format.specs.Faults.{IsFault, IsReason}
use Rattle.pack_format.specs.Formatted.{CanBeFormatted, IsTooLong, found, table_for}
use Rattle.pack_format.specs.Surveys.{IsFirst, IsJudged, IsRefusal, IsSurvey, all_marked}
use Rattle.pack_format.specs.declared.fault.FormatFault.{FormatFault}
use Rattle.pack_format.specs.declared.fault.FormatFault.TheVariants.{Memory, TooMany, Spare, NoCopy, Differs, Store}

-- a failure of the packs is a reason of its own
pub store_reason : {kind : DriveKind} {serial : ℕ} {told : Bool} {pack : Pack} {f : FormatFault} → f ≡ Store → IsReason kind serial told pack f
store_reason {kind} {serial} {told} {pack} is = subst (λ (g : FormatFault). IsReason kind serial told pack g) (sym is) (record { why = λ t. tt; fault = tt })

pub differs_is_not_store : {block at wrote read : ℕ} → Differs block at wrote read ≡ Store → ⊥
differs_is_not_store is = cc

pub memory_is_not_store : Memory ≡ Store → ⊥
memory_is_not_store is = cc

-- a refusal is a fault, and no failure of the packs
pub refusal_is_fault : (kind : DriveKind) (serial : ℕ) (f : FormatFault) → IsRefusal f → IsFault kind serial f
refusal_is_fault kind serial (TooMany number) is = is
refusal_is_fault kind serial (Spare index) is = is
refusal_is_fault kind serial NoCopy is = tt
refusal_is_fault kind serial other is = absurd is

pub refusal_is_not_store : (f : FormatFault) → IsRefusal f → f ≡ Store → ⊥
refusal_is_not_store f is store = subst IsRefusal store is

-- what three readings found
pub judged : (kind : DriveKind) (serial unit number : ℕ) (spare : Option ℕ) (no_copy : Bool) (table : Table) (old mid last : ℕ → Pack) → mid ≡ old → last ≡ old
    → ¬ (IsTooLong kind (old unit)) → IsSurvey kind serial (old unit) (limit_of kind) number table → IsFirst kind (mid unit) 126 spare
    → no_copy ≡ all_marked kind (last unit) 5 → IsJudged kind (old unit) number spare no_copy
judged kind serial unit number spare no_copy table old mid last same again fits survey first copies = record {
  fits = fits;
  counted = survey.counted;
  first = subst (λ (h : ℕ → Pack). IsFirst kind (h unit) 126 spare) same first;
  copies = copies ∙ ap (λ (h : ℕ → Pack). all_marked kind (h unit) 5) again;
}

-- the table that the survey lists
pub table_listed : (kind : DriveKind) (serial number : ℕ) (table : Table) (pack : Pack) → IsSurvey kind serial pack (limit_of kind) number table → CanBeFormatted kind pack
    → table ≡ table_for kind serial pack
table_listed kind serial number table pack survey can = survey.listed (few number (found kind pack) survey.counted can.few)
  where
    few : (n m : ℕ) → n ≡ m → ¬ (126 < m) → n ≤ 126
    few n m same not_many = omega (arith, same, not_many)

pub bad_found : (kind : DriveKind) (serial n : ℕ) (pack : Pack) (table : Table) → n ≡ length table.places → table ≡ table_for kind serial pack → n ≡ found kind pack
bad_found kind serial n pack table count is = count ∙ ap (λ (t : Table). length t.places) is ∙ length-map _ (place_at kind)

-- an image whose length was read is not longer than its pack
pub fits_length : (n long blocks count all : ℕ) → n ≤ 512 * blocks → blocks ≡ count → count ≡ all → n ≡ long → ¬ (512 * all < long)
fits_length n long blocks count all within same is told = λ above. omega (arith, within, same, is, told, above)
