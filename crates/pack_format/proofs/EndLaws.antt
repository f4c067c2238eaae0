-- How formatting ends.
use Rattle.std.proofs.Common.{◌≡◌, inl, inr, ℕ, IsTrue, Result, Ok, Err, subst}
use Rattle.std.specs.Prelude.{IfErr, IfOk}
use Rattle.pack_geometry.specs.declared.DriveKind.{DriveKind}
use Rattle.pack_geometry.specs.Pack.{Pack}
use Rattle.pack_format.specs.testing.Stops.{IsStop}
use Rattle.pack_format.specs.Faults.{Formats, IsEnd, IsReason, IsWhy, Leaves}
use Rattle.pack_format.specs.Formatted.{IsFormatted, IsPartly, found}
use Rattle.pack_format.specs.Steps.{Seen}
use Rattle.pack_format.specs.declared.fault.FormatFault.{FormatFault}
use Rattle.pack_format.specs.declared.formatting.FormatReport.{FormatReport}
use Rattle.pack_format.specs.declared.fault.FormatFault.TheVariants.{Differs, Store}

-- a test that stopped
pub end_of : (kind : DriveKind) (serial unit : ℕ) (old new : Seen) (f : FormatFault) → IsStop new.told (Formats kind serial) f
    → (IsTrue new.told → IsPartly kind serial (old.held unit) (new.held unit)) → IsEnd kind serial unit old new f
end_of kind serial unit old new (Differs block at wrote read) stop partly =
    record { reason = record { why = λ t. absurd (stop.0 t); fault = stop.1 }; left = λ t. absurd (stop.0 t) }
end_of kind serial unit old new Store stop partly = record { reason = record { why = λ t. tt; fault = tt }; left = λ t. inr (partly t) }
end_of kind serial unit old new other stop partly = absurd stop

-- what changed nothing
pub end_alone : (kind : DriveKind) (serial unit : ℕ) (old new : Seen) (f : FormatFault) → IsReason kind serial new.told (old.held unit) f → (IsTrue new.told → new.held ≡ old.held)
    → IsEnd kind serial unit old new f
end_alone kind serial unit old new f reason same = record { reason = reason; left = λ t. alone f (reason.why t) (same t) }
  where
    alone : (g : FormatFault) → IsWhy kind (old.held unit) g → new.held ≡ old.held → Leaves kind serial unit old.held new.held g
    alone (Differs block at wrote read) why is = absurd why
    alone Store why is = inl is
    alone other why is = is

-- and what was done behind a step that changed nothing
pub end_behind : (kind : DriveKind) (serial unit : ℕ) (old mid new : Seen) (f : FormatFault) → (IsTrue new.told → mid.held ≡ old.held) → IsEnd kind serial unit mid new f
    → IsEnd kind serial unit old new f
end_behind kind serial unit old mid new f same end = record {
  reason = record { why = λ t. subst (λ (h : ℕ → Pack). IsWhy kind (h unit) f) (same t) (end.reason.why t); fault = end.reason.fault };
  left = λ t. subst (λ (h : ℕ → Pack). Leaves kind serial unit h new.held f) (same t) (end.left t);
}

pub formatted_behind : (kind : DriveKind) (serial unit : ℕ) (old mid new : Seen) (result : Result FormatReport FormatFault) → (IsTrue new.told → mid.held ≡ old.held)
    → IfOk result (λ report. IsTrue new.told → IsFormatted kind serial (mid.held unit) (new.held unit) × (report.bad ≡ found kind (mid.held unit)))
    → IfOk result (λ report. IsTrue new.told → IsFormatted kind serial (old.held unit) (new.held unit) × (report.bad ≡ found kind (old.held unit)))
formatted_behind kind serial unit old mid new (Ok report) same formatted =
    λ t. subst (λ (h : ℕ → Pack). IsFormatted kind serial (h unit) (new.held unit) × (report.bad ≡ found kind (h unit))) (same t) (formatted t)
formatted_behind kind serial unit old mid new (Err f) same formatted = tt

pub if_err : {T : Type 0} (P Q : FormatFault → Type 0) (result : Result T FormatFault) → IfErr result P → ((f : FormatFault) → P f → Q f) → IfErr result Q
if_err P Q (Ok v) p more = tt
if_err P Q (Err f) p more = more f p
