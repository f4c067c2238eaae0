-- Units, kinds and tables stay, whatever acts run.
use Rattle.std.proofs.Common.{◌≡◌, ap, ◌∙◌, rules}
use Rattle.std.proofs.Math.Path.{fun_ext}
use Rattle.driver_machine.specs.World.{UnitView}
use Rattle.driver_laws.specs.answers.Counts.{IsSetAs}
use Rattle.driver_laws.proofs.answers.Units.{setups_stay}
use Rattle.driver_laws.specs.shown.Quiet.{kind_if, table_if}
use Rattle.driver_laws.specs.shown.QuietCalls.{SetupStays}

kinds_same : (old new : UnitView) → IsSetAs old new → kind_if new.declared new.drive.kind ≡ kind_if old.declared old.drive.kind
kinds_same old new s = ap (λ b. kind_if b new.drive.kind) s.declared ∙ ap (kind_if old.declared) s.kind

tables_same : (old new : UnitView) → IsSetAs old new → table_if new.declared new.table ≡ table_if old.declared old.table
tables_same old new s = ap (λ b. table_if b new.table) s.declared ∙ ap (table_if old.declared) s.table

pub setup_stays : SetupStays
setup_stays w acts held left = search (rules, fun_ext, kinds_same, setups_stay, tables_same)
