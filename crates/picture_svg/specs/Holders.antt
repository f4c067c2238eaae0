-- WHICH DRIVES HOLD AN ADAPTER, and behind how many events of a column.
use Rattle.std.specs.Prelude.{ℕ, ◌/◌, ◌==◌, Bool, if◌then◌else◌, List, fold}
use Rattle.drive_pictures.specs.Counts.{plus}
use Rattle.run_picture.specs.declared.columns.Column.{Column}
use Rattle.run_picture.specs.Fold.{drive_at}
use Rattle.run_plan.specs.Letters.{holding}
use Rattle.picture_svg.specs.declared.scene.Lane.{Lane}

abbrev pub is_on : ℕ → Lane → Bool
is_on adapter lane = lane.unit / 8 == adapter

abbrev pub held_by : Column → Lane → ℕ
held_by column lane = holding (drive_at column.drives lane.unit).cell.tally

-- in one column by the drives of an adapter, and in all
abbrev pub with_held : Column → ℕ → ℕ → Lane → ℕ
with_held column adapter sum lane = if is_on adapter lane then plus sum (held_by column lane) else sum

abbrev pub held : Column → List Lane → ℕ → ℕ
held column lanes adapter = fold (with_held column adapter) 0 lanes

abbrev pub all_held : List Column → List Lane → ℕ → ℕ
all_held columns lanes adapter = fold (λ sum column. plus sum (held column lanes adapter)) 0 columns
