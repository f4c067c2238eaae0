-- A PLAN of what a sheet shows.
use Rattle.std.specs.Prelude.{◌≡◌, filter, map}
use Rattle.run_plan.specs.declared.sheet.Sheet.{Sheet}
use Rattle.run_plan.specs.Requests.{is_shown}
use Rattle.run_plan.specs.Units.{units_shown}
use Rattle.run_plan.specs.declared.plan.Plan.{Plan}
use Rattle.run_plan.specs.Lanes.{told, lane_in}

-- IT IS OF THE SHEET: each request that is shown is a row, as the run has it; each drive that is shown is a lane
pub record Plans (sheet : Sheet) (plan : Plan) : Type 0 where
  pub window : plan.window ≡ sheet.window
  pub rows : plan.rows.items ≡ filter (is_shown sheet) sheet.run.now.requests
  pub lanes : map told plan.lanes.items ≡ map (lane_in sheet) (units_shown sheet)
