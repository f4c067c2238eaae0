-- How many deeds can still come at a unit before it waits for an event.
use Rattle.std.specs.Prelude.{ℕ, ◌+◌, ◌*◌, ◌==◌, Bool, true, false, if◌then◌else◌, length}
use Rattle.drive_registers.specs.Codes.{offset_field}
use Rattle.hardware_table.specs.declared.Moved.{Moved}
use Rattle.hardware_table.specs.declared.Moved.TheVariants as verdict
use Rattle.driver_machine.specs.declared.Task.{Task}
use Rattle.driver_machine.specs.declared.Task.TheVariants.{Clear, Judge}
use Rattle.driver_machine.specs.declared.Phase.{Phase}
use Rattle.driver_machine.specs.declared.Phase.TheVariants.{Due, Waiting}
use Rattle.driver_machine.specs.World.{UnitView}

abbrev pub judging_left : Moved → ℕ
judging_left verdict.Clean = 3
judging_left last = 4

abbrev pub task_left : Task → ℕ
task_left (Clear moved last) = 5
task_left (Judge moved last) = judging_left last
task_left task = 2

abbrev pub phase_left : Phase → ℕ
phase_left (Due task) = task_left task
phase_left phase = 0

-- PACK and RTC come at most once; at most three deeds come for each request that ends
abbrev pub deeds_left : UnitView → ℕ
deeds_left v =
    3 * length v.queue + phase_left v.phase + (if v.drive.valid then 0 else 1)
    + (if offset_field v.drive.offset == 0 then 0 else 1)

-- a phase in which the unit waits for an event
abbrev pub is_resting : Phase → Bool
is_resting Waiting = false
is_resting (Due task) = false
is_resting phase = true
