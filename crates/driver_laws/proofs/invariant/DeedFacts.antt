-- What several deeds share of transfers and tasks.
use Rattle.std.proofs.Common.{◌≡◌, ℕ, ◌+◌, ◌<◌, Bool, Option, Some, None, arith, rules}
use Rattle.pack_geometry.specs.Geometry.{IsInside, place_at}
use Rattle.hardware_table.specs.declared.Moved.{Moved}
use Rattle.transfer_engine.specs.declared.job.Job.{Job}
use Rattle.transfer_engine.specs.State.{segment_by, begun, segment_of}
use Rattle.driver_machine.specs.declared.Phase.TheVariants.{Due}
use Rattle.driver_machine.specs.declared.Task.TheVariants.{Judge}
use Rattle.driver_machine.specs.Acts.{Scene}
use Rattle.driver_machine.specs.Sound.{IsBegun, IsTask}
use Rattle.driver_machine.specs.World.{UnitView, transfer_of, job_of, drive_of}
use Rattle.driver_machine.specs.Guards.{IsBusyFor}
use Rattle.driver_laws.proofs.invariant.Scene.{SceneOk, phase_is, HasTransfer}
use Rattle.driver_machine.proofs.Dues.{IsJudged}

-- the task of a verdict that is judged
pub judged_is : (u moved : ℕ) (last : Moved) (s : Scene) → SceneOk u s → IsJudged s.unit moved last → IsTask s.unit s.held (Judge moved last)
judged_is u moved last s ok judged = phase_is u s (Due (Judge moved last)) ok judged.phase

-- BLOCKS ARE LEFT where a sector of the segment did not move, and where not all are done.
pub left_by : (index : Option ℕ) (job : Job) (done moved : ℕ) → done < job.count → moved < (segment_by index job done).count → done + moved < job.count
left_by None job done moved left less = omega (arith, left, less)
left_by (Some i) job done moved left less = omega (arith, left, less)

-- A NEW TRANSFER has done nothing.
pub new_begun : (u : ℕ) (s : Scene) (x : UnitView) → SceneOk u s → x.transfer ≡ Some (begun (job_of s.unit.drive.kind s.held))
    → x.table ≡ s.unit.table → x.drive.kind ≡ s.unit.drive.kind → IsBegun x s.held
new_begun u s x ok transfer table kind = first_of (search rules, grind arith)

-- the sector that failed lies on the drive
pub sector_inside : (s : Scene) → IsBegun s.unit s.held → IsInside s.unit.drive.kind (place_at s.unit.drive.kind (segment_of (transfer_of s.unit)).block)
sector_inside s is = first_of (search rules, grind arith)

-- a unit for which its adapter is busy transfers
pub transfer_at : (u : ℕ) (done : Bool) (s : Scene) → SceneOk u s → IsBusyFor s.adapter.state (drive_of u) done → HasTransfer s
transfer_at u done s ok is = ok.transfer is.busy is.drive
