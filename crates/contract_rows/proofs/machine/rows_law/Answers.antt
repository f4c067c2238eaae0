-- Each row by computation.
use Rattle.std.proofs.Common.{refl}
use Rattle.trace_replay.specs.requests.ServiceOrder as order
use Rattle.driver_machine.specs.Repaired as repair
use Rattle.fire_code.specs.Repair as code
use Rattle.contract_rows.proofs.machine.rows_law.Goals as goal

pub returns-clause-rows : goal.returns-clause-rows
unfolding order.queue_with repair.repaired_from code.burst_byte
returns-clause-rows c = (record { told = refl; sound = refl }, (record { told = refl; sound = refl }, (record { told = refl; sound = refl }, (record { told = refl; sound = refl }, (record { told = refl; sound = refl }, (record { told = refl; sound = refl }, (record { told = refl; sound = refl }, (record { told = refl; sound = refl }, (record { told = refl; sound = refl }, (record { told = refl; sound = refl }, (record { told = refl; sound = refl }, (record { told = refl; sound = refl }, (record { told = refl; sound = refl }, (record { told = refl; sound = refl }, (record { told = refl; sound = refl }, (record { told = refl; sound = refl }, (record { told = refl; sound = refl }, (record { told = refl; sound = refl }, (record { told = refl; sound = refl }, (record { told = refl; sound = refl }, (record { told = refl; sound = refl }, (record { told = refl; sound = refl }, (record { told = refl; sound = refl }, (record { told = refl; sound = refl }, (record { told = refl; sound = refl }, (record { told = refl; sound = refl }, (record { told = refl; sound = refl }, (record { told = refl; sound = refl }, (record { told = refl; sound = refl }, (record { told = refl; sound = refl }, (record { told = refl; sound = refl }, (record { told = refl; sound = refl }, (record { told = refl; sound = refl }, (record { told = refl; sound = refl }, (record { told = refl; sound = refl }, (record { told = refl; sound = refl }, tt))))))))))))))))))))))))))))))))))))

pub returns-clause-frames_run_out : goal.returns-clause-frames_run_out
unfolding order.queue_with repair.repaired_from code.burst_byte
returns-clause-frames_run_out c = refl
