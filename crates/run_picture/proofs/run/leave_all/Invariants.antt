use Rattle.std.proofs.Common.{◌≡◌, ◌++◌, map, take, drop}
use Rattle.drive_pictures.specs.Requests.{left}
use Rattle.run_picture.proofs.run.leave_all.Given as goal

abbrev pub invariant-loop-request : goal.invariant-loop-request
invariant-loop-request l = l.requests ≡ map (left l.events) (take l.request-index l.initial.requests) ++ drop l.request-index l.initial.requests
