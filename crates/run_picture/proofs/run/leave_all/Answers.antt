use Rattle.drive_pictures.specs.Requests.{left}
use Rattle.run_picture.proofs.ListLaws.{map_step}
use Rattle.run_picture.proofs.run.leave_all.Goals as goal

pub loop-request-preserved : goal.loop-request-preserved
loop-request-preserved c =
    map_step (left c.args.events) c.args.requests.now c.loop-request.requests c.loop-request.request-index _ c.leave.new.self c.loop-request-test.true
    c.loop-request.auto.requests c.loop-request.invariant c.leave.ensures
