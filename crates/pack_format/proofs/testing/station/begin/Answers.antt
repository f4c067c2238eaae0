use Rattle.std.proofs.Common.{ap}
use Rattle.hardware_table.specs.Drive.{is_ready}
use Rattle.pack_format.proofs.testing.BeginLaws.{begun}
use Rattle.pack_format.proofs.testing.station.begin.Goals as goal

pub go-requires : goal.go-requires
go-requires c = record { ready = ap is_ready c.requires.good.work_is; online = λ _. c.requires.good.online }

pub returns : goal.returns
returns c =
    begun c.args.kind c.args.block c.args.write c.direction.result c.args.drive.now c.go.new.self c.direction.ensures c.go.ensures
    c.requires.good c.requires.addressed c.requires.aimed
