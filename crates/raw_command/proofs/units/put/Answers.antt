use Rattle.raw_command.proofs.Writings.{dump_inside, dump_placed, put_dump, put_raw, raw_inside, raw_placed}
use Rattle.raw_command.proofs.units.put.Goals as goal

pub write_unit-requires : goal.write_unit-requires
write_unit-requires g c = record {
  target = raw_placed c.args.writing c.in-Raw.target c.in-Raw.is c.requires.placed;
  inside = raw_inside c.args.writing c.in-Raw.target _ c.in-Raw.is c.requires.inside;
}

pub dump_unit-requires : goal.dump_unit-requires
dump_unit-requires g c = record {
  unit = dump_placed c.args.writing c.in-Dump.unit c.in-Dump.kind c.in-Dump.is c.requires.placed;
  few = dump_inside c.args.writing c.in-Dump.unit c.in-Dump.kind _ c.in-Dump.is c.requires.inside;
}

pub returns-in-Raw : goal.returns-in-Raw
returns-in-Raw g c = put_raw c.args.writing c.in-Raw.target c.args.from.now c.in-Raw.is c.write_unit.ensures

pub returns-in-Dump : goal.returns-in-Dump
returns-in-Dump g c = put_dump c.args.writing c.in-Dump.unit c.in-Dump.kind c.args.from.now c.in-Dump.is c.dump_unit.ensures
