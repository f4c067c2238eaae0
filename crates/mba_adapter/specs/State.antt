-- What contracts see of an adapter's fields.
use Rattle.hardware_table.specs.Adapter.{AdapterState}
use Rattle.mba_adapter.specs.declared.adapter.Adapter.TheInside.{Inside}

abbrev pub state_of : Inside → AdapterState
state_of a = record {
  map_registers = a.map_registers;
  address = a.address;
  byte_count = a.byte_count;
  busy = a.busy;
  completion = a.completion;
  data_late = a.data_late;
  attentions = a.attentions;
  skip = a.skip;
  count = a.count;
  frames = a.frames.items;
  offset = a.offset;
  blocks = a.blocks;
  last = a.last;
  drive = a.drive;
  block = a.block;
  write = a.write;
  moved = a.moved;
  verdict = a.verdict;
}
