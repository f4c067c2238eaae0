use Rattle.std.proofs.Common.{◌≡◌}
use Rattle.pack_geometry.specs.TableFields.{long_at}
use Rattle.bad144_table.specs.Faults.{IsReadUpTo}
use Rattle.bad144_table.proofs.spelling.read_table.Given as goal

abbrev pub invariant-loop-i : goal.invariant-loop-i
invariant-loop-i l = record {
  kind : l.table.kind ≡ l.fn.kind;
  serial : l.table.serial ≡ long_at l.bytes 0;
  read : IsReadUpTo l.fn.kind l.bytes l.table.places l.i;
}
