use Rattle.std.proofs.Common.{◌≡◌, take}
use Rattle.pack_geometry.specs.TableSpelling.{table_text}
use Rattle.bad144_table.proofs.spelling.write_table.Given as goal

abbrev pub invariant-loop-i : goal.invariant-loop-i
invariant-loop-i l = l.into ≡ table_text l.table.serial (take l.i l.table.places)
