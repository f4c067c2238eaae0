use Rattle.pack_geometry.specs.TableSpelling.{Table}
use Rattle.bad144_table.proofs.TableLemmas.{valid_push}
use Rattle.bad144_table.proofs.table.push.Goals as goal

pub invariant_of-table : goal.invariant_of-table
invariant_of-table c =
    let t : Table = record { kind = c.table.inside.kind; serial = c.table.inside.serial; places = c.table.inside.places.items } in
    let asked = rw (← c.table.view_is) at c.requires in
    rw c.push.ensures.items (valid_push t c.args.place c.table.invariant asked.inside asked.room asked.above)
