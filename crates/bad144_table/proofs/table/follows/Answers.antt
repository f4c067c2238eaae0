use Rattle.std.proofs.Common.{length, ap, ◌∙◌, arith}
use borrow.Author.Tests.{ltb-true}
use Rattle.pack_geometry.specs.declared.Place.{Place}
use Rattle.pack_geometry.specs.TableSpelling.{Table}
use Rattle.bad144_table.proofs.TableLemmas.{below_last, at_or_below_last}
use Rattle.bad144_table.proofs.table.follows.Goals as goal

pub returns-then-count-eq0-clause-above : goal.returns-then-count-eq0-clause-above
returns-then-count-eq0-clause-above c = λ e k d small.
    let count = c.len-count.ensures.value ∙ ap (λ (table : Table). length table.places) c.table.view_is in
    absurd (omega (arith, small, count, c.if-count-eq0.true))

pub returns-else-count-eq0-clause-above : goal.returns-else-count-eq0-clause-above
returns-else-count-eq0-clause-above c =
    λ e.
    let blank : Place = record { cylinder = 0; track = 0; sector = 0 } in
    let last = rw (c.deref.ensures.0, c.len-count.ensures.value) at c.number.ensures in
    rw (← c.table.view_is)
    (below_last c.table.inside.kind c.table.inside.places.items _ blank c.table.invariant.ascending
    (omega (arith, last, c.number-else-count-eq0.ensures, ltb-true c.number.result c.number-else-count-eq0.result e)))

pub returns-else-count-eq0-clause-below : goal.returns-else-count-eq0-clause-below
returns-else-count-eq0-clause-below c =
    let blank : Place = record { cylinder = 0; track = 0; sector = 0 } in
    let table : Table = record { kind = c.table.inside.kind; serial = c.table.inside.serial; places = c.table.inside.places.items } in
    let last = rw (c.deref.ensures.0, c.len-count.ensures.value) at c.number.ensures in
    rw (← c.table.view_is)
    (at_or_below_last table c.args.place blank c.number.result c.number-else-count-eq0.result (λ none. c.if-count-eq0.false (c.len-count.ensures.value ∙ none)) last c.number-else-count-eq0.ensures)
