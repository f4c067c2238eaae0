use Rattle.std.proofs.Common.{arith, List, length, sym, ap, ◌∙◌}
use Rattle.std.proofs.lemmas.Bool.{eqb-true, eqb-false}
use Rattle.pack_geometry.specs.declared.Place.{Place}
use Rattle.pack_geometry.specs.TableSpelling.{Table}
use Rattle.bad144_table.proofs.TableLemmas.{IsLookedUp, is_new, is_valid}
use Rattle.bad144_table.proofs.table.insert.Goals as goal

pub returns-then-is_full-clause-refused : goal.returns-then-is_full-clause-refused
returns-then-is_full-clause-refused c =
    let t : Table = record { kind = c.table.inside.kind; serial = c.table.inside.serial; places = c.table.inside.places.items } in
    let ranked = rw (← c.table.view_is) at c.rank-at.ensures in
    let found : IsLookedUp t c.args.place c.number-block.result c.data_limit.result c.rank-at.result c.stands_at.result = record {
      valid = c.table.invariant;
      inside = rw (← c.table.view_is) at c.requires;
      number = c.number-block.ensures;
      limit_is = c.data_limit.ensures;
      below = omega arith;
      rank = record { bound = ranked.bound; below = ranked.below; above = ranked.above };
      answer = (rw (← c.table.view_is) at c.stands_at.ensures).1;
      no = c.if-stands_at.false;
    } in
    rw (← c.table.view_is) (
      is_new t c.args.place c.number-block.result c.data_limit.result c.rank-at.result c.stands_at.result found,
      eqb-true (length c.table.inside.places.items) 126 (sym c.is_full.ensures.value ∙ c.if-is_full.true),
    )

pub invariant_of-table : goal.invariant_of-table
invariant_of-table c =
    let t : Table = record { kind = c.table.inside.kind; serial = c.table.inside.serial; places = c.table.inside.places.items } in
    let ranked = rw (← c.table.view_is) at c.rank-at.ensures in
    let found : IsLookedUp t c.args.place c.number-block.result c.data_limit.result c.rank-at.result c.stands_at.result = record {
      valid = c.table.invariant;
      inside = rw (← c.table.view_is) at c.requires;
      number = c.number-block.ensures;
      limit_is = c.data_limit.ensures;
      below = omega arith;
      rank = record { bound = ranked.bound; below = ranked.below; above = ranked.above };
      answer = (rw (← c.table.view_is) at c.stands_at.ensures).1;
      no = c.if-stands_at.false;
    } in
    let not_full = eqb-false (length c.table.inside.places.items) 126 (sym c.is_full.ensures.value ∙ c.if-is_full.false) in
    rw c.insert.ensures.items
    (is_valid t c.args.place c.number-block.result c.data_limit.result c.rank-at.result c.stands_at.result found
    (omega (arith, not_full, c.table.invariant.room)))

pub returns-clause-ok : goal.returns-clause-ok
returns-clause-ok c =
    let t : Table = record { kind = c.table.inside.kind; serial = c.table.inside.serial; places = c.table.inside.places.items } in
    let ranked = rw (← c.table.view_is) at c.rank-at.ensures in
    let found : IsLookedUp t c.args.place c.number-block.result c.data_limit.result c.rank-at.result c.stands_at.result = record {
      valid = c.table.invariant;
      inside = rw (← c.table.view_is) at c.requires;
      number = c.number-block.ensures;
      limit_is = c.data_limit.ensures;
      below = omega arith;
      rank = record { bound = ranked.bound; below = ranked.below; above = ranked.above };
      answer = (rw (← c.table.view_is) at c.stands_at.ensures).1;
      no = c.if-stands_at.false;
    } in
    let not_full = eqb-false (length c.table.inside.places.items) 126 (sym c.is_full.ensures.value ∙ c.if-is_full.false) in
    rw (← c.table.view_is) (record {
      fresh = is_new t c.args.place c.number-block.result c.data_limit.result c.rank-at.result c.stands_at.result found;
      position = ranked.bound;
      changed =
          ap (λ (items : List Place). let new : Table = record { kind = c.table.inside.kind; serial = c.table.inside.serial; places = items } in new)
          c.insert.ensures.items;
      valid =
          rw c.insert.ensures.items
          (is_valid t c.args.place c.number-block.result c.data_limit.result c.rank-at.result c.stands_at.result found
          (omega (arith, not_full, c.table.invariant.room)));
    })
