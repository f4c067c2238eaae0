use Rattle.std.proofs.Common.{refl, sym, subst, arith}
use Rattle.hp_units.specs.Row.{IsRow}
use Rattle.hp_units.specs.Setups.{setups_of}
use Rattle.hp_units.proofs.Rows.{blank_row}
use Rattle.hp_core.proofs.Starting.{none_positions}
use Rattle.hp_core.proofs.Places.{room_at_start, starts}
use Rattle.hp_core.proofs.driver.Core.new.Goals as goal

pub invariant_of-result : goal.invariant_of-result
invariant_of-result c =
    let tables = c.in_ok-tables.ensures in record {
      positions = subst (IsRow 0) (sym c.in_ok-units.ensures) (none_positions (setups_of c.args.setups.now) _ (blank_row _ refl));
      room = room_at_start _ _ _ (omega arith) tables.slots tables.answers;
    }

pub returns : goal.returns
returns c =
    let tables = c.in_ok-tables.ensures in
    starts (setups_of c.args.setups.now) _ _ _ _ _ _ _ _ c.in_ok-units.ensures c.in_ok-channels.ensures tables.slots tables.book tables.answers tables.gather
