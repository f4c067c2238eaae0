use Rattle.std.proofs.Common.{ℕ, IsTrue, subst, ◌∙◌}
use Rattle.pack_geometry.specs.Pack.{Pack}
use Rattle.pack_geometry.specs.PackTable.{IsTableOf}
use Rattle.bad144_tool.proofs.AddLaws.{at_error}
use Rattle.bad144_tool.proofs.ExitLaws.{counted_failed, counted_on, counted_then, counted_unless, fresh_is_mark_fault, has_none, has_table, mark_is_add_fault, no_value, none_is_not_store, or_error, or_value, why_length}
use Rattle.bad144_tool.proofs.tool.table_that_fits.Goals as goal

pub returns-in_err-check_length : goal.returns-in_err-check_length
returns-in_err-check_length g c =
    let is = c.from_residual.ensures.0 in
    let error = c.from_residual.ensures.1 in
    let check = c.in_err-check_length.ensures in
    let faults = fresh_is_mark_fault c.args.kind _ check.faults in record {
      never_again = check.never_again;
      same = check.same;
      drive = no_value _ _ is;
      table = no_value _ _ is;
      faults = at_error _ _ error (mark_is_add_fault c.args.kind _ faults);
      only = at_error _ _ error faults;
      why = λ block. at_error _ _ error (λ t. why_length c.args.kind _ block _ check.faults (check.why t));
      store = counted_on _ error check.store;
    }

pub returns-in_err-table_of : goal.returns-in_err-table_of
returns-in_err-table_of g c =
    let is = c.from_residual-in_err-table_of.ensures.0 in
    let error = c.from_residual-in_err-table_of.ensures.1 in
    let check = c.in_ok-check_length.ensures in
    let table = c.in_err-table_of.ensures in record {
      never_again = λ t. check.never_again (table.never_again t);
      same = λ t. table.same t ∙ check.same (table.never_again t);
      drive = no_value _ _ is;
      table = no_value _ _ is;
      faults = at_error _ _ error tt;
      only = at_error _ _ error tt;
      why = λ block. at_error _ _ error (λ _. tt);
      store = counted_then check.store.later (counted_failed table.cause);
    }

pub returns : goal.returns
returns g c =
    let check = c.in_ok-check_length.ensures in
    let table = c.in_ok-table_of.ensures in
    let is = c.ok_or.ensures.value in
    let pack = g.P.Packs.held c.args.packs.now c.args.unit in
    let fits = λ (t : IsTrue (g.P.Packs.tells c.table_of.new.packs)). check.fits (table.never_again t) in
    let held = λ (t : IsTrue (g.P.Packs.tells c.table_of.new.packs)).
    subst (λ (packs : ℕ → Pack). IsTableOf c.args.kind (packs c.args.unit) c.in_ok-table_of.field-0) (check.same (table.never_again t)) (table.table t) in record {
      never_again = λ t. check.never_again (table.never_again t);
      same = λ t. table.same t ∙ check.same (table.never_again t);
      drive = or_value _ _ _ _ is table.drive;
      table = or_value _ _ _ _ is (has_table c.args.kind pack _ fits held);
      faults = or_error _ _ _ _ is (λ _. tt);
      only = or_error _ _ _ _ is (λ _. tt);
      why = λ block. or_error _ _ _ _ is (λ none t. has_none c.args.kind pack _ none (fits t) (held t));
      store = counted_then check.store.later (counted_unless _ (or_error _ _ _ _ is (λ _. none_is_not_store)) table.cause.later);
    }
