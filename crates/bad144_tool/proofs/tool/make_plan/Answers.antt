use Rattle.std.proofs.Common.{ℕ, subst, sym, ap, arith, Err, ◌∙◌}
use Rattle.pack_geometry.specs.declared.DriveKind.{DriveKind}
use Rattle.pack_geometry.specs.Geometry.{IsInside}
use Rattle.pack_geometry.specs.Pack.{Pack}
use Rattle.bad144_tool.specs.Adding.{AreFree, IsFirstMarked}
use Rattle.bad144_tool.proofs.AddLaws.{at_error, goes_to, may_list, why_refused, why_spare}
use Rattle.bad144_tool.proofs.CopyLaws.{index_inside, inserted_low}
use Rattle.bad144_tool.proofs.ExitLaws.{counted_ok, counted_on, counted_other, counted_then, insert_is_add_fault, insert_is_no_failure, no_value, not_done, spare_is_add_fault}
use Rattle.bad144_tool.proofs.tool.make_plan.Goals as goal

pub returns-in_err-table : goal.returns-in_err-table
returns-in_err-table g c =
    let is = c.from_residual.ensures.0 in
    let error = c.from_residual.ensures.1 in
    let refused = c.in_err-table.ensures in record {
      never_again = refused.never_again;
      same = refused.same;
      index = no_value _ _ is;
      room = no_value _ _ is;
      low = not_done _ _ is;
      may = no_value _ _ is;
      faults = at_error _ _ error refused.faults;
      why = at_error _ _ error (refused.why c.args.block);
      store = counted_on _ error refused.store;
    }

pub returns-in_err-index : goal.returns-in_err-index
returns-in_err-index g c =
    let is = c.from_residual-in_err-index.ensures.0 in
    let error = c.from_residual-in_err-index.ensures.1 in
    let table = c.in_ok-table.ensures in record {
      never_again = table.never_again;
      same = table.same;
      index = no_value _ _ is;
      room = no_value _ _ is;
      low = not_done _ _ is;
      may = no_value _ _ is;
      faults = at_error _ _ error (insert_is_add_fault c.args.kind _);
      why = at_error _ _ error (λ t.
          why_refused c.args.kind _ c.args.block c.in_ok-table.table c.place_of.result _ (table.table t) table.drive
          c.place_of.ensures.place (c.place_law.ensures.back c.args.block c.requires.block) c.in_err-index.ensures.refused);
      store = counted_other _ error (insert_is_no_failure _) table.store.later;
    }

pub returns-in_err-check_spare : goal.returns-in_err-check_spare
returns-in_err-check_spare g c =
    let is = c.from_residual-in_err-check_spare.ensures.0 in
    let error = c.from_residual-in_err-check_spare.ensures.1 in
    let table = c.in_ok-table.ensures in
    let spare = c.in_err-check_spare.ensures in record {
      never_again = λ t. table.never_again (spare.never_again t);
      same = λ t. spare.same t ∙ table.same (spare.never_again t);
      index = no_value _ _ is;
      room = no_value _ _ is;
      low = not_done _ _ is;
      may = no_value _ _ is;
      faults = at_error _ _ error (spare_is_add_fault c.args.kind _ spare.faults);
      why = at_error _ _ error (λ t.
          let told = spare.never_again t in
          why_spare c.args.kind _ c.args.block c.in_ok-index.index c.entries.result c.in_ok-table.table c.insert.new.table _ spare.faults
          (λ j is. subst (λ (packs : ℕ → Pack). IsFirstMarked c.args.kind (packs c.args.unit) c.in_ok-index.index c.entries.result j)
          (table.same told) (spare.marked j (ap (λ e. Err e) is) t))
          (goes_to c.args.kind _ c.args.block _ c.in_ok-table.table _ c.place_of.result (table.table told) c.place_of.ensures.place c.in_ok-index.ensures.ok)
          c.entries.ensures.count);
      store = counted_then table.store.later (counted_on _ error spare.store);
    }

pub insert-requires : goal.insert-requires
insert-requires g c = subst (λ (kind : DriveKind). IsInside kind c.place_of.result) (sym c.in_ok-table.ensures.drive) c.place_of.ensures.inside

pub check_spare-requires : goal.check_spare-requires
check_spare-requires g c = record { unit = c.requires.unit; end = omega (arith, c.entries.ensures.count, c.entries.ensures.valid.room) }

pub returns : goal.returns
returns g c =
    let table = c.in_ok-table.ensures in
    let spare = c.in_ok-check_spare.ensures in
    let inserted = c.in_ok-index.ensures.ok in record {
      never_again = λ t. table.never_again (spare.never_again t);
      same = λ t. spare.same t ∙ table.same (spare.never_again t);
      room = c.entries.ensures.valid.room;
      index = index_inside c.in_ok-table.table _ c.place_of.result c.in_ok-index.index inserted;
      low =
          inserted_low c.args.kind c.args.block c.in_ok-index.index c.in_ok-table.table _ c.place_of.result table.drive c.place_of.ensures.place
          (c.place_law.ensures.back c.args.block c.requires.block) inserted;
      may = λ t.
          let told = spare.never_again t in (
            c.in_ok-table.table,
            may_list c.args.kind _ c.args.block _ c.entries.result c.in_ok-table.table _
                (goes_to c.args.kind _ c.args.block _ c.in_ok-table.table _ c.place_of.result (table.table told) c.place_of.ensures.place inserted)
                c.entries.ensures.count
                (subst (λ (packs : ℕ → Pack). AreFree c.args.kind (packs c.args.unit) c.in_ok-index.index c.entries.result)
                (table.same told) (spare.free t)),
          );
      faults = tt;
      why = tt;
      store = counted_then table.store.later (counted_ok _ spare.store.later);
    }
