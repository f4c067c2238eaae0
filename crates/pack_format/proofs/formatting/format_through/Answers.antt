use Rattle.std.proofs.Common.{◌≡◌, ℕ, ap, arith, subst, sym, ◌∙◌}
use Rattle.pack_geometry.specs.Pack.{Pack}
use Rattle.pack_format.specs.Steps.{seen}
use Rattle.pack_format.specs.Formatted.{CanBeFormatted, IsFormatted, table_for}
use Rattle.pack_format.proofs.StepLaws.{goes_same, goes_then, no_value, step_ok, step_on}
use Rattle.pack_format.proofs.EndLaws.{end_alone, end_behind, end_of}
use Rattle.pack_format.proofs.ExitLaws.{bad_found}
use Rattle.pack_format.proofs.formatting.format_through.Goals as goal

pub returns-in_err-table : goal.returns-in_err-table
returns-in_err-table g c =
    let is = c.from_residual.ensures.0 in
    let table = c.in_err-table.ensures in record {
      formatted = no_value _ _ is;
      few = no_value _ _ is;
      elsewhere = λ other ne t. ap (λ (h : ℕ → Pack). h other) (table.same t);
      step = step_on _ c.from_residual.ensures.1 goes_same table.step (λ reason. end_alone c.args.job.kind c.args.job.serial c.args.job.unit _ _ _ reason table.same);
    }

pub write_blocks-requires : goal.write_blocks-requires
write_blocks-requires g c =
    let table = c.in_ok-table.ensures in record {
      ready = table.step.well;
      listed = record {
        kind_is = table.listed.kind_is;
        serial_is = table.listed.serial_is;
        can = λ t. subst (λ (h : ℕ → Pack). CanBeFormatted c.args.job.kind (h c.args.job.unit)) (sym (table.same t)) (table.listed.can t);
        table_is = λ t. subst (λ (h : ℕ → Pack). c.in_ok-table.table ≡ table_for c.args.job.kind c.args.job.serial (h c.args.job.unit)) (sym (table.same t)) (table.listed.table_is t);
      };
    }

pub returns-in_err-write_blocks : goal.returns-in_err-write_blocks
returns-in_err-write_blocks g c =
    let is = c.from_residual-in_err-write_blocks.ensures.0 in
    let table = c.in_ok-table.ensures in
    let blocks = c.in_err-write_blocks.ensures in record {
      formatted = no_value _ _ is;
      few = no_value _ _ is;
      elsewhere = λ other ne t. blocks.elsewhere other ne t ∙ ap (λ (h : ℕ → Pack). h other) (table.same (blocks.step.goes.never_again t));
      step = step_on _ c.from_residual-in_err-write_blocks.ensures.1 table.step.goes blocks.step
          (λ stop. end_behind c.args.job.kind c.args.job.serial c.args.job.unit _ (seen g.P.Packs.tells g.P.Packs.held g.P.Packs.faults c.first_reading.new.packs) _ _ (λ t. table.same (blocks.step.goes.never_again t))
          (end_of c.args.job.kind c.args.job.serial c.args.job.unit _ _ _ stop blocks.partly));
    }

pub returns : goal.returns
returns g c =
    let table = c.in_ok-table.ensures in
    let blocks = c.in_ok-write_blocks.ensures in record {
      formatted = λ t.
          let told = blocks.step.goes.never_again t in (
            subst (λ (h : ℕ → Pack). IsFormatted c.args.job.kind c.args.job.serial (h c.args.job.unit) (g.P.Packs.held c.write_blocks.new.packs c.args.job.unit)) (table.same told) (blocks.formatted t),
            bad_found c.args.job.kind c.args.job.serial _ _ c.in_ok-table.table c.entries.ensures.count (table.listed.table_is told),
          );
      few = omega (arith, c.entries.ensures.count, c.entries.ensures.valid.room);
      elsewhere = λ other ne t. blocks.elsewhere other ne t ∙ ap (λ (h : ℕ → Pack). h other) (table.same (blocks.step.goes.never_again t));
      step = step_ok _ (goes_then table.step.goes blocks.step.goes) blocks.step.well;
    }
