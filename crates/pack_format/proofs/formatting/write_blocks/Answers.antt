use Rattle.std.proofs.Common.{◌≡◌, length, arith, refl, subst, ℕ, ◌∙◌}
use Rattle.pack_format.proofs.FormatLaws.{formatted}
use Rattle.pack_format.proofs.StepLaws.{goes_same, goes_then, not_done, on_err, step_ok, step_on}
use Rattle.pack_format.proofs.WalkLaws.{IsDone, did_others, none_done, one_done, one_stopped, set_of, stopped_others, task_formats}
use Rattle.pack_format.proofs.testing.StopLaws.{stop_as}
use Rattle.pack_format.proofs.formatting.write_blocks.Goals as goal

pub loop-sector-init : goal.loop-sector-init
loop-sector-init g c = record {
  ready = c.requires.ready;
  done = λ t. none_done c.args.job.kind c.args.job.serial (g.P.Packs.held c.args.packs.now c.args.job.unit);
  elsewhere = λ other ne t. refl;
  goes = goes_same;
}

pub task_of-task-requires : goal.task_of-task-requires
task_of-task-requires g c = omega (arith, c.entries.ensures.count, c.entries.ensures.valid.room)

pub loop-sector-preserved : goal.loop-sector-preserved
loop-sector-preserved g c =
    let so_far = c.loop-sector.invariant in
    let task = c.in_ok-do_task.ensures in
    let count : c.from-spares.result ≡ length c.args.table.now.places = omega arith in record {
      ready = task.step.well;
      done = λ t.
          let before = task.step.goes.never_again t in
          let told = so_far.goes.never_again before in
          one_done c.args.job.kind c.args.job.serial c.args.job.unit _ c.loop-sector.sector _ _ _ _
          (set_of c.args.job.kind c.args.job.serial _ _ _ c.args.table.now (c.requires.listed.can told) (c.requires.listed.table_is told) count c.write_table.ensures)
          (so_far.done before) c.task_of-task.result c.task_of-task.ensures (task.did t);
      elsewhere = λ other ne t.
          let before = task.step.goes.never_again t in
          did_others c.args.job.unit c.loop-sector.sector other _ _ _ c.task_of-task.result (task.did t) ne ∙ so_far.elsewhere other ne before;
      goes = goes_then so_far.goes task.step.goes;
    }

pub returns-in_err-do_task : goal.returns-in_err-do_task
returns-in_err-do_task g c =
    let is = c.from_residual.ensures.0 in
    let so_far = c.loop-sector.invariant in
    let task = c.in_err-do_task.ensures in
    let count : c.from-spares.result ≡ length c.args.table.now.places = omega arith in record {
      formatted = not_done _ _ is;
      partly = on_err _ is (λ t.
          let before = task.step.goes.never_again t in
          let told = so_far.goes.never_again before in
          one_stopped c.args.job.kind c.args.job.serial c.args.job.unit _ c.loop-sector.sector _ _ _ _
          (set_of c.args.job.kind c.args.job.serial _ _ _ c.args.table.now (c.requires.listed.can told) (c.requires.listed.table_is told) count c.write_table.ensures)
          (so_far.done before) c.task_of-task.result c.task_of-task.ensures (task.stops t));
      elsewhere = λ other ne t.
          let before = task.step.goes.never_again t in
          stopped_others c.args.job.unit c.loop-sector.sector other _ _ _ c.task_of-task.result (task.stops t) ne ∙ so_far.elsewhere other ne before;
      step = step_on _ c.from_residual.ensures.1 so_far.goes task.step
          (stop_as _ _ _
          (task_formats c.args.job.kind c.args.job.serial _ c.loop-sector.sector c.args.table.now _ c.task_of-task.result c.requires.listed.kind_is c.requires.listed.serial_is
          c.write_table.ensures c.task_of-task.ensures) _);
    }

pub returns : goal.returns
returns g c =
    let so_far = c.loop-sector.invariant in
    let count : c.from-spares.result ≡ length c.args.table.now.places = omega arith in record {
      formatted = λ t.
          let told = so_far.goes.never_again t in
          formatted c.args.job.kind c.args.job.serial _ _ _ _
          (set_of c.args.job.kind c.args.job.serial _ _ _ c.args.table.now (c.requires.listed.can told) (c.requires.listed.table_is told) count c.write_table.ensures)
          (subst (λ (n : ℕ). IsDone c.args.job.kind c.args.job.serial n (g.P.Packs.held c.args.packs.now c.args.job.unit) (g.P.Packs.held c.loop-sector.packs c.args.job.unit))
          (omega (arith, c.blocks-sector-end.ensures)) (so_far.done t));
      partly = tt;
      elsewhere = so_far.elsewhere;
      step = step_ok tt so_far.goes so_far.ready;
    }
