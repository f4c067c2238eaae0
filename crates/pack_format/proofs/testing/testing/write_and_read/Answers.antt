use Rattle.std.proofs.Common.{◌≡◌, ℕ, IsTrue, List, refl}
use Rattle.pack_format.proofs.StepLaws.{not_done, on_err, on_err_any, on_ok_any, step_failed, step_ok, step_then}
use Rattle.pack_format.proofs.testing.StageLaws.{fills_then_same, fills_unmoved, holds_clean, stops_done, stops_write}
use Rattle.pack_format.proofs.testing.testing.write_and_read.Goals as goal

pub returns-in_err-polled : goal.returns-in_err-polled
returns-in_err-polled g c =
    let is = c.from_residual.ensures.0 in
    let write = c.in_err-polled.ensures in record {
      fills = not_done _ _ is;
      stops = on_err _ is (λ t. stops_write c.args.job.unit c.args.block _ c.args.bytes.now _ _ c.told-bytes write.failed t);
      step = step_failed _ c.from_residual.ensures.1 write.tries tt;
    }

pub returns-in-Marked : goal.returns-in-Marked
returns-in-Marked g c =
    let write = c.in_ok-polled.ensures in record {
      fills = λ t. fills_unmoved c.args.job.unit c.args.block _ c.in_ok-polled.polled _ _ c.args.bytes.now write.polls c.in-Marked.is t;
      stops = tt;
      step = step_ok _ write.tries.goes (record { unit = c.requires.ready.unit; rest = write.rest });
    }

pub read_back-requires : goal.read_back-requires
read_back-requires g c =
    let write = c.in_ok-polled.ensures in
    let holds = holds_clean c.args.job.unit c.args.block _ c.in_ok-polled.polled c.args.bytes.now _ _ c.told-bytes write.polls c.in-Clean.is in record {
      ready = record { unit = c.requires.ready.unit; rest = write.rest };
      block = c.requires.block;
      written = λ t. (holds t).0;
      unmarked = λ t. (holds t).1;
    }

pub returns-in-Clean : goal.returns-in-Clean
returns-in-Clean g c =
    let write = c.in_ok-polled.ensures in
    let read = c.read_back.ensures in
    let filled = λ (t : IsTrue (g.P.Packs.tells c.read_back.new.packs)).
    fills_then_same c.args.job.unit c.args.block _ c.in_ok-polled.polled c.args.bytes.now _ _ _ c.told-bytes write.polls c.in-Clean.is (read.step.goes.never_again t) (read.same t) in
    record {
      fills = on_ok_any c.read_back.result filled;
      stops = on_err_any c.read_back.result (λ t. stops_done c.args.job.unit _ (λ (x : List ℕ). x ≡ c.args.bytes.now) c.args.bytes.now _ _ refl (filled t));
      step = step_then _ write.tries.goes read.step (λ f e. e);
    }
