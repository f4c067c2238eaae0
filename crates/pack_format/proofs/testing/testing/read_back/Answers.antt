use Rattle.std.proofs.Common.{◌≡◌, ℕ, List, ap, sym, refl, get_or, ◌∙◌}
use Rattle.std.specs.Prelude.{slice_index}
use Rattle.pack_format.proofs.ExitLaws.{differs_is_not_store}
use Rattle.pack_format.proofs.StepLaws.{step_err, step_failed, step_ok}
use Rattle.pack_format.proofs.testing.StageLaws.{read_back, read_keeps}
use Rattle.pack_format.proofs.testing.testing.read_back.Goals as goal

pub returns-in_err-poll_read : goal.returns-in_err-poll_read
returns-in_err-poll_read g c =
    let read = c.in_err-poll_read.ensures in record {
      same = read.failed;
      step = step_failed _ c.from_residual.ensures.1 read.tries tt;
    }

pub returns-in-None : goal.returns-in-None
returns-in-None g c =
    let read = c.in_ok-poll_read.ensures in record {
      same = read_keeps c.args.job.unit c.args.block _ c.in_ok-poll_read.field-0 _ _ _ _ read.polls;
      step = step_ok _ read.tries.goes (record { unit = c.requires.ready.unit; rest = read.rest });
    }

pub returns-in-Some : goal.returns-in-Some
returns-in-Some g c =
    let read = c.in_ok-poll_read.ensures in
    let polled = c.in_ok-poll_read.field-0 in
    let differ = c.in-Some.ensures.differ in
    let wrote : get_or c.args.bytes.now c.from.result 0 ≡ slice_index c.args.bytes.now c.in-Some.at = ap (λ (n : ℕ). get_or c.args.bytes.now n 0) c.from.ensures in
    let came : get_or c.poll_read.new.into c.from-in-Some.result 0 ≡ slice_index c.poll_read.new.into c.in-Some.at = ap (λ (n : ℕ). get_or c.poll_read.new.into n 0) c.from-in-Some.ensures in
    record {
      same = read_keeps c.args.job.unit c.args.block _ polled _ _ _ _ read.polls;
      step = step_err _ refl read.tries.goes differs_is_not_store (
        λ t. let told = read.tries.goes.never_again t in
            differ.1 (ap (λ (xs : List ℕ). slice_index xs c.in-Some.at)
            (sym (c.requires.written told) ∙ sym (read_back c.args.job.unit c.args.block _ polled _ _ _ _ read.polls t (c.requires.unmarked told)))),
        record {
          bytes = c.args.bytes.now;
          written = (refl, refl);
          back = c.poll_read.new.into;
          size = c.poll_read.array_long;
          within = differ.0;
          before = λ k lt. sym (c.in-Some.ensures.first k lt);
          wrote_is = wrote;
          read_is = came;
          other = λ same. differ.1 (sym wrote ∙ sym same ∙ came);
        },
      );
    }
