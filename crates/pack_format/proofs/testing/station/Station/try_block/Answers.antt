use Rattle.std.proofs.Common.{◌+◌, ◌<◌, ap, sym, ◌∙◌, subst, arith}
use Rattle.pack_geometry.specs.declared.DriveKind.{DriveKind}
use Rattle.pack_geometry.specs.Geometry.{block_count}
use Rattle.hardware_table.specs.Adapter.{AdapterState, next_window}
use Rattle.hardware_table.specs.Moves.{was_read}
use Rattle.mba_adapter.specs.Loaded.{next_bytes}
use Rattle.hardware_table.specs.declared.Work.TheVariants.{Transfer}
use Rattle.mba_adapter.proofs.WindowLaws.{lent_after}
use Rattle.pack_format.proofs.StepLaws.{no_value, not_done, on_err}
use Rattle.pack_format.proofs.testing.PollLaws.{cleared, ended, finished, given_up, is_marked_v, old_or_new, polls_clean, polls_marked, quiet_again, still_quiet}
use Rattle.pack_format.proofs.testing.station.Station.try_block.Goals as goal

pub returns-in_err-verdict : goal.returns-in_err-verdict
returns-in_err-verdict g c =
    let is = c.from_residual.ensures.0 in
    let step = c.in_err-verdict.ensures in record {
      polls = no_value _ _ is;
      moved = not_done _ _ is;
      failed =
          on_err _ is
          (old_or_new c.args.kind c.args.unit c.args.block c.args.write _ c.args.self.now.drive c.args.self.now.adapter c.args.frame.now c.args.self.now.memory
          c.args.self.now.book _ _ c.requires.begun.drive c.requires.begun.started step.steps.tries.old_or_new);
      stuck = on_err _ is (ap (λ (a : AdapterState). a.busy) step.steps.adapter ∙ c.requires.begun.started.busy);
      tries = record { goes = record { never_again = step.steps.tries.never_again; later = step.steps.tries.cause.later }; failed = on_err _ is step.steps.tries.cause.failed };
    }

pub returns-in-Clean : goal.returns-in-Clean
returns-in-Clean g c =
    let done = finished c.args.frame.now c.args.block c.args.write c.args.self.now.adapter _ c.in_ok-verdict.verdict c.requires.begun.started c.in-Clean.is c.in_ok-verdict.ensures.steps.adapter in
    record {
      polls = polls_clean c.args.kind c.args.unit c.args.block c.args.write _ c.args.self.now.drive c.args.self.now.adapter c.args.frame.now c.args.self.now.memory c.step_sector.new.memory
          c.args.self.now.book _ _ _ c.in_ok-verdict.verdict c.requires.begun.drive c.requires.begun.quiet c.requires.begun.frame c.requires.begun.started c.in_ok-verdict.ensures.steps.tries.moves c.in-Clean.is;
      moved = record {
        drive =
            ended c.args.kind c.args.block c.args.write c.args.frame.now c.args.self.now.adapter c.args.self.now.drive _ c.in_ok-verdict.verdict c.requires.begun.drive c.requires.begun.started
            c.in-Clean.is c.in_ok-verdict.ensures.steps.drive;
        completion = done.0;
        loaded = done.1;
        lent = lent_after (was_read c.args.self.now.drive c.in_ok-verdict.verdict) c.args.frame.now c.args.frame.now (next_window c.args.self.now.adapter)
            (next_bytes c.args.self.now.adapter c.args.frame.now c.step_sector.new.memory) c.args.self.now.memory c.step_sector.new.memory c.in_ok-verdict.ensures.steps.store c.requires.begun.lent;
        quiet = quiet_again _ _ _ _ c.args.self.now.book _ c.requires.begun.quiet c.in_ok-verdict.ensures.steps.tries.moves.book;
      };
      failed = tt;
      stuck = tt;
      tries = record { goes = record { never_again = c.in_ok-verdict.ensures.steps.tries.never_again; later = c.in_ok-verdict.ensures.steps.tries.cause.later }; failed = tt };
    }

pub step_sector-requires : goal.step_sector-requires
step_sector-requires g c =
    let started = c.requires.begun.started in record {
      unit = c.requires.sector.few;
      may = record {
        loaded = started.loaded;
        lent = c.requires.begun.lent;
        is = record {
          busy = started.busy;
          going_on = started.under_way;
          transfer = c.requires.begun.drive.work_is ∙ ap Transfer (sym started.write_is);
          block = subst (λ (kind : DriveKind). c.args.self.now.adapter.block + c.args.self.now.adapter.moved < block_count kind) (sym c.requires.begun.drive.kind_is)
              (omega (arith, started.block_is, started.none_moved, c.requires.sector.below));
        };
      };
    }

pub returns-in_default : goal.returns-in_default
returns-in_default g c =
    let is = is_marked_v c.args.kind c.args.unit c.args.block c.args.write _ c.args.self.now.drive c.args.self.now.adapter c.args.frame.now c.args.self.now.memory c.step_sector.new.memory
    c.args.self.now.book _ _ _ c.in_ok-verdict.verdict c.requires.begun.drive c.requires.begun.quiet c.requires.begun.frame c.requires.begun.started c.in_ok-verdict.ensures.steps.tries.moves c.in_default.not-Clean in
    let done = given_up c.args.frame.now c.args.block c.args.write c.args.self.now.adapter _ c.in_ok-verdict.verdict c.requires.begun.started is c.in_ok-verdict.ensures.steps.adapter in
    record {
      polls = polls_marked c.args.kind c.args.unit c.args.block c.args.write _ c.args.self.now.drive c.args.self.now.adapter c.args.frame.now c.args.self.now.memory c.step_sector.new.memory
          c.args.self.now.book _ _ _ c.in_ok-verdict.verdict c.requires.begun.drive c.requires.begun.quiet c.requires.begun.frame c.requires.begun.started c.in_ok-verdict.ensures.steps.tries.moves c.in_default.not-Clean;
      moved = record {
        drive = cleared c.args.kind c.args.write c.args.self.now.adapter c.args.self.now.drive _ _ c.in_ok-verdict.verdict c.requires.begun.drive is c.in_ok-verdict.ensures.steps.drive c.go.ensures;
        completion = done.0;
        loaded = done.1;
        lent = lent_after (was_read c.args.self.now.drive c.in_ok-verdict.verdict) c.args.frame.now c.args.frame.now (next_window c.args.self.now.adapter)
            (next_bytes c.args.self.now.adapter c.args.frame.now c.step_sector.new.memory) c.args.self.now.memory c.step_sector.new.memory c.in_ok-verdict.ensures.steps.store c.requires.begun.lent;
        quiet = still_quiet c.args.self.now.drive c.in_ok-verdict.verdict c.args.self.now.book _ _ c.requires.begun.quiet is c.in_ok-verdict.ensures.steps.tries.moves.book;
      };
      failed = tt;
      stuck = tt;
      tries = record { goes = record { never_again = c.in_ok-verdict.ensures.steps.tries.never_again; later = c.in_ok-verdict.ensures.steps.tries.cause.later }; failed = tt };
    }
