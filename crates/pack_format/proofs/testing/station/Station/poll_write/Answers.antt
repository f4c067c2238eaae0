use Rattle.std.proofs.Common.{ap, length, subst, sym, ◌∙◌}
use Rattle.main_memory.specs.Blocks.{Loan}
use Rattle.main_memory.specs.Memory.{IsLent}
use Rattle.pack_format.proofs.StepLaws.{broken, no_value, on_err, tries_on}
use Rattle.pack_format.proofs.testing.MoveLaws.{free_again, write_failed, write_polls}
use Rattle.pack_format.proofs.testing.StageLaws.{false_true}
use Rattle.pack_format.proofs.testing.station.Station.poll_write.Goals as goal

pub returns-in_err-polled : goal.returns-in_err-polled
returns-in_err-polled g c =
    let is = c.from_residual.ensures.0 in
    let polled = c.in_err-polled.ensures in record {
      polls = no_value _ _ is;
      rest = broken _ _ _ is (λ rest. false_true (sym rest.free ∙ polled.stuck));
      failed = on_err _ is (write_failed c.args.unit c.args.block _ _ _ _ _ c.put.ensures.bytes polled.failed);
      tries = tries_on _ is polled.tries;
    }

pub returns : goal.returns
returns g c =
    let polled = c.in_ok-polled.ensures in record {
      polls = write_polls c.args.unit c.args.block _ _ _ _ _ _ _ c.put.ensures.bytes polled.polls;
      rest = record {
        drive = polled.held.drive;
        free = polled.held.free;
        frame = free_again _ _ _ _ c.give_back.ensures.count (ap (λ (frame : Loan). length frame.frames) polled.frame) c.frame-frame.ensures.frame.frames;
        quiet = polled.held.quiet;
      };
      failed = tt;
      tries = record { goes = polled.tries.goes; failed = tt };
    }

pub frame-frame-requires : goal.frame-frame-requires
frame-frame-requires g c = c.requires.rest.frame

pub poll-requires : goal.poll-requires
poll-requires g c = record {
  sector = c.requires.sector;
  rest = record {
    drive = c.requires.rest.drive;
    free = c.requires.rest.free;
    frame = c.frame-frame.ensures.frame;
    lent = c.put.ensures.lent;
    quiet = c.requires.rest.quiet;
  };
}

pub give_back-requires : goal.give_back-requires
give_back-requires g c = subst (λ (frame : Loan). IsLent c.poll.new.self.memory frame) (sym c.in_ok-polled.ensures.frame) c.in_ok-polled.ensures.held.lent

pub put-requires : goal.put-requires
put-requires g c = record { frame = c.frame-frame.ensures.frame; lent = c.frame-frame.ensures.lent }
