use Rattle.std.proofs.Common.{ap, subst, sym, ◌∙◌}
use Rattle.main_memory.specs.Blocks.{Loan}
use Rattle.main_memory.specs.Memory.{IsLent}
use Rattle.hardware_table.specs.Adapter.{AdapterState}
use Rattle.pack_format.specs.testing.Polls.{IsOldOrNew, Polls, sides_of}
use Rattle.pack_format.specs.testing.Stations.{IsFrame, IsStarted}
use Rattle.pack_format.proofs.StepLaws.{no_value, not_done, on_err, tries_on}
use Rattle.pack_format.proofs.testing.station.Station.poll.Goals as goal

pub aim-requires : goal.aim-requires
aim-requires g c = record { good = c.requires.rest.drive; block = c.requires.sector.below }

pub begin-requires : goal.begin-requires
begin-requires g c = record { good = c.aim.ensures.good; addressed = c.aim.ensures.addressed; aimed = c.aim.ensures.aimed }

pub hand-frame-requires : goal.hand-frame-requires
hand-frame-requires g c = record { free = c.requires.rest.free; frame = c.requires.rest.frame }

pub try_block-requires : goal.try_block-requires
try_block-requires g c =
    let same = sym c.hand-frame.ensures.same in record {
      sector = c.requires.sector;
      begun = record {
        drive = c.begin.ensures.good;
        aimed = c.begin.ensures.aimed;
        started = subst (λ (frame : Loan). IsStarted frame c.args.block c.args.write c.hand-frame.new.adapter) same c.hand-frame.ensures.started;
        frame = subst (λ (frame : Loan). IsFrame frame) same c.requires.rest.frame;
        lent = subst (λ (frame : Loan). IsLent c.args.self.now.memory frame) same c.requires.rest.lent;
        quiet = c.requires.rest.quiet;
      };
    }

pub returns-in_err-polled : goal.returns-in_err-polled
returns-in_err-polled g c =
    let is = c.from_residual.ensures.0 in
    let tried = c.in_err-polled.ensures in record {
      polls = no_value _ _ is;
      frame = no_value _ _ is;
      held = not_done _ _ is;
      failed = on_err _ is
          (subst (λ (frame : Loan). IsOldOrNew c.args.unit c.args.block c.args.write (g.P.Packs.tells c.try_block.new.packs)
          (sides_of (g.P.Packs.held c.args.packs.now) frame c.args.self.now.memory) (g.P.Packs.held c.try_block.new.packs)) c.hand-frame.ensures.same tried.failed);
      stuck = on_err _ is tried.stuck;
      tries = tries_on _ is tried.tries;
    }

pub returns : goal.returns
returns g c =
    let tried = c.in_ok-polled.ensures in
    let same = c.hand-frame.ensures.same in record {
      polls = subst (λ (frame : Loan). Polls c.args.unit c.args.block c.args.write (g.P.Packs.tells c.try_block.new.packs)
          (sides_of (g.P.Packs.held c.args.packs.now) frame c.args.self.now.memory) (sides_of (g.P.Packs.held c.try_block.new.packs) frame c.try_block.new.self.memory)
          c.in_ok-polled.polled) same tried.polls;
      frame = c.complete-frame.ensures.same_buffer ∙ same;
      held = record {
        drive = tried.moved.drive;
        free = ap (λ (adapter : AdapterState). adapter.busy) c.complete-frame.ensures.adapter;
        frame = c.requires.rest.frame;
        lent = subst (λ (frame : Loan). IsLent c.try_block.new.self.memory frame) same tried.moved.lent;
        quiet = tried.moved.quiet;
      };
      failed = tt;
      stuck = tt;
      tries = record { goes = tried.tries.goes; failed = tt };
    }
